-- What entries say, by name.
use Rattle.std.specs.Prelude.{ℕ, ℤ, Bool, List, []}
use Rattle.std.specs.declared.option.Option.{Option}
use Rattle.std.specs.declared.option.Option.TheVariants.{Some, None}
use Rattle.metric.specs.declared.metric.Content.{Content}
use Rattle.account.specs.declared.entry.Entry.{Entry}
use Rattle.account.specs.declared.entry.Entry.TheVariants.{Gather, Route, Done}
use Rattle.account.specs.declared.entry.Report.{Report}

-- what a Gather says: the input, the moment, how many pieces there were, how many of them were refused, how
-- many samples were passed over, how many readings were filtered, the metrics, and the group and the reports
pub record GatherSays : Type 0 where
  pub input : ℕ
  pub moment : ℤ
  pub pieces : ℕ
  pub refused : ℕ
  pub passed : ℕ
  pub filtered : ℕ
  pub metrics : List Content
  pub group : Option ℕ
  pub reports : List Report

-- what a Done says: the output, whether its batch was accepted, and the reports
pub record DoneSays : Type 0 where
  pub output : ℕ
  pub ok : Bool
  pub reports : List Report

-- what a Gather of these says
abbrev pub gather_says : ℕ → ℤ → ℕ → ℕ → ℕ → ℕ → List Content → Option ℕ → List Report → GatherSays
gather_says input moment pieces refused passed filtered metrics group reports = record {
  input = input;
  moment = moment;
  pieces = pieces;
  refused = refused;
  passed = passed;
  filtered = filtered;
  metrics = metrics;
  group = group;
  reports = reports;
}

-- what an entry says where it is a Gather
abbrev pub gather_of : Entry → Option GatherSays
gather_of (Gather input moment pieces refused passed filtered metrics group reports) =
    Some (gather_says input moment pieces refused passed filtered metrics group reports)
gather_of _ = None

-- what an entry says where it is a Done
abbrev pub done_of : Entry → Option DoneSays
done_of (Done output ok reports) = Some (record { output = output; ok = ok; reports = reports })
done_of _ = None

-- the metrics of a Gather
abbrev pub metrics_said : Option GatherSays → List Content
metrics_said None = []
metrics_said (Some says) = says.metrics

-- the reports of a Gather, or of a Done
abbrev pub reports_said : Option GatherSays → Option DoneSays → List Report
reports_said (Some says) _ = says.reports
reports_said None (Some says) = says.reports
reports_said None None = []

-- the groups that an entry says settled by it
abbrev pub reports_of : Entry → List Report
reports_of (Route item whole verdict aggs outs reports) = reports
reports_of e = reports_said (gather_of e) (done_of e)
