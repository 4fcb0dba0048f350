-- What a run of a configuration is about.
use Rattle.std.proofs.Common.{◌≡◌, ◌≤◌, ◌<◌, ℕ, zero, suc, ℤ, false, true, List, [], ◌∷◌, replicate, length, get_or}
use Rattle.std.proofs.Common.{refl, sym, ap, ◌∙◌, subst, arith}
use Rattle.std.specs.Prelude.{map, pos, All, IfSome, Bool, if◌then◌else◌}
use Rattle.std.specs.declared.option.Option.{Option}
use Rattle.std.specs.declared.option.Option.TheVariants.{None, Some}
use Rattle.std.proofs.lemmas.List.{length-map, get_or-map}
use Rattle.account.specs.Numbers.{unreached_output}
use Rattle.account.specs.declared.numbers.OutputNumbers.{OutputNumbers}
use Rattle.account.specs.declared.setup.AggLine.{AggLine}
use Rattle.account.specs.declared.setup.AggWord.TheVariants as words
use Rattle.account.specs.AggLines.{IsLine}
use Rattle.agent_config.specs.Sound.{HasSizes, HasTimes, HasUndelivered}
use Rattle.agent_config.specs.declared.config.AggConf.{AggConf}
use Rattle.agent_config.specs.declared.config.Config.{Config}
use Rattle.agent_config.specs.declared.config.InputConf.{InputConf}
use Rattle.agent_config.specs.declared.config.OutputConf.{OutputConf}
use Rattle.format_words.specs.declared.format.InFormat.TheVariants as read
use Rattle.format_words.specs.declared.format.OutFormat.TheVariants as written
use Rattle.metric_filter.specs.Filter.{no_rules}
use Rattle.pipeline_core.specs.CoreState.{CoreState, first_state, most_undelivered, setup_of as core_setup_of, sizes}
use Rattle.pipeline_core.specs.declared.setup.CoreSetup.{CoreSetup}
use Rattle.pipeline_core.specs.declared.setup.InSetup.{InSetup}
use Rattle.pipeline_core.specs.declared.setup.OutSetup.{OutSetup}
use Rattle.agent_workers.specs.Job.{job_of, job_input, job_output, journal_setup_of, limit_by, limit_of, line_of}
use Rattle.agent_workers.specs.Job.{setup_of}
use Rattle.agent_workers.specs.Job.{sizes_by, output_sizes}
use Rattle.agent_workers.specs.Opened.{in_setup, out_setup}
use Rattle.agent_workers.specs.Running.{buffered_at}

-- the limits of inputs and the sizes of outputs, as a job and as a core have them
limits_are : (config : Config) (confs : List InputConf) → map limit_of (map (job_input config) confs) ≡ map limit_by
    confs
limits_are config [] = refl
limits_are config (conf ∷ confs) = ap (λ (xs : List (Option ℕ)). limit_by conf ∷ xs) (limits_are config confs)

sizes_are : (confs : List OutputConf) → map output_sizes (map job_output confs) ≡ map sizes_by confs
sizes_are [] = refl
sizes_are (conf ∷ confs) = ap (λ (xs : List (ℕ × ℕ)). sizes_by conf ∷ xs) (sizes_are confs)

core_limits : (confs : List InputConf) → map most_undelivered (map in_setup confs) ≡ map limit_by confs
core_limits [] = refl
core_limits (conf ∷ confs) = ap (λ (xs : List (Option ℕ)). limit_by conf ∷ xs) (core_limits confs)

core_sizes : (confs : List OutputConf) → map sizes (map out_setup confs) ≡ map sizes_by confs
core_sizes [] = refl
core_sizes (conf ∷ confs) = ap (λ (xs : List (ℕ × ℕ)). sizes_by conf ∷ xs) (core_sizes confs)

-- what the journal is about
pub about_of : (config : Config) (start first : ℤ) (inputs : List (Option ℕ)) (aggs : List AggLine)
    (outputs : List (ℕ × ℕ)) → first ≡ start → inputs ≡ map limit_by config.inputs → aggs ≡ map line_of config.aggs
    → outputs ≡ map sizes_by config.outputs →
    record { start = first; inputs = inputs; aggs = aggs; outputs = outputs } ≡ journal_setup_of
    (setup_of (job_of config) start)
about_of config start first inputs aggs outputs g e n f = rw
    (g, e, n, f, limits_are config config.inputs, sizes_are config.outputs) refl

-- what the core is about
pub core_is : (config : Config) (inputs : List InSetup) (aggs : List AggLine) (outputs : List OutSetup)
    (start first : ℤ) → inputs ≡ map in_setup config.inputs → aggs ≡ map line_of config.aggs
    → outputs ≡ map out_setup config.outputs → first ≡ start →
    core_setup_of (record { inputs = inputs; aggs = aggs; outputs = outputs; start = first })
    ≡ setup_of (job_of config) start
core_is config inputs aggs outputs start first e n f g = rw (
  e,
  n,
  f,
  g,
  core_limits config.inputs,
  core_sizes config.outputs,
  limits_are config config.inputs,
  sizes_are config.outputs,
) refl

-- of each input that is tracked a group may be live
no_input : InputConf
no_input = record { place = []; format = read.Influx; tracked = false; max_undelivered = 0; filter = no_rules }

has_limit : (conf : InputConf) → HasUndelivered conf → IfSome (limit_by conf) (λ n. 1 ≤ n)
has_limit conf h = by_mark conf.tracked
  where
    by_mark : (b : Bool) → IfSome (if b then Some conf.max_undelivered else None) (λ n. 1 ≤ n)
    by_mark true = h.0
    by_mark false = tt

limits_have : (confs : List InputConf) → All HasUndelivered confs
    → All (λ (most : Option ℕ). IfSome most (λ n. 1 ≤ n)) (map most_undelivered (map in_setup confs))
limits_have confs h = λ k d l.
    let within : k < length confs =
    omega (arith, l, length-map (map in_setup confs) most_undelivered, length-map confs in_setup) in
    subst (λ (most : Option ℕ). IfSome most (λ n. 1 ≤ n))
    (sym (ap (λ (xs : List (Option ℕ)). get_or xs k d) (core_limits confs)
    ∙ get_or-map limit_by confs k no_input d within))
    (has_limit (get_or confs k no_input) (h k no_input within))

pub limits_first : (confs : List InputConf) (inputs : List InSetup) → inputs ≡ map in_setup confs
    → All HasUndelivered confs → All (λ (most : Option ℕ). IfSome most (λ n. 1 ≤ n)) (map most_undelivered inputs)
limits_first confs inputs same h =
    subst (λ (xs : List InSetup). All (λ (most : Option ℕ). IfSome most (λ n. 1 ≤ n)) (map most_undelivered xs))
    (sym same) (limits_have confs h)

-- and it has room for a group
limits_all : (confs : List InputConf) → All HasUndelivered confs
    → All (λ (x : InSetup). x.tracked ≡ true → 1 ≤ x.max_undelivered) (map in_setup confs)
limits_all confs h = λ k d l.
    let within : k < length confs = omega (arith, l, length-map confs in_setup) in
    subst (λ (x : InSetup). x.tracked ≡ true → 1 ≤ x.max_undelivered)
    (sym (get_or-map in_setup confs k no_input d within)) (λ e. (h k no_input within).0)

pub limits_fit : (confs : List InputConf) (inputs : List InSetup) → inputs ≡ map in_setup confs
    → All HasUndelivered confs → All (λ (x : InSetup). x.tracked ≡ true → 1 ≤ x.max_undelivered) inputs
limits_fit confs inputs same h =
    subst (All (λ (x : InSetup). x.tracked ≡ true → 1 ≤ x.max_undelivered)) (sym same) (limits_all confs h)

-- none of them has ended in a core in which nothing happened
pub none_ended_first : (confs : List InputConf) (setup : CoreSetup) (core : CoreState) → core
    ≡ first_state setup core.bank
    → setup.inputs ≡ map in_setup confs → core.ended ≡ replicate (length confs) false
none_ended_first confs setup core is same = ap (λ (s : CoreState). s.ended) is
    ∙ ap (λ (xs : List InSetup). replicate (length xs) false) same
    ∙ ap (λ (k : ℕ). replicate k false) (length-map confs in_setup)

no_output : OutputConf
no_output = record { place = []; format = written.Influx; batch = 0; limit = 0; filter = no_rules }

-- the sizes that a configuration has are those of a core
pub sizes_fit_all : (confs : List OutputConf) → All HasSizes confs
    → All (λ (x : OutSetup). (1 ≤ x.batch) × (x.batch ≤ x.limit)) (map out_setup confs)
sizes_fit_all confs h = λ k d l.
    let within : k < length confs = omega (arith, l, length-map confs out_setup) in
    let c : OutputConf = get_or confs k no_output in
    subst (λ (x : OutSetup). (1 ≤ x.batch) × (x.batch ≤ x.limit))
    (sym (get_or-map out_setup confs k no_output d within)) (
      (h k no_output within).some,
      (h k no_output within).ordered,
    )

pub sizes_fit : (confs : List OutputConf) (outputs : List OutSetup) → outputs ≡ map out_setup confs → All HasSizes confs
    → All (λ (x : OutSetup). (1 ≤ x.batch) × (x.batch ≤ x.limit)) outputs
sizes_fit confs outputs same h = subst (All (λ (x : OutSetup). (1 ≤ x.batch) × (x.batch ≤ x.limit))) (sym same)
    (sizes_fit_all confs h)

-- nothing is buffered in it
default_of : {X : Type 0} (n o : ℕ) (d : X) → get_or (replicate n d) o d ≡ d
default_of zero o d = refl
default_of (suc n) zero d = refl
default_of (suc n) (suc o) d = default_of n o d

pub none_buffered_first : (setup : CoreSetup) (core : CoreState) (o : ℕ) → core ≡ first_state setup core.bank
    → buffered_at core o ≡ 0
none_buffered_first setup core o is = ap (λ (s : CoreState). buffered_at s o) is
    ∙ ap (λ (x : OutputNumbers). x.buffered) (default_of (length setup.outputs) o unreached_output)

-- the lines of a configuration's aggregators are those of a bank
no_agg : AggConf
no_agg = record {
  filter = no_rules;
  line = record { kind = words.Merge; period = pos 0; delay = pos 0; grace = pos 0; dropping = false };
}

is_line : (conf : AggConf) → HasTimes conf → IsLine (line_of conf)
is_line conf h = h

pub are_lines : (confs : List AggConf) → All HasTimes confs → All IsLine (map line_of confs)
are_lines confs h = λ k d l.
    let within : k < length confs = omega (arith, l, length-map confs line_of) in
    subst IsLine (sym (get_or-map line_of confs k no_agg d within))
    (is_line (get_or confs k no_agg) (h k no_agg within))
