-- What routes the items of a run, as contracts see it.
use Rattle.std.specs.Prelude.{◌≡◌, ◌++◌, ◌∷◌, ◌&&◌, Bool, true, false, List, [], slice_get, if◌then◌else◌}
use Rattle.std.specs.declared.option.Option.{Option}
use Rattle.std.specs.declared.option.Option.TheVariants.{Some, None}
use Rattle.agent_config.specs.declared.config.AggConf.{AggConf}
use Rattle.agent_config.specs.declared.config.OutputConf.{OutputConf}
use Rattle.metric.specs.declared.metric.Content.{Content}
use Rattle.account.specs.declared.entry.Entry.TheVariants.{Take}
use Rattle.pipeline_core.specs.CoreState.{CoreState}
use Rattle.pipeline_core.specs.Stands.{Continues}
use Rattle.pipeline_core.specs.Steps.{after_take}
use Rattle.pipeline_core.specs.Work.{Work}
use Rattle.pipeline_core.specs.Worked.{views_of}
use Rattle.pipeline_core.specs.declared.gathering.Item.{Item}
use Rattle.pipeline_core.specs.declared.routing.Routed.{Routed}
use Rattle.proc_chain.specs.Chain.{steps_of, AllStand, StageState}
use Rattle.agent_workers.specs.Job.{agg_filters, filters_of, work_of}
use Rattle.agent_workers.specs.declared.item.ProcJob.{ProcJob}

-- what routes the items: the steps that each goes through, with what these remember, whether made ones pass them by,
-- and
-- the aggregators and the outputs, each with its filter
pub record ProcPart : Type 0 where
  pub chain : List StageState
  pub skip : Bool
  pub aggs : List AggConf
  pub outs : List OutputConf

abbrev pub proc_of : {C : Type 0} → ProcJob C → ProcPart
proc_of job = record { chain = job.chain; skip = job.skip; aggs = job.aggs.now; outs = job.outs.now }

-- what it makes of the items
abbrev pub work_by : ProcPart → Work
work_by proc = work_of proc.skip (steps_of proc.chain) proc.aggs proc.outs

-- its steps, its aggregators and its outputs are the same
pub record IsSameProc (old new : ProcPart) : Type 0 where
  pub steps : steps_of new.chain ≡ steps_of old.chain
  pub skip : new.skip ≡ old.skip
  pub aggs : new.aggs ≡ old.aggs
  pub outs : new.outs ≡ old.outs

-- one more metric went through the steps: this is what they made of it, and they stand for the list with it
pub record Pushes (old new : ProcPart) (metric : Content) (whole : Option Content) : Type 0 where
  pub whole_is : (list : List Content) → AllStand old.chain list → whole ≡ (work_by old).whole (list ++ metric ∷ [])
  pub stands : (list : List Content) → AllStand old.chain list → AllStand new.chain (list ++ metric ∷ [])

-- a metric passed the steps by: they made nothing of it, and are as they were
pub record PassesBy (old new : ProcPart) (metric : Content) (whole : Option Content) : Type 0 where
  pub whole_is : whole ≡ Some metric
  pub same : new.chain ≡ old.chain

-- the whole of a metric, where it passes the steps by, or goes through them
abbrev pub MakesSo : Bool → ProcPart → ProcPart → Content → Option Content → Type 0
MakesSo true old new metric whole = PassesBy old new metric whole
MakesSo false old new metric whole = Pushes old new metric whole

-- the whole of an item
abbrev pub Makes : ProcPart → ProcPart → Item → Option Content → Type 0
Makes old new item whole = MakesSo (old.skip && item.made) old new item.metric whole

-- an item was taken: the first raw one, which is in hand
pub record TakesNext (old new : CoreState) (item : Item) : Type 0 where
  pub number : item.number ≡ old.taken
  pub metric : slice_get old.raw 0 ≡ Some item.metric
  pub mark : slice_get old.made 0 ≡ Some item.made
  pub after : new ≡ after_take old
  pub continues : Continues old new (Take old.taken)

-- what the aggregators see of an item with this whole: nothing where it was made
abbrev pub seen_by : List AggConf → Bool → Option Content → List (Option Content)
seen_by aggs made whole = if made then views_of (agg_filters aggs) None else views_of (agg_filters aggs) whole

-- an item is routed with its whole, and with what the filter of each aggregator and of each output gives for that
abbrev pub routed_by : ProcPart → Item → Option Content → Routed
routed_by proc item whole = record {
  item = item.number;
  whole = whole;
  aggs = seen_by proc.aggs item.made whole;
  outs = views_of (filters_of proc.outs) whole;
}
