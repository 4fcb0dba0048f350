-- What a step makes of one metric more, and when what it remembers stands for it.
use Rattle.std.proofs.Common.{◌≡◌, ◌++◌, ℤ, List, [], ◌∷◌, Bool, true, false, Some, None, Option, Ok, Err, Result}
use Rattle.std.proofs.Common.{refl, sym, ap, ◌∙◌, subst}
use Rattle.std.specs.Prelude.{option_and_then, if◌then◌else◌, IfOk}
use Rattle.fixed_num.specs.declared.memory.OutOfMemory.{OutOfMemory}
use Rattle.metric.specs.declared.metric.Content.{Content}
use Rattle.metric_filter.specs.Filter.{applied, left, selects, with_fields}
use Rattle.metric_filter.specs.Kept.{metric_of}
use Rattle.metric_filter.specs.declared.kept.Kept.{Kept}
use Rattle.metric_filter.specs.declared.rules.FilterRules.{FilterRules}
use Rattle.proc_dedup.specs.Dedup.{is_removed, Memory, StandsFor}
use Rattle.proc_chain.specs.Chain.{StageStands, StageState, WorkStands, WorkWillStand}
use Rattle.proc_chain.specs.Seen.{StageSees, WorkSees}
use Rattle.proc_chain.specs.Steps.{given, step_result, worked}
use Rattle.proc_chain.specs.declared.stage.Seen.{Seen}
use Rattle.proc_chain.specs.declared.stage.Seen.TheVariants.{Removed, Passes, Fresh}
use Rattle.proc_chain.specs.declared.step.Step.{Step}
use Rattle.proc_chain.specs.declared.step.StepWork.{StepWork}
use Rattle.proc_chain.specs.declared.step.StepWork.TheVariants as said
use Rattle.proc_chain.proofs.StepLemmas.{given-none, given-some}

-- ---- one step

when_true : {X : Type 0} (test : Bool) (x y : X) → test ≡ true → (if test then x else y) ≡ x
when_true true x y e = refl
when_true false x y e = cc

when_false : {X : Type 0} (test : Bool) (x y : X) → test ≡ false → (if test then x else y) ≡ y
when_false true x y e = cc
when_false false x y e = refl

abbrev stage_of : Step → Option Memory → StageState
stage_of step memory = record { step = step; memory = memory }

-- one that isn't selected
pub unselected : (step : Step) (before memory : Option Memory) (list : List Content) (m : Kept)
    → selects step.filter (metric_of m) ≡ false → StageStands (stage_of step memory) list
    → StageSees (stage_of step before) list (metric_of m) (Passes m) (stage_of step memory)
unselected step before memory list m refused stands =
    let metric = metric_of m in
    let gone : applied step.filter metric ≡ None = when_false (selects step.filter metric) _ _ refused in (
      when_false (selects step.filter metric) _ _ refused,
      subst (λ l. WorkStands step.work l memory) (sym (given-none step list metric gone)) stands,
    )

-- what is made of one that is selected
selected : (step : Step) (list : List Content) (m : Content) (o : Option Content)
    → selects step.filter m ≡ true → with_fields (left step.filter m) ≡ o
    → (applied step.filter m ≡ o)
    × (step_result step list m ≡ option_and_then (worked step.work (given step list)) o)
selected step list m o chosen e =
    let applied_is : applied step.filter m ≡ o = when_true (selects step.filter m) _ _ chosen ∙ e in (
      applied_is,
      when_true (selects step.filter m) _ _ chosen
          ∙ ap (option_and_then (worked step.work (given step list))) applied_is,
    )

-- one of which no field is left
pub emptied : (step : Step) (before memory : Option Memory) (list : List Content) (m : Content)
    → selects step.filter m ≡ true → with_fields (left step.filter m) ≡ None → StageStands (stage_of step memory) list
    → StageSees (stage_of step before) list m Removed (stage_of step memory)
emptied step before memory list m chosen none stands =
    let h = selected step list m None chosen none in
    (h.1, subst (λ l. WorkStands step.work l memory) (sym (given-none step list m h.0)) stands)

-- one that is given to the work
sees : (step : Step) (before memory : Option Memory) (list : List Content) (m n : Content) (seen : Seen)
    → selects step.filter m ≡ true → with_fields (left step.filter m) ≡ Some n
    → WorkSees step.work (given step list) n seen memory
    → StageSees (stage_of step before) list m seen (stage_of step memory)
sees step before memory list m n seen chosen some h =
    let is = selected step list m (Some n) chosen some in
    let more : given step list ++ n ∷ [] ≡ given step (list ++ m ∷ []) = sym (given-some step list m n is.0) in
    by_case step before memory list m n seen is.1 more h
  where
    by_case : (step : Step) (before memory : Option Memory) (list : List Content) (m n : Content) (seen : Seen)
        → step_result step list m ≡ worked step.work (given step list) n
        → given step list ++ n ∷ [] ≡ given step (list ++ m ∷ []) → WorkSees step.work (given step list) n seen memory
        → StageSees (stage_of step before) list m seen (stage_of step memory)
    by_case step before memory list m n Removed result more h =
        (result ∙ h.0, subst (λ l. WorkStands step.work l memory) more h.1)
    by_case step before memory list m n (Passes left) result more h =
        (result ∙ h.0, subst (λ l. WorkStands step.work l memory) more h.1)
    by_case step before memory list m n (Fresh left fresh) result more h =
        (result ∙ h.0, subst (λ l. WorkWillStand step.work l memory fresh) more h.1)

abbrev stage_by : FilterRules → StepWork → Option Memory → StageState
stage_by filter work memory = stage_of (record { filter = filter; work = work }) memory

-- the same of what a call answers, which says that the work stays
pub given_on : (filter : FilterRules) (old new : StepWork) (before memory : Option Memory)
    (list : List Content) (m n : Content) (result : Result Seen OutOfMemory) → new ≡ old → selects filter m ≡ true
    → with_fields (left filter m) ≡ Some n
    → ((l : List Content) → WorkStands old l before → IfOk result (λ seen. WorkSees old l n seen memory))
    → StageStands (stage_by filter old before) list
    → IfOk result (λ seen. StageSees (stage_by filter old before) list m seen (stage_by filter new memory))
given_on filter old new before memory list m n (Err error) same chosen some h stands = tt
given_on filter old new before memory list m n (Ok seen) same chosen some h stands =
    let step : Step = record { filter = filter; work = old } in
    subst (λ (work : StepWork). StageSees (stage_by filter old before) list m seen (stage_by filter work memory))
    (sym same)
    (sees step before memory list m n seen chosen some (h (given step list) stands))

-- ---- repeated metrics

-- a metric that is removed
pub removed_now : (interval : ℤ) (list : List Content) (m : Content) (memory : Memory)
    → is_removed interval list m ≡ true → StandsFor interval (list ++ m ∷ []) memory
    → WorkSees (said.Dedup interval) list m Removed (Some memory)
removed_now interval list m memory gone stands = (when_true (is_removed interval list m) _ _ gone, stands)

-- one that isn't is to be kept
pub kept_later : (interval : ℤ) (list : List Content) (m : Kept) (n : Content) (memory : Memory)
    → is_removed interval list (metric_of m) ≡ false → n ≡ metric_of m → StandsFor interval list memory
    → WorkSees (said.Dedup interval) list (metric_of m) (Fresh m n) (Some memory)
kept_later interval list m n memory fresh same stands = (
  when_false (is_removed interval list (metric_of m)) _ _ fresh,
  record {
    earlier = list;
    all = ap (λ (k : Content). list ++ k ∷ []) (sym same);
    stands = stands;
    fresh = subst (λ (k : Content). is_removed interval list k ≡ false) (sym same) fresh;
  },
)
