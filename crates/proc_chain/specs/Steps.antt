-- What steps make of the metrics that are pushed to them, one after the other.
use Rattle.std.specs.Prelude.{◌++◌, List, [], ◌∷◌, filter_map, Option, Some, None, option_and_then, if◌then◌else◌}
use Rattle.std.specs.Prelude.{◌&&◌, ◌||◌, Bool, true, false, not}
use Rattle.std.specs.List.{fold, last_or, list_all}
use Rattle.metric.specs.declared.metric.Content.{Content}
use Rattle.metric_filter.specs.Filter.{applied, keeps_all, selects}
use Rattle.proc_dedup.specs.Dedup.{left_after}
use Rattle.proc_edit.specs.Convert.{whole_converted}
use Rattle.proc_edit.specs.Rename.{renamed}
use Rattle.proc_regex.specs.Rewrite.{all_rewritten}
use Rattle.proc_chain.specs.declared.step.Step.{Step}
use Rattle.proc_chain.specs.declared.step.StepWork.{StepWork}
use Rattle.proc_chain.specs.declared.step.StepWork.TheVariants.{Rename, Convert, Dedup, Regex}

-- what is made of each element of a list, behind those before it
unfoldable pub each_behind : {A B : Type 0} → (List A → A → B) → List A → List A → List B
each_behind made earlier [] = []
each_behind made earlier (x ∷ xs) = made earlier x ∷ each_behind made (earlier ++ x ∷ []) xs

-- the metrics that are left by results: those that weren't removed
abbrev pub left_in : List (Option Content) → List Content
left_in results = filter_map (λ (result : Option Content). result) results

-- ---- one step

-- what a work makes of the next metric that is given to it, behind those that were given to it before; None where it
-- removes it
abbrev pub worked : StepWork → List Content → Content → Option Content
worked (Rename rules) earlier m = Some (renamed rules m)
worked (Convert rules) earlier m = Some (whole_converted rules m)
worked (Dedup interval) earlier m = left_after interval earlier m
worked (Regex rules) earlier m = Some (all_rewritten rules m)

-- the metrics that are given to the work of a step: what its filter leaves of those that it selects, where a field is
-- left
unfoldable pub given : Step → List Content → List Content
given step list = filter_map (applied step.filter) list

-- what a step makes of the next metric that reaches it, behind those that reached it before. One that its filter
-- doesn't select passes as it is, and the work doesn't see it. Of another one what the filter leaves is given to the
-- work; it is removed where no field is left
abbrev pub step_result : Step → List Content → Content → Option Content
step_result step earlier m =
    if selects step.filter m then option_and_then (worked step.work (given step earlier)) (applied step.filter m)
    else Some m

-- does a work remove metrics at most, so that the others stay as they are
abbrev pub only_removes : StepWork → Bool
only_removes (Dedup interval) = true
only_removes work = false

-- does a step leave a metric as it is where it doesn't remove it: its filter doesn't select it, or leaves each part of
-- it, and the work removes at most
unfoldable pub leaves_as_is : Step → Content → Bool
leaves_as_is step m = not (selects step.filter m) || (keeps_all step.filter m && only_removes step.work)

-- the results of a step, one for each metric that reached it
abbrev pub step_results : Step → List Content → List (Option Content)
step_results step list = each_behind (step_result step) [] list

-- the metrics that a step passes on
unfoldable pub passed : Step → List Content → List Content
passed step list = left_in (step_results step list)

-- ---- steps in order

-- what steps make of the next metric, behind those that were pushed before: each gets what the one before it passes on
unfoldable pub chain_result : List Step → List Content → Content → Option Content
chain_result [] earlier m = Some m
chain_result (step ∷ steps) earlier m =
    option_and_then (chain_result steps (passed step earlier)) (step_result step earlier m)

-- does each of steps leave a metric as it is where none of them removes it
abbrev pub leave_as_is : List Step → Content → Bool
leave_as_is steps m = list_all (λ step. leaves_as_is step m) steps

-- the results of steps, one for each metric that was pushed
unfoldable pub chain_results : List Step → List Content → List (Option Content)
chain_results steps list = each_behind (chain_result steps) [] list

-- what one step after the other passes on
abbrev pub passed_by_all : List Step → List Content → List Content
passed_by_all steps list = fold (λ (list : List Content) step. passed step list) list steps

-- the result for the last metric that was pushed; None where none was
unfoldable pub whole : List Step → List Content → Option Content
whole steps list = option_and_then (λ (result : Option Content). result) (last_or None (chain_results steps list))
