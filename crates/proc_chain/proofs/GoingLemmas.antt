-- What says of a metric whether it is the one that was pushed, from step to step.
use Rattle.std.proofs.Common.{◌≡◌, ◌<◌, ◌+◌, ◌&&◌, ◌||◌, ℕ, Bool, true, false, not, List, [], Some, None, Option}
use Rattle.std.proofs.Common.{Ok, Err, Result, refl, sym, ap, ◌∙◌, subst, arith, drop, length, get_or, set}
use Rattle.std.proofs.lemmas.List.{drop_all}
use Rattle.std.specs.Prelude.{IfOk, IfSome}
use Rattle.fixed_num.specs.declared.memory.OutOfMemory.{OutOfMemory}
use Rattle.metric.specs.declared.metric.Content.{Content}
use Rattle.metric_filter.specs.Filter.{keeps_all, selects}
use Rattle.metric_filter.specs.Kept.{is_same, metric_of, IsKeptOf}
use Rattle.metric_filter.specs.declared.kept.Kept.{Kept}
use Rattle.metric_filter.specs.declared.kept.Kept.TheVariants.{Same, Changed}
use Rattle.proc_chain.specs.Chain.{steps_of, StageState}
use Rattle.proc_chain.specs.Seen.{passing, GoesOn}
use Rattle.proc_chain.specs.Steps.{leave_as_is, leaves_as_is, only_removes}
use Rattle.proc_chain.specs.declared.stage.Seen.{Seen}
use Rattle.proc_chain.specs.declared.step.Step.{Step}
use Rattle.proc_chain.proofs.IndexLemmas.{here, set_behind}

-- what nothing is done with
pub stays : (m : Kept) → GoesOn true m m
stays (Same m) = record { same = refl; itself = λ said. refl }
stays (Changed m) = record { same = refl; itself = λ said. refl }

-- what is made of it
pub is_made : (m : Kept) (n : Content) → GoesOn false m (Changed n)
is_made (Same m) n = record { same = refl; itself = λ said. absurd (cc) }
is_made (Changed m) n = record { same = refl; itself = λ said. absurd (cc) }

-- two things that are done one after the other
pub then_on : (first : Bool) (next : Content → Bool) (m left after : Kept) → GoesOn first m left
    → GoesOn (next (metric_of left)) left after → GoesOn (first && next (metric_of m)) m after
then_on first next (Same m) (Same n) after h on = record {
  same = on.same ∙ ap next (h.itself refl) ∙ ap (λ (b : Bool). b && next m) h.same;
  itself = λ said. on.itself said ∙ h.itself refl;
}
then_on first next (Same m) (Changed n) after h on = record {
  same = on.same ∙ ap (λ (b : Bool). b && next m) h.same;
  itself = λ said. let e : false ≡ true = sym on.same ∙ said in absurd (cc);
}
then_on first next (Changed m) (Same n) after h on = let e : true ≡ false = h.same in absurd (cc)
then_on first next (Changed m) (Changed n) after h on = record {
  same = on.same;
  itself = λ said. let e : false ≡ true = sym on.same ∙ said in absurd (cc);
}

-- ---- one step

-- one that isn't selected
pub passed_by : (step : Step) (m : Kept) → selects step.filter (metric_of m) ≡ false
    → GoesOn (leaves_as_is step (metric_of m)) m m
unfolding leaves_as_is
passed_by step m refused =
    subst (λ (b : Bool). GoesOn (not b || (keeps_all step.filter (metric_of m) && only_removes step.work)) m m)
    (sym refused) (stays m)

by_choice : (step : Step) (m after : Kept) → selects step.filter (metric_of m) ≡ true
    → GoesOn (keeps_all step.filter (metric_of m) && only_removes step.work) m after
    → GoesOn (leaves_as_is step (metric_of m)) m after
unfolding leaves_as_is
by_choice step m after chosen h =
    subst (λ (b : Bool). GoesOn (not b || (keeps_all step.filter (metric_of m) && only_removes step.work)) m after)
    (sym chosen) h

-- one that is, of which the filter leaves something that is given to the work
pub worked_on : (step : Step) (m left : Kept) (result : Result Seen OutOfMemory)
    → selects step.filter (metric_of m) ≡ true → GoesOn (keeps_all step.filter (metric_of m)) m left
    → IfOk result (λ seen. IfSome (passing seen) (GoesOn (only_removes step.work) left))
    → IfOk result (λ seen. IfSome (passing seen) (GoesOn (leaves_as_is step (metric_of m)) m))
worked_on step m left (Err error) chosen h on = tt
worked_on step m left (Ok seen) chosen h on = by_case step m left (passing seen) chosen h on
  where
    by_one : (step : Step) (m left after : Kept) → selects step.filter (metric_of m) ≡ true
        → GoesOn (keeps_all step.filter (metric_of m)) m left → GoesOn (only_removes step.work) left after
        → GoesOn (leaves_as_is step (metric_of m)) m after
    by_one step m left after chosen h on = by_choice step m after chosen
        (then_on (keeps_all step.filter (metric_of m)) (λ (n : Content). only_removes step.work) m left after h on)

    by_case : (step : Step) (m left : Kept) (after : Option Kept) → selects step.filter (metric_of m) ≡ true
        → GoesOn (keeps_all step.filter (metric_of m)) m left → IfSome after (GoesOn (only_removes step.work) left)
        → IfSome after (GoesOn (leaves_as_is step (metric_of m)) m)
    by_case step m left None chosen h on = tt
    by_case step m left (Some after) chosen h on = by_one step m left after chosen h on

-- ---- stages from an index on

-- where there are none
pub none_on : (at : ℕ) (stages : List StageState) (m : Kept) → length stages ≡ at
    → GoesOn (leave_as_is (steps_of (drop at stages)) (metric_of m)) m m
none_on at stages m long =
    let none : drop at stages ≡ [] = drop_all at stages (omega arith) in
    subst (λ (rest : List StageState). GoesOn (leave_as_is (steps_of rest) (metric_of m)) m m) (sym none) (stays m)

module _ (old : List StageState) (at : ℕ) (s t : StageState) (lt : at < length old) (is : s ≡ get_or old at s)
    (m left : Kept) where
  -- what the stage at the index leaves, and those behind it
  each_on : (after : Kept) → GoesOn (leaves_as_is s.step (metric_of m)) m left
      → GoesOn (leave_as_is (steps_of (drop (at + 1) (set old at t))) (metric_of left)) left after
      → GoesOn (leave_as_is (steps_of (drop at old)) (metric_of m)) m after
  each_on after h on =
      let rest : List StageState = drop (at + 1) old in
      let behind : GoesOn (leave_as_is (steps_of rest) (metric_of left)) left after =
      subst (λ (xs : List StageState). GoesOn (leave_as_is (steps_of xs) (metric_of left)) left after)
      (set_behind old at s lt is t) on in
      subst (λ (xs : List StageState). GoesOn (leave_as_is (steps_of xs) (metric_of m)) m after)
      (sym (here old at s lt is))
      (then_on (leaves_as_is s.step (metric_of m)) (leave_as_is (steps_of rest)) m left after h behind)

  pub all_on : (result : Result (Option Kept) OutOfMemory) (seen : Seen)
      → IfSome (passing seen) (GoesOn (leaves_as_is s.step (metric_of m)) m) → passing seen ≡ Some left
      → IfOk result (λ answer. IfSome answer
      (GoesOn (leave_as_is (steps_of (drop (at + 1) (set old at t))) (metric_of left)) left))
      → IfOk result (λ answer. IfSome answer (GoesOn (leave_as_is (steps_of (drop at old)) (metric_of m)) m))
  all_on (Err error) seen h passes on = tt
  all_on (Ok None) seen h passes on = tt
  all_on (Ok (Some after)) seen h passes on =
      each_on after
      (subst (λ (o : Option Kept). IfSome o (GoesOn (leaves_as_is s.step (metric_of m)) m)) passes h) on

-- ---- a chain

pub said_same : (as_is : Bool) (m : Content) (result : Result (Option Kept) OutOfMemory)
    → IfOk result (λ answer. IfSome answer (GoesOn as_is (Same m)))
    → IfOk result (λ answer. IfSome answer (λ kept. is_same kept ≡ as_is))
said_same as_is m (Err error) h = tt
said_same as_is m (Ok None) h = tt
said_same as_is m (Ok (Some kept)) h = h.same

pub said_itself : (as_is : Bool) (m : Content) (result : Result (Option Kept) OutOfMemory)
    → IfOk result (λ answer. IfSome answer (GoesOn as_is (Same m)))
    → IfOk result (λ answer. IfSome answer (IsKeptOf m))
said_itself as_is m (Err error) h = tt
said_itself as_is m (Ok None) h = tt
said_itself as_is m (Ok (Some kept)) h = h.itself
