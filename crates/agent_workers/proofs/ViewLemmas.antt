-- Views that are the whole.
use Rattle.std.proofs.Common.{◌≡◌, true, List, [], ◌∷◌, ◌++◌, map, subst, sym, Result, Ok, Err}
use Rattle.std.specs.Prelude.{IfOk, IfSome}
use Rattle.fixed_num.specs.declared.memory.OutOfMemory.{OutOfMemory}
use Rattle.agent_workers.specs.declared.item.Views.{Views}
use Rattle.std.specs.List.{AllByRecursion}
use Rattle.std.specs.declared.option.Option.{Option}
use Rattle.std.specs.declared.option.Option.TheVariants.{Some, None}
use Rattle.metric.specs.declared.metric.Content.{Content}
use Rattle.journal_text.specs.Known.{AreWhole}
use Rattle.pipeline_core.specs.Worked.{views_of}

-- one view more that is
pub whole_push : (m : Content) (views : List (Option Content)) (view : Option Content) → AreWhole (Some m) views
    → IfSome view (λ (v : Content). v ≡ m) → AreWhole (Some m) (views ++ view ∷ [])
whole_push m [] view h is = (is, tt)
whole_push m (x ∷ views) view h is = (h.0, whole_push m views view h.1 is)

none_there : (filters : List (Content → Option Content)) (whole : Content)
    → AllByRecursion (λ (view : Option Content). IfSome view (λ (v : Content). v ≡ whole))
    (map (λ (filter : Content → Option Content). None) filters)
none_there [] whole = tt
none_there (filter ∷ filters) whole = (tt, none_there filters whole)

-- where nothing is there
pub whole_none : (filters : List (Content → Option Content)) (whole : Option Content)
    → AreWhole whole (views_of filters None)
whole_none filters None = tt
whole_none filters (Some whole) = none_there filters whole

-- so it is of what a call answers
pub seen_none : (result : Result Views OutOfMemory) (filters : List (Content → Option Content)) (whole : Option Content)
    → IfOk result (λ seen. seen.views ≡ views_of filters None)
    → IfOk result (λ seen. seen.same ≡ true → AreWhole whole seen.views)
seen_none (Ok seen) filters whole none = λ same. subst (AreWhole whole) (sym none) (whole_none filters whole)
seen_none (Err e) filters whole none = tt
