-- A chain to which no metric was pushed yet.
use Rattle.std.proofs.Common.{◌≡◌, ◌++◌, ◌<◌, ◌+◌, ℕ, List, [], ◌∷◌, sym, ap, ◌∙◌, length, take, get_or}
use Rattle.std.proofs.lemmas.List.{map-append, take_more}
use Rattle.proc_chain.specs.Chain.{steps_of, AllStand, IsBehind, StageStands, StageState}
use Rattle.proc_chain.specs.Steps.{each_behind, passed}
use Rattle.proc_chain.specs.declared.step.Step.{Step}

all_push : (stages : List StageState) (stage : StageState) → AllStand stages [] → StageStands stage []
    → AllStand (stages ++ stage ∷ []) []
unfolding passed each_behind
all_push [] stage all one = (one, tt)
all_push (other ∷ stages) stage all one = (all.0, all_push stages stage all.1 one)

one_more : (steps : List Step) (stages : List StageState) (stage : StageState) (i : ℕ) (d : Step) → i < length steps
    → stage.step ≡ get_or steps i d → steps_of stages ≡ take i steps
    → steps_of (stages ++ stage ∷ []) ≡ take (i + 1) steps
one_more steps stages stage i d lt same h =
    map-append (λ (s : StageState). s.step) stages (stage ∷ []) ∙ ap (λ front. front ++ stage.step ∷ []) h
    ∙ ap (λ step. take i steps ++ step ∷ []) same ∙ sym (take_more steps i d lt)

pub begun_with : (steps : List Step) (stages : List StageState) (stage : StageState) (i : ℕ) (d : Step)
    → i < length steps → stage.step ≡ get_or steps i d → StageStands stage [] → IsBehind (take i steps) [] stages
    → IsBehind (take (i + 1) steps) [] (stages ++ stage ∷ [])
begun_with steps stages stage i d lt same stands h = record {
  same = one_more steps stages stage i d lt same h.same;
  each = all_push stages stage h.each stands;
}
