-- What steps make of one metric more.
use Rattle.std.proofs.Common.{◌≡◌, ◌++◌, List, [], ◌∷◌, length, Some, None, Option}
use Rattle.std.proofs.Common.{refl, sym, ap, ◌∙◌, append_assoc, suc}
use Rattle.std.specs.Prelude.{option_and_then}
use Rattle.std.specs.List.{last_or}
use Rattle.std.proofs.lemmas.List.{append-nil}
use Rattle.std.proofs.lemmas.List.Elements.{filter_map-append}
use Rattle.metric.specs.declared.metric.Content.{Content}
use Rattle.metric_filter.specs.Filter.{applied, left}
use Rattle.proc_chain.specs.Steps.{chain_result, chain_results, each_behind, given, left_in, passed}
use Rattle.proc_chain.specs.Steps.{step_result, step_results, whole}
use Rattle.proc_chain.specs.declared.step.Step.{Step}

-- ---- each behind those before it

module _ {A B : Type 0} (made : List A → A → B) where
  pub each_behind-append : (earlier xs ys : List A)
      → each_behind made earlier (xs ++ ys) ≡ each_behind made earlier xs ++ each_behind made (earlier ++ xs) ys
  unfolding each_behind
  each_behind-append earlier [] ys = ap (λ front. each_behind made front ys) (sym (append-nil earlier))
  each_behind-append earlier (x ∷ xs) ys =
      let more = earlier ++ x ∷ [] in
      ap (λ rest. made earlier x ∷ rest) (each_behind-append more xs ys
      ∙ ap (λ front. each_behind made more xs ++ each_behind made front ys) (append_assoc earlier (x ∷ []) xs))

  pub each_behind-push : (xs : List A) (x : A)
      → each_behind made [] (xs ++ x ∷ []) ≡ each_behind made [] xs ++ made xs x ∷ []
  unfolding each_behind
  each_behind-push xs x = each_behind-append [] xs (x ∷ [])

  pub length-each_behind : (earlier xs : List A) → length (each_behind made earlier xs) ≡ length xs
  unfolding each_behind
  length-each_behind earlier [] = refl
  length-each_behind earlier (x ∷ xs) = ap suc (length-each_behind (earlier ++ x ∷ []) xs)

-- ---- one step

passed-push : (step : Step) (list : List Content) (m : Content)
    → passed step (list ++ m ∷ []) ≡ passed step list ++ left_in (step_result step list m ∷ [])
unfolding passed
passed-push step list m =
    ap left_in (each_behind-push (step_result step) list m)
    ∙ filter_map-append (λ (r : Option Content). r) (step_results step list) (step_result step list m ∷ [])

pub passed-none : (step : Step) (list : List Content) (m : Content) → step_result step list m ≡ None
    → passed step (list ++ m ∷ []) ≡ passed step list
passed-none step list m e =
    passed-push step list m ∙ ap (λ (r : Option Content). passed step list ++ left_in (r ∷ [])) e ∙ append-nil _

pub passed-some : (step : Step) (list : List Content) (m left : Content) → step_result step list m ≡ Some left
    → passed step (list ++ m ∷ []) ≡ passed step list ++ left ∷ []
passed-some step list m left e =
    passed-push step list m ∙ ap (λ (r : Option Content). passed step list ++ left_in (r ∷ [])) e

given-push : (step : Step) (list : List Content) (m : Content)
    → given step (list ++ m ∷ []) ≡ given step list ++ left_in (applied step.filter m ∷ [])
unfolding given
given-push step list m = filter_map-append (applied step.filter) list (m ∷ [])

pub given-none : (step : Step) (list : List Content) (m : Content) → applied step.filter m ≡ None
    → given step (list ++ m ∷ []) ≡ given step list
given-none step list m e =
    given-push step list m ∙ ap (λ (r : Option Content). given step list ++ left_in (r ∷ [])) e ∙ append-nil _

pub given-some : (step : Step) (list : List Content) (m left : Content) → applied step.filter m ≡ Some left
    → given step (list ++ m ∷ []) ≡ given step list ++ left ∷ []
given-some step list m left e =
    given-push step list m ∙ ap (λ (r : Option Content). given step list ++ left_in (r ∷ [])) e

-- ---- steps in order

last_behind : {A : Type 0} (o : Option A) (xs : List A) (x : A) → last_or o (xs ++ x ∷ []) ≡ Some x
last_behind o [] x = refl
last_behind o (y ∷ xs) x = last_behind (Some y) xs x

pub whole-push : (steps : List Step) (list : List Content) (m : Content)
    → whole steps (list ++ m ∷ []) ≡ chain_result steps list m
unfolding whole chain_results
whole-push steps list m =
    ap (option_and_then (λ (result : Option Content). result))
    (ap (last_or None) (each_behind-push (chain_result steps) list m)
    ∙ last_behind None (chain_results steps list) (chain_result steps list m))
