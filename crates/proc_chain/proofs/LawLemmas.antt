-- What the results of steps are, taken together.
use Rattle.std.proofs.Common.{◌≡◌, ◌++◌, List, [], ◌∷◌, length, take, Some, None, Option, option_map}
use Rattle.std.proofs.Common.{refl, ap, ◌∙◌}
use Rattle.std.specs.Prelude.{option_and_then}
use Rattle.std.specs.List.{cons_option, last_or}
use Rattle.std.proofs.lemmas.List.{take_at}
use Rattle.metric.specs.declared.metric.Content.{Content}
use Rattle.proc_chain.specs.Steps.{chain_result, chain_results, each_behind, left_in, passed, passed_by_all}
use Rattle.proc_chain.specs.Steps.{step_result, whole}
use Rattle.proc_chain.specs.declared.step.Step.{Step}
use Rattle.proc_chain.proofs.StepLemmas.{each_behind-append, length-each_behind, passed-none, passed-some}

pub stay : (steps : List Step) (list more : List Content)
    → take (length list) (chain_results steps (list ++ more)) ≡ chain_results steps list
unfolding chain_results
stay steps list more =
    ap (take (length list)) (each_behind-append (chain_result steps) [] list more)
    ∙ take_at (each_behind (chain_result steps) [] list) _ (length list)
    (length-each_behind (chain_result steps) [] list)

pub one_each : (steps : List Step) (list : List Content) → length (chain_results steps list) ≡ length list
unfolding chain_results
one_each steps list = length-each_behind (chain_result steps) [] list

-- ---- one step after the other

-- the metrics that steps leave of a list, behind those that were pushed before
abbrev left_behind : List Step → List Content → List Content → List Content
left_behind steps earlier list = left_in (each_behind (chain_result steps) earlier list)

-- without steps each is left
all_left : (earlier list : List Content) → left_behind [] earlier list ≡ list
unfolding chain_result each_behind
all_left earlier [] = refl
all_left earlier (m ∷ list) = ap (λ rest. m ∷ rest) (all_left (earlier ++ m ∷ []) list)

-- the others see what the first one passes on: `before` and `behind` are what it passed on before a metric and with it
by_result : (steps : List Step) (result : Option Content) (before behind others left : List Content)
    → left ≡ left_behind steps behind others
    → (result ≡ None → behind ≡ before) → ((n : Content) → result ≡ Some n → behind ≡ before ++ n ∷ [])
    → cons_option (option_and_then (chain_result steps before) result) left
    ≡ left_behind steps before (cons_option result others)
unfolding each_behind
by_result steps None before behind others left e none some =
    e ∙ ap (λ front. left_behind steps front others) (none refl)
by_result steps (Some n) before behind others left e none some =
    ap (cons_option (chain_result steps before n)) (e ∙ ap (λ front. left_behind steps front others) (some n refl))

module _ (step : Step) (steps : List Step) where
  abbrev passed_behind : List Content → List Content → List Content
  passed_behind earlier list = left_in (each_behind (step_result step) earlier list)

  first_step : (earlier list : List Content)
      → left_behind (step ∷ steps) earlier list ≡ left_behind steps (passed step earlier) (passed_behind earlier list)
  unfolding chain_result each_behind
  first_step earlier [] = refl
  first_step earlier (m ∷ list) =
      let more = earlier ++ m ∷ [] in
      by_result steps (step_result step earlier m) (passed step earlier) (passed step more) (passed_behind more list)
      (left_behind (step ∷ steps) more list) (first_step more list)
      (passed-none step earlier m) (passed-some step earlier m)

pub in_turn : (steps : List Step) (list : List Content) → left_in (chain_results steps list) ≡ passed_by_all steps list
unfolding chain_results passed each_behind
in_turn [] list = all_left [] list
in_turn (step ∷ steps) list = first_step step steps [] list ∙ in_turn steps (passed step list)

-- ---- no step

last_each : (o : Option Content) (earlier list : List Content)
    → option_and_then (λ (result : Option Content). result)
    (last_or (option_map Some o) (each_behind (chain_result []) earlier list)) ≡ last_or o list
unfolding chain_result each_behind
last_each None earlier [] = refl
last_each (Some m) earlier [] = refl
last_each o earlier (m ∷ list) = last_each (Some m) (earlier ++ m ∷ []) list

pub no_steps : (list : List Content) → whole [] list ≡ last_or None list
unfolding whole chain_results
no_steps list = last_each None [] list
