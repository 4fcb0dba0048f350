-- What one change more makes.
use Rattle.std.proofs.Common.{◌≡◌, ◌≤◌, ◌+◌, ◌==◌, ◌+ℤ◌, ℕ, ℤ, pos, true, false, cond, not, Bool, List, [], ◌∷◌, ◌++◌}
use Rattle.std.proofs.Common.{length, map, refl, sym, ap, ◌∙◌, arith, append-nil, length-append}
use Rattle.std.specs.Int.{int_max, int_min}
use Rattle.std.specs.List.{fold, list_any, filter}
use Rattle.std.specs.Str.{bytes_eq}
use Rattle.std.proofs.Math.IntN.{+ℤ_assoc, +ℤ_comm}
use Rattle.std.proofs.lemmas.Bool.{ne_eqb}
use Rattle.std.proofs.lemmas.Grind.{flat_map-append}
use Rattle.std.proofs.lemmas.List.{map-append}
use Rattle.std.proofs.lemmas.List.Sums.{fold-append}
use Rattle.std.proofs.lemmas.Slice.Eq.{bytes_eq-Decides}
use Rattle.agg_keep.specs.Keyed.{firsts}
use Rattle.agg_keep.proofs.KeyLemmas.{firsts-push}
use Rattle.agg_stats.specs.Summary.{chosen_of, sum_of}
use Rattle.statsd_server.specs.declared.change.Change.{Change}
use Rattle.statsd_server.specs.declared.change.Change.TheVariants.{Adds, Sets, Moves, Took, Names}
use Rattle.statsd_server.specs.Folding.{is_fresh, with_amount}
use Rattle.statsd_server.specs.Parts.{amount_of, distinct_of, level_of, level_with, members_in, members_of, summary_of}

sum-push : (ns : List ℤ) (n : ℤ) → sum_of (ns ++ n ∷ []) ≡ sum_of ns +ℤ n
unfolding sum_of
sum-push [] n = +ℤ_comm n (pos 0)
sum-push (m ∷ ns) n = ap (λ (s : ℤ). m +ℤ s) (sum-push ns n) ∙ sym (+ℤ_assoc m (sum_of ns) n)

chosen-push : (choice : ℤ → ℤ → ℤ) (changes : List Change) (change : Change)
    → chosen_of choice (map amount_of (changes ++ change ∷ []))
    ≡ cond (length changes == 0) (amount_of change)
    (choice (chosen_of choice (map amount_of changes)) (amount_of change))
chosen-push choice [] change = refl
chosen-push choice (first ∷ changes) change =
    let some : (length (first ∷ changes) == 0) ≡ false = ne_eqb (length (first ∷ changes)) 0
    (λ e. absurd (omega arith)) in
    rw some
    (ap (fold choice (amount_of first)) (map-append amount_of changes (change ∷ []))
    ∙ fold-append choice (amount_of first) (map amount_of changes) (amount_of change ∷ []))

pub members-push : (changes : List Change) (change : Change)
    → members_in (changes ++ change ∷ []) ≡ members_in changes ++ members_of change
members-push changes change =
    flat_map-append members_of changes (change ∷ [])
    ∙ ap (λ (rest : List (List ℕ)). members_in changes ++ rest) (append-nil (members_of change))

abbrev kept_once : List (List ℕ) → List (List ℕ)
kept_once texts = firsts bytes_eq (λ (member : List ℕ). member) texts

once-push : (texts : List (List ℕ)) (text : List ℕ) → length (kept_once (texts ++ text ∷ []))
    ≡ cond (not (list_any (bytes_eq text) texts)) (length (kept_once texts) + 1) (length (kept_once texts))
once-push texts text =
    ap (λ (list : List (List ℕ)). length list)
    (firsts-push bytes_eq (λ (member : List ℕ). member) bytes_eq-Decides texts text)
    ∙ elim (list_any (bytes_eq text) texts) as (λ t. length (cond t (kept_once texts) (kept_once texts ++ text ∷ []))
    ≡ cond (not t) (length (kept_once texts) + 1) (length (kept_once texts)))
    [ true ↦ refl | false ↦ length-append (kept_once texts) (text ∷ []) ]

distinct-push : (changes : List Change) (change : Change) → length (distinct_of (changes ++ change ∷ []))
    ≡ cond (is_fresh changes change) (length (distinct_of changes) + 1) (length (distinct_of changes))
distinct-push changes (Names member) =
    ap (λ (texts : List (List ℕ)). length (kept_once texts)) (members-push changes (Names member))
    ∙ once-push (members_in changes) member
distinct-push changes (Adds n) =
    ap (λ (texts : List (List ℕ)). length (kept_once texts))
    (members-push changes (Adds n) ∙ append-nil (members_in changes))
distinct-push changes (Sets n) =
    ap (λ (texts : List (List ℕ)). length (kept_once texts))
    (members-push changes (Sets n) ∙ append-nil (members_in changes))
distinct-push changes (Moves n) =
    ap (λ (texts : List (List ℕ)). length (kept_once texts))
    (members-push changes (Moves n) ∙ append-nil (members_in changes))
distinct-push changes (Took n) =
    ap (λ (texts : List (List ℕ)). length (kept_once texts))
    (members-push changes (Took n) ∙ append-nil (members_in changes))

-- what is counted of changes with one more
pub summary-push : (changes : List Change) (change : Change)
    → summary_of (changes ++ change ∷ [])
    ≡ with_amount (summary_of changes) (amount_of change) (is_fresh changes change)
unfolding with_amount
summary-push changes change = λ i. record {
  count = length-append changes (change ∷ []) i;
  distinct = distinct-push changes change i;
  sum = (ap sum_of (map-append amount_of changes (change ∷ []))
      ∙ sum-push (map amount_of changes) (amount_of change)) i;
  least = chosen-push int_min changes change i;
  greatest = chosen-push int_max changes change i;
}

-- the level behind changes with one more
pub level-push : (changes : List Change) (change : Change)
    → level_of (changes ++ change ∷ []) ≡ level_with (level_of changes) change
level-push changes change = fold-append level_with (pos 0) changes (change ∷ [])

-- ---- no more distinct members than changes

pub filtered-le : {X : Type 0} (p : X → Bool) (xs : List X) → length (filter p xs) ≤ length xs
filtered-le p [] = omega arith
filtered-le {X = X} p (x ∷ xs) =
    let rest = filtered-le p xs in
    elim (p x) as (λ t. length (cond t (x ∷ filter p xs) (filter p xs)) ≤ length (x ∷ xs))
    [ true ↦ omega arith | false ↦ omega arith ]

pub firsts-le : {M K : Type 0} (same : K → K → Bool) (key : M → K) (ms : List M)
    → length (firsts same key ms) ≤ length ms
unfolding firsts
firsts-le same key [] = omega arith
firsts-le {M = M} {K = K} same key (m ∷ ms) =
    let rest = firsts-le same key ms in
    let left = filtered-le (λ (other : K). not (same (key m) other)) (firsts same key ms) in
    omega arith

members-le : (changes : List Change) → length (members_in changes) ≤ length changes
members-le [] = omega arith
members-le (change ∷ changes) =
    let rest = members-le changes in
    let here = length-append (members_of change) (members_in changes) in
    let one = at_most_one change in
    omega arith
  where
    at_most_one : (change : Change) → length (members_of change) ≤ 1
    at_most_one (Names member) = omega arith
    at_most_one (Adds n) = omega arith
    at_most_one (Sets n) = omega arith
    at_most_one (Moves n) = omega arith
    at_most_one (Took n) = omega arith

pub distinct-le : (changes : List Change) → length (distinct_of changes) ≤ length changes
distinct-le changes =
    let few = firsts-le bytes_eq (λ (member : List ℕ). member) (members_in changes) in
    let rest = members-le changes in
    omega arith
