-- Lists of values, and of what they are read as.
use Rattle.std.proofs.Common.{◌≡◌, ◌+◌, ◌<◌, ◌≤◌, ℕ, List, [], ◌∷◌, ◌++◌, length, map, drop, get_or}
use Rattle.std.proofs.Common.{Option, Some, None, option_map, refl, sym, ap, ◌∙◌, append_assoc}
use Rattle.std.proofs.lemmas.List.{drop_more, drop_all, append-nil}
use Rattle.std.specs.Prelude.{option_and_then}
use Rattle.toml.specs.Data.{Data, Items}
use Rattle.toml.specs.View.{items_view, view}
use Rattle.toml.specs.declared.value.Value.{Value}
use Rattle.agent_config.specs.Faults.{all_of, only_item}

-- a list that hasn't one value has no only item
pub not_one : (values : List Value) → (length values ≡ 1 → ⊥) → only_item (items_view values) ≡ None
not_one [] h = refl
not_one (v ∷ []) h = absurd (h refl)
not_one (v ∷ w ∷ values) h = refl

map-push : {B X : Type 0} (now : B → X) (bs : List B) (b : B) → map now (bs ++ b ∷ []) ≡ map now bs ++ now b ∷ []
map-push now [] b = refl
map-push now (x ∷ bs) b = ap (λ xs. now x ∷ xs) (map-push now bs b)

behind_both : {X : Type 0} (front : List X) (x : X) (rest : Option (List X))
    → option_map (λ r. (front ++ x ∷ []) ++ r) rest
    ≡ option_map (λ r. front ++ r) (option_map (λ r. x ∷ r) rest)
behind_both front x None = refl
behind_both front x (Some rest) = ap Some (append_assoc front (x ∷ []) rest)

-- what was read so far, as it is seen, and what the values that are left are read as, is what all are
abbrev pub AllSoFar : {B X : Type 0} → (B → X) → (Data → Option X) → List B → List Value → List Value → Type 0
AllSoFar now read taken left values =
    option_map (λ rest. map now taken ++ rest) (all_of read (items_view left)) ≡ all_of read (items_view values)

module _ {B X : Type 0} (now : B → X) (read : Data → Option X) where
  one_there : (d : Data) (ds : Items) (x : X) → Some x ≡ read d
      → option_and_then (λ y. option_map (λ xs. y ∷ xs) (all_of read ds)) (read d)
      ≡ option_map (λ xs. x ∷ xs) (all_of read ds)
  one_there d ds x some = rw (← some) refl

  none_there : (d : Data) (ds : Items) → None ≡ read d
      → option_and_then (λ y. option_map (λ xs. y ∷ xs) (all_of read ds)) (read d) ≡ None
  none_there d ds none = rw (← none) refl

  pub all_more : (taken : List B) (values : List Value) (i : ℕ) (d : Value) (b : B)
      → i < length values → Some (now b) ≡ read (view (get_or values i d))
      → AllSoFar now read taken (drop i values) values
      → AllSoFar now read (taken ++ b ∷ []) (drop (i + 1) values) values
  all_more taken values i d b lt some so_far =
      ap (λ xs. option_map (λ rest. xs ++ rest) (all_of read (items_view (drop (i + 1) values)))) (map-push now taken b)
      ∙ behind_both (map now taken) (now b) (all_of read (items_view (drop (i + 1) values)))
      ∙ ap (option_map (λ rest. map now taken ++ rest))
      (sym (ap (λ vs. all_of read (items_view vs)) (drop_more values i d lt)
      ∙ one_there (view (get_or values i d)) (items_view (drop (i + 1) values)) (now b) some))
      ∙ so_far

  pub all_none : (taken : List B) (values : List Value) (i : ℕ) (d : Value)
      → i < length values → None ≡ read (view (get_or values i d)) → AllSoFar now read taken (drop i values) values
      → None ≡ all_of read (items_view values)
  all_none taken values i d lt none so_far =
      sym (ap (option_map (λ rest. map now taken ++ rest)) (ap (λ vs. all_of read (items_view vs))
      (drop_more values i d lt)
      ∙ none_there (view (get_or values i d)) (items_view (drop (i + 1) values)) none))
      ∙ so_far

  pub all_all : (taken : List B) (values : List Value) (i : ℕ) → length values ≤ i
      → AllSoFar now read taken (drop i values) values → Some (map now taken) ≡ all_of read (items_view values)
  all_all taken values i past so_far =
      ap Some (sym (append-nil (map now taken)))
      ∙ sym (ap (λ vs. option_map (λ rest. map now taken ++ rest) (all_of read (items_view vs)))
      (drop_all i values past))
      ∙ so_far
