-- Where the group of a key stands, and what is put there.
use Rattle.std.proofs.Common.{◌≡◌, ◌<◌, ℕ, zero, suc, Bool, true, false, cond, List, [], ◌∷◌, ◌++◌, length, get_or, set}
use Rattle.std.proofs.Common.{Option, Some, None, refl, sym, ap, subst, ◌∙◌, arith}
use Rattle.std.specs.Option.{option_map}
use Rattle.std.specs.Str.{bytes_eq}
use Rattle.std.proofs.lemmas.Slice.Eq.{bytes_eq-Decides}
use Rattle.metric.specs.Pairs.{put_in}
use Rattle.openmetrics_text.specs.Groups.{Grouped, Written, with_last}
use Rattle.openmetrics_text.specs.WriteViews.{HasMore, index_in}

-- ---- options

abbrev some_or : ℕ → Option ℕ → ℕ
some_or d (Some x) = x
some_or d None = d

some_same : (i j : ℕ) → Some i ≡ Some j → i ≡ j
some_same i j same = ap (some_or i) same

abbrev or_index : Option ℕ → Option ℕ → Option ℕ
or_index (Some i) other = Some i
or_index None other = other

or_next : (o : Option ℕ) (t : Bool) (n : ℕ) → option_map suc (or_index o (cond t (Some n) None)) ≡ or_index
    (option_map suc o) (cond t (Some (suc n)) None)
or_next (Some i) t n = refl
or_next None true n = refl
or_next None false n = refl

-- ---- the group of a key that is there

-- the group at an index, changed
abbrev changed : (List Written → List Written) → List Grouped → ℕ → Grouped → List Grouped
changed change gs i d = set gs i ((get_or gs i d).0, change (get_or gs i d).1)

module _ (change : List Written → List Written) (key : List ℕ) (d : Grouped) where
  abbrev IsFound : List Grouped → ℕ → Type 0
  IsFound gs i = (i < length gs) × (changed change gs i d ≡ put_in change [] gs key)

  -- behind another group
  found_later : (g : Grouped) (gs : List Grouped) (i : ℕ) (index : Option ℕ) → index_in key gs ≡ index
      → ((j : ℕ) → index_in key gs ≡ Some j → IsFound gs j) → option_map suc index ≡ Some i
      → (i < length (g ∷ gs)) × (changed change (g ∷ gs) i d ≡ g ∷ put_in change [] gs key)
  found_later g gs i None is found e = absurd cc
  found_later g gs i (Some j) is found e =
      let before = found j is in
      subst (λ (n : ℕ). (n < length (g ∷ gs)) × (changed change (g ∷ gs) n d ≡ g ∷ put_in change [] gs key))
      (some_same (suc j) i e) (omega (arith, before.0), ap (λ (rest : List Grouped). g ∷ rest) before.1)

  found : (gs : List Grouped) (i : ℕ) → index_in key gs ≡ Some i → IsFound gs i
  unfolding put_in
  found [] i e = absurd cc
  found (g ∷ gs) i e =
      elim (bytes_eq key g.0) as (λ t. cond t (Some 0) (option_map suc (index_in key gs)) ≡ Some i
      → (i < length (g ∷ gs)) × (changed change (g ∷ gs) i d ≡ cond t ((g.0, change g.1) ∷ gs)
      (g ∷ put_in change [] gs key))) [
        | true ↦ λ here. subst (λ (n : ℕ). (n < length (g ∷ gs))
            × (changed change (g ∷ gs) n d ≡ (g.0, change g.1) ∷ gs)) (some_same 0 i here) (omega arith, refl)
        | false ↦ λ later. found_later g gs i (index_in key gs) refl (found gs) later
      ] e

pub index_within : (key : List ℕ) (gs : List Grouped) (i : ℕ) → index_in key gs ≡ Some i → i < length gs
index_within key gs i e = (found (λ samples. samples) key ([], []) gs i e).0

pub put_there : (key : List ℕ) (gs new : List Grouped) (i : ℕ) (sample : Written) → index_in key gs ≡ Some i
    → HasMore gs i sample new → new ≡ put_in (with_last sample) [] gs key
put_there key gs new i sample e more = more ([], []) ∙ (found (with_last sample) key ([], []) gs i e).1

-- no key changes
keys_stay : (q : List ℕ) (gs : List Grouped) (i : ℕ) (d : Grouped) (samples : List Written)
    → index_in q (set gs i ((get_or gs i d).0, samples)) ≡ index_in q gs
keys_stay q [] i d samples = refl
keys_stay q (g ∷ gs) zero d samples = refl
keys_stay q (g ∷ gs) (suc i) d samples = ap (λ (index : Option ℕ). cond (bytes_eq q g.0) (Some 0)
    (option_map suc index)) (keys_stay q gs i d samples)

pub indices_stay : (q : List ℕ) (gs new : List Grouped) (i : ℕ) (sample : Written) → HasMore gs i sample new
    → index_in q gs ≡ index_in q new
indices_stay q gs new i sample more = sym (keys_stay q gs i ([], []) (with_last sample (get_or gs i ([], [])).1))
    ∙ ap (index_in q) (sym (more ([], [])))

-- ---- a new key

pub put_behind : (change : List Written → List Written) (gs : List Grouped) (key : List ℕ) → index_in key gs ≡ None
    → gs ++ (key, change []) ∷ [] ≡ put_in change [] gs key
unfolding put_in
put_behind change [] key e = refl
put_behind change (g ∷ gs) key e =
    elim (bytes_eq key g.0) as (λ t. cond t (Some 0) (option_map suc (index_in key gs)) ≡ None
    → g ∷ (gs ++ (key, change []) ∷ []) ≡ cond t ((g.0, change g.1) ∷ gs) (g ∷ put_in change [] gs key)) [
      | true ↦ λ here. absurd cc
      | false ↦ λ later. ap (λ (rest : List Grouped). g ∷ rest)
          (put_behind change gs key (no_later (index_in key gs) later))
    ] e
  where
    no_later : (index : Option ℕ) → option_map suc index ≡ None → index ≡ None
    no_later None none = refl
    no_later (Some i) none = absurd cc

index-push : (q : List ℕ) (gs : List Grouped) (group : Grouped)
    → index_in q (gs ++ group ∷ []) ≡ or_index (index_in q gs) (cond (bytes_eq q group.0) (Some (length gs)) None)
index-push q [] group = refl
index-push q (g ∷ gs) group =
    elim (bytes_eq q g.0) as (λ t. cond t (Some 0) (option_map suc (index_in q (gs ++ group ∷ []))) ≡ or_index
    (cond t (Some 0) (option_map suc (index_in q gs))) (cond (bytes_eq q group.0) (Some (length (g ∷ gs))) None)) [
      | true ↦ refl
      | false ↦ ap (option_map suc) (index-push q gs group) ∙ or_next (index_in q gs) (bytes_eq q group.0) (length gs)
    ]

turned : (a b : List ℕ) (t : Bool) → bytes_eq a b ≡ t → bytes_eq b a ≡ t
turned a b true e = (bytes_eq-Decides b a).1 (sym ((bytes_eq-Decides a b).0 e))
turned a b false e = not_true (bytes_eq b a) (λ same. true_false
    (sym ((bytes_eq-Decides a b).1 (sym ((bytes_eq-Decides b a).0 same))) ∙ e))
  where
    true_false : true ≡ false → ⊥
    true_false e = absurd cc

    not_true : (t : Bool) → (t ≡ true → ⊥) → t ≡ false
    not_true true h = absurd (h refl)
    not_true false h = refl

-- the new key has the last index, and each other one has the index that it had
pub indices_more : (q : List ℕ) (gs : List Grouped) (key : List ℕ) (samples : List Written) → index_in key gs ≡ None
    → cond (bytes_eq key q) (Some (length gs)) (index_in q gs) ≡ index_in q (gs ++ (key, samples) ∷ [])
indices_more q gs key samples none =
    elim (bytes_eq key q) as (λ t. bytes_eq key q ≡ t → cond t (Some (length gs)) (index_in q gs) ≡ index_in q
    (gs ++ (key, samples) ∷ [])) [
      | true ↦ λ same.
          let absent : index_in q gs ≡ None = subst (λ (k : List ℕ). index_in k gs ≡ None)
          ((bytes_eq-Decides key q).0 same) none in
          rw (index-push q gs (key, samples), absent, turned key q true same) refl
      | false ↦ λ other. rw (index-push q gs (key, samples), turned key q false other) (same_index (index_in q gs))
    ] refl
  where
    same_index : (index : Option ℕ) → index ≡ or_index index None
    same_index (Some i) = refl
    same_index None = refl
