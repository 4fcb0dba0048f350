-- What the lists of keys with values mean.
use Rattle.std.proofs.Common.{◌≡◌, ◌≤◌, ℕ, true, false, cond, List, [], ◌∷◌, ◌++◌, length, reverse, refl, sym}
use Rattle.std.proofs.Common.{ap, ◌∙◌, arith, Some, None, append_assoc, Bool, not, ◌||◌}
use Rattle.std.specs.declared.cmp.Ordering.TheVariants.{Less, Equal, Greater}
use Rattle.std.specs.Cmp.Lexicographic.{pointwise}
use Rattle.std.specs.List.{IsDistinct, find, filter, list_any}
use Rattle.std.specs.List.Sorted.{IsStrictlySortedBy}
use Rattle.std.specs.Map.{keys_of}
use Rattle.std.specs.Ordering.{is_eq}
use Rattle.std.specs.Option.{option_or, option_map}
use Rattle.std.specs.Prelude.{nat_eq, Option}
use Rattle.std.specs.Str.{bytes_eq}
use Rattle.std.proofs.lemmas.Cmp.{nat_list_eq_equiv}
use Rattle.std.proofs.lemmas.List.{reverse-append, append-nil}
use Rattle.std.proofs.lemmas.List.Folds.{find-append}
use Rattle.std.proofs.lemmas.Map.Text.{is_eq-slice_cmp}
use Rattle.std.proofs.lemmas.Slice.Eq.{bytes_eq-Decides}
use Rattle.metric.specs.Pairs.{with_pair, with_sorted, beside, first_of_each, in_first_order}
use Rattle.metric.specs.Pairs.{in_first_order_on, in_key_order, in_key_order_on, value_at, last_value}
use Rattle.metric.specs.Pairs.{IsInKeyOrder}
use Rattle.metric.proofs.PairLemmas.{key_cmp, with_pair-distinct, with_sorted-ordered}

-- ---- where each key stands first

abbrev among : List (List ℕ) → List ℕ → Bool
among keys key = list_any (λ other. bytes_eq other key) keys

-- the texts that aren't among the keys
abbrev others : List (List ℕ) → List (List ℕ) → List (List ℕ)
others keys texts = filter (λ text. not (among keys text)) texts

-- keys with one more, at the end, where it isn't among them
abbrev with_key : List (List ℕ) → List ℕ → List (List ℕ)
with_key keys key = cond (among keys key) keys (keys ++ key ∷ [])

among-push : (keys : List (List ℕ)) (key text : List ℕ) → among (keys ++ key ∷ []) text ≡ (bytes_eq key text
    || among keys text)
among-push [] key text = refl
among-push (k ∷ keys) key text =
    ap (λ t. bytes_eq k text || t) (among-push keys key text)
    ∙ swapped (bytes_eq k text) (bytes_eq key text) (among keys text)
  where
    swapped : (a b c : Bool) → (a || (b || c)) ≡ (b || (a || c))
    swapped true true c = refl
    swapped true false c = refl
    swapped false b c = refl

among-with_key : (keys : List (List ℕ)) (key text : List ℕ) → among (with_key keys key) text ≡ (bytes_eq key text
    || among keys text)
among-with_key keys key text =
    elim (among keys key) as (λ t. among keys key ≡ t
    → among (cond t keys (keys ++ key ∷ [])) text ≡ (bytes_eq key text || among keys text)) [
      | true ↦ λ e. elim (bytes_eq key text) as
          (λ t. bytes_eq key text ≡ t → among keys text ≡ (t || among keys text)) [
            | true ↦ λ is. ap (among keys) (sym ((bytes_eq-Decides key text).0 is)) ∙ e
            | false ↦ λ is. refl
          ] refl
      | false ↦ λ e. among-push keys key text
    ] refl

without_key : (t s : Bool) (text : List ℕ) (left texts : List (List ℕ)) (keys : List (List ℕ)) → among keys text ≡ s
    → left ≡ others keys texts → cond (not (t || s)) (text ∷ left) left ≡ others keys
    (cond (not t) (text ∷ texts) texts)
without_key true s text left texts keys e h = h
without_key false true text left texts keys e h = rw e h
without_key false false text left texts keys e h = rw e (ap (λ ts. text ∷ ts) h)

others-with_key : (keys : List (List ℕ)) (key : List ℕ) (texts : List (List ℕ))
    → others (with_key keys key) texts ≡ others keys (filter (λ other. not (bytes_eq key other)) texts)
others-with_key keys key [] = refl
others-with_key keys key (text ∷ texts) =
    rw (among-with_key keys key text)
    (without_key (bytes_eq key text) (among keys text) text _ _ keys refl (others-with_key keys key texts))

others-none : (texts : List (List ℕ)) → others [] texts ≡ texts
others-none [] = refl
others-none (text ∷ texts) = ap (λ ts. text ∷ ts) (others-none texts)

module _ {X : Type 0} where
  -- what a key has after one more pair
  abbrev given_at : List (List ℕ × X) → List ℕ → X → List ℕ → Option X
  given_at pairs key value asked = cond (bytes_eq key asked) (Some value) (value_at pairs asked)

  some_at : (pair : List ℕ × X) (pairs : List (List ℕ × X)) (asked : List ℕ)
      → value_at (pair ∷ pairs) asked ≡ cond (bytes_eq pair.0 asked) (Some pair.1) (value_at pairs asked)
  some_at pair pairs asked =
      elim (bytes_eq pair.0 asked) as (λ t. option_map (λ (pair : List ℕ × X). pair.1)
      (cond t (Some pair) (find (λ (pair : List ℕ × X). bytes_eq pair.0 asked) pairs)) ≡ cond t (Some pair.1)
      (value_at pairs asked))
      [ true ↦ refl | false ↦ refl ]

  -- one pair over another of its key
  over : (key asked : List ℕ) (old value : X) (rest : Option X)
      → cond (bytes_eq key asked) (Some value) rest ≡ cond (bytes_eq key asked) (Some value)
      (cond (bytes_eq key asked) (Some old) rest)
  over key asked old value rest =
      elim (bytes_eq key asked) as (λ t. cond t (Some value) rest ≡ cond t (Some value) (cond t (Some old) rest))
      [ true ↦ refl | false ↦ refl ]

  -- two pairs of different keys are swapped
  apart : (a b asked : List ℕ) (x y : X) (rest : Option X) → bytes_eq a b ≡ false
      → cond (bytes_eq a asked) (Some x) (cond (bytes_eq b asked) (Some y) rest) ≡ cond (bytes_eq b asked) (Some y)
      (cond (bytes_eq a asked) (Some x) rest)
  apart a b asked x y rest e =
      elim (bytes_eq a asked) as (λ t. bytes_eq a asked ≡ t → cond t (Some x)
      (cond (bytes_eq b asked) (Some y) rest) ≡ cond (bytes_eq b asked) (Some y) (cond t (Some x) rest)) [
        | true ↦ λ t. let other : bytes_eq b asked ≡ false =
            ap (λ k. bytes_eq b k) (sym ((bytes_eq-Decides a asked).0 t)) ∙ flipped b a ∙ e in rw other refl
        | false ↦ λ t. refl
      ] refl
    where
      flipped : (a b : List ℕ) → bytes_eq a b ≡ bytes_eq b a
      flipped = nat_list_eq_equiv.symm

  same_key_over : (a key asked : List ℕ) (old value : X) (rest : Option X) → a ≡ key
      → cond (bytes_eq key asked) (Some value) rest ≡ cond (bytes_eq key asked) (Some value)
      (cond (bytes_eq a asked) (Some old) rest)
  same_key_over a key asked old value rest e =
      over key asked old value rest ∙ ap (λ k. cond (bytes_eq key asked) (Some value)
      (cond (bytes_eq k asked) (Some old) rest)) (sym e)

  pub with_pair-value : (pairs : List (List ℕ × X)) (key : List ℕ) (value : X) (asked : List ℕ)
      → value_at (with_pair pairs key value) asked ≡ given_at pairs key value asked
  unfolding with_pair
  with_pair-value [] key value asked = some_at (key, value) [] asked
  with_pair-value (pair ∷ pairs) key value asked =
      elim (bytes_eq pair.0 key) as (λ t. bytes_eq pair.0 key ≡ t
      → value_at (cond t ((key, value) ∷ pairs) (pair ∷ with_pair pairs key value)) asked ≡ given_at
      (pair ∷ pairs) key value asked) [
        | true ↦ λ e. some_at (key, value) pairs asked ∙ same_key_over pair.0 key asked pair.1 value
            (value_at pairs asked) ((bytes_eq-Decides pair.0 key).0 e)
            ∙ ap (cond (bytes_eq key asked) (Some value)) (sym (some_at pair pairs asked))
        | false ↦ λ e. some_at pair (with_pair pairs key value) asked
            ∙ ap (cond (bytes_eq pair.0 asked) (Some pair.1)) (with_pair-value pairs key value asked)
            ∙ apart pair.0 key asked pair.1 value (value_at pairs asked) e
            ∙ ap (cond (bytes_eq key asked) (Some value)) (sym (some_at pair pairs asked))
      ] refl

  pub with_sorted-value : (pairs : List (List ℕ × X)) (key : List ℕ) (value : X) (asked : List ℕ)
      → value_at (with_sorted pairs key value) asked ≡ given_at pairs key value asked
  unfolding with_sorted
  with_sorted-value [] key value asked = some_at (key, value) [] asked
  with_sorted-value (pair ∷ pairs) key value asked =
      elim (key_cmp pair.0 key) as (λ o. key_cmp pair.0 key ≡ o
      → value_at (beside o pair (key, value) pairs (with_sorted pairs key value)) asked ≡ given_at
      (pair ∷ pairs) key value asked) [
        | Less ↦ λ e. some_at pair (with_sorted pairs key value) asked
            ∙ ap (cond (bytes_eq pair.0 asked) (Some pair.1)) (with_sorted-value pairs key value asked)
            ∙ apart pair.0 key asked pair.1 value (value_at pairs asked) (sym (is_eq-slice_cmp pair.0 key) ∙ ap is_eq e)
            ∙ ap (cond (bytes_eq key asked) (Some value)) (sym (some_at pair pairs asked))
        | Equal ↦ λ e. some_at (key, value) pairs asked ∙ same_key_over pair.0 key asked pair.1 value
            (value_at pairs asked) ((bytes_eq-Decides pair.0 key).0 (sym (is_eq-slice_cmp pair.0 key) ∙ ap is_eq e))
            ∙ ap (cond (bytes_eq key asked) (Some value)) (sym (some_at pair pairs asked))
        | Greater ↦ λ e. some_at (key, value) (pair ∷ pairs) asked
      ] refl

  -- the last value, of one more pair before others
  last_value-cons : (pair : List ℕ × X) (given : List (List ℕ × X)) (asked : List ℕ) (before : Option X)
      → option_or (last_value (pair ∷ given) asked) before ≡ option_or (last_value given asked)
      (cond (bytes_eq pair.0 asked) (Some pair.1) before)
  last_value-cons pair given asked before =
      let split : reverse (pair ∷ given) ≡ reverse given ++ pair ∷ [] = reverse-append (pair ∷ []) given in
      rw (split, find-append) (joined (find (λ (pair : List ℕ × X). bytes_eq pair.0 asked) (reverse given)))
    where
      joined : (found : Option (List ℕ × X)) → option_or (option_map (λ (pair : List ℕ × X). pair.1)
          (option_or found (cond (bytes_eq pair.0 asked) (Some pair) None))) before
          ≡ option_or (option_map (λ (pair : List ℕ × X). pair.1) found)
          (cond (bytes_eq pair.0 asked) (Some pair.1) before)
      joined (Some x) = refl
      joined None = elim (bytes_eq pair.0 asked) as (λ t. option_or
          (option_map (λ (pair : List ℕ × X). pair.1) (cond t (Some pair) None)) before ≡ cond t (Some pair.1) before)
          [ true ↦ refl | false ↦ refl ]

  module _ (step : List (List ℕ × X) → List ℕ → X → List (List ℕ × X))
      (on : List (List ℕ × X) → List (List ℕ × X) → List (List ℕ × X))
      (none : (kept : List (List ℕ × X)) → on kept [] ≡ kept)
      (more : (kept : List (List ℕ × X)) (pair : List ℕ × X) (given : List (List ℕ × X))
      → on kept (pair ∷ given) ≡ on (step kept pair.0 pair.1) given)
      (value : (pairs : List (List ℕ × X)) (key : List ℕ) (value : X) (asked : List ℕ)
      → value_at (step pairs key value) asked ≡ given_at pairs key value asked) where
    last_on : (kept given : List (List ℕ × X)) (asked : List ℕ)
        → value_at (on kept given) asked ≡ option_or (last_value given asked) (value_at kept asked)
    last_on kept [] asked = rw (none kept) refl
    last_on kept (pair ∷ given) asked =
        rw (more kept pair given) (last_on (step kept pair.0 pair.1) given asked)
        ∙ ap (option_or (last_value given asked)) (value kept pair.0 pair.1 asked)
        ∙ sym (last_value-cons pair given asked (value_at kept asked))

  or_none : (o : Option X) → option_or o None ≡ o
  or_none None = refl
  or_none (Some x) = refl

  pub in_first_order-last : (given : List (List ℕ × X)) (asked : List ℕ)
      → value_at (in_first_order given) asked ≡ last_value given asked
  unfolding in_first_order_on
  in_first_order-last given asked = last_on with_pair in_first_order_on (λ kept. refl)
      (λ kept pair given. refl) with_pair-value [] given asked ∙ or_none (last_value given asked)

  pub in_key_order-last : (given : List (List ℕ × X)) (asked : List ℕ)
      → value_at (in_key_order given) asked ≡ last_value given asked
  unfolding in_key_order_on
  in_key_order-last given asked = last_on with_sorted in_key_order_on (λ kept. refl)
      (λ kept pair given. refl) with_sorted-value [] given asked ∙ or_none (last_value given asked)

  with_pair-keys : (pairs : List (List ℕ × X)) (key : List ℕ) (value : X)
      → keys_of (with_pair pairs key value) ≡ with_key (keys_of pairs) key
  unfolding with_pair
  with_pair-keys [] key value = refl
  with_pair-keys (pair ∷ pairs) key value =
      elim (bytes_eq pair.0 key) as (λ t. bytes_eq pair.0 key ≡ t
      → keys_of (cond t ((key, value) ∷ pairs) (pair ∷ with_pair pairs key value))
      ≡ cond (t || among (keys_of pairs) key) (keys_of (pair ∷ pairs)) (keys_of (pair ∷ pairs) ++ key ∷ [])) [
        | true ↦ λ e. ap (λ k. k ∷ keys_of pairs) (sym ((bytes_eq-Decides pair.0 key).0 e))
        | false ↦ λ e. ap (λ ks. pair.0 ∷ ks) (with_pair-keys pairs key value) ∙ behind (among (keys_of pairs) key)
      ] refl
    where
      behind : (t : Bool) → pair.0 ∷ cond t (keys_of pairs) (keys_of pairs ++ key ∷ [])
          ≡ cond t (keys_of (pair ∷ pairs)) (keys_of (pair ∷ pairs) ++ key ∷ [])
      behind true = refl
      behind false = refl

  keys_on : (kept given : List (List ℕ × X))
      → keys_of (in_first_order_on kept given) ≡ keys_of kept ++ others (keys_of kept) (first_of_each (keys_of given))
  unfolding in_first_order_on first_of_each
  keys_on kept [] = sym (append-nil (keys_of kept))
  keys_on kept (pair ∷ given) =
      keys_on (with_pair kept pair.0 pair.1) given
      ∙ ap (λ keys. keys ++ others keys (first_of_each (keys_of given))) (with_pair-keys kept pair.0 pair.1)
      ∙ ap (λ ts. with_key (keys_of kept) pair.0 ++ ts) (others-with_key (keys_of kept) pair.0
      (first_of_each (keys_of given)))
      ∙ joined (among (keys_of kept) pair.0)
    where
      rest : List (List ℕ)
      rest = others (keys_of kept) (filter (λ other. not (bytes_eq pair.0 other)) (first_of_each (keys_of given)))

      joined : (t : Bool) → cond t (keys_of kept) (keys_of kept ++ pair.0 ∷ []) ++ rest ≡ keys_of kept
          ++ cond (not t) (pair.0 ∷ rest) rest
      joined true = refl
      joined false = append_assoc (keys_of kept) (pair.0 ∷ []) rest

  pub in_first_order-keys : (given : List (List ℕ × X)) → keys_of (in_first_order given) ≡ first_of_each (keys_of given)
  in_first_order-keys given = keys_on [] given ∙ others-none (first_of_each (keys_of given))

  distinct_on : (kept given : List (List ℕ × X)) → IsDistinct (pointwise nat_eq) (keys_of kept)
      → IsDistinct (pointwise nat_eq) (keys_of (in_first_order_on kept given))
  unfolding in_first_order_on
  distinct_on kept [] h = h
  distinct_on kept (pair ∷ given) h = distinct_on (with_pair kept pair.0 pair.1) given
      (with_pair-distinct kept pair.0 pair.1 h)

  pub in_first_order-distinct : (given : List (List ℕ × X)) → IsDistinct (pointwise nat_eq)
      (keys_of (in_first_order given))
  unfolding IsDistinct
  in_first_order-distinct given = distinct_on [] given tt

  ordered_on : (kept given : List (List ℕ × X)) → IsInKeyOrder kept → IsInKeyOrder (in_key_order_on kept given)
  unfolding in_key_order_on
  ordered_on kept [] h = h
  ordered_on kept (pair ∷ given) h = ordered_on (with_sorted kept pair.0 pair.1) given
      (with_sorted-ordered kept pair.0 pair.1 h)

  pub in_key_order-ordered : (given : List (List ℕ × X)) → IsInKeyOrder (in_key_order given)
  unfolding IsStrictlySortedBy
  in_key_order-ordered given = ordered_on [] given tt

  pub with_pair-grows : (pairs : List (List ℕ × X)) (key : List ℕ) (value : X)
      → length pairs ≤ length (with_pair pairs key value)
  unfolding with_pair
  with_pair-grows [] key value = omega arith
  with_pair-grows (pair ∷ pairs) key value =
      elim (bytes_eq pair.0 key) as (λ t. length (pair ∷ pairs) ≤ length
      (cond t ((key, value) ∷ pairs) (pair ∷ with_pair pairs key value)))
      [ true ↦ omega arith | false ↦ (let h = with_pair-grows pairs key value in omega arith) ]

  pub with_sorted-grows : (pairs : List (List ℕ × X)) (key : List ℕ) (value : X)
      → length pairs ≤ length (with_sorted pairs key value)
  unfolding with_sorted
  with_sorted-grows [] key value = omega arith
  with_sorted-grows (pair ∷ pairs) key value =
      elim (key_cmp pair.0 key) as (λ o. length (pair ∷ pairs) ≤ length
      (beside o pair (key, value) pairs (with_sorted pairs key value))) [
        | Less ↦ (let h = with_sorted-grows pairs key value in omega arith)
        | Equal ↦ omega arith
        | Greater ↦ omega arith
      ]

  -- what pairs are kept is never fewer than what was kept before more were given
  pub in_key_order_on-grows : (kept given : List (List ℕ × X)) → length kept ≤ length (in_key_order_on kept given)
  unfolding in_key_order_on
  in_key_order_on-grows kept [] = omega arith
  in_key_order_on-grows kept (pair ∷ given) =
      let one = with_sorted-grows kept pair.0 pair.1 in let others =
      in_key_order_on-grows (with_sorted kept pair.0 pair.1) given in omega arith

  pub in_first_order_on-grows : (kept given : List (List ℕ × X)) → length kept ≤ length (in_first_order_on kept given)
  unfolding in_first_order_on
  in_first_order_on-grows kept [] = omega arith
  in_first_order_on-grows kept (pair ∷ given) =
      let one = with_pair-grows kept pair.0 pair.1 in let others =
      in_first_order_on-grows (with_pair kept pair.0 pair.1) given in omega arith
