-- What is put among pairs one after the other is gathered by keys, each where it came first.
use Rattle.std.proofs.Common.{◌≡◌, ℕ, Bool, true, false, cond, not, List, [], ◌∷◌, ◌++◌, map, filter, refl, sym, ap}
use Rattle.std.proofs.Common.{subst, ◌∙◌, append_assoc, append-nil}
use Rattle.std.specs.List.{fold}
use Rattle.std.specs.Str.{bytes_eq}
use Rattle.std.proofs.lemmas.List.Elements.{filter-append}
use Rattle.std.proofs.lemmas.List.Sums.{fold-append}
use Rattle.std.proofs.lemmas.Slice.Eq.{bytes_eq-Decides}
use Rattle.metric.specs.Pairs.{first_of_each, put_in}

-- ---- equal texts

pub same_texts : (a b : List ℕ) → a ≡ b → bytes_eq a b ≡ true
same_texts a b e = (bytes_eq-Decides a b).1 e

pub not_same : (t : Bool) → (t ≡ true → ⊥) → t ≡ false
not_same true h = absurd (h refl)
not_same false h = refl

true_false : true ≡ false → ⊥
true_false e = absurd cc

pub turned : (a b : List ℕ) (t : Bool) → bytes_eq a b ≡ t → bytes_eq b a ≡ t
turned a b true e = same_texts b a (sym ((bytes_eq-Decides a b).0 e))
turned a b false e = not_same (bytes_eq b a) (λ same. true_false
    (sym (same_texts a b (sym ((bytes_eq-Decides b a).0 same))) ∙ e))

-- ---- what is put at one key, among those of other keys

module _ {X : Type 0} (change : X → X) (start : X) where
  -- without the pairs of the key it is as before
  gone : (key : List ℕ) (gs : List (List ℕ × X)) → filter (λ g. not (bytes_eq key g.0))
      (put_in change start gs key) ≡ filter (λ g. not (bytes_eq key g.0)) gs
  unfolding put_in
  gone key [] = rw (same_texts key key refl) refl
  gone key (g ∷ gs) =
      elim (bytes_eq key g.0) as (λ t. bytes_eq key g.0 ≡ t
      → filter (λ g. not (bytes_eq key g.0)) (cond t ((g.0, change g.1) ∷ gs) (g ∷ put_in change start gs key)) ≡ cond
      (not t) (g ∷ filter (λ g. not (bytes_eq key g.0)) gs) (filter (λ g. not (bytes_eq key g.0)) gs)) [
        | true ↦ λ e. rw e refl
        | false ↦ λ e. rw e (ap (λ (rest : List (List ℕ × X)). g ∷ rest) (gone key gs))
      ] refl

  pub put_gone : (one key : List ℕ) (gs : List (List ℕ × X)) → bytes_eq one key ≡ true
      → filter (λ g. not (bytes_eq one g.0)) (put_in change start gs key) ≡ filter (λ g. not (bytes_eq one g.0)) gs
  put_gone one key gs e =
      subst (λ (k : List ℕ). filter (λ g. not (bytes_eq one g.0)) (put_in change start gs k) ≡ filter
      (λ g. not (bytes_eq one g.0)) gs) ((bytes_eq-Decides one key).0 e) (gone one gs)

  -- without the pairs of another key it is put among the others
  pub put_kept : (one key : List ℕ) (gs : List (List ℕ × X)) → bytes_eq one key ≡ false
      → filter (λ g. not (bytes_eq one g.0)) (put_in change start gs key) ≡ put_in change start
      (filter (λ g. not (bytes_eq one g.0)) gs) key
  unfolding put_in
  put_kept one key [] e = rw e refl
  put_kept one key (g ∷ gs) e =
      elim (bytes_eq key g.0) as (λ t. bytes_eq key g.0 ≡ t
      → filter (λ g. not (bytes_eq one g.0)) (cond t ((g.0, change g.1) ∷ gs) (g ∷ put_in change start gs key)) ≡ put_in
      change start (cond (not (bytes_eq one g.0)) (g ∷ filter (λ g. not (bytes_eq one g.0)) gs)
      (filter (λ g. not (bytes_eq one g.0)) gs)) key) [
        | true ↦ λ t.
            let apart : bytes_eq one g.0 ≡ false = subst (λ (k : List ℕ). bytes_eq one k ≡ false)
            ((bytes_eq-Decides key g.0).0 t) e in
            rw (apart, t) refl
        | false ↦ λ t.
            elim (bytes_eq one g.0) as (λ s. bytes_eq one g.0 ≡ s
            → cond (not s) (g ∷ filter (λ g. not (bytes_eq one g.0)) (put_in change start gs key))
            (filter (λ g. not (bytes_eq one g.0)) (put_in change start gs key)) ≡ put_in change start
            (cond (not s) (g ∷ filter (λ g. not (bytes_eq one g.0)) gs)
            (filter (λ g. not (bytes_eq one g.0)) gs)) key) [
              | true ↦ λ s. put_kept one key gs e
              | false ↦ λ s. rw t (ap (λ (rest : List (List ℕ × X)). g ∷ rest) (put_kept one key gs e))
            ] refl
      ] refl

-- ---- elements by keys

module _ {P X : Type 0} (key : P → List ℕ) (step : P → X → X) (start : X) where
  -- what the elements of a key make of the start
  abbrev pub made : List ℕ → List P → X
  made k ps = fold (λ x p. step p x) start (filter (λ p. bytes_eq k (key p)) ps)

  -- the elements by keys
  unfoldable pub groups : List P → List (List ℕ × X)
  groups [] = []
  groups (p ∷ ps) = (key p, made (key p) (p ∷ ps)) ∷ filter (λ (g : List ℕ × X). not (bytes_eq (key p) g.0)) (groups ps)

  -- one more element
  abbrev pub put_one : List (List ℕ × X) → P → List (List ℕ × X)
  put_one gs p = put_in (step p) start gs (key p)

  made-push : (k : List ℕ) (ps : List P) (p : P) → made k (ps ++ p ∷ []) ≡ cond (bytes_eq k (key p))
      (step p (made k ps)) (made k ps)
  made-push k ps p =
      ap (fold (λ x p. step p x) start) (filter-append (λ p. bytes_eq k (key p)) ps (p ∷ []))
      ∙ fold-append (λ x p. step p x) start (filter (λ p. bytes_eq k (key p)) ps)
      (filter (λ p. bytes_eq k (key p)) (p ∷ []))
      ∙ elim (bytes_eq k (key p)) as (λ t. fold (λ x p. step p x) (made k ps) (cond t (p ∷ []) []) ≡ cond t
      (step p (made k ps)) (made k ps)) [ true ↦ refl | false ↦ refl ]

  groups-push : (ps : List P) (p : P) → groups (ps ++ p ∷ []) ≡ put_one (groups ps) p
  unfolding groups put_in
  groups-push [] p = rw (same_texts (key p) (key p) refl) refl
  groups-push (q ∷ ps) p =
      elim (bytes_eq (key q) (key p)) as (λ t. bytes_eq (key q) (key p) ≡ t
      → groups ((q ∷ ps) ++ p ∷ []) ≡ put_one (groups (q ∷ ps)) p) [
        | true ↦ λ t. rw (
          made-push (key q) (q ∷ ps) p,
          groups-push ps p,
          turned (key q) (key p) true t,
          t,
          put_gone (step p) start (key q) (key p) (groups ps) t,
        ) refl
        | false ↦ λ t. rw (
          made-push (key q) (q ∷ ps) p,
          groups-push ps p,
          turned (key q) (key p) false t,
          t,
          put_kept (step p) start (key q) (key p) (groups ps) t,
        ) refl
      ] refl

  from : (done rest : List P) → fold put_one (groups done) rest ≡ groups (done ++ rest)
  from done [] = sym (ap groups (append-nil done))
  from done (p ∷ rest) = ap (λ (gs : List (List ℕ × X)). fold put_one gs rest) (sym (groups-push done p))
      ∙ from (done ++ p ∷ []) rest ∙ ap groups (append_assoc done (p ∷ []) rest)

  pub put_are_groups : (ps : List P) → fold put_one [] ps ≡ groups ps
  unfolding groups
  put_are_groups ps = from [] ps

  others : (p : P) (ps : List P) (ks : List (List ℕ)) → filter (λ (g : List ℕ × X). not (bytes_eq (key p) g.0))
      (map (λ k. (k, made k ps)) ks) ≡ map (λ k. (k, made k (p ∷ ps))) (filter (λ k. not (bytes_eq (key p) k)) ks)
  others p ps [] = refl
  others p ps (k ∷ ks) =
      elim (bytes_eq (key p) k) as (λ t. bytes_eq (key p) k ≡ t
      → cond (not t) ((k, made k ps) ∷ filter (λ (g : List ℕ × X). not (bytes_eq (key p) g.0))
      (map (λ k. (k, made k ps)) ks)) (filter (λ (g : List ℕ × X). not (bytes_eq (key p) g.0))
      (map (λ k. (k, made k ps)) ks))
      ≡ map (λ k. (k, made k (p ∷ ps))) (cond (not t) (k ∷ filter (λ k. not (bytes_eq (key p) k)) ks)
      (filter (λ k. not (bytes_eq (key p) k)) ks))) [
        | true ↦ λ e. others p ps ks
        | false ↦ λ e. rw (turned (key p) k false e) (ap (λ (rest : List (List ℕ × X)). (k, made k ps) ∷ rest)
            (others p ps ks))
      ] refl

  -- each key where it came first, with what its elements make
  pub groups_are : (ps : List P) → groups ps ≡ map (λ k. (k, made k ps)) (first_of_each (map key ps))
  unfolding groups first_of_each
  groups_are [] = refl
  groups_are (p ∷ ps) = ap (λ (rest : List (List ℕ × X)). (key p, made (key p) (p ∷ ps)) ∷ rest)
      (ap (filter (λ (g : List ℕ × X). not (bytes_eq (key p) g.0))) (groups_are ps)
      ∙ others p ps (first_of_each (map key ps)))

  pub put_are : (ps : List P) → fold put_one [] ps ≡ map (λ k. (k, made k ps)) (first_of_each (map key ps))
  put_are ps = put_are_groups ps ∙ groups_are ps
