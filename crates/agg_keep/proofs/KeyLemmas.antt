-- Elements by their keys, and maps with room for keys.
use Rattle.std.proofs.Common.{◌≡◌, ◌||◌, true, false, cond, not, Bool, List, [], ◌∷◌, ◌++◌, filter, refl, sym, ap}
use Rattle.std.proofs.Common.{◌∙◌, append-nil, subst, Some, None}
use Rattle.std.specs.Prelude.{is_some, Option, Result, Ok, Err, OnOk, OnErr, IsSome, option_and_then}
use Rattle.std.specs.Bool.{Decides}
use Rattle.std.specs.Borrow.{Bor}
use Rattle.std.specs.List.{list_any, AllByRecursion}
use Rattle.std.specs.Option.{option_copied}
use Rattle.std.specs.Ordering.{is_eq}
use Rattle.std.specs.declared.cmp.Ordering.{Ordering}
use Rattle.std.proofs.lemmas.List.Elements.{filter-append}
use Rattle.std.proofs.lemmas.List.Folds.{list_any-append}
use Rattle.agg_keep.specs.Keyed.{entry_by, firsts, held_by, with_key, HasRoom}

true_false : true ≡ false → ⊥
true_false e = absurd cc

pub not_same : (t : Bool) → (t ≡ true → ⊥) → t ≡ false
not_same true h = absurd (h refl)
not_same false h = refl

or_true : (t : Bool) → (t || true) ≡ true
or_true true = refl
or_true false = refl

or_false : (t : Bool) → (t || false) ≡ t
or_false true = refl
or_false false = refl

pub turned_cond : {X : Type 0} (t : Bool) (a b : X) → cond (not t) a b ≡ cond t b a
turned_cond true a b = refl
turned_cond false a b = refl

same_cond : {X : Type 0} (t : Bool) (x : X) → cond t x x ≡ x
same_cond true x = refl
same_cond false x = refl

-- ---- filters

pub filter_swap : {X : Type 0} (f g : X → Bool) (xs : List X) → filter f (filter g xs) ≡ filter g (filter f xs)
filter_swap f g [] = refl
filter_swap {X = X} f g (x ∷ xs) =
    elim (f x) as (λ s. f x ≡ s → filter f (cond (g x) (x ∷ filter g xs) (filter g xs)) ≡ filter g
    (cond s (x ∷ filter f xs) (filter f xs))) [
      | true ↦ λ e. elim (g x) as (λ t. filter f (cond t (x ∷ filter g xs) (filter g xs)) ≡ cond t
          (x ∷ filter g (filter f xs)) (filter g (filter f xs))) [
            | true ↦ rw e (ap (λ (rest : List X). x ∷ rest) (filter_swap f g xs))
            | false ↦ filter_swap f g xs
          ]
      | false ↦ λ e. elim (g x) as (λ t. filter f (cond t (x ∷ filter g xs) (filter g xs)) ≡ filter g (filter f xs)) [
        | true ↦ rw e (filter_swap f g xs)
        | false ↦ filter_swap f g xs
      ]
    ] refl

pub filter_each : {X : Type 0} (f g : X → Bool) (xs : List X) → AllByRecursion (λ x. f x ≡ g x) xs
    → filter f xs ≡ filter g xs
filter_each f g [] h = refl
filter_each {X = X} f g (x ∷ xs) h =
    rw h.0 (ap (λ (rest : List X). cond (g x) (x ∷ rest) rest) (filter_each f g xs h.1))

any_left : {X : Type 0} (f p : X → Bool) → ((x : X) → f x ≡ true → p x ≡ true) → (xs : List X)
    → list_any f xs ≡ true → list_any f (filter p xs) ≡ true
any_left f p stay [] e = e
any_left f p stay (x ∷ xs) e =
    elim (f x) as (λ s. f x ≡ s → (s || list_any f xs) ≡ true
    → list_any f (cond (p x) (x ∷ filter p xs) (filter p xs)) ≡ true) [
      | true ↦ λ here e. rw (stay x here, here) refl
      | false ↦ λ here e. elim (p x) as (λ t. list_any f (cond t (x ∷ filter p xs) (filter p xs)) ≡ true) [
        | true ↦ rw here (any_left f p stay xs e)
        | false ↦ any_left f p stay xs e
      ]
    ] refl e

-- ---- elements by their keys

module _ {M K : Type 0} (same : K → K → Bool) (key : M → K) (decides : (a b : K) → Decides (same a b) (a ≡ b)) where
  pub turned : (a b : K) (t : Bool) → same a b ≡ t → same b a ≡ t
  turned a b true e = (decides b a).1 (sym ((decides a b).0 e))
  turned a b false e = not_same (same b a) (λ it. true_false (sym ((decides a b).1 (sym ((decides b a).0 it))) ∙ e))

  -- is there an element of a key
  abbrev pub has : K → List M → Bool
  has k ms = list_any (λ m. same k (key m)) ms

  abbrev others : K → List K → List K
  others k all = filter (λ other. not (same k other)) all

  pub firsts-push : (ms : List M) (m : M)
      → firsts same key (ms ++ m ∷ []) ≡ cond (has (key m) ms) (firsts same key ms) (firsts same key ms ++ key m ∷ [])
  unfolding firsts
  firsts-push [] m = refl
  firsts-push (n ∷ ms) m =
      let s = key m in
      let f = key n in
      ap (λ (rest : List K). f ∷ others f rest) (firsts-push ms m)
      ∙ elim (has s ms) as (λ h. f ∷ others f (cond h (firsts same key ms) (firsts same key ms ++ s ∷ [])) ≡ cond
      (same s f || h) (f ∷ others f (firsts same key ms)) ((f ∷ others f (firsts same key ms)) ++ s ∷ [])) [
        | true ↦ elim (same s f) as (λ t. f ∷ others f (firsts same key ms) ≡ cond (t || true)
            (f ∷ others f (firsts same key ms)) ((f ∷ others f (firsts same key ms)) ++ s ∷ []))
            [ true ↦ refl | false ↦ refl ]
        | false ↦ ap (λ (rest : List K). f ∷ rest)
            (filter-append (λ other. not (same f other)) (firsts same key ms) (s ∷ []))
            ∙ elim (same s f) as (λ t. same s f ≡ t
            → f ∷ (others f (firsts same key ms) ++ others f (s ∷ [])) ≡ cond (t || false)
            (f ∷ others f (firsts same key ms)) ((f ∷ others f (firsts same key ms)) ++ s ∷ [])) [
              | true ↦ λ e. rw (turned s f true e) (ap (λ (rest : List K). f ∷ rest)
                  (append-nil (others f (firsts same key ms))))
              | false ↦ λ e. rw (turned s f false e) refl
            ] refl
      ]

  pub no_elements : (k : K) (ms : List M) → has k ms ≡ false → with_key same key k ms ≡ []
  no_elements k [] e = refl
  no_elements k (m ∷ ms) e =
      elim (same k (key m)) as (λ t. (t || has k ms) ≡ false
      → cond t (m ∷ with_key same key k ms) (with_key same key k ms) ≡ []) [
        | true ↦ λ e. absurd (true_false e)
        | false ↦ λ e. no_elements k ms e
      ] e

  pub own_elements : (k : K) (ms : List M) (m : M) → same k (key m) ≡ true
      → with_key same key k (ms ++ m ∷ []) ≡ with_key same key k ms ++ m ∷ []
  own_elements k ms m e = filter-append (λ n. same k (key n)) ms (m ∷ []) ∙ rw e refl

  pub other_elements : (k : K) (ms : List M) (m : M) → same k (key m) ≡ false
      → with_key same key k (ms ++ m ∷ []) ≡ with_key same key k ms
  other_elements k ms m e =
      filter-append (λ n. same k (key n)) ms (m ∷ []) ∙ rw e (append-nil (with_key same key k ms))

  any-push : (k : K) (ms : List M) (m : M) → has k (ms ++ m ∷ []) ≡ (has k ms || same k (key m))
  any-push k ms m =
      list_any-append (λ n. same k (key n)) ms (m ∷ []) ∙ ap (λ (t : Bool). has k ms || t) (or_false (same k (key m)))

  pub any_own : (k : K) (ms : List M) (m : M) → same k (key m) ≡ true → has k (ms ++ m ∷ []) ≡ true
  any_own k ms m e = any-push k ms m ∙ ap (λ (t : Bool). has k ms || t) e ∙ or_true (has k ms)

  pub any_other : (k : K) (ms : List M) (m : M) → same k (key m) ≡ false → has k (ms ++ m ∷ []) ≡ has k ms
  any_other k ms m e = any-push k ms m ∙ ap (λ (t : Bool). has k ms || t) e ∙ or_false (has k ms)

  left_all : (P : K → Type 0) (p : K → Bool) (ks : List K) → AllByRecursion P ks → AllByRecursion P (filter p ks)
  left_all P p [] h = tt
  left_all P p (k ∷ ks) h =
      elim (p k) as (λ t. AllByRecursion P (cond t (k ∷ filter p ks) (filter p ks)))
      [ true ↦ (h.0, left_all P p ks h.1) | false ↦ left_all P p ks h.1 ]

  more_have : (m : M) (ms : List M) (ks : List K) → AllByRecursion (λ k. has k ms ≡ true) ks
      → AllByRecursion (λ k. has k (m ∷ ms) ≡ true) ks
  more_have m ms [] h = tt
  more_have m ms (k ∷ ks) h = (
    ap (λ (t : Bool). same k (key m) || t) h.0 ∙ or_true (same k (key m)),
    more_have m ms ks h.1,
  )

  -- each key has an element
  pub all_have : (ms : List M) → AllByRecursion (λ k. has k ms ≡ true) (firsts same key ms)
  unfolding firsts
  all_have [] = tt
  all_have (m ∷ ms) = (
    ap (λ (t : Bool). t || has (key m) ms) ((decides (key m) (key m)).1 refl),
    more_have m ms (others (key m) (firsts same key ms))
        (left_all (λ k. has k ms ≡ true) (λ other. not (same (key m) other)) (firsts same key ms) (all_have ms)),
  )

  -- a key that has an element is among the first ones
  pub any_first : (k : K) (ms : List M) → has k ms ≡ true → list_any (λ one. same one k) (firsts same key ms) ≡ true
  unfolding firsts
  any_first k [] e = e
  any_first k (m ∷ ms) e =
      elim (same k (key m)) as (λ t. same k (key m) ≡ t → (t || has k ms) ≡ true
      → (same (key m) k || list_any (λ one. same one k) (others (key m) (firsts same key ms))) ≡ true) [
        | true ↦ λ here e. rw (turned k (key m) true here) refl
        | false ↦ λ here e.
            let stay = λ (one : K) (is : same one k ≡ true). ap not (not_same (same (key m) one)
            (λ it. true_false (sym ((decides k (key m)).1 (sym ((decides (key m) one).0 it ∙ (decides one k).0 is)))
            ∙ here))) in
            rw (turned k (key m) false here)
            (any_left (λ one. same one k) (λ other. not (same (key m) other)) stay (firsts same key ms)
            (any_first k ms e))
      ] refl e

  -- what a test of keys takes out doesn't stand among the others of a key that it takes out
  gone : (p : K → Bool) (k : K) → p k ≡ false → (ks : List K) → filter p (others k ks) ≡ filter p ks
  gone p k out [] = refl
  gone p k out (one ∷ ks) =
      elim (same k one) as (λ t. same k one ≡ t
      → filter p (cond (not t) (one ∷ others k ks) (others k ks)) ≡ cond (p one) (one ∷ filter p ks) (filter p ks)) [
        | true ↦ λ e. rw (ap p (sym ((decides k one).0 e)) ∙ out) (gone p k out ks)
        | false ↦ λ e. ap (λ (rest : List K). cond (p one) (one ∷ rest) rest) (gone p k out ks)
      ] refl

  -- elements that are left by a test of their keys
  pub firsts-filter : (p : K → Bool) (ms : List M)
      → firsts same key (filter (λ m. p (key m)) ms) ≡ filter p (firsts same key ms)
  unfolding firsts
  firsts-filter p [] = refl
  firsts-filter p (m ∷ ms) =
      elim (p (key m)) as (λ t. p (key m) ≡ t
      → firsts same key (cond t (m ∷ filter (λ m. p (key m)) ms) (filter (λ m. p (key m)) ms))
      ≡ cond t (key m ∷ filter p (others (key m) (firsts same key ms)))
      (filter p (others (key m) (firsts same key ms)))) [
        | true ↦ λ e. ap (λ (rest : List K). key m ∷ rest)
            (ap (λ (rest : List K). others (key m) rest) (firsts-filter p ms)
            ∙ filter_swap (λ other. not (same (key m) other)) p (firsts same key ms))
        | false ↦ λ e. firsts-filter p ms ∙ sym (gone p (key m) e (firsts same key ms))
      ] refl

  pub with_key-filter : (p : K → Bool) (k : K) (ms : List M)
      → with_key same key k (filter (λ m. p (key m)) ms) ≡ cond (p k) (with_key same key k ms) []
  with_key-filter p k [] = sym (same_cond (p k) [])
  with_key-filter p k (m ∷ ms) =
      elim (same k (key m)) as (λ t. same k (key m) ≡ t
      → with_key same key k (cond (p (key m)) (m ∷ filter (λ m. p (key m)) ms) (filter (λ m. p (key m)) ms))
      ≡ cond (p k) (cond t (m ∷ with_key same key k ms) (with_key same key k ms)) []) [
        | true ↦ λ e. rw (ap p (sym ((decides k (key m)).0 e)))
            (elim (p k) as (λ s. with_key same key k (filter (λ m. p (key m)) ms) ≡ cond s (with_key same key k ms) []
            → with_key same key k (cond s (m ∷ filter (λ m. p (key m)) ms) (filter (λ m. p (key m)) ms))
            ≡ cond s (m ∷ with_key same key k ms) []) [
              | true ↦ λ rest. rw e (ap (λ (left : List M). m ∷ left) rest)
              | false ↦ λ rest. rest
            ] (with_key-filter p k ms))
        | false ↦ λ e. elim (p (key m)) as (λ s.
            with_key same key k (cond s (m ∷ filter (λ m. p (key m)) ms) (filter (λ m. p (key m)) ms))
            ≡ cond (p k) (with_key same key k ms) [])
            [ true ↦ rw e (with_key-filter p k ms) | false ↦ with_key-filter p k ms ]
      ] refl

-- ---- maps with room for keys

abbrev Entries : Type 0 → Type 0 → Type 0
Entries K V = List (K × Option V)

module _ {K V : Type 0} (same : K → K → Bool) (cmp : K → K → Ordering)
    (decides : (a b : K) → Decides (same a b) (a ≡ b)) (ties : (a b : K) → same a b ≡ is_eq (cmp a b)) where
  -- room for a key holds nothing
  pub room_made : (old new : Entries K V) (k : K) → entry_by cmp old k ≡ None
      → ((q : K) → entry_by cmp new q ≡ cond (is_eq (cmp k q)) (Some None) (entry_by cmp old q))
      → (q : K) → held_by cmp new q ≡ held_by cmp old q
  room_made old new k none put q =
      elim (same k q) as (λ t. same k q ≡ t → held_by cmp new q ≡ held_by cmp old q) [
        | true ↦ λ e.
            let at : is_eq (cmp k q) ≡ true = sym (ties k q) ∙ e in
            let here : entry_by cmp old q ≡ None = ap (entry_by cmp old) (sym ((decides k q).0 e)) ∙ none in
            rw (put q, at, here) refl
        | false ↦ λ e.
            let at : is_eq (cmp k q) ≡ false = sym (ties k q) ∙ e in
            rw (put q, at) refl
      ] refl

  value_put : (old new : Entries K V) (k : K) (value : V)
      → ((q : K) → entry_by cmp new q ≡ cond (is_eq (cmp k q)) (Some (Some value)) (entry_by cmp old q))
      → (q : K) → held_by cmp new q ≡ cond (same k q) (Some value) (held_by cmp old q)
  value_put old new k value put q =
      rw (put q, ties k q)
      (elim (is_eq (cmp k q)) as (λ t. option_and_then (λ (entry : Option V). entry)
      (cond t (Some (Some value)) (entry_by cmp old q)) ≡ cond t (Some value) (held_by cmp old q))
      [ true ↦ refl | false ↦ refl ])

  -- a key, the same one and a value: there is room for the first as for the key
  pub parts_room : (old : Entries K V) (parts : K × K × V) (k : K) (value : V) → parts ≡ (k, k, value)
      → HasRoom cmp old k → HasRoom cmp old parts.0
  parts_room old parts k value e room = subst (HasRoom cmp old) (sym (ap (λ (p : K × K × V). p.0) e)) room

  -- and the value is put under it
  pub parts_put : (old new : Entries K V) (parts : K × K × V) (k : K) (value : V) → parts ≡ (k, k, value)
      → ((q : K) → entry_by cmp new q ≡ cond (is_eq (cmp parts.0 q)) (Some (Some parts.2)) (entry_by cmp old q))
      → (q : K) → held_by cmp new q ≡ cond (same k q) (Some value) (held_by cmp old q)
  parts_put old new parts k value e put =
      value_put old new k value
      (λ q. put q ∙ ap (λ (p : K × K × V). cond (is_eq (cmp p.0 q)) (Some (Some p.2)) (entry_by cmp old q)) e)

pub succeeds : {A E X U : Type 0} (result : Result A E) (entry : Option X) → OnOk result U → OnErr result (entry ≡ None)
    → IsSome entry → U
succeeds (Ok x) entry ok err here = ok
succeeds (Err e) (Some x) ok err here = cc
succeeds (Err e) None ok err here = cc

pub none_copied : {X : Type 0} (found : Option (Bor X)) → is_some found ≡ false → option_copied found ≡ None
none_copied (Some x) h = cc
none_copied None h = refl

pub some_same : {X : Type 0} (a b : X) → Some a ≡ Some b → a ≡ b
some_same a b e = cc
