-- Calls of a pass in a history and in its beginnings.
use Rattle.std.proofs.Common.{◌≡◌, ◌≢◌, ℕ, ◌≤◌, eqb, List, [], ◌∷◌, ◌++◌, length, sym, refl, ap, ◌∙◌, Bool, eq-eqb}
use Rattle.std.proofs.Common.{ne_eqb, append_assoc, if◌then◌else◌}
use Rattle.turnstile.specs.declared.history.Call.{Call}
use Rattle.turnstile.specs.History.{calls_by, IsPrefix, but_last}
use Rattle.turnstile.proofs.CallerLemmas.{calls_by-append, append_nil, prefix_compare}

module _ {O A : Type 0} where
  -- a call is one of its pass
  pub calls_by-own : (n : ℕ) (c : Call O A) → c.pass ≡ n → calls_by n (c ∷ []) ≡ c ∷ []
  calls_by-own n c e = ap (λ (b : Bool). let z : List (Call O A) = [] in if b then (c ∷ z) else z) (eq-eqb c.pass n e)

  -- a call is none of another pass
  pub calls_by-other : (n : ℕ) (c : Call O A) → c.pass ≢ n → calls_by n (c ∷ []) ≡ []
  calls_by-other n c e = ap (λ (b : Bool). let z : List (Call O A) = [] in
      if b then (c ∷ z) else z) (ne_eqb c.pass n e)

  -- a list with one call more, but for the last call
  pub but_last-snoc : (xs : List (Call O A)) (c : Call O A) → but_last (xs ++ c ∷ []) ≡ xs
  but_last-snoc [] c = refl
  but_last-snoc (x ∷ []) c = refl
  but_last-snoc (x ∷ y ∷ ys) c = ap (λ (l : List (Call O A)). x ∷ l) (but_last-snoc (y ∷ ys) c)

  -- what can stand behind a list and leave it the same is nothing
  no_more : (xs ys : List (Call O A)) → xs ++ ys ≡ xs → ys ≡ []
  no_more [] ys e = e
  no_more (x ∷ xs) ys e = let e' : x ∷ (xs ++ ys) ≡ x ∷ xs = e in let t : xs ++ ys ≡ xs = cc in no_more xs ys t

  -- the first part of an empty list is empty
  nil_left : (xs ys : List (Call O A)) → xs ++ ys ≡ [] → xs ≡ []
  nil_left [] ys e = refl
  nil_left (x ∷ xs) ys e = let e' : x ∷ (xs ++ ys) ≡ [] = e in absurd (cc)

  -- a pass without calls in a history has none in its beginning
  pub nil_before : (n : ℕ) (xs history : List (Call O A)) → IsPrefix xs history → calls_by n history ≡ []
      → calls_by n xs ≡ []
  nil_before n xs history p e = nil_left (calls_by n xs) (calls_by n p.0) (sym (calls_by-append n xs p.0)
      ∙ (ap (λ (l : List (Call O A)). calls_by n l) (sym p.1) ∙ e))

  -- the rest has no call of this number
  pub none_after : (n : ℕ) (xs history cs : List (Call O A)) (p : IsPrefix xs history) → calls_by n xs ≡ cs
      → calls_by n history ≡ cs → calls_by n p.0 ≡ []
  none_after n xs history cs p e f = no_more (calls_by n xs) (calls_by n p.0) (sym (calls_by-append n xs p.0)
      ∙ (ap (λ (l : List (Call O A)). calls_by n l) (sym p.1) ∙ (f ∙ sym e)))

  -- all calls of a pass that stand in the shorter of two beginnings are all that stand in the longer
  pub between : (n : ℕ) (xs ys history cs : List (Call O A)) → IsPrefix xs history → IsPrefix ys history
      → length xs ≤ length ys → calls_by n xs ≡ cs → calls_by n history ≡ cs → calls_by n ys ≡ cs
  between n xs ys history cs p q h e f = let r = prefix_compare xs ys history p q h in
      let all : history ≡ xs ++ (r.0 ++ q.0) = q.1
      ∙ (ap (λ (l : List (Call O A)). l ++ q.0) r.1 ∙ append_assoc xs r.0 q.0) in
      let none_there = none_after n xs history cs (r.0 ++ q.0, all) e f in
      let none_here = nil_left (calls_by n r.0) (calls_by n q.0) (sym (calls_by-append n r.0 q.0) ∙ none_there) in
      ap (λ (l : List (Call O A)). calls_by n l) r.1
      ∙ (calls_by-append n xs r.0 ∙ (ap (λ (l : List (Call O A)). calls_by n xs ++ l) none_here
      ∙ (sym (append_nil (calls_by n xs)) ∙ e)))

  -- a list in which no number has a call is empty
  pub no_calls : (xs : List (Call O A)) → ((n : ℕ) → calls_by n xs ≡ []) → xs ≡ []
  no_calls [] h = refl
  no_calls (c ∷ cs) h = let e : (if eqb c.pass c.pass then (c ∷ calls_by c.pass cs) else calls_by c.pass cs)
      ≡ [] = h c.pass in
      let t : (if eqb c.pass c.pass then (c ∷ calls_by c.pass cs) else calls_by c.pass cs)
      ≡ c ∷ calls_by c.pass cs = ap
      (λ (b : Bool). if b then (c ∷ calls_by c.pass cs) else calls_by c.pass cs) (eq-eqb c.pass c.pass refl) in
      let f : c ∷ calls_by c.pass cs ≡ [] = sym t ∙ e in absurd (cc)
