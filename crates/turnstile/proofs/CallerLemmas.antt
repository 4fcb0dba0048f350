-- What callers cite: of joined lists of calls the state after them, their legality and the calls of a pass; beginnings.
use Rattle.std.proofs.Common.{◌≡◌, ℕ, ◌≤◌, eqb, List, [], ◌∷◌, ◌++◌, length, sym, refl, ap, ◌∙◌, arith, Bool, true}
use Rattle.std.proofs.Common.{false, append_assoc, if◌then◌else◌}
use Rattle.turnstile.specs.declared.history.Call.{Call}
use Rattle.turnstile.specs.declared.history.View.{View}
use Rattle.turnstile.specs.History.{call_of, calls_by, IsPrefix, replay, IsLegal}
use Rattle.turnstile.specs.Calls.{Calls}

module _ {O A : Type 0} where
  -- a call that is kept or not, before a joined list
  with_if : (b : Bool) (c : Call O A) (xs ys : List (Call O A))
      → (if b then (c ∷ (xs ++ ys)) else (xs ++ ys)) ≡ (if b then (c ∷ xs) else xs) ++ ys
  with_if true c xs ys = refl
  with_if false c xs ys = refl

  -- the calls of a pass in a joined list are those in its parts
  pub calls_by-append : (n : ℕ) (xs ys : List (Call O A)) → calls_by n (xs ++ ys) ≡ calls_by n xs ++ calls_by n ys
  calls_by-append n [] ys = refl
  calls_by-append n (c ∷ cs) ys = ap (λ (zs : List (Call O A)). if eqb c.pass n then (c ∷ zs) else zs)
      (calls_by-append n cs ys) ∙ with_if (eqb c.pass n) c (calls_by n cs) (calls_by n ys)

  -- what begins a list begins a longer one
  pub prefix_more : (xs ys zs : List (Call O A)) → IsPrefix xs ys → IsPrefix xs (ys ++ zs)
  prefix_more xs ys zs p = (p.0 ++ zs, ap (λ (l : List (Call O A)). l ++ zs) p.1 ∙ append_assoc xs p.0 zs)

  -- a list with nothing behind it
  pub append_nil : (xs : List (Call O A)) → xs ≡ xs ++ []
  append_nil [] = refl
  append_nil (x ∷ xs) = ap (λ (l : List (Call O A)). x ∷ l) (append_nil xs)

  -- a list begins itself
  pub prefix_refl : (xs : List (Call O A)) → IsPrefix xs xs
  prefix_refl xs = ([], append_nil xs)

  -- of two beginnings of one list the shorter begins the longer
  pub prefix_compare : (xs ys history : List (Call O A)) → IsPrefix xs history → IsPrefix ys history
      → length xs ≤ length ys → IsPrefix xs ys
  prefix_compare [] ys history p q h = (ys, refl)
  prefix_compare (x ∷ xs) [] history p q h = absurd (omega arith)
  prefix_compare (x ∷ xs) (y ∷ ys) [] p q h = let e = p.1 in absurd (cc)
  prefix_compare (x ∷ xs) (y ∷ ys) (l ∷ ls) p q h = let e : l ∷ ls ≡ x ∷ (xs ++ p.0) = p.1 in
      let e' : l ∷ ls ≡ y ∷ (ys ++ q.0) = q.1 in
      let hx : x ≡ y = cc in let t : ls ≡ xs ++ p.0 = cc in let t' : ls ≡ ys ++ q.0 = cc in
      let r = prefix_compare xs ys ls (p.0, t) (q.0, t') (omega arith) in
      (r.0, ap (λ (z : Call O A × List (Call O A)). z.0 ∷ z.1) (λ i. (sym hx i, r.1 i)))

module _ {S O A : Type 0} (allows : S → O → A → Type 0) (next : S → O → A → S) where
  -- the state after joined lists
  pub replay-append : (s : S) (xs ys : List (Call O A)) → replay next s (xs ++ ys) ≡ replay next (replay next s xs) ys
  replay-append s [] ys = refl
  replay-append s (c ∷ cs) ys = replay-append (next s c.op c.answer) cs ys

  -- joined lists are legal where the second is so after the first
  pub legal-append : (s : S) (xs ys : List (Call O A)) → IsLegal allows next s xs
      → IsLegal allows next (replay next s xs) ys → IsLegal allows next s (xs ++ ys)
  legal-append s [] ys p q = q
  legal-append s (c ∷ cs) ys p q = (p.0, legal-append (next s c.op c.answer) cs ys p.1 q)

module _ {S O A : Type 0} (allows : S → O → A → Type 0) (next : S → O → A → S) (dial_of : S → ℕ → ℕ) (start : S) where
  -- what a pass has seen after a call begins with what it had seen before
  pub seen_grows : (v w : View O A) (op : O) (answer : A) (number : ℕ)
      → Calls allows next dial_of start v op answer number w → IsPrefix v.seen w.seen
  seen_grows v w op answer number c =
      let call : Call O A = call_of v.number (op, answer) in
      (c.more ++ call ∷ [], ap (λ (x : View O A). x.seen) c.view_is ∙ append_assoc v.seen c.more (call ∷ []))
