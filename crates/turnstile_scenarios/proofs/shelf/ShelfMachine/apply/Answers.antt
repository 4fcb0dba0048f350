use Rattle.std.proofs.Common.{◌≡◌, ℕ, ◌+◌, List, [], ◌∷◌, ◌++◌, sym, refl, ap, ◌∙◌}
use Rattle.turnstile_scenarios.specs.Stock.{Stock}
use Rattle.turnstile_scenarios.specs.Shelving.{all_but_last}
use Rattle.turnstile_scenarios.proofs.shelf.ShelfMachine.apply.Goals as goal

-- a list with one number more, but for the last one
all_but_last-snoc : (xs : List ℕ) (n : ℕ) → all_but_last (xs ++ n ∷ []) ≡ xs
all_but_last-snoc [] n = refl
all_but_last-snoc (x ∷ []) n = refl
all_but_last-snoc (x ∷ y ∷ ys) n = ap (λ (l : List ℕ). x ∷ l) (all_but_last-snoc (y ∷ ys) n)

-- what is left where the last number was taken
left_of : (xs ys : List ℕ) (n : ℕ) → xs ≡ ys ++ n ∷ [] → ys ≡ all_but_last xs
left_of xs ys n e = sym (ap all_but_last e ∙ all_but_last-snoc ys n)

-- the stock after a number was taken
taken_of : Stock → Stock
taken_of s = record { items = all_but_last s.items; taken = s.taken + 1 }

pub returns-in-Some-clause-after : goal.returns-in-Some-clause-after
unfolding taken_of
returns-in-Some-clause-after c =
    let left = left_of c.self.inside.items.items c.pop.new.self.items c.in-Some.n c.in-Some.ensures.items in
    let With : List ℕ → Stock = λ l. record { items = l; taken = c.self.inside.taken + 1 } in
    rw c.in-Take.is (ap With left ∙ ap taken_of c.self.view_is)
