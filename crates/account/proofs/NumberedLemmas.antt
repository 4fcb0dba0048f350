use Rattle.std.proofs.Common.{◌≡◌, ℕ, ◌+◌, ◌<◌, List, [], ◌∷◌, ◌++◌, length, get_or, take, sym, ◌∙◌, ap}
use Rattle.std.proofs.Common.{append_assoc, arith}
use Rattle.std.proofs.lemmas.List.{append-nil, take_more, length-take-le}
use Rattle.account.specs.AccountText.{numbered}

-- one more element at the end of a list has its text at the end
pub numbered-push : {X : Type 0} (text : ℕ → X → List ℕ) (n : ℕ) (xs : List X) (x : X) →
    numbered text n (xs ++ x ∷ []) ≡ numbered text n xs ++ text (n + length xs) x
unfolding numbered
numbered-push text n [] x = append-nil (text n x) ∙ ap (λ k. text k x) (omega arith)
numbered-push text n (y ∷ ys) x =
    ap (λ t. text n y ++ t) (numbered-push text (n + 1) ys x
    ∙ ap (λ k. numbered text (n + 1) ys ++ text k x) (omega arith))
    ∙ sym (append_assoc (text n y) (numbered text (n + 1) ys) (text (n + length (y ∷ ys)) x))

-- the texts of the first elements, with one more
pub numbered_more : {X : Type 0} (text : ℕ → X → List ℕ) (xs : List X) (i : ℕ) (d : X) → i < length xs →
    numbered text 0 (take (i + 1) xs) ≡ numbered text 0 (take i xs) ++ text i (get_or xs i d)
numbered_more text xs i d within =
    ap (numbered text 0) (take_more xs i d within)
    ∙ numbered-push text 0 (take i xs) (get_or xs i d)
    ∙ ap (λ k. numbered text 0 (take i xs) ++ text k (get_or xs i d)) (omega (arith, length-take-le i xs (omega arith)))

-- by which a loop goes on that appends the text of each element
pub ruleset appending = (numbered_more, append_assoc)
