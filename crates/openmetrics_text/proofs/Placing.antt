-- Elements that are put one after the other, each as it is seen.
use Rattle.std.proofs.Common.{◌≡◌, ◌<◌, ◌+◌, ◌∙◌, ◌++◌, ◌∷◌, [], List, ℕ, length, get_or, take, map, sym, ap}
use Rattle.std.proofs.lemmas.List.{take_more, map-append}

-- one more of them is put
pub put_next : {X P : Type 0} (seen : X → P) (all : List P → List P) (put : List P → P → List P)
    → ((given : List P) (one : P) → all (given ++ one ∷ []) ≡ put (all given) one)
    → (xs : List X) (old : List P) (i : ℕ) (x : X) → i < length xs → x ≡ get_or xs i x
    → old ≡ all (map seen (take i xs)) → put old (seen x) ≡ all (map seen (take (i + 1) xs))
put_next {X} seen all put push xs old i x lt is so_far =
    let more : take (i + 1) xs ≡ take i xs ++ x ∷ [] =
    take_more xs i x lt ∙ ap (λ (y : X). take i xs ++ y ∷ []) (sym is) in
    rw (so_far, more, map-append seen (take i xs) (x ∷ [])) (sym (push (map seen (take i xs)) (seen x)))
