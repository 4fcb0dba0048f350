-- Lists of texts, taken one by one.
use Rattle.std.proofs.Common.{◌≡◌, ℕ, zero, suc, ◌+◌, ◌<◌, List, [], ◌∷◌, ◌++◌, length, get_or, take, drop, map, refl}
use Rattle.std.proofs.Common.{sym, ap, ◌∙◌, append_assoc, arith, drop-cons}
use Rattle.std.specs.Prelude.{flat_map}
use Rattle.std.specs.Borrow.{Bor}
use Rattle.std.proofs.lemmas.List.{take_more, append-nil}
use Rattle.format_words.specs.Views.{now_of}

pub map_push : {A B : Type 0} (f : A → B) (xs : List A) (x : A) → map f (xs ++ x ∷ []) ≡ map f xs ++ f x ∷ []
map_push f [] x = refl
map_push {B = B} f (y ∷ ys) x = ap (λ (zs : List B). f y ∷ zs) (map_push f ys x)

-- one more of the first elements
pub map_more : {A B : Type 0} (f : A → B) (xs : List A) (i : ℕ) (x : A) → i < length xs → x ≡ get_or xs i x
    → map f (take (i + 1) xs) ≡ map f (take i xs) ++ f x ∷ []
map_more {A = A} f xs i x lt is =
    ap (map f) (take_more xs i x lt ∙ ap (λ (y : A). take i xs ++ y ∷ []) (sym is)) ∙ map_push f (take i xs) x

pub flat_push : {A B : Type 0} (f : A → List B) (xs : List A) (x : A) → flat_map f (xs ++ x ∷ []) ≡ flat_map f xs ++ f x
flat_push f [] x = append-nil (f x)
flat_push {B = B} f (y ∷ ys) x = ap (λ (zs : List B). f y ++ zs) (flat_push f ys x)
    ∙ sym (append_assoc (f y) (flat_map f ys) (f x))

pub map_length : {A B : Type 0} (f : A → B) (xs : List A) → length (map f xs) ≡ length xs
map_length f [] = refl
map_length f (x ∷ xs) = ap (λ (n : ℕ). suc n) (map_length f xs)

pub map_drop : {A B : Type 0} (f : A → B) (n : ℕ) (xs : List A) → drop n (map f xs) ≡ map f (drop n xs)
map_drop f zero xs = refl
map_drop f (suc n) [] = refl
map_drop f (suc n) (x ∷ xs) = map_drop f n xs

-- the elements from an offset on
pub from : {A : Type 0} (xs : List A) (i : ℕ) (x : A) → i < length xs → x ≡ get_or xs i x
    → drop i xs ≡ x ∷ drop (i + 1) xs
from {A = A} xs i x lt is =
    let next : suc i ≡ i + 1 = omega arith in
    drop-cons xs i x lt ∙ ap (λ (n : ℕ). get_or xs i x ∷ drop n xs) next ∙ ap (λ (y : A). y ∷ drop (i + 1) xs) (sym is)

pub texts_from : (xs : List (Bor (List ℕ))) (i : ℕ) (d : Bor (List ℕ)) → i < length xs
    → drop i (map now_of xs) ≡ now_of (get_or xs i d) ∷ drop (i + 1) (map now_of xs)
texts_from xs i d lt =
    let next : suc i ≡ i + 1 = omega arith in
    map_drop now_of i xs
    ∙ ap (map now_of) (drop-cons xs i d lt ∙ ap (λ (n : ℕ). get_or xs i d ∷ drop n xs) next)
    ∙ ap (λ (ts : List (List ℕ)). now_of (get_or xs i d) ∷ ts) (sym (map_drop now_of (i + 1) xs))
