-- How often a number stands in a list.
use Rattle.std.proofs.Common.{◌≡◌, ◌≢◌, ℕ, ◌+◌, ◌<◌, eqb, List, [], ◌∷◌, ◌++◌, length, sym, refl, ap, ◌∙◌, arith}
use Rattle.std.proofs.Common.{zero, suc, Bool, true, false, eq-eqb, ne_eqb, if◌then◌else◌}
use mathlib.Core.Option.{some, some-ne-none, some-injective}
use mathlib.Core.Logic.{dite}
use native.Mathlib.Decide.{ℕ_discrete}
use lib.ListN.{get_elem?}
use Rattle.turnstile.specs.View.{without, last_of}
use Rattle.turnstile.specs.Numbers.{times, numbers_of}

-- the number of a pair stands among the numbers
pub times_has : {B : Type 0} (xs : List (ℕ × B)) (k n : ℕ) (b : B) → get_elem? xs k ≡ some (n, b)
    → 0 < times n (numbers_of xs)
times_has [] k n b e = absurd (some-ne-none (n, b) (sym e))
times_has {B = B} (x ∷ xs) zero n b e = let h : x.0 ≡ n = ap (λ (z : ℕ × B). z.0) (some-injective x (n, b) e) in
    let one : times n (numbers_of (x ∷ xs)) ≡ 1 + times n (numbers_of xs) = ap
    (λ (t : Bool). (if t then 1 else 0) + times n (numbers_of xs)) (eq-eqb x.0 n h) in
    let t : ℕ = times n (numbers_of (x ∷ xs)) in let t' : ℕ = times n (numbers_of xs) in
    let e' : t ≡ 1 + t' = one in let r : 0 < t = omega arith in r
times_has (x ∷ xs) (suc k) n b e = let h = times_has xs k n b e in omega arith

-- where a number stands in the list of pairs, there is its pair
pub has_times : {B : Type 0} (xs : List (ℕ × B)) (n : ℕ) → 0 < times n (numbers_of xs)
    → (k : ℕ) × (b : B) × (get_elem? xs k ≡ some (n, b))
has_times [] n h = absurd (omega arith)
has_times {B = B} (x ∷ xs) n h = dite (ℕ_discrete x.0 n)
    (λ e. (0, x.1, ap (λ (m : ℕ). let z : ℕ × B = (m, x.1) in some z) e))
    (λ ne. let r = has_times xs n (let same : times n (numbers_of (x ∷ xs)) ≡ times n (numbers_of xs) = ap
    (λ (b : Bool). (if b then 1 else 0) + times n (numbers_of xs)) (ne_eqb x.0 n ne) ∙ omega arith in
    let t : ℕ = times n (numbers_of (x ∷ xs)) in let t' : ℕ = times n (numbers_of xs) in
    let e' : t ≡ t' = same in let h' : 0 < t = h in let z : 0 < t' = omega arith in z) in (suc r.0, r.1, r.2))

-- 1 where two numbers are the same, else 0
pub one_if : ℕ → ℕ → ℕ
one_if x n = if eqb x n then 1 else 0

-- of the same number
pub one_if-same : (x n : ℕ) → x ≡ n → one_if x n ≡ 1
unfolding one_if
one_if-same x n e = ap (λ (t : Bool). if t then 1 else 0) (eq-eqb x n e)

-- of another number
pub one_if-other : (x n : ℕ) → x ≢ n → one_if x n ≡ 0
unfolding one_if
one_if-other x n e = ap (λ (t : Bool). if t then 1 else 0) (ne_eqb x n e)

-- with one number more in front
pub times-cons : (n x : ℕ) (xs : List ℕ) → times n (x ∷ xs) ≡ one_if x n + times n xs
unfolding one_if
times-cons n x xs = refl

-- with one number more at the end
pub times-snoc : (n x : ℕ) (xs : List ℕ) → times n (xs ++ x ∷ []) ≡ times n xs + one_if x n
times-snoc n x [] = let a = times-cons n x [] in omega arith
times-snoc n x (y ∷ ys) = let a = times-cons n y ys in let b = times-cons n y (ys ++ x ∷ []) in
    let c = times-snoc n x ys in omega arith

-- the numbers of pairs, with one pair more at the end
pub numbers_of-snoc : {B : Type 0} (xs : List (ℕ × B)) (x : ℕ × B)
    → numbers_of (xs ++ x ∷ []) ≡ numbers_of xs ++ x.0 ∷ []
numbers_of-snoc [] x = refl
numbers_of-snoc (y ∷ ys) x = ap (λ (l : List ℕ). y.0 ∷ l) (numbers_of-snoc ys x)

-- the number that was added is the last one
pub last_of-snoc : (xs : List ℕ) (x : ℕ) → last_of (xs ++ x ∷ []) ≡ x
last_of-snoc [] x = refl
last_of-snoc (y ∷ []) x = refl
last_of-snoc (y ∷ z ∷ zs) x = last_of-snoc (z ∷ zs) x

-- the last number stands in its list
pub times_last : (xs : List ℕ) → 0 < length xs → 0 < times (last_of xs) xs
times_last [] h = absurd (omega arith)
times_last (x ∷ []) h = let a = times-cons x x [] in let b = one_if-same x x refl in omega arith
times_last (x ∷ y ∷ ys) h = let a = times-cons (last_of (y ∷ ys)) x (y ∷ ys) in
    let b = times_last (y ∷ ys) (omega arith) in omega arith

-- a number is taken out at the front or behind it
pub without_step : (b : Bool) (x n : ℕ) (xs : List ℕ) → (eqb x n ≡ b)
    → without n (x ∷ xs) ≡ (if b then xs else (x ∷ without n xs))
without_step b x n xs e = ap (λ (t : Bool). if t then xs else (x ∷ without n xs)) e

-- after a number was taken out it stands once less, and each other one as often
pub times-without : (n x : ℕ) (xs : List ℕ) → 0 < times x xs → times n (without x xs) + one_if x n ≡ times n xs
times-without n x [] h = absurd (omega arith)
times-without n x (y ∷ ys) h = dite (ℕ_discrete y x)
    (λ e. let s : without x (y ∷ ys) ≡ ys = without_step true y x ys (eq-eqb y x e) in
    let a = times-cons n y ys in let b : times n (without x (y ∷ ys)) ≡ times n ys = ap (times n) s in
    let o : one_if y n ≡ one_if x n = ap (λ (k : ℕ). one_if k n) e in omega arith)
    (λ ne. let s : without x (y ∷ ys) ≡ y ∷ without x ys = without_step false y x ys (ne_eqb y x ne) in
    let a = times-cons n y ys in let z = times-cons x y ys in let z' = one_if-other y x ne in
    let b : times n (without x (y ∷ ys)) ≡ times n (y ∷ without x ys) = ap (times n) s in
    let d = times-cons n y (without x ys) in let i = times-without n x ys (omega arith) in omega arith)

-- a list is shorter by one
pub length-without : (x : ℕ) (xs : List ℕ) → 0 < times x xs → length (without x xs) + 1 ≡ length xs
length-without x [] h = absurd (omega arith)
length-without x (y ∷ ys) h = dite (ℕ_discrete y x)
    (λ e. let s : length (without x (y ∷ ys)) ≡ length ys = ap
    (λ (l : List ℕ). length l) (without_step true y x ys (eq-eqb y x e)) in omega arith)
    (λ ne. let s : length (without x (y ∷ ys)) ≡ length (y ∷ without x ys) = ap
    (λ (l : List ℕ). length l) (without_step false y x ys (ne_eqb y x ne)) in let z = times-cons x y ys in
    let z' = one_if-other y x ne in
    let i = length-without x ys (omega arith) in omega arith)
