-- What is so of each fault of a reading, step by step.
use Rattle.std.proofs.Common.{◌≡◌, Bool, true, false, cond, List, [], ◌∷◌, Result, Ok, Err, refl, ap, subst}
use Rattle.std.specs.List.{AllByRecursion}
use Rattle.text_parts.specs.Chain.{◌>>=◌}
use Rattle.text_parts.specs.Split.{PartAt, each}

-- where the reading is a fault, the fault is such
pub record Faulty {F A : Type 0} (P : F → Type 0) (reading : Result A F) : Type 0 where
  pub at : (f : F) → reading ≡ Err f → P f

fault_or : {F A : Type 0} → F → Result A F → F
fault_or g (Ok x) = g
fault_or g (Err f) = f

pub same_err : {F A : Type 0} (f g : F) → let l : Result A F = Err f in let r : Result A F = Err g in l ≡ r → f ≡ g
unfolding fault_or
same_err {F} {A} f g e = ap (fault_or {A = A} f) e

-- a reading is no fault where it gives an answer
pub not_both : {F A : Type 0} (r : Result A F) (x : A) (f : F) → r ≡ Ok x → r ≡ Err f → ⊥
not_both (Ok y) x f e g = absurd cc
not_both (Err y) x f e g = absurd cc

pub none_faulty : {F A : Type 0} (P : F → Type 0) (x : A) → Faulty {F = F} {A = A} P (Ok x)
none_faulty P x = record { at = λ f e. absurd cc }

pub one_faulty : {F A : Type 0} (P : F → Type 0) (f : F) → P f → Faulty {F = F} {A = A} P (Err f)
one_faulty {F} {A} P f h = record { at = λ g e. subst P (same_err {F = F} {A = A} f g e) h }

pub next_faulty : {F A B : Type 0} (P : F → Type 0) (r : Result A F) (next : A → Result B F) → Faulty P r
    → ((x : A) → r ≡ Ok x → Faulty P (next x)) → Faulty P (r >>= next)
next_faulty P (Ok x) next h k = k x refl
next_faulty {F} {A} {B} P (Err g) next h k = one_faulty {F = F} {A = B} P g (h.at g refl)

pub test_faulty : {F A : Type 0} (P : F → Type 0) (t : Bool) (a b : Result A F) → (t ≡ true → Faulty P a)
    → (t ≡ false → Faulty P b) → Faulty P (cond t a b)
test_faulty P true a b h k = h refl
test_faulty P false a b h k = k refl

pub each_faulty : {F A : Type 0} (P : F → Type 0) (Q : PartAt → Type 0) (read : PartAt → Result A F)
    → ((part : PartAt) → Q part → Faulty P (read part))
    → (parts : List PartAt) → AllByRecursion Q parts → Faulty P (each read parts)
unfolding each
each_faulty P Q read one [] h = none_faulty P []
each_faulty P Q read one (part ∷ parts) h =
    next_faulty P (read part) (λ first. each read parts >>= λ others. Ok (first ∷ others)) (one part h.0)
    (λ first e. next_faulty P (each read parts) (λ others. Ok (first ∷ others)) (each_faulty P Q read one parts h.1)
    (λ others f. none_faulty P (first ∷ others)))
