-- What is so of each answer, step by step.
use Rattle.std.proofs.Common.{◌≡◌, Bool, true, false, cond, Option, Some, None, refl, subst}
use Rattle.std.specs.Prelude.{option_map}
use Rattle.journal_reader.specs.Words.{◌>>=◌, first_of, where_true}
use Rattle.journal_reader.proofs.WordLemmas.{same_some}

-- where there is an answer, it is such
pub record Holds {A : Type 0} (P : A → Type 0) (answer : Option A) : Type 0 where
  pub at : (x : A) → answer ≡ Some x → P x

pub no_answer : {A : Type 0} (P : A → Type 0) → Holds {A = A} P None
no_answer P = record { at = λ x e. absurd cc }

pub one_answer : {A : Type 0} (P : A → Type 0) (x : A) → P x → Holds P (Some x)
one_answer P x h = record { at = λ y e. subst P (same_some x y e) h }

pub next_answer : {A B : Type 0} (P : B → Type 0) (o : Option A) (next : A → Option B)
    → ((x : A) → o ≡ Some x → Holds P (next x)) → Holds P (o >>= next)
next_answer P (Some x) next h = h x refl
next_answer {A} {B} P None next h = no_answer {A = B} P

pub where_answer : {A : Type 0} (P : A → Type 0) (t : Bool) (o : Option A) → (t ≡ true → Holds P o)
    → Holds P (where_true t o)
where_answer P true o h = h refl
where_answer P false o h = no_answer P

pub test_answer : {A : Type 0} (P : A → Type 0) (t : Bool) (a b : Option A) → (t ≡ true → Holds P a)
    → (t ≡ false → Holds P b) → Holds P (cond t a b)
test_answer P true a b h k = h refl
test_answer P false a b h k = k refl

pub either_answer : {A : Type 0} (P : A → Type 0) (a b : Option A) → Holds P a → Holds P b → Holds P (first_of a b)
either_answer P (Some x) b h k = h
either_answer P None b h k = k

pub map_answer : {A B : Type 0} (P : B → Type 0) (f : A → B) (o : Option A) → ((x : A) → o ≡ Some x → P (f x))
    → Holds P (option_map f o)
map_answer P f (Some x) h = one_answer P (f x) (h x refl)
map_answer P f None h = no_answer P
