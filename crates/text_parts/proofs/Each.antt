-- The loop over parts, for any reader of a part.
use Rattle.std.proofs.Common.{◌≡◌, List, [], ◌∷◌, ◌++◌, Result, Ok, Err, refl, sym, ap, ◌∙◌, append_assoc}
use Rattle.std.proofs.lemmas.List.{append-nil}
use Rattle.text_parts.specs.declared.error.ReadError.{ReadError}
use Rattle.text_parts.specs.declared.error.ReadError.TheVariants as errors
use Rattle.text_parts.specs.Chain.{◌>>=◌, Fails}
use Rattle.text_parts.specs.Split.{PartAt, each}

-- what is read of the parts that are left, behind what was read before
abbrev pub behind : {A F : Type 0} → List A → Result (List A) F → Result (List A) F
behind front reading = reading >>= λ xs. Ok (front ++ xs)

regroup : {A F : Type 0} (front : List A) (x : A) (r : Result (List A) F)
    → behind front (r >>= λ xs. Ok (x ∷ xs)) ≡ behind (front ++ x ∷ []) r
regroup {A = A} front x (Ok xs) = ap (λ (items : List A). Ok items) (simp append_assoc)
regroup front x (Err fault) = refl

begins : {A F : Type 0} (r : Result (List A) F) → behind [] r ≡ r
begins (Ok xs) = refl
begins (Err fault) = refl

-- where a loop over parts stands: it has read the front, and these are left of all parts
pub record HasRead {A F : Type 0} (read : PartAt → Result A F) (all : List PartAt) (front : List A)
    (left : List PartAt) : Type 0 where
  pub total : behind front (each read left) ≡ each read all

-- at first nothing is read
pub nothing_read : {A F : Type 0} (read : PartAt → Result A F) (all : List PartAt) → HasRead read all [] all
nothing_read read all = record { total = begins (each read all) }

-- one more part is read
pub one_more : {A F : Type 0} (read : PartAt → Result A F) (all left : List PartAt) (front : List A) (part : PartAt)
    (parts : List PartAt) (x : A)
    → HasRead read all front left → left ≡ part ∷ parts → read part ≡ Ok x → HasRead read all (front ++ x ∷ []) parts
unfolding each
one_more read all left front part parts x h is one = record {
  total =
      sym (regroup front x (each read parts))
      ∙ sym (rw (is, one) refl)
      ∙ h.total;
}

-- the first part that fails is the fault
pub failed_read : {A F : Type 0} (read : PartAt → Result A F) (all left : List PartAt) (front : List A) (part : PartAt)
    (parts : List PartAt) (e : ReadError F)
    → HasRead read all front left → left ≡ part ∷ parts → Fails e (read part) → Fails e (each read all)
unfolding each
failed_read read all left front part parts errors.OutOfMemory h is fails = tt
failed_read {A = A} {F = F} read all left front part parts (errors.Fault fault) h is fails =
    let one : behind front (each read left) ≡ Err fault = rw (is, fails) refl in
    sym h.total ∙ one

-- where no part is left all are read
pub all_read : {A F : Type 0} (read : PartAt → Result A F) (all left : List PartAt) (front : List A)
    → HasRead read all front left → left ≡ [] → each read all ≡ Ok front
unfolding each
all_read {A = A} {F = F} read all left front h none =
    let one : behind front (each read left) ≡ Ok front = rw (none, append-nil front) refl in
    sym h.total ∙ one
