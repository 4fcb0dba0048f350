-- The loop over items behind separators.
use Rattle.std.proofs.Common.{◌≡◌, ◌≢◌, ℕ, zero, suc, ◌+◌, ◌<◌, ◌≤◌, true, false, eqb, List, [], ◌∷◌, ◌++◌, length}
use Rattle.std.proofs.Common.{get_or, Result, Ok, Err, refl, sym, ap, ◌∙◌, append_assoc, arith}
use Rattle.std.proofs.lemmas.List.{append-nil}
use Rattle.std.proofs.lemmas.Bool.{eq-eqb, ne_eqb}
use Rattle.text_parts.specs.declared.error.ReadError.{ReadError}
use Rattle.text_parts.specs.declared.error.ReadError.TheVariants as errors
use Rattle.text_parts.specs.Chain.{◌>>=◌, Fails}
use Rattle.text_parts.specs.Many.{Reader, many_at, items_at, some_items_at}

-- what a reading of items gives, behind items that were read before
abbrev pub with_front : {A F : Type 0} → List A → Result (List A × ℕ) F → Result (List A × ℕ) F
with_front front reading = reading >>= λ x. Ok (front ++ x.0, x.1)

regroup : {A F : Type 0} (front : List A) (item : A) (r : Result (List A × ℕ) F)
    → with_front front (r >>= λ x. Ok (item ∷ x.0, x.1)) ≡ with_front (front ++ item ∷ []) r
regroup {A = A} front item (Ok x) = ap (λ (items : List A). Ok (items, x.1)) (simp append_assoc)
regroup front item (Err fault) = refl

begins : {A F : Type 0} (r : Result (List A × ℕ) F) → with_front [] r ≡ r
begins (Ok x) = refl
begins (Err fault) = refl

-- where a loop over items stands: behind the items of front, at an offset from which so much fuel suffices
pub record Reads {A F : Type 0} (item_at : Reader A F) (separator : ℕ) (piece : List ℕ) (from : ℕ) (front : List A)
    (at : ℕ) : Type 0 where
  pub fuel : ℕ
  pub enough : length piece ≤ fuel + at
  pub total : with_front front (many_at item_at separator fuel piece at) ≡ items_at item_at separator piece from

-- at first nothing is read
pub nothing_read : {A F : Type 0} (item_at : Reader A F) (separator : ℕ) (piece : List ℕ) (from : ℕ)
    → Reads item_at separator piece from [] from
nothing_read item_at separator piece from = record {
  fuel = length piece;
  enough = omega arith;
  total = begins (many_at item_at separator (length piece) piece from);
}

-- one more item is read
pub one_more : {A F : Type 0} (item_at : Reader A F) (separator : ℕ) (piece : List ℕ) (from : ℕ) (front : List A)
    (at : ℕ) (item : A) (behind : ℕ)
    → Reads item_at separator piece from front at → at < length piece → get_or piece at 0 ≡ separator
    → item_at piece (at + 1) ≡ Ok (item, behind) → at + 1 ≤ behind
    → Reads item_at separator piece from (front ++ item ∷ []) behind
unfolding many_at
one_more item_at separator piece from front at item behind r within is read more = with_fuel r.fuel r.enough r.total
  where
    with_fuel : (fuel : ℕ) → length piece ≤ fuel + at → with_front front (many_at item_at separator fuel piece at)
        ≡ items_at item_at separator piece from → Reads item_at separator piece from (front ++ item ∷ []) behind
    with_fuel zero enough total = absurd (omega arith)
    with_fuel (suc fuel) enough total =
        let test : eqb (get_or piece at 0) separator ≡ true = eq-eqb _ _ is in
        let one : with_front front (many_at item_at separator (suc fuel) piece at) ≡ with_front (front ++ item ∷ [])
        (many_at item_at separator fuel piece behind) = rw (test, read)
        (regroup front item (many_at item_at separator fuel piece behind)) in
        record { fuel = fuel; enough = omega arith; total = sym one ∙ total }

-- an item that has a fault ends it
pub fault_read : {A F : Type 0} (item_at : Reader A F) (separator : ℕ) (piece : List ℕ) (from : ℕ) (front : List A)
    (at : ℕ) (fault : F)
    → Reads item_at separator piece from front at → at < length piece → get_or piece at 0 ≡ separator
    → item_at piece (at + 1) ≡ Err fault → items_at item_at separator piece from ≡ Err fault
unfolding many_at
fault_read item_at separator piece from front at fault r within is read = with_fuel r.fuel r.enough r.total
  where
    with_fuel : (fuel : ℕ) → length piece ≤ fuel + at → with_front front (many_at item_at separator fuel piece at)
        ≡ items_at item_at separator piece from → items_at item_at separator piece from ≡ Err fault
    with_fuel zero enough total = absurd (omega arith)
    with_fuel (suc fuel) enough total =
        let test : eqb (get_or piece at 0) separator ≡ true = eq-eqb _ _ is in
        let one : with_front front (many_at item_at separator (suc fuel) piece at) ≡ Err fault = rw (test, read) refl in
        sym total ∙ one

pub failed_read : {A F : Type 0} (item_at : Reader A F) (separator : ℕ) (piece : List ℕ) (from : ℕ) (front : List A)
    (at : ℕ) (e : ReadError F)
    → Reads item_at separator piece from front at → at < length piece → get_or piece at 0 ≡ separator
    → Fails e (item_at piece (at + 1)) → Fails e (items_at item_at separator piece from)
failed_read item_at separator piece from front at errors.OutOfMemory r within is read = tt
failed_read item_at separator piece from front at (errors.Fault fault) r within is read =
    fault_read item_at separator piece from front at fault r within is read

-- where no separator stands all items are read
pub all_read : {A F : Type 0} (item_at : Reader A F) (separator : ℕ) (piece : List ℕ) (from : ℕ) (front : List A)
    (at : ℕ)
    → Reads item_at separator piece from front at → get_or piece at 0 ≢ separator
    → items_at item_at separator piece from ≡ Ok (front, at)
unfolding many_at
all_read {A = A} item_at separator piece from front at r is_none = with_fuel r.fuel r.total
  where
    with_fuel : (fuel : ℕ) → with_front front (many_at item_at separator fuel piece at) ≡ items_at item_at separator
        piece from → items_at item_at separator piece from ≡ Ok (front, at)
    with_fuel zero total = sym total ∙ ap (λ (items : List A). Ok (items, at)) (append-nil front)
    with_fuel (suc fuel) total =
        let test : eqb (get_or piece at 0) separator ≡ false = ne_eqb _ _ is_none in
        let one : with_front front (many_at item_at separator (suc fuel) piece at) ≡ Ok (front, at) =
        rw (test, append-nil) refl in
        sym total ∙ one

-- ---- a first item, and others behind separators

pub first_fails : {A F : Type 0} (item_at : Reader A F) (separator : ℕ) (piece : List ℕ) (i : ℕ) (e : ReadError F)
    → Fails e (item_at piece i) → Fails e (some_items_at item_at separator piece i)
first_fails item_at separator piece i errors.OutOfMemory h = tt
first_fails item_at separator piece i (errors.Fault fault) h = rw h refl

pub other_fails : {A F : Type 0} (item_at : Reader A F) (separator : ℕ) (piece : List ℕ) (i behind : ℕ) (first : A)
    (e : ReadError F)
    → item_at piece i ≡ Ok (first, behind) → Fails e (items_at item_at separator piece behind)
    → Fails e (some_items_at item_at separator piece i)
other_fails item_at separator piece i behind first errors.OutOfMemory one h = tt
other_fails item_at separator piece i behind first (errors.Fault fault) one h = rw (one, h) refl

pub items_are : {A F : Type 0} (item_at : Reader A F) (separator : ℕ) (piece : List ℕ) (i behind at : ℕ) (first : A)
    (others : List A)
    → item_at piece i ≡ Ok (first, behind) → items_at item_at separator piece behind ≡ Ok (others, at)
    → some_items_at item_at separator piece i ≡ Ok (first ∷ others, at)
items_are item_at separator piece i behind at first others one all = rw (one, all) refl
