-- A place after its slot changed.
use Rattle.std.proofs.Common.{◌≡◌, ◌≢◌, ℕ, ◌≤◌, List, [], ◌∷◌, ◌++◌, length, get_or, set, Bool, true, false, cond, refl}
use Rattle.std.proofs.Common.{sym, ap, ◌∙◌, arith, Some, None, Ok, Err, Result, IfOk, IfErr}
use Rattle.std.proofs.lemmas.Option.{slice_get-get_or, slice_get_past}
use Rattle.std.specs.List.{slice_get}
use Rattle.std.specs.Option.{option_or}
use Rattle.std.specs.declared.option.Option.{Option}
use Rattle.std.specs.Str.{bytes_eq}
use Rattle.std.proofs.lemmas.Bool.{false_from_ne_true, eqb-true, eq-eqb}
use Rattle.agent_base.specs.Clocks.{is_of, clock_of, clock_at}
use Rattle.agent_base.specs.declared.fresh.FreshClock.{FreshClock}
use Rattle.std.proofs.lemmas.Grind.{common_steps}
use Rattle.std.proofs.lemmas.List.Folds.{find_at, find-set, find_past, find-append}
use Rattle.std.proofs.lemmas.List.Quantifiers.{position-Some}
use Rattle.std.proofs.lemmas.Slice.Eq.{bytes_eq-Decides}
use Rattle.std.specs.List.{position, position_or_len, find}
use Rattle.std.specs.String.{string_bytes}
use Rattle.agent_base.specs.Carried.{Carried, no_part}
use Rattle.agent_base.specs.Slots.{slot_at, is_named, told_of, part_at, Leaves, Comes, IsMissed, OpensSlot, Fills}
use Rattle.agent_base.specs.Slots.{is_out_at}
use Rattle.std.specs.Prelude.{is_some}
use Rattle.agent_base.specs.Places.{SameBut, Opens, TakesIn, FailsToOpen, Refuses, IsTold}
use Rattle.agent_base.specs.declared.world.OpenFault.{OpenFault}
use Rattle.agent_base.specs.declared.world.OpenFault.TheVariants.{Failed, OutOfMemory}
use Rattle.agent_base.specs.declared.slots.Slot.{Slot}

-- at one place x was, and y is
pub record Changes {P : Type 0} (old new : List (Slot P)) (place : List ℕ) (x y : Slot P) : Type 0 where
  pub was : slot_at old place ≡ Some x
  pub now : slot_at new place ≡ Some y
  pub others : SameBut place (slot_at old) (slot_at new)

-- a slot of one place is none of another
not_named : {P : Type 0} (slot : Slot P) (place other : List ℕ) → is_named place slot ≡ true → other ≢ place
    → is_named other slot ≡ false
not_named slot place other t ne =
    false_from_ne_true _ (λ e. ne (sym ((bytes_eq-Decides (string_bytes slot.place) other).0 e)
    ∙ (bytes_eq-Decides (string_bytes slot.place) place).0 t))

pub at_index : {X : Type 0} (p : X → Bool) (xs : List X) (i : ℕ) (d : X) → position p xs ≡ Some i
    → find p xs ≡ Some (get_or xs i d)
at_index p xs i d e =
    let found = position-Some p xs i d e in
    let first : i ≡ position_or_len p xs = grind (arith, common_steps) in
    find_at p xs ∙ ap (slice_get xs) (sym first) ∙ slice_get-get_or xs i d found.0

pub at_position : {X : Type 0} (p : X → Bool) (xs : List X) (i : ℕ) (x : X) → position p xs ≡ Some i → x ≡ get_or xs i x
    → find p xs ≡ Some x
at_position p xs i x e at = at_index p xs i x e ∙ ap Some (sym at)

pub no_position : {X : Type 0} (p : X → Bool) (xs : List X) → position p xs ≡ None → find p xs ≡ None
no_position p xs e =
    let past : length xs ≤ position_or_len p xs = grind (arith, common_steps) in
    find_at p xs ∙ slice_get_past xs (position_or_len p xs) past

-- a clock was taken out
pub clock_before : (clocks : List (ℕ × FreshClock)) (who i : ℕ) (x : ℕ × FreshClock)
    → position (is_of who) clocks ≡ Some i → x ≡ get_or clocks i x → clock_at clocks who ≡ Some x.1.clock
clock_before clocks who i x e at = ap clock_of (at_position (is_of who) clocks i x e at)

pub clock_none : (clocks : List (ℕ × FreshClock)) (who : ℕ) → position (is_of who) clocks ≡ None
    → clock_at clocks who ≡ None
clock_none clocks who e = ap clock_of (no_position (is_of who) clocks e)

pub clocks_beside : (clocks : List (ℕ × FreshClock)) (who i : ℕ) (x y : ℕ × FreshClock)
    → position (is_of who) clocks ≡ Some i → x ≡ get_or clocks i x → y.0 ≡ x.0
    → SameBut who (clock_at clocks) (clock_at (set clocks i y))
clocks_beside clocks who i x y e at same other ne =
    let named : x.0 ≡ who = eqb-true x.0 who (ap (is_of who) at ∙ (position-Some (is_of who) clocks i x e).1) in
    let not_x : is_of other x ≡ false = false_from_ne_true _ (λ t. ne (sym (eqb-true x.0 other t) ∙ named)) in
    let not_y : is_of other y ≡ false = false_from_ne_true _ (λ t. ne (sym (eqb-true y.0 other t) ∙ same ∙ named)) in
    ap clock_of (find_past (is_of other) clocks i y x (ap (is_of other) (sym at) ∙ not_x) not_y)

pub changes : {P : Type 0} (slots : List (Slot P)) (place : List ℕ) (i : ℕ) (x y : Slot P)
    → position (is_named place) slots ≡ Some i → x ≡ get_or slots i x → string_bytes y.place ≡ string_bytes x.place
    → Changes slots (set slots i y) place x y
changes slots place i x y e at same =
    let p = is_named place in
    let found = position-Some p slots i x e in
    let first : i ≡ position_or_len p slots = grind (arith, common_steps) in
    let named : is_named place x ≡ true = ap p at ∙ found.1 in
    let renamed : is_named place y ≡ true = ap (λ b. bytes_eq b place) same ∙ named in
    record {
      was = find_at p slots ∙ ap (slice_get slots) (sym first) ∙ slice_get-get_or slots i x found.0 ∙ ap Some (sym at);
      now = find-set p slots i y first found.0 renamed;
      others = λ other ne. find_past (is_named other) slots i y x
          (ap (is_named other) (sym at) ∙ not_named x place other named ne) (not_named y place other renamed ne);
    }

or_none : {X : Type 0} (o : Option X) → option_or o None ≡ o
or_none None = refl
or_none (Some x) = refl

pub none_at : {P : Type 0} (slots : List (Slot P)) (place : List ℕ) → position (is_named place) slots ≡ None
    → slot_at slots place ≡ None
none_at slots place e =
    let p = is_named place in
    let past : length slots ≤ position_or_len p slots = grind (arith, common_steps) in
    find_at p slots ∙ slice_get_past slots (position_or_len p slots) past

-- one more slot, of a place that had none
pub record Adds {P : Type 0} (old new : List (Slot P)) (place : List ℕ) (y : Slot P) : Type 0 where
  pub was : slot_at old place ≡ None
  pub now : slot_at new place ≡ Some y
  pub others : SameBut place (slot_at old) (slot_at new)

pub adds : {P : Type 0} (slots : List (Slot P)) (place : List ℕ) (y : Slot P) → position (is_named place) slots ≡ None
    → string_bytes y.place ≡ place → Adds slots (slots ++ y ∷ []) place y
adds slots place y e same =
    let none : slot_at slots place ≡ None = none_at slots place e in
    let named : is_named place y ≡ true = (bytes_eq-Decides (string_bytes y.place) place).1 same in
    record {
      was = none;
      now = rw (find-append, none, named) refl;
      others = λ other ne. find-append (is_named other) slots (y ∷ [])
          ∙ ap (λ b. option_or (find (is_named other) slots) (cond b (Some y) None)) (not_named y place other named ne)
          ∙ or_none (find (is_named other) slots);
    }

pub never : false ≡ true → ⊥
never e = cc

-- a clock is put in place of the one that was there, or added
pub clock_after : (clocks : List (ℕ × FreshClock)) (who i : ℕ) (x y : ℕ × FreshClock)
    → position (is_of who) clocks ≡ Some i → x ≡ get_or clocks i x → y.0 ≡ x.0
    → clock_at (set clocks i y) who ≡ Some y.1.clock
clock_after clocks who i x y e at same =
    let found = position-Some (is_of who) clocks i x e in
    let first : i ≡ position_or_len (is_of who) clocks = grind (arith, common_steps) in
    let named : x.0 ≡ who = eqb-true x.0 who (ap (is_of who) at ∙ found.1) in
    let is_y : is_of who y ≡ true = eq-eqb y.0 who (same ∙ named) in
    ap clock_of (find-set (is_of who) clocks i y first found.0 is_y)

pub clock_added : (clocks : List (ℕ × FreshClock)) (who : ℕ) (c : FreshClock) → position (is_of who) clocks ≡ None
    → clock_at (clocks ++ (who, c) ∷ []) who ≡ Some c.clock
clock_added clocks who c e =
    let none = no_position (is_of who) clocks e in
    let same : is_of who (who, c) ≡ true = eq-eqb who who refl in
    rw (find-append, none, same) refl

pub clocks_beside_added : (clocks : List (ℕ × FreshClock)) (who : ℕ) (c : FreshClock)
    → SameBut who (clock_at clocks) (clock_at (clocks ++ (who, c) ∷ []))
clocks_beside_added clocks who c other ne =
    let not_same : is_of other (who, c) ≡ false = false_from_ne_true _ (λ t. ne (sym (eqb-true who other t))) in
    ap clock_of (find-append (is_of other) clocks ((who, c) ∷ [])
    ∙ ap (λ b. option_or (find (is_of other) clocks) (cond b (Some (who, c)) None)) not_same
    ∙ or_none (find (is_of other) clocks))

-- the push
pub misses : {P : Type 0} (slots new : List (Slot P)) (place : List ℕ) (y : Slot P)
    → position (is_named place) slots ≡ None → string_bytes y.place ≡ place → new ≡ slots ++ y ∷ []
    → Adds slots new place y
misses slots new place y e same grown = rw grown (adds slots place y e same)

none_from : {P : Type 0} (o : Option P) → is_some o ≡ false → o ≡ None
none_from None e = refl
none_from (Some part) e = absurd (never (sym e))

-- what a place tells as its part leaves and comes
module _ {P : Type 0} (told : P → Carried) where
  pub opens_told : (part : P) (old new : Option (Slot P)) → Leaves part old new
      → Opens (told part) (told_of told old) (told_of told new)
  opens_told part old new h =
      rw (h.was, h.now, h.had, h.has) (record {
        bytes = refl;
        faults = refl;
        open_faults = h.open_faults;
        is_out = h.is_out;
      })

  pub takes_told : (part : P) (old new : Option (Slot P)) → Comes part old new
      → TakesIn (told part) (told_of told old) (told_of told new)
  takes_told part old new h =
      rw (h.was, h.now, h.has) (record { bytes = refl; faults = refl; open_faults = h.open_faults; is_out = h.is_out })

  pub fills_told : (part : P) (old new : Option (Slot P)) → Fills part old new
      → TakesIn (told part) (told_of told old) (told_of told new)
  fills_told part None new h =
      rw (h.now, h.has) (record { bytes = refl; faults = refl; open_faults = h.open_faults; is_out = h.is_out })
  fills_told part (Some slot) new h =
      rw (h.now, h.has) (record { bytes = refl; faults = refl; open_faults = h.open_faults; is_out = h.is_out })

  misses_told : (old : Option (Slot P)) (new : Option (Slot P)) → (told_of told old).is_out ≡ false → IsMissed old new
      → FailsToOpen (told_of told old) (told_of told new)
  misses_told None new out h = rw (h.now, h.has) (record {
    bytes = refl;
    part_faults = refl;
    is_out = h.is_out;
    rose = rw h.open_faults (omega arith);
    later = omega arith;
  })
  misses_told (Some slot) new out h =
      rw (h.now, h.has, h.open_faults.0) (record {
        bytes = refl;
        part_faults = refl;
        is_out = h.is_out
            ∙ out;
        rose = rw h.open_faults.1 (omega arith);
        later = h.open_faults.2;
      })

  pub opened_told : (result : Result P OpenFault) (old new : Option (Slot P)) → (told_of told old).is_out ≡ false
      → OpensSlot result old new
      → IfOk result (λ part. Opens (told part) (told_of told old) (told_of told new))
      × IfErr result (λ e. Refuses e (told_of told old) (told_of told new))
  opened_told (Ok part) old new out h = (opens_told part old new h, tt)
  opened_told (Err Failed) old new out h = (tt, misses_told old new out h)
  opened_told (Err OutOfMemory) old new out h = (tt, ap (told_of told) h)

pub still_home : {P : Type 0} (old new : List (Slot P)) (place : List ℕ) → SameBut place (slot_at old) (slot_at new)
    → is_out_at (slot_at new place) ≡ false
    → ((q : List ℕ) → is_out_at (slot_at old q) ≡ false) → (q : List ℕ) → is_out_at (slot_at new q) ≡ false
still_home old new place s z h q = go (bytes_eq q place) refl
  where
    go : (b : Bool) → bytes_eq q place ≡ b → is_out_at (slot_at new q) ≡ false
    go true e = rw ((bytes_eq-Decides q place).0 e) z
    go false e = ap is_out_at (s q (λ same. never (sym e ∙ (bytes_eq-Decides q place).1 same))) ∙ h q

-- the home of all places, by what they tell
pub home_told : {P : Type 0} (told : P → Carried) (slot : Option (Slot P)) → (told_of told slot).is_out ≡ is_out_at slot
home_told told None = refl
home_told told (Some slot) = refl

-- a place without its part tells nothing
pub none_told : {P : Type 0} (told : P → Carried) (slot : Option (Slot P)) → is_some (part_at slot) ≡ false
    → IsTold no_part (told_of told slot)
none_told told None h = record { bytes = refl; faults = refl }
none_told told (Some slot) h = rw (none_from slot.part h) (record { bytes = refl; faults = refl })
