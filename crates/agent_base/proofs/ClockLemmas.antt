-- Moments one after another: one more, joined, and from further indices.
use Rattle.std.proofs.Common.{◌≡◌, ◌≤◌, ℕ, List, [], ◌∷◌, ◌++◌, refl, ap, ◌∙◌, arith}
use Rattle.std.specs.Prelude.{ℤ}
use Rattle.std.specs.Int.{int_max}
use Rattle.std.proofs.lemmas.Int.{ints, clamps}
use Rattle.agent_base.specs.Moments.{Moments, GivesAt}
use Rattle.agent_base.specs.Clocked.{Clocked, Counted, index_behind, last_of}

-- the greater of two is the same in either order
pub int_max-comm : (a b : ℤ) → int_max a b ≡ int_max b a
int_max-comm a b = omega (arith, ints, clamps)

-- ---- from a first index to a last one

pub clocked_forward : (moments : Moments) (first last : ℕ) (ms : List ℤ) → Clocked moments first last ms → first ≤ last
unfolding Clocked
clocked_forward moments first last [] h = h
clocked_forward moments first last (m ∷ ms) h = omega arith

pub counted_forward : (moments : Moments) (first last : ℕ) (floor : ℤ) (ms : List ℤ)
    → Counted moments first last floor ms → first ≤ last
unfolding Counted
counted_forward moments first last floor [] h = h
counted_forward moments first last floor (m ∷ ms) h = omega arith

-- ---- further indices

pub clocked_wider : (moments : Moments) (low first last high : ℕ) (ms : List ℤ) → low ≤ first → last ≤ high
    → Clocked moments first last ms → Clocked moments low high ms
unfolding Clocked
clocked_wider moments low first last high [] p q h = omega arith
clocked_wider moments low first last high (m ∷ ms) p q h =
    let behind : ℕ = index_behind moments h.index in
    record {
      index = h.index;
      from = omega arith;
      to = omega arith;
      is = h.is;
      rest = clocked_wider moments behind behind last high ms (omega arith) q h.rest;
    }

pub counted_wider : (moments : Moments) (low first last high : ℕ) (floor : ℤ) (ms : List ℤ) → low ≤ first → last ≤ high
    → Counted moments first last floor ms → Counted moments low high floor ms
unfolding Counted
counted_wider moments low first last high floor [] p q h = omega arith
counted_wider moments low first last high floor (m ∷ ms) p q h =
    let behind : ℕ = index_behind moments h.index in
    record {
      index = h.index;
      from = omega arith;
      to = omega arith;
      is = h.is;
      rest = counted_wider moments behind behind last high m ms (omega arith) q h.rest;
    }

-- ---- joined

pub clocked_joined : (moments : Moments) (first middle last : ℕ) (ms ns : List ℤ) → Clocked moments first middle ms
    → Clocked moments middle last ns → Clocked moments first last (ms ++ ns)
unfolding Clocked
clocked_joined moments first middle last [] ns h k = clocked_wider moments first middle last last ns h (omega arith) k
clocked_joined moments first middle last (m ∷ ms) ns h k =
    let forward = clocked_forward moments middle last ns k in
    record {
      index = h.index;
      from = h.from;
      to = omega arith;
      is = h.is;
      rest = clocked_joined moments (index_behind moments h.index) middle last ms ns h.rest k;
    }

pub counted_joined : (moments : Moments) (first middle last : ℕ) (floor : ℤ) (ms ns : List ℤ)
    → Counted moments first middle floor ms → Counted moments middle last (last_of floor ms) ns
    → Counted moments first last floor (ms ++ ns)
unfolding Counted
counted_joined moments first middle last floor [] ns h k = counted_wider moments first middle last last floor ns h
    (omega arith) k
counted_joined moments first middle last floor (m ∷ ms) ns h k =
    let forward = counted_forward moments middle last (last_of m ms) ns k in
    record {
      index = h.index;
      from = h.from;
      to = omega arith;
      is = h.is;
      rest = counted_joined moments (index_behind moments h.index) middle last m ms ns h.rest k;
    }

pub last_of-append : (floor : ℤ) (ms ns : List ℤ) → last_of floor (ms ++ ns) ≡ last_of (last_of floor ms) ns
last_of-append floor [] ns = refl
last_of-append floor (m ∷ ms) ns = last_of-append m ms ns

-- ---- one moment that was given

pub clocked_one : (moments : Moments) (old new : ℕ) (m : ℤ) → GivesAt moments old new m
    → Clocked moments old new (m ∷ [])
unfolding Clocked
clocked_one moments old new m h = record {
  index = old;
  from = omega arith;
  to = omega arith;
  is = h.given;
  rest = omega arith;
}

-- it counts as the greater one of it and the floor
counted_as : (moments : Moments) (old new : ℕ) (m floor counted : ℤ) → counted ≡ int_max floor m
    → GivesAt moments old new m → Counted moments old new floor (counted ∷ [])
unfolding Counted
counted_as moments old new m floor counted is h = record {
  index = old;
  from = omega arith;
  to = omega arith;
  is = is ∙ ap (int_max floor) h.given;
  rest = omega arith;
}

pub counted_one : (moments : Moments) (old new : ℕ) (m floor : ℤ) → GivesAt moments old new m
    → Counted moments old new floor (int_max floor m ∷ [])
counted_one moments old new m floor h = counted_as moments old new m floor (int_max floor m) refl h

pub counted_one_over : (moments : Moments) (old new : ℕ) (m floor : ℤ) → GivesAt moments old new m
    → Counted moments old new floor (int_max m floor ∷ [])
counted_one_over moments old new m floor h =
    counted_as moments old new m floor (int_max m floor) (int_max-comm m floor) h

-- none was given
pub clocked_none : (moments : Moments) (old new : ℕ) → old ≤ new → Clocked moments old new []
unfolding Clocked
clocked_none moments old new h = h

pub counted_none : (moments : Moments) (old new : ℕ) (floor : ℤ) → old ≤ new → Counted moments old new floor []
unfolding Counted
counted_none moments old new floor h = h
