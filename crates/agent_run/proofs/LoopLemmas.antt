-- Loops over the parts of inputs or of outputs, which open them at their places or give them back there.
use Rattle.std.proofs.Common.{◌≡◌, ◌<◌, ◌+◌, ◌++◌, ℕ, List, [], ◌∷◌, length, take, get_or, map, ap, sym, ◌∙◌, subst}
use Rattle.std.proofs.Common.{arith, Bor, Option, Some, None, Iter, true, false}
use Rattle.std.specs.Iterator.{Yields}
use Rattle.std.specs.Iterator.Adapters.{zip_first, zip_second}
use Rattle.std.specs.List.{IsDistinct}
use Rattle.std.specs.Slice.Iter.{iter_rest}
use Rattle.std.specs.Str.{bytes_eq}
use Rattle.std.specs.Vec.Iter.{into_iter_items, into_iter_len, into_iter_steps}
use Rattle.std.specs.declared.iter.Zip.{Zip}
use Rattle.std.specs.declared.vec.IntoIter.{IntoIter}
use Rattle.std.proofs.iter.Yields.{fronts}
use Rattle.std.proofs.lemmas.Iterator.{zips}
use Rattle.std.proofs.lemmas.List.{length-map, length_push, take-map}
use Rattle.agent_base.specs.Carried.{Carried}
use Rattle.agent_base.specs.Places.{Place, Refuses, SameBut, AreHome, Opens, TakesIn}
use Rattle.agent_base.specs.declared.world.OpenFault.{OpenFault}
use Rattle.agent_run.specs.PlaceLists.{AreOpened, AreGiven, PartsAreOut, AreRefused, IsUnopenedBy, StopsAt, place_at}
use Rattle.agent_run.specs.declared.places.Unopened.{Unopened}
use Rattle.agent_run.proofs.PartLemmas.{distinct_take, give_next, go_all, go_next, next_same, place_here, stopped_out}
use Rattle.agent_run.proofs.PartLemmas.{stopped_refused, stops_at}
use Rattle.agent_run.proofs.ZipLemmas.{turn, ended}

-- ---- parts that are opened, one after the other

module _ {X P : Type 0} (place_of : X → List ℕ) (told : P → Carried) (xs : List X)
    (apart : IsDistinct bytes_eq (map place_of xs)) (i : ℕ) (x : X) (l : i < length xs) (is : x ≡ get_or xs i x)
    (place : List ℕ) (named : place ≡ place_of x)
    (parts : List P) (w0 w1 : List ℕ → Place) (h : AreOpened (take i (map place_of xs)) (map told parts) w0 w1) where
  within : i < length (map place_of xs)
  within = omega (arith, l, length-map xs place_of)

  here : place ≡ place_at (map place_of xs) i
  here = named ∙ place_here place_of xs i x l is

  -- the next place is at home
  pub opens_from : AreHome w0 → (w1 place).is_out ≡ false
  opens_from home = ap (λ (p : Place). p.is_out) (next_same Opens (map place_of xs) apart i within
      (map told parts) place w0 w1 here h) ∙ home place

  -- its part was opened
  pub opens_next : (part : P) (w2 : List ℕ → Place) → Opens (told part) (w1 place) (w2 place) → SameBut place w1 w2
      → AreOpened (take (i + 1) (map place_of xs)) (map told (parts ++ part ∷ [])) w0 w2
  opens_next part w2 opened others = go_next told Opens (map place_of xs) apart i within parts part place w0 w1 w2 here
      h opened others

  -- it wasn't opened
  pub opens_no_more : (fault : OpenFault) (unopened : Unopened) (w2 : List ℕ → Place)
      → IsUnopenedBy fault place unopened → Refuses fault (w1 place) (w2 place) → SameBut place w1 w2
      → StopsAt unopened (map place_of xs) (map told parts) w0 w2
  opens_no_more fault unopened w2 by refused others = stops_at fault unopened (map place_of xs)
      (map told parts) i place w0 w1 w2 within here h by refused others

-- ---- parts that were opened until one wasn't

pub front_apart : {X : Type 0} (place_of : X → List ℕ) (xs : List X) (n : ℕ) → IsDistinct bytes_eq (map place_of xs)
    → IsDistinct bytes_eq (map place_of (take n xs))
front_apart place_of xs n apart = subst (IsDistinct bytes_eq) (take-map place_of n xs)
    (distinct_take n (map place_of xs) apart)

module _ {X P : Type 0} (place_of : X → List ℕ) (told : P → Carried) (xs : List X)
    (apart : IsDistinct bytes_eq (map place_of xs)) (parts : List P) (n : ℕ) (count : n ≡ length parts)
    (unopened : Unopened) (w0 w1 : List ℕ → Place) (stopped : StopsAt unopened (map place_of xs)
    (map told parts) w0 w1) where
  carried : n ≡ length (map told parts)
  carried = count ∙ sym (length-map parts told)

  -- they are out
  pub front_out : PartsAreOut (map place_of (take n xs)) w1
  front_out = subst (λ (ps : List (List ℕ)). PartsAreOut ps w1) (take-map place_of n xs)
      (stopped_out unopened (map place_of xs) (map told parts) n w0 w1 apart stopped carried)

  -- they are given back
  pub front_refused : (w2 : List ℕ → Place) → AreHome w0 → AreGiven (map place_of (take n xs)) (map told parts) w1 w2
      → AreRefused unopened (map place_of xs) w0 w2
  front_refused w2 home given =
      stopped_refused unopened (map place_of xs) (map told parts) n w0 w1 apart stopped carried w2 home
      (subst (λ (ps : List (List ℕ)). AreGiven ps (map told parts) w1 w2) (sym (take-map place_of n xs)) given)

-- ---- parts that are given back, one after the other

module _ {X P Z : Type 0} (place_of : X → List ℕ) (told : P → Carried) (xs : List X) (ps : List P)
    (s : Zip (Iter X) (IntoIter P Z)) (first : iter_rest (zip_first s) ≡ xs)
    (second : into_iter_items (zip_second s) ≡ ps) (len : into_iter_len (zip_second s) ≡ length ps)
    (same : length ps ≡ length xs)
    (yielded : List (Bor X × P)) (t : Zip (Iter X) (IntoIter P Z))
    (by : Yields (zips fronts into_iter_steps) s yielded t) (r : Option (Bor X × P)) (u : Zip (Iter X) (IntoIter P Z))
    (steps : zips fronts into_iter_steps t r u)
    (w0 w1 : List ℕ → Place) (h : AreGiven (take (length yielded) (map place_of xs))
    (take (length yielded) (map told ps)) w0 w1) where
  module _ (apart : IsDistinct bytes_eq (map place_of xs)) (x : Bor X) (p : P) (is : r ≡ Some (x, p)) (place : List ℕ)
      (named : place ≡ place_of x.now) where
    at_turn : (length yielded < length xs) × (x.now ≡ get_or xs (length yielded) x.now)
        × (p ≡ get_or ps (length yielded) p)
    at_turn = turn xs ps s first second len same yielded t by r u steps x p is

    within_turn : length yielded < length (map place_of xs)
    within_turn = omega (arith, at_turn.0, length-map xs place_of)

    here_turn : place ≡ place_at (map place_of xs) (length yielded)
    here_turn = named ∙ place_here place_of xs (length yielded) x.now at_turn.0 at_turn.1

    -- the part of the next place is out
    pub gives_from : PartsAreOut (map place_of xs) w0 → (w1 place).is_out ≡ true
    gives_from out =
        ap (λ (q : Place). q.is_out) (next_same TakesIn (map place_of xs) apart (length yielded) within_turn
        (take (length yielded) (map told ps)) place w0 w1 here_turn h)
        ∙ ap (λ q. (w0 q).is_out) here_turn ∙ out (length yielded) within_turn

    -- it was given back
    pub gives_next : (w2 : List ℕ → Place) → TakesIn (told p) (w1 place) (w2 place) → SameBut place w1 w2
        → AreGiven (take (length (yielded ++ (x, p) ∷ [])) (map place_of xs))
        (take (length (yielded ++ (x, p) ∷ [])) (map told ps)) w0 w2
    gives_next w2 given others =
        give_next told TakesIn (map place_of xs) apart (length yielded) (length (yielded ++ (x, p) ∷ []))
        (length_push yielded (x, p)) within_turn ps p place w0 w1 w2 (omega (arith, at_turn.0, same)) at_turn.2
        here_turn h given others

  -- each was
  pub gives_all : r ≡ None → AreGiven (map place_of xs) (map told ps) w0 w1
  gives_all is =
      go_all TakesIn (map place_of xs) (map told ps) (length yielded) w0 w1
      (ended xs ps s first second len same yielded t by r u steps is ∙ sym (length-map xs place_of))
      (length-map ps told ∙ same ∙ sym (length-map xs place_of)) h
