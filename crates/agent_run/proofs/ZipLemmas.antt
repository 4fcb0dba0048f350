-- A loop over a slice beside a vector of as many elements.
use Rattle.std.proofs.Common.{◌≡◌, ◌<◌, List, length, get_or, ap, ◌∙◌, arith, Bor, Option, Some, None, Iter}
use Rattle.std.specs.Iterator.{Yields}
use Rattle.std.specs.Iterator.Adapters.{zip_first, zip_second}
use Rattle.std.specs.List.{zip}
use Rattle.std.specs.Slice.Iter.{iter_rest}
use Rattle.std.specs.Vec.Iter.{into_iter_items, into_iter_len, into_iter_steps}
use Rattle.std.specs.declared.iter.Zip.{Zip}
use Rattle.std.specs.declared.vec.IntoIter.{IntoIter}
use Rattle.std.proofs.iter.Yields.{fronts}
use Rattle.std.proofs.lemmas.Iterator.{YieldsList, YieldsList-from_slice, YieldsList-from_zip, zips}
use Rattle.std.proofs.lemmas.Iterator.Adapters.{YieldsList-from_vec}
use Rattle.std.proofs.lemmas.Iterator.Consumers.{YieldsList-turn, YieldsList-end}
use Rattle.std.proofs.lemmas.Slice.Zip.{get_or-zip, length-zip}

module _ {X P Z : Type 0} (xs : List X) (ps : List P) (s : Zip (Iter X) (IntoIter P Z))
    (first : iter_rest (zip_first s) ≡ xs) (second : into_iter_items (zip_second s) ≡ ps)
    (len : into_iter_len (zip_second s) ≡ length ps) (same : length ps ≡ length xs)
    (yielded : List (Bor X × P)) (t : Zip (Iter X) (IntoIter P Z))
    (by : Yields (zips fronts into_iter_steps) s yielded t) (r : Option (Bor X × P)) (u : Zip (Iter X) (IntoIter P Z))
    (steps : zips fronts into_iter_steps t r u) where
  road : YieldsList (zips fronts into_iter_steps) (λ (q : Bor X × P). (q.0.now, q.1)) s (zip xs ps)
  road = YieldsList-from_zip (YieldsList-from_slice xs first) (YieldsList-from_vec ps second len)

  -- this turn's elements are those of its number
  pub turn : (x : Bor X) (p : P) → r ≡ Some (x, p) → (length yielded < length xs)
      × (x.now ≡ get_or xs (length yielded) x.now) × (p ≡ get_or ps (length yielded) p)
  turn x p is =
      let h = YieldsList-turn road yielded t by r u (x, p) is steps in
      let l : length yielded < length xs = omega (arith, h.0, length-zip xs ps) in
      let e = h.1 ∙ get_or-zip xs ps (length yielded) (x.now, p) l (omega (arith, l, same)) in
      (l, ap (λ (q : X × P). q.0) e, ap (λ (q : X × P). q.1) e)

  -- at the end there was a turn for each
  pub ended : r ≡ None → length yielded ≡ length xs
  ended is =
      let h = YieldsList-end road yielded t by r u is steps in
      omega (arith, h.1, length-zip xs ps, same)
