-- What each call makes of the items, as parts of the list of all that were pushed.
use Rattle.std.proofs.Common.{◌≡◌, ℕ, ◌+◌, ◌-◌, ◌<◌, ◌≤◌, ◌==◌, eqb, min, max, true, false, if◌then◌else◌, inl}
use Rattle.std.proofs.Common.{inr, List, [], ◌∷◌, ◌++◌, length, take, drop, slice_get, None, refl, sym, ◌∙◌}
use Rattle.std.proofs.Common.{ap, arith, length-append, length-drop}
use Rattle.std.specs.Option.{option_to_list}
use Rattle.std.proofs.lemmas.Bool.{cases_eq, cases_lt, eq-eqb, ne_eqb}
use Rattle.std.proofs.lemmas.List.{length-take, drop-drop, take_at, drop_at, drop-append-le, take-append-le}
use Rattle.std.proofs.lemmas.List.{take-append-drop, take_min, drop_all}
use Rattle.out_lane.specs.Lane.{newest, older}
use Rattle.out_lane.specs.LaneLaws.{items_between}

module _ {X : Type 0} where
  pub newest_drop : (limit start : ℕ) (ys : List X) → start ≤ length ys →
      newest limit (drop start ys) ≡ drop (max start (length ys - limit)) ys
  newest_drop limit start ys h =
      let e : start + (length (drop start ys) - limit) ≡ max start (length ys - limit) =
      omega (arith, length-drop start ys) in
      drop-drop (length (drop start ys) - limit) start ys ∙ ap (λ k. drop k ys) e

  pub older_drop : (limit start : ℕ) (ys : List X) → start ≤ length ys →
      older limit (drop start ys) ≡ items_between start (max start (length ys - limit)) ys
  older_drop limit start ys h =
      let e : length (drop start ys) - limit ≡ max start (length ys - limit) - start =
      omega (arith, length-drop start ys) in
      ap (λ k. take k (drop start ys)) e

  pub items_between-push : (from to : ℕ) (ys : List X) (y : X) → from ≤ to → to ≤ length ys →
      items_between from to (ys ++ y ∷ []) ≡ items_between from to ys
  items_between-push from to ys y f t =
      ap (λ (zs : List X). take (to - from) zs) (drop-append-le from ys (y ∷ []) (omega arith))
      ∙ take-append-le (to - from) (drop from ys) (y ∷ []) (omega (arith, length-drop from ys))

  pub length-items_between : (from to : ℕ) (ys : List X) → to ≤ length ys →
      length (items_between from to ys) ≡ to - from
  length-items_between from to ys t =
      omega (arith, length-take (to - from) (drop from ys), length-drop from ys)

  pub newest_push : (limit start : ℕ) (ys : List X) (y : X) → start ≤ length ys →
      newest limit (drop start ys ++ y ∷ []) ≡ drop (max start (length ys + 1 - limit)) (ys ++ y ∷ [])
  newest_push limit start ys y h =
      let n : length (ys ++ y ∷ []) ≡ length ys + 1 = omega (arith, length-append ys (y ∷ [])) in
      ap (λ (zs : List X). newest limit zs) (sym (drop-append-le start ys (y ∷ []) h))
      ∙ newest_drop limit start (ys ++ y ∷ []) (omega arith)
      ∙ ap (λ k. drop (max start (k - limit)) (ys ++ y ∷ [])) n

  first_of : (xs : List X) → option_to_list (slice_get xs 0) ≡ take 1 xs
  first_of [] = refl
  first_of (x ∷ xs) = refl

  front_out : (limit : ℕ) (xs : List X) → 1 ≤ limit → length xs ≤ limit →
      option_to_list (if length xs == limit then slice_get xs 0 else None) ≡ take (length xs + 1 - limit) xs
  front_out limit xs a h =
      elim (cases_eq (length xs) limit) [
        | inl e ↦
            (let t : eqb (length xs) limit ≡ true = eq-eqb (length xs) limit e in
            let k : length xs + 1 - limit ≡ 1 = omega arith in
            rw (t, k) (first_of xs))
        | inr ne ↦
            (let t : eqb (length xs) limit ≡ false = ne_eqb (length xs) limit ne in
            let k : length xs + 1 - limit ≡ 0 = omega arith in
            rw (t, k) refl)
      ]

  pub pushed_out_is : (limit start : ℕ) (ys : List X) → 1 ≤ limit → start ≤ length ys →
      length ys - limit ≤ start →
      option_to_list (if length (drop start ys) == limit then slice_get (drop start ys) 0 else None) ≡ items_between
      start (max start (length ys + 1 - limit)) ys
  pushed_out_is limit start ys a h l =
      let e : length (drop start ys) + 1 - limit ≡ max start (length ys + 1 - limit) - start =
      omega (arith, length-drop start ys) in
      front_out limit (drop start ys) a (omega (arith, length-drop start ys)) ∙ ap (λ k. take k (drop start ys)) e

  pub joined : (from to : ℕ) (ys : List X) → from ≤ to → items_between from to ys ++ drop to ys ≡ drop from ys
  joined from to ys h =
      let e : from + (to - from) ≡ to = omega arith in
      ap (λ (zs : List X). items_between from to ys ++ zs) (sym (drop-drop (to - from) from ys ∙ ap (λ k. drop k ys) e))
      ∙ take-append-drop (to - from) (drop from ys)

  -- how many are too many after a failed batch, where the newest begin behind it
  too_many : (limit from to start : ℕ) (ys : List X) → from ≤ to → to ≤ length ys →
      start ≡ max to (length ys - limit) → to < length ys - limit →
      length (items_between from to ys ++ drop start ys) - limit ≡ to - from
  too_many limit from to start ys f t s l =
      omega (
        arith,
        length-append (items_between from to ys) (drop start ys),
        length-items_between from to ys t,
        length-drop start ys,
      )

  -- what waits after a failed batch, and what no longer does
  pub newest_failed : (limit from to start : ℕ) (ys : List X) → from ≤ to → to ≤ length ys →
      start ≡ max to (length ys - limit) →
      newest limit (items_between from to ys ++ drop start ys) ≡ drop (max from (length ys - limit)) ys
  newest_failed limit from to start ys f t s =
      elim (cases_lt to (length ys - limit)) [
        | inl l ↦
            (let k : start ≡ max from (length ys - limit) = omega arith in
            ap (λ k. drop k (items_between from to ys ++ drop start ys)) (too_many limit from to start ys f t s l)
            ∙ drop_at (items_between from to ys) (drop start ys) (to - from) (length-items_between from to ys t)
            ∙ ap (λ k. drop k ys) k)
        | inr g ↦
            (let k : start ≡ to = omega arith in
            ap (λ k. newest limit (items_between from to ys ++ drop k ys)) k
            ∙ ap (λ (zs : List X). newest limit zs) (joined from to ys f)
            ∙ newest_drop limit from ys (omega arith))
      ]

  pub older_failed : (limit from to start : ℕ) (ys : List X) → from ≤ to → to ≤ length ys →
      start ≡ max to (length ys - limit) →
      older limit (items_between from to ys ++ drop start ys) ≡ items_between from
      (min to (max from (length ys - limit))) ys
  older_failed limit from to start ys f t s =
      elim (cases_lt to (length ys - limit)) [
        | inl l ↦
            (let k : to ≡ min to (max from (length ys - limit)) = omega arith in
            ap (λ k. take k (items_between from to ys ++ drop start ys)) (too_many limit from to start ys f t s l)
            ∙ take_at (items_between from to ys) (drop start ys) (to - from) (length-items_between from to ys t)
            ∙ ap (λ k. items_between from k ys) k)
        | inr g ↦
            (let k : start ≡ to = omega arith in
            let m : max from (length ys - limit) ≡ min to (max from (length ys - limit)) = omega arith in
            ap (λ k. older limit (items_between from to ys ++ drop k ys)) k
            ∙ ap (λ (zs : List X). older limit zs) (joined from to ys f)
            ∙ older_drop limit from ys (omega arith)
            ∙ ap (λ k. items_between from k ys) m)
      ]

  -- a batch of the oldest waiting items, and what waits behind it
  pub begun_items : (batch start : ℕ) (ys : List X) → start ≤ length ys →
      take batch (drop start ys) ≡ items_between start (min (start + batch) (length ys)) ys
  begun_items batch start ys h =
      let e : min batch (length (drop start ys)) ≡ min (start + batch) (length ys) - start =
      omega (arith, length-drop start ys) in
      sym (take_min batch (drop start ys)) ∙ ap (λ k. take k (drop start ys)) e

  pub behind_begun : (batch start : ℕ) (ys : List X) → start ≤ length ys →
      drop batch (drop start ys) ≡ drop (min (start + batch) (length ys)) ys
  behind_begun batch start ys h =
      drop-drop batch start ys
      ∙ elim (cases_lt (start + batch) (length ys)) [
        | inl l ↦ (let e : start + batch ≡ min (start + batch) (length ys) = omega arith in ap (λ k. drop k ys) e)
        | inr g ↦
            (let e : length ys ≡ min (start + batch) (length ys) = omega arith in
            drop_all (start + batch) ys g ∙ sym (drop_all (length ys) ys (omega arith)) ∙ ap (λ k. drop k ys) e)
      ]
