-- The bytes in hand, as places of the buffer.
use Rattle.std.proofs.Common.{◌≡◌, ℕ, ◌+◌, ◌-◌, ◌<◌, ◌≤◌, Bool, true, false, List, [], ◌∷◌, ◌++◌, length, take, drop}
use Rattle.std.proofs.Common.{refl, sym, ap, subst, ◌∙◌, append_assoc, arith, take_all, min, inl, inr, Option, Some}
use Rattle.std.proofs.Common.{None}
use Rattle.std.specs.Prelude.{◌⊎◌}
use Rattle.std.proofs.lemmas.Bool.{cases_lt}
use Rattle.std.proofs.lemmas.List.Edits.{take-paste}
use Rattle.std.specs.List.{between, copy_within}
use Rattle.std.specs.Io.KnownBytes.{Consumes, Keeps}
use Rattle.std.proofs.lemmas.List.{length-append, length-take, length-drop, drop-drop, take-take, take-append-drop}
use Rattle.std.proofs.lemmas.Slice.{between_is}
use Rattle.std.proofs.Math.Seq.{take-add, take-append-add, take-append_seam, drop-append_seam, drop-append-add}
use Rattle.agent_base.specs.declared.piece.CutKind.{CutKind}
use Rattle.agent_base.specs.Cut.{NoNewline, FirstNewline, has_newline, ends_piece, has_end, last_line, NoEnd, FirstEnd}
use Rattle.agent_base.specs.Cut.{Scanned}
use Rattle.agent_base.specs.Hand.{Hand, to_come, Steps}
use Rattle.agent_base.specs.Room.{most_kept}
use Rattle.agent_base.proofs.Cuts.{scanned_more, scanned_line, between_later}

-- the bytes from i to k are those from i to j and from j to k
pub between_join : (xs : List ℕ) (i j k : ℕ) → i ≤ j → j ≤ k → between i k xs ≡ between i j xs ++ between j k xs
between_join xs i j k low high =
    let e : k - i ≡ (j - i) + (k - j) = omega arith in
    let f : i + (j - i) ≡ j = omega arith in
    ap (λ (n : ℕ). take n (drop i xs)) e ∙ take-add (j - i) (k - j) (drop i xs)
    ∙ ap (λ (l : List ℕ). take (j - i) (drop i xs) ++ take (k - j) l)
    (drop-drop (j - i) i xs ∙ ap (λ (n : ℕ). drop n xs) f)

-- what stands before a place is the same where its front is
pub between_front : (xs ys : List ℕ) (i j k : ℕ) → j ≤ k → take k ys ≡ take k xs → between i j ys ≡ between i j xs
between_front xs ys i j k le e =
    between_is ys i j ∙ ap (drop i) (sym (take-take j k ys le) ∙ ap (take j) e ∙ take-take j k xs le)
    ∙ sym (between_is xs i j)

-- the front of some places
pub between_start : (xs : List ℕ) (start end i : ℕ) → i ≤ end - start
    → between start (start + i) xs ≡ take i (between start end xs)
between_start xs start end i h =
    let e : start + i - start ≡ i = omega arith in
    ap (λ (n : ℕ). take n (drop start xs)) e ∙ sym (take-take i (end - start) (drop start xs) h)

-- the last line is the same where the front is
pub scanned_front : (xs ys : List ℕ) (start line searched end : ℕ) → searched ≤ end → take end ys ≡ take end xs
    → last_line [] (between start searched xs) ≡ between line searched xs
    → last_line [] (between start searched ys) ≡ between line searched ys
scanned_front xs ys start line searched end le same last =
    ap (last_line []) (between_front xs ys start searched end le same) ∙ last
    ∙ sym (between_front xs ys line searched end le same)

-- a piece with its newline
pub whole_piece : (kind : CutKind) (xs : List ℕ) (start end i : ℕ) → FirstEnd kind (between start end xs) i
    → i + 1 ≤ end - start → between start (start + i + 1) xs ≡ take i (between start end xs) ++ 10 ∷ []
whole_piece kind xs start end i first within =
    let ys : List ℕ = between start end xs in
    let len : length (take i ys) ≡ i = omega (arith, length-take i ys, first.within) in
    let split : ys ≡ take i ys ++ 10 ∷ drop (i + 1) ys = sym (take-append-drop i ys)
    ∙ ap (λ (l : List ℕ). take i ys ++ l) first.stops in
    let m : start + i + 1 ≡ start + (i + 1) = omega arith in
    let n : i + 1 ≡ length (take i ys) + 1 = omega arith in
    ap (λ (k : ℕ). between start k xs) m ∙ between_start xs start end (i + 1) within ∙ ap (λ (k : ℕ). take k ys) n
    ∙ ap (take (length (take i ys) + 1)) split ∙ take-append-add (take i ys) (10 ∷ drop (i + 1) ys) 1

-- ---- bytes moved to the front

module _ (xs new : List ℕ) (a b : ℕ) (is : new ≡ copy_within xs a b 0) (low : a ≤ b) (within : b ≤ length xs) where
  moved_all : take (b - a) new ≡ take (b - a) (drop a xs)
  moved_all =
      let e : 0 + (b - a) ≡ b - a = omega arith in
      ap (take (b - a)) is ∙ ap (λ (n : ℕ). take n (copy_within xs a b 0)) (sym e)
      ∙ take-paste xs 0 (drop a xs) (b - a) (omega arith) (omega (arith, length-drop a xs))

  moved_front : (n : ℕ) → n ≤ b - a → take n new ≡ take n (drop a xs)
  moved_front n fits = sym (take-take n (b - a) new fits) ∙ ap (take n) moved_all ∙ take-take n (b - a) (drop a xs) fits

  -- the bytes from the first place on
  pub moved_start : (n : ℕ) → n ≤ b - a → between 0 n new ≡ between a (a + n) xs
  moved_start n fits =
      let e : n - 0 ≡ n = omega arith in
      let f : a + n - a ≡ n = omega arith in
      ap (λ (k : ℕ). take k new) e ∙ moved_front n fits ∙ sym (ap (λ (k : ℕ). take k (drop a xs)) f)

  -- the bytes between two later places
  pub moved_between : (i j : ℕ) → a ≤ i → i ≤ j → j ≤ b → between (i - a) (j - a) new ≡ between i j xs
  moved_between i j first order last =
      let e : (j - a) - (i - a) ≡ j - i = omega arith in
      let f : a + (i - a) ≡ i = omega arith in
      between_is new (i - a) (j - a) ∙ ap (drop (i - a)) (moved_front (j - a) (omega arith))
      ∙ sym (between_is (drop a xs) (i - a) (j - a))
      ∙ ap (λ (k : ℕ). take k (drop (i - a) (drop a xs))) e ∙ ap (take (j - i))
      (drop-drop (i - a) a xs ∙ ap (λ (k : ℕ). drop k xs) f)

-- what is kept of the last line
pub kept_is : (xs new : List ℕ) (kind : CutKind) (start line searched end n : ℕ)
    → new ≡ copy_within xs line (line + n) 0 → n ≡ min (end - line) (most_kept kind) → line ≤ searched → searched ≡ end
    → end ≤ length xs
    → last_line [] (between start searched xs) ≡ between line searched xs
    → between 0 n new ≡ take (most_kept kind) (last_line [] (between start end xs))
kept_is xs new kind start line searched end n is count low all within last =
    let e : line + n - line ≡ n = omega arith in
    let front : between 0 n new ≡ between line (line + n) xs =
    moved_start xs new line (line + n) is (omega arith) (omega arith) n (omega arith) in
    let whole : last_line [] (between start end xs) ≡ between line end xs =
    subst (λ (k : ℕ). last_line [] (between start k xs) ≡ between line k xs) all last in
    front ∙ ap (λ (k : ℕ). take k (drop line xs)) e ∙ cut (cases_lt (end - line) (most_kept kind))
    ∙ ap (take (most_kept kind)) (sym whole)
  where
    cut : ((end - line) < most_kept kind) ⊎ (most_kept kind ≤ (end - line))
        → take n (drop line xs) ≡ take (most_kept kind) (between line end xs)
    cut (inl short) =
        let m : n ≡ end - line = omega arith in
        ap (λ (k : ℕ). take k (drop line xs)) m ∙ sym (take_all (most_kept kind) (between line end xs)
        (omega (arith, length-take (end - line) (drop line xs))))
    cut (inr long) =
        let m : n ≡ most_kept kind = omega arith in
        ap (λ (k : ℕ). take k (drop line xs)) m ∙ sym (take-take (most_kept kind) (end - line) (drop line xs) long)

-- ---- what was searched

-- no bytes were searched
pub none_clean : (kind : CutKind) (xs : List ℕ) (at : ℕ) → NoEnd kind (between at at xs)
unfolding has_end
none_clean kind xs at = let none : at - at ≡ 0 = omega arith in rw none refl

pub none_last : (xs : List ℕ) (at : ℕ) → last_line [] (between at at xs) ≡ between at at xs
unfolding last_line
none_last xs at = let none : at - at ≡ 0 = omega arith in rw none refl

-- what was searched up to a place where a line begins
pub begun_last : (kind : CutKind) (xs : List ℕ) (start at : ℕ) → Scanned kind (between start at xs) []
    → last_line [] (between start at xs) ≡ between at at xs
begun_last kind xs start at s = let none : at - at ≡ 0 = omega arith in s.begun ∙ rw none refl

-- all bytes were searched
pub all_searched : (kind : CutKind) (xs : List ℕ) (start searched end : ℕ) → searched ≡ end
    → NoEnd kind (between start searched xs) → NoEnd kind (between start end xs)
all_searched kind xs start searched end same clean = subst (λ (n : ℕ). NoEnd kind (between start n xs)) same clean

-- a first end behind bytes that have none
end_behind_scanned : (kind : CutKind) (front line ys : List ℕ) → Scanned kind front line → ends_piece kind line ≡ true
    → FirstEnd kind (front ++ 10 ∷ ys) (length front)
end_behind_scanned kind front line ys s ends =
    let front_is : take (length front) (front ++ 10 ∷ ys) ≡ front = take-append_seam front (10 ∷ ys) in
    record {
      within = omega (arith, length-append front (10 ∷ ys));
      clean = ap (has_end kind []) front_is ∙ s.clean;
      stops = drop-append_seam front (10 ∷ ys) ∙ ap (λ (l : List ℕ). 10 ∷ l) (sym (drop-append-add front (10 ∷ ys) 1));
      ends = ap (λ (l : List ℕ). ends_piece kind (last_line [] l)) front_is ∙ ap (ends_piece kind) s.begun ∙ ends;
    }

module _ (kind : CutKind) (xs : List ℕ) (start line searched end : ℕ) (low : start ≤ line) (mid : line ≤ searched)
    (high : searched ≤ end) (within : end ≤ length xs)
    (clean : NoEnd kind (between start searched xs)) (last : last_line [] (between start searched xs) ≡ between line
    searched xs) where
  -- no newline stands in the next places
  pub scanned_to : (at : ℕ) → searched ≤ at → NoNewline (between searched at xs)
      → Scanned kind (between start at xs) (between line at xs)
  scanned_to at more none =
      rw (between_join xs start searched at (omega arith) more, between_join xs line searched at mid more)
      (scanned_more kind (between start searched xs) (between line searched xs) (record { clean = clean; begun = last })
      (between searched at xs) none)

  module _ (i : ℕ) (first : FirstNewline (between searched end xs) i) where
    newline_within : i < end - searched
    newline_within = omega (
      arith,
      first.within,
      length-take (end - searched) (drop searched xs),
      length-drop searched xs,
    )

    -- the line up to the newline
    pub scanned_line_to : Scanned kind (between start (searched + i) xs) (between line (searched + i) xs)
    scanned_line_to = scanned_to (searched + i) (omega arith)
        (ap has_newline (between_start xs searched end i (omega (arith, newline_within))) ∙ first.clean)

    -- what stands from the newline on
    from_newline : between (searched + i) end xs ≡ 10 ∷ drop (i + 1) (between searched end xs)
    from_newline = between_later xs searched end i (searched + i) refl (omega (arith, newline_within)) ∙ first.stops

    -- the newline ends the piece
    pub first_end : ends_piece kind (between line (searched + i) xs) ≡ true
        → FirstEnd kind (between start end xs) (searched + i - start)
    first_end ends =
        let len : length (between start (searched + i) xs) ≡ searched + i - start =
        omega (arith, newline_within, length-take (searched + i - start) (drop start xs), length-drop start xs) in
        let whole : between start end xs ≡ between start (searched + i) xs
        ++ 10 ∷ drop (i + 1) (between searched end xs) =
        between_join xs start (searched + i) end (omega arith) (omega (arith, newline_within))
        ∙ ap (λ (l : List ℕ). between start (searched + i) xs ++ l) from_newline in
        subst (λ (l : List ℕ). FirstEnd kind l (searched + i - start)) (sym whole)
        (subst (FirstEnd kind (between start (searched + i) xs ++ 10 ∷ drop (i + 1) (between searched end xs))) len
        (end_behind_scanned kind (between start (searched + i) xs) (between line (searched + i) xs)
        (drop (i + 1) (between searched end xs)) scanned_line_to ends))

    -- the newline ends another line
    pub scanned_behind : ends_piece kind (between line (searched + i) xs) ≡ false
        → Scanned kind (between start (searched + i + 1) xs) []
    scanned_behind other =
        let one : between (searched + i) (searched + i + 1) xs ≡ 10 ∷ [] =
        between_start xs (searched + i) end 1 (omega (arith, newline_within)) ∙ ap (take 1) from_newline in
        rw (between_join xs start (searched + i) (searched + i + 1) (omega arith) (omega arith), one)
        (scanned_line kind (between start (searched + i) xs) (between line (searched + i) xs) scanned_line_to other)

-- ---- a read

pub read_hand : (xs ys old new : List ℕ) (start end most n : ℕ) → start ≤ end → n ≤ most → take end new ≡ take end old
    → xs ≡ take n (between end (end + most) new) ++ ys
    → between start end old ++ xs ≡ between start (end + n) new ++ ys
read_hand xs ys old new start end most n le fits same h =
    let m : end + most - end ≡ most = omega arith in
    let k : end + n - end ≡ n = omega arith in
    let front : take n (between end (end + most) new) ≡ between end (end + n) new =
    ap (λ (j : ℕ). take n (take j (drop end new))) m ∙ take-take n most (drop end new) fits
    ∙ ap (λ (j : ℕ). take j (drop end new)) (sym k) in
    let whole : between start (end + n) new ≡ between start end old ++ between end (end + n) new =
    between_join new start end (end + n) le (omega arith) ∙ ap (λ (l : List ℕ). l ++ between end (end + n) new)
    (between_front old new start end end (omega arith) same) in
    ap (λ (l : List ℕ). between start end old ++ l) (h ∙ ap (λ (l : List ℕ). l ++ ys) front)
    ∙ sym (append_assoc (between start end old) (between end (end + n) new) ys)
    ∙ ap (λ (l : List ℕ). l ++ ys) (sym whole)

pub read_steps : (before after : Option (List ℕ)) (old new : List ℕ) (start end most n taken counted : ℕ)
    (kind : CutKind) (p : Bool) → start ≤ end → n ≤ most → end + most ≤ length new → take end new ≡ take end old
    → counted ≡ taken + n
    → Consumes before after (take n (between end (end + most) new))
    → Steps before after (record { kind = kind; bytes = between start end old; is_passing = p; taken = taken })
    (record { kind = kind; bytes = between start (end + n) new; is_passing = p; taken = counted })
read_steps None after old new start end most n taken counted kind p le fits within same rise h = tt
read_steps (Some xs) None old new start end most n taken counted kind p le fits within same rise h = absurd h
read_steps (Some xs) (Some ys) old new start end most n taken counted kind p le fits within same rise h =
    let front : List ℕ = take n (between end (end + most) new) in
    let len : length front ≡ n = omega (
      arith,
      length-take n (between end (end + most) new),
      length-take (end + most - end) (drop end new),
      length-drop end new,
    ) in
    let all : length xs ≡ length front + length ys = ap length h ∙ length-append front ys in
    record {
      pieces = ap (λ (l : List ℕ). to_come (record { kind = kind; bytes = []; is_passing = p; taken = 0 }) l)
          (read_hand xs ys old new start end most n le fits same h);
      counted = omega arith;
    }

-- nothing was read
pub keeps_steps : (before after : Option (List ℕ)) (old new : Hand) → Keeps before after → new ≡ old
    → Steps before after old new
keeps_steps None after old new h same = tt
keeps_steps (Some xs) None old new h same = absurd h
keeps_steps (Some xs) (Some ys) old new h same = rw (same, h) (record { pieces = refl; counted = refl })

-- the same bytes in hand, with the same kind, mark and count
pub hand_is : (kind : CutKind) (bytes old : List ℕ) (p : Bool) (counted taken : ℕ) → bytes ≡ old → counted ≡ taken
    → (let h : Hand = record { kind = kind; bytes = bytes; is_passing = p; taken = counted } in
    h) ≡ record { kind = kind; bytes = old; is_passing = p; taken = taken }
hand_is kind bytes old p counted taken e f = rw (e, f) refl
