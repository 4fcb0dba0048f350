-- What a piece that is given or passed over does to the pieces to come.
use Rattle.std.proofs.Common.{◌≡◌, ℕ, ◌+◌, ◌-◌, ◌<◌, ◌≤◌, Bool, true, false, List, [], ◌∷◌, length, take, refl, sym, ap}
use Rattle.std.proofs.Common.{◌∙◌, ◌++◌, arith, inl, inr, Result, Ok, Err}
use Rattle.std.specs.Prelude.{OnErr, ◌⊎◌}
use Rattle.std.specs.List.{between}
use Rattle.std.proofs.lemmas.List.{length-take, append-nil}
use Rattle.agent_base.specs.declared.piece.CutKind.{CutKind}
use Rattle.agent_base.specs.Cut.{Cut, TooLong, Whole, passed, passed_from, content, most_before, most_bytes, last_line}
use Rattle.agent_base.specs.Cut.{NoEnd, FirstEnd}
use Rattle.agent_base.specs.Hand.{Hand, to_come, IsSameToCome}
use Rattle.agent_base.specs.Room.{most_kept}
use Rattle.agent_base.proofs.Cuts.{passed_more, long_hand, piece_taken, piece_passed, piece_within, ended_long}
use Rattle.agent_base.proofs.Cuts.{ended_whole, last_passed, last_piece, cut_nothing}
use Rattle.agent_base.proofs.Cuts.{alike, kept_alike, kept_scanned}
use Rattle.agent_base.proofs.BufferLemmas.{between_front}

pub on_err : {T E : Type 0} (r : Result T E) (P : Type 0) → P → OnErr r P
on_err (Ok x) P p = tt
on_err (Err e) P p = p

-- ---- room for a read

module _ (old new : Hand) (k : new.kind ≡ old.kind) (q : new.is_passing ≡ true) (clean : NoEnd old.kind old.bytes)
    (kept : new.bytes ≡ take (most_kept old.kind) (last_line [] old.bytes)) (counted : new.taken ≡ old.taken) where
  -- of a piece that is passed over so much is kept that shows the next end
  passed_kept : (left : List ℕ) → passed_from old.kind (last_line [] old.bytes) left ≡ passed old.kind
      (take (most_kept old.kind) (last_line [] old.bytes) ++ left)
  passed_kept left =
      alike old.kind (last_line [] old.bytes) (take (most_kept old.kind) (last_line [] old.bytes)) left
      (λ more. kept_alike old.kind (last_line [] old.bytes) more)
      ∙ sym (passed_more old.kind [] (take (most_kept old.kind) (last_line [] old.bytes)) left
      (kept_scanned old.kind old.bytes).clean ∙ ap (λ (l : List ℕ). passed_from old.kind l left)
      (kept_scanned old.kind old.bytes).begun)

  -- no end is in what is kept
  pub kept_none : NoEnd new.kind new.bytes
  kept_none = rw (k, kept) (kept_scanned old.kind old.bytes).clean

  pub passes : old.is_passing ≡ true → IsSameToCome old new
  passes p = record {
    pieces = λ left. rw (q, p, k, kept) (ap (λ (r : List Cut). TooLong ∷ r)
        (passed_more old.kind [] old.bytes left clean ∙ passed_kept left));
    counted = counted;
  }

  pub passes_long : old.is_passing ≡ false → most_bytes old.kind < length old.bytes → IsSameToCome old new
  passes_long p long = record {
    pieces = λ left. rw (q, p, k, kept) (long_hand old.kind old.bytes left clean long
        ∙ ap (λ (r : List Cut). TooLong ∷ r) (passed_kept left));
    counted = counted;
  }

  pub passes_over : (old.is_passing ≡ true) ⊎ (most_bytes old.kind < length old.bytes) → IsSameToCome old new
  passes_over why = go old.is_passing refl why
    where
      go : (b : Bool) → old.is_passing ≡ b → (old.is_passing ≡ true) ⊎ (most_bytes old.kind < length old.bytes)
          → IsSameToCome old new
      go true e reason = passes e
      go false e (inl passing) = passes passing
      go false e (inr long) = passes_long e long

-- ---- a piece whose end is in hand

module _ (old new : Hand) (k : new.kind ≡ old.kind) (xs : List ℕ) (start end i at : ℕ)
    (had : old.bytes ≡ between start end xs) (has : new.bytes ≡ between at end xs) (is : at ≡ start + i + 1)
    (first : FirstEnd old.kind (between start end xs) i) where
  pub gives_passed : old.is_passing ≡ true → new.is_passing ≡ false → (left : List ℕ)
      → to_come old left ≡ TooLong ∷ to_come new left
  gives_passed p q left = rw (p, q, k, had, has) (ap (λ (r : List Cut). TooLong ∷ r)
      (piece_passed old.kind xs start end i first at left is))

  pub gives_long : old.is_passing ≡ false → new.is_passing ≡ false → most_before old.kind < i → (left : List ℕ)
      → to_come old left ≡ TooLong ∷ to_come new left
  gives_long p q h left =
      let room : i < length (between start end xs) = first.within in
      let long = ended_long old.kind (take i (between start end xs))
      (omega (arith, length-take i (between start end xs))) in
      rw (p, q, k, had, has) (piece_taken old.kind xs start end i first at left is ∙ rw long refl)

  pub gives_whole : old.is_passing ≡ false → new.is_passing ≡ false → i ≤ most_before old.kind → (given : List ℕ)
      → given ≡ content old.kind (take i (between start end xs)) → (left : List ℕ)
      → to_come old left ≡ Whole given ∷ to_come new left
  gives_whole p q h given content_is left =
      let short = ended_whole old.kind (take i (between start end xs))
      (omega (arith, length-take i (between start end xs))) in
      rw (p, q, k, had, has) (piece_taken old.kind xs start end i first at left is ∙ rw (short, content_is) refl)

pub piece_room : (kind : CutKind) (xs : List ℕ) (start end i : ℕ) → FirstEnd kind (between start end xs) i
    → start + i + 1 ≤ end
piece_room kind xs start end i first = omega (arith, piece_within kind xs start end i first)

-- ---- the end of the source

pub ends_passed : (old new : Hand) → new.kind ≡ old.kind → old.is_passing ≡ true → new.is_passing ≡ false
    → NoEnd old.kind old.bytes → new.bytes ≡ [] → to_come old [] ≡ TooLong ∷ to_come new []
ends_passed old new k p q clean none = rw (q, p, k, none, append-nil)
    (ap (λ (r : List Cut). TooLong ∷ r) (last_passed old.kind old.bytes clean ∙ sym (cut_nothing old.kind)))

pub ends_empty : (old : Hand) → old.is_passing ≡ false → old.bytes ≡ [] → to_come old [] ≡ []
ends_empty old p none = rw (p, none) (cut_nothing old.kind)

pub ends_last : (old new : Hand) (given : List ℕ) → new.kind ≡ old.kind → old.is_passing ≡ false
    → new.is_passing ≡ false → NoEnd old.kind old.bytes → 0 < length old.bytes → length old.bytes ≤ most_bytes old.kind
    → given ≡ old.bytes → new.bytes ≡ []
    → to_come old [] ≡ Whole given ∷ to_come new []
ends_last old new given k p q clean some short is none = rw (p, q, k, none, is, append-nil)
    (last_piece old.kind old.bytes clean some short ∙ ap (λ (r : List Cut). Whole old.bytes ∷ r)
    (sym (cut_nothing old.kind)))

-- ---- the end of a read that gave no bytes

pub hand_zero : (kind : CutKind) (old new : List ℕ) (start end n taken counted : ℕ) (p : Bool) → n ≡ 0
    → take end new ≡ take end old → counted ≡ taken + n
    → (let h : Hand = record { kind = kind; bytes = between start (end + n) new; is_passing = p; taken = counted } in
    h) ≡ record { kind = kind; bytes = between start end old; is_passing = p; taken = taken }
hand_zero kind old new start end n taken counted p z same rise =
    let e : end + n ≡ end = omega arith in
    let f : counted ≡ taken = omega arith in
    rw (e, f, between_front old new start end end (omega arith) same) refl

pub empty_bytes : (xs : List ℕ) (start end : ℕ) → start ≡ end → between start end xs ≡ []
empty_bytes xs start end e = let z : end - start ≡ 0 = omega arith in rw z refl
