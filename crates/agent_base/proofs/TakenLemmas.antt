-- What is given of the bytes that were taken, read by read.
use Rattle.std.proofs.Common.{◌≡◌, ◌≤◌, ℕ, ◌+◌, Bool, true, false, cond, eqb, ltb, List, [], ◌∷◌, ◌++◌, length, take}
use Rattle.std.proofs.Common.{refl, sym, ap, ◌∙◌, append_assoc, append-nil, arith, inr, Option, Some, None, Result, Ok}
use Rattle.std.proofs.Common.{Err}
use Rattle.std.specs.List.{between}
use Rattle.std.specs.Io.KnownBytes.{Consumes, Keeps}
use Rattle.agent_base.specs.declared.piece.Piece.{Piece}
use Rattle.agent_base.specs.declared.piece.PieceFault.{PieceFault}
use Rattle.agent_base.specs.declared.piece.PieceFault.TheVariants as faults
use Rattle.agent_base.specs.declared.piece.CutKind.{CutKind}
use Rattle.agent_base.specs.Cut.{TooLong, Whole, cut, cut_from, passed, passed_from, ended, unended, ends_piece}
use Rattle.agent_base.specs.Cut.{most_bytes, last_line, NoEnd}
use Rattle.agent_base.specs.Hand.{Hand, to_come, IsSameToCome}
use Rattle.agent_base.specs.PieceAnswers.{IsGiven}
use Rattle.agent_base.specs.Told.{Told}
use Rattle.agent_base.specs.Taken.{Takes, AnswersWhatever, TakesFor}
use Rattle.agent_base.proofs.Cuts.{cut_more, passed_more, last_passed, last_hand}
use Rattle.agent_base.proofs.BufferLemmas.{read_hand}

-- ---- a read

pub read_takes : (before after : Option (List ℕ)) (old new : List ℕ) (start end most n taken counted : ℕ)
    (kind : CutKind) (p : Bool) → start ≤ end → n ≤ most → take end new ≡ take end old
    → Consumes before after (take n (between end (end + most) new))
    → Takes before after (record { kind = kind; bytes = between start end old; is_passing = p; taken = taken })
    (record { kind = kind; bytes = between start (end + n) new; is_passing = p; taken = counted })
read_takes None after old new start end most n taken counted kind p le fits same h = tt
read_takes (Some xs) None old new start end most n taken counted kind p le fits same h = absurd h
read_takes (Some xs) (Some ys) old new start end most n taken counted kind p le fits same h =
    let front : List ℕ = take n (between end (end + most) new) in
    record {
      taken = front;
      split = h;
      pieces = λ more. ap (λ (l : List ℕ). to_come (record { kind = kind; bytes = []; is_passing = p; taken = 0 }) l)
          (read_hand (front ++ more) more old new start end most n le fits same refl);
    }

-- nothing was read
pub keeps_takes : (before after : Option (List ℕ)) (old new : Hand) → Keeps before after → new ≡ old
    → Takes before after old new
keeps_takes None after old new h same = tt
keeps_takes (Some xs) None old new h same = absurd h
keeps_takes (Some xs) (Some ys) old new h same = record { taken = []; split = sym h; pieces = λ more. rw same refl }

-- ---- reads one after another

-- reads, room for one more, and that one
pub takes_more : (before mid after : Option (List ℕ)) (old was had new : Hand) → Takes before mid old was
    → IsSameToCome was had → Takes mid after had new → Takes before after old new
takes_more None mid after old was had new h same k = tt
takes_more (Some xs) None after old was had new h same k = absurd h
takes_more (Some xs) (Some ys) None old was had new h same k = absurd k
takes_more (Some xs) (Some ys) (Some zs) old was had new h same k = record {
  taken = h.taken ++ k.taken;
  split = h.split ∙ ap (λ (l : List ℕ). h.taken ++ l) k.split ∙ sym (append_assoc h.taken k.taken zs);
  pieces = λ more. ap (to_come old) (append_assoc h.taken k.taken more) ∙ h.pieces (k.taken ++ more)
      ∙ same.pieces (k.taken ++ more) ∙ k.pieces more;
}

-- ---- the answers

-- no more bytes are taken
pub takes_byte_limit : (before after : Option (List ℕ)) (old new : Hand) → Takes before after old new
    → Told before after (TakesFor (Err faults.ByteLimit) old new)
takes_byte_limit None after old new h = tt
takes_byte_limit (Some xs) None old new h = absurd h
takes_byte_limit (Some xs) (Some ys) old new h = record { taken = h.taken; split = h.split; given = h.pieces }

-- a piece whose end is in hand after some reads
pub takes_piece : (before after : Option (List ℕ)) (old mid new : Hand) (r : Result (Option Piece) PieceFault)
    → Takes before after old mid → AnswersWhatever r mid new [] → IsGiven r → Told before after (TakesFor r old new)
takes_piece None after old mid new r h pieces given = tt
takes_piece (Some xs) None old mid new r h pieces given = absurd h
takes_piece (Some xs) (Some ys) old mid new (Ok (Some p)) h pieces given =
    record { taken = h.taken; split = h.split; given = inr (λ more. h.pieces more ∙ pieces more) }
takes_piece (Some xs) (Some ys) old mid new (Ok None) h pieces given = absurd given
takes_piece (Some xs) (Some ys) old mid new (Err faults.TooLong) h pieces given =
    record { taken = h.taken; split = h.split; given = inr (λ more. h.pieces more ∙ pieces more) }
takes_piece (Some xs) (Some ys) old mid new (Err faults.OutOfMemory) h pieces given = absurd given
takes_piece (Some xs) (Some ys) old mid new (Err faults.ReadFault) h pieces given = absurd given
takes_piece (Some xs) (Some ys) old mid new (Err faults.ByteLimit) h pieces given = absurd given

-- ---- what is still to come of a hand in which no piece ends

-- the bytes behind the last end of a piece are one piece at most
unended_one : (kind : CutKind) (rest : List ℕ) → length (unended kind rest) ≤ 1
unended_one kind rest = elim (eqb (length rest) 0) as (λ (b : Bool). length
    (cond b [] (cond (ltb (most_bytes kind) (length rest)) TooLong (Whole rest) ∷ [])) ≤ 1)
    [ true ↦ omega arith | false ↦ omega arith ]

-- where nothing is left, one piece at most is to come
pub one_to_come : (hand : Hand) → NoEnd hand.kind hand.bytes → length (to_come hand []) ≤ 1
one_to_come hand clean = go hand.is_passing
  where
    go : (b : Bool) → length (cond b (TooLong ∷ passed hand.kind (hand.bytes ++ [])) (cut hand.kind (hand.bytes ++ [])))
        ≤ 1
    go true = rw (append-nil, last_passed hand.kind hand.bytes clean) (omega arith)
    go false = rw (append-nil, last_hand hand.kind hand.bytes clean) (unended_one hand.kind hand.bytes)

-- a newline alone
newline_passed : (kind : CutKind) (line : List ℕ) → passed_from kind line (10 ∷ []) ≡ []
unfolding passed_from cut_from
newline_passed kind line = elim (ends_piece kind line) as (λ (b : Bool). cond b (cut kind [])
    (passed_from kind [] []) ≡ []) [ true ↦ refl | false ↦ refl ]

newline_cut : (kind : CutKind) (piece line : List ℕ) → length (cut_from kind piece line (10 ∷ [])) ≤ 1
unfolding cut_from
newline_cut kind piece line =
    elim (ends_piece kind line) as (λ (b : Bool). length (cond b (ended kind piece ∷ cut kind [])
    (cut_from kind (piece ++ 10 ∷ []) [] [])) ≤ 1) [ true ↦ omega arith | false ↦ unended_one kind (piece ++ 10 ∷ []) ]

-- where a newline alone is left, one piece at most is to come
pub line_to_come : (hand : Hand) → NoEnd hand.kind hand.bytes → length (to_come hand (10 ∷ [])) ≤ 1
line_to_come hand clean = go hand.is_passing
  where
    go : (b : Bool) → length (cond b (TooLong ∷ passed hand.kind (hand.bytes ++ 10 ∷ []))
        (cut hand.kind (hand.bytes ++ 10 ∷ []))) ≤ 1
    go true = rw (
      passed_more hand.kind [] hand.bytes (10 ∷ []) clean,
      newline_passed hand.kind (last_line [] hand.bytes),
    ) (omega arith)
    go false = rw (cut_more hand.kind [] [] hand.bytes (10 ∷ []) clean)
        (newline_cut hand.kind hand.bytes (last_line [] hand.bytes))
