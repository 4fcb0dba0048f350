-- What is in hand of a source's bytes, and the pieces that are to come.
use Rattle.std.specs.Prelude.{◌≡◌, ℕ, ◌+◌, Bool, false, List, [], ◌∷◌, ◌++◌, length, Option, if◌then◌else◌}
use Rattle.agent_base.specs.declared.piece.CutKind.{CutKind}
use Rattle.agent_base.specs.Cut.{Cut, TooLong, cut, passed}
use Rattle.agent_base.specs.Told.{Told}

-- how the bytes are cut, those that were taken and not given, whether they belong to a long piece that is
-- passed over, and how many were taken in all. Of a piece that is passed over only what has begun of a line
-- is kept, and of that line only so much that shows whether it ends the piece.
pub record Hand : Type 0 where
  pub kind : CutKind
  pub bytes : List ℕ
  pub is_passing : Bool
  pub taken : ℕ

-- nothing was taken
abbrev pub empty_hand : CutKind → Hand
empty_hand cut_kind = record { kind = cut_kind; bytes = []; is_passing = false; taken = 0 }

-- the pieces to come, where these bytes are left of the source: a long piece whose front was passed over
-- counts as too long
abbrev pub to_come : Hand → List ℕ → List Cut
to_come hand left = if hand.is_passing then TooLong ∷ passed hand.kind (hand.bytes ++ left) else cut
    hand.kind (hand.bytes ++ left)

-- the pieces to come are the same, whatever is left, and as many bytes were taken
pub record IsSameToCome (old new : Hand) : Type 0 where
  pub pieces : (left : List ℕ) → to_come old left ≡ to_come new left
  pub counted : new.taken ≡ old.taken

-- the same pieces are to come, and all bytes that are no longer left were taken
pub record IsStep (old new : Hand) (xs ys : List ℕ) : Type 0 where
  pub pieces : to_come old xs ≡ to_come new ys
  pub counted : old.taken + length xs ≡ new.taken + length ys

-- so it is, where the bytes left are told
abbrev pub Steps : Option (List ℕ) → Option (List ℕ) → Hand → Hand → Type 0
Steps before after old new = Told before after (IsStep old new)
