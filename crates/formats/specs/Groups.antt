-- What the next pieces of an input say, and which pieces of its text they are.
use Rattle.std.specs.Prelude.{◌≡◌, ◌<◌, ◌≤◌, ◌⊎◌, ℕ, ℤ, ◌+◌, ◌^◌, List, [], ◌∷◌, ◌++◌}
use Rattle.std.specs.Prelude.{length, count_by, if◌then◌else◌}
use Rattle.std.specs.List.{flat_map, sum_by, AllByRecursion}
use Rattle.std.specs.declared.option.Option.{Option}
use Rattle.agent_base.specs.Cut.{Cut, TooLong, Whole, most_bytes}
use Rattle.agent_base.specs.Counts.{Rose}
use Rattle.agent_base.specs.Hand.{Hand, to_come}
use Rattle.agent_base.specs.Taken.{IsSpent}
use Rattle.agent_base.specs.Told.{Told}
use Rattle.formats.specs.declared.reading.Group.{Group}
use Rattle.formats.specs.declared.pieces.InState.{InState}
use Rattle.formats.specs.declared.pieces.InState.TheVariants as states
use Rattle.formats.specs.Reader.{InRule, PieceSays, says, cut_of, is_refusal, metrics_of, passed_of, kept}
use Rattle.formats.specs.Reader.{filtered_out, is_refused, passed_over, filtered_of, kept_of, capped}

-- what a piece says is counted: that it is refused; or the samples that are passed over, what is kept of its
-- metrics behind the others, and of how many nothing is
pub record Counts (rule : InRule) (said : PieceSays) (old new : Group) : Type 0 where
  pub refused : new.refused ≡ old.refused + (if is_refusal said then 1 else 0)
  pub passed : new.passed ≡ capped (old.passed + passed_of said)
  pub filtered : new.filtered ≡ capped (old.filtered + filtered_out rule (metrics_of said))
  pub metrics : new.metrics.items ≡ old.metrics.items ++ kept rule (metrics_of said)

-- one piece more is counted, and what it says
pub record CountsPiece (rule : InRule) (moment : ℤ) (piece : Cut) (old new : Group) : Type 0 where
  pub pieces : new.pieces ≡ old.pieces + 1
  pub said : Counts rule (says rule moment piece) old new

-- a piece that isn't too long has at most as many bytes as its kind allows
abbrev pub IsShort : InRule → Cut → Type 0
IsShort rule TooLong = Unit {0}
IsShort rule (Whole piece) = length piece ≤ most_bytes (cut_of rule.format)

-- bytes were taken of those that were left, and these pieces are the first to come whatever stands behind the
-- bytes taken; or nothing is left and no piece is to come
pub record TakesPieces (read : List Cut) (before after : Hand) (xs ys : List ℕ) : Type 0 where
  pub taken : List ℕ
  pub split : xs ≡ taken ++ ys
  pub given : IsSpent after ys
      ⊎ ((more : List ℕ) → to_come before (taken ++ more) ≡ read ++ to_come after more)

-- the first piece to come is counted, and the others are to come then
pub record ReadsPiece (rule : InRule) (moment : ℤ) (old new : Group) (before after : Hand)
    (left_before left_after : Option (List ℕ)) : Type 0 where
  pub piece : Cut
  pub short : IsShort rule piece
  pub counted : CountsPiece rule moment piece old new
  pub first : Told left_before left_after (λ xs ys. to_come before xs ≡ piece ∷ to_come after ys)
  pub whatever_follows : Told left_before left_after (TakesPieces (piece ∷ []) before after)

-- no piece is counted, and the same pieces are to come
pub record ReadsNone (old new : Group) (before after : Hand)
    (left_before left_after : Option (List ℕ)) : Type 0 where
  pub same : new ≡ old
  pub to_come_still : Told left_before left_after (λ xs ys. to_come before xs ≡ to_come after ys)
  pub whatever_follows : Told left_before left_after (TakesPieces [] before after)

-- a piece is counted where the input is read on, else none
abbrev pub ReadsNext : InRule → InState → ℤ → Group → Group → Hand → Hand → Option (List ℕ) → Option (List ℕ) → Type 0
ReadsNext rule states.Reading moment old new before after left_before left_after = ReadsPiece rule moment old new
    before after left_before left_after
ReadsNext rule states.Ended moment old new before after left_before left_after = ReadsNone old new before after
    left_before left_after
ReadsNext rule states.Faulted moment old new before after left_before left_after = ReadsNone old new before after
    left_before left_after
ReadsNext rule states.LimitReached moment old new before after left_before left_after = ReadsNone old new before
    after left_before left_after

-- what is known by whether the input is read on: after a failed read the count of faults rose, and of the bytes that
-- were
-- taken one piece at most is to come, though a newline follows; where a limit was reached all bytes were taken that an
-- input may have, else fewer
pub record KnownBy (state : InState) (after : Hand) (faults_before faults_after : ℕ) : Type 0 where
  pub failed : state ≡ states.Faulted → Rose faults_before faults_after
  pub one : state ≡ states.Faulted → length (to_come after []) ≤ 1
  pub line : state ≡ states.Faulted → length (to_come after (10 ∷ [])) ≤ 1
  pub limit : state ≡ states.LimitReached → after.taken ≡ 2 ^ 40
  pub below : (state ≡ states.LimitReached → ⊥) → after.taken < 2 ^ 40

-- no piece is to come
abbrev pub IsAllRead : Option (List ℕ) → Option (List ℕ) → Hand → Type 0
IsAllRead left_before left_after after = Told left_before left_after (λ xs ys. to_come after ys ≡ [])

-- the group is what some pieces say at the moment: those are the first that were to come, and the others are
-- to come then
pub record Reads (rule : InRule) (moment : ℤ) (group : Group) (before after : Hand)
    (left_before left_after : Option (List ℕ)) : Type 0 where
  pub read : List Cut
  pub short : AllByRecursion (IsShort rule) read
  pub pieces : group.pieces ≡ length read
  pub refused : group.refused ≡ count_by (is_refused rule moment) read
  pub passed : group.passed ≡ capped (sum_by (passed_over rule moment) read)
  pub filtered : group.filtered ≡ capped (sum_by (filtered_of rule moment) read)
  pub metrics : group.metrics.items ≡ flat_map (kept_of rule moment) read
  pub consecutive : Told left_before left_after (λ xs ys. to_come before xs ≡ read ++ to_come after ys)
  pub whatever_follows : Told left_before left_after (TakesPieces read before after)

-- and they are at most as many as a gather has, exactly so many where the input is read on, and all where it
-- has ended
pub record ReadsGroup (rule : InRule) (moment : ℤ) (group : Group) (state : InState) (before after : Hand)
    (left_before left_after : Option (List ℕ)) : Type 0 where
  pub reads : Reads rule moment group before after left_before left_after
  pub most : length reads.read ≤ rule.most
  pub full : state ≡ states.Reading → length reads.read ≡ rule.most
  pub all : state ≡ states.Ended → IsAllRead left_before left_after after
