-- What is given of the bytes that were taken, whatever stands behind them.
use Rattle.std.specs.Prelude.{◌≡◌, ℕ, List, [], ◌++◌, ◌⊎◌, Option, Some, None, Result, Ok, Err}
use Rattle.agent_base.specs.declared.piece.Piece.{Piece}
use Rattle.agent_base.specs.declared.piece.PieceFault.{PieceFault}
use Rattle.agent_base.specs.declared.piece.PieceFault.TheVariants as faults
use Rattle.agent_base.specs.Hand.{Hand, to_come}
use Rattle.agent_base.specs.PieceAnswers.{Answers}
use Rattle.agent_base.specs.Told.{Told}

-- bytes were taken of those that were left, and the pieces to come are the same, whatever stands behind these
-- bytes
pub record IsTaking (old new : Hand) (xs ys : List ℕ) : Type 0 where
  pub taken : List ℕ
  pub split : xs ≡ taken ++ ys
  pub pieces : (more : List ℕ) → to_come old (taken ++ more) ≡ to_come new more

-- so it is, where the bytes left are told
abbrev pub Takes : Option (List ℕ) → Option (List ℕ) → Hand → Hand → Type 0
Takes before after old new = Told before after (IsTaking old new)

-- the answer tells the pieces to come, whatever stands behind the bytes taken
abbrev pub AnswersWhatever : Result (Option Piece) PieceFault → Hand → Hand → List ℕ → Type 0
AnswersWhatever result old new taken = (more : List ℕ)
    → Answers result (to_come old (taken ++ more)) (to_come new more)

-- nothing is left, and no piece is to come
abbrev pub IsSpent : Hand → List ℕ → Type 0
IsSpent hand left = (left ≡ []) × (to_come hand [] ≡ [])

-- the answer tells the pieces to come, whatever stands behind the bytes taken; or nothing is left and none is
-- to come, as it is where none is given
abbrev pub GivenOf : Result (Option Piece) PieceFault → Hand → Hand → List ℕ → List ℕ → Type 0
GivenOf (Ok (Some p)) old new taken ys = IsSpent new ys ⊎ AnswersWhatever (Ok (Some p)) old new taken
GivenOf (Ok None) old new taken ys = IsSpent new ys
GivenOf (Err faults.TooLong) old new taken ys = IsSpent new ys
    ⊎ AnswersWhatever (Err faults.TooLong) old new taken
GivenOf (Err faults.OutOfMemory) old new taken ys = AnswersWhatever (Err faults.OutOfMemory) old new taken
GivenOf (Err faults.ReadFault) old new taken ys = AnswersWhatever (Err faults.ReadFault) old new taken
GivenOf (Err faults.ByteLimit) old new taken ys = AnswersWhatever (Err faults.ByteLimit) old new taken

-- bytes were taken of those that were left, and the answer goes by them
pub record TakesFor (result : Result (Option Piece) PieceFault) (old new : Hand)
    (xs ys : List ℕ) : Type 0 where
  pub taken : List ℕ
  pub split : xs ≡ taken ++ ys
  pub given : GivenOf result old new taken ys
