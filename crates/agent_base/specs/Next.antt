-- What is said of the next piece of a source's bytes.
use Rattle.std.specs.Prelude.{◌≡◌, ◌+◌, ◌≤◌, length, Option, Result}
use Rattle.agent_base.specs.Carried.{Carried}
use Rattle.agent_base.specs.declared.piece.Piece.{Piece}
use Rattle.agent_base.specs.declared.piece.PieceFault.{PieceFault}
use Rattle.agent_base.specs.Hand.{Hand, to_come}
use Rattle.agent_base.specs.PieceAnswers.{Answers, IsShort, IsLimited, HasReason}
use Rattle.agent_base.specs.Taken.{TakesFor}
use Rattle.agent_base.specs.Told.{Told}

-- the answer is the first of the pieces to come, also where other bytes follow those that were taken, and has a
-- reason where it is none; all bytes that are no longer left were taken. What the source told
-- before stands beside what it tells now.
pub record GivesNext (result : Result (Option Piece) PieceFault) (old new : Hand)
    (source left : Carried) : Type 0 where
  pub pieces : Told source.bytes left.bytes (λ xs ys. Answers result (to_come old xs) (to_come new ys))
  pub whatever_follows : Told source.bytes left.bytes (TakesFor result old new)
  pub counted : Told source.bytes left.bytes (λ xs ys. old.taken + length xs ≡ new.taken + length ys)
  pub grows : old.taken ≤ new.taken
  pub kind : new.kind ≡ old.kind
  pub short : IsShort old.kind result
  pub limited : IsLimited result new.taken
  pub reason : HasReason result old new left.bytes source.faults left.faults
  pub faults : source.faults ≤ left.faults
