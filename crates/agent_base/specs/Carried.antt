-- What a source, a sink and a clock tell.
use Rattle.std.specs.Prelude.{ℕ, List, Option, None}
use Rattle.agent_base.specs.Moments.{Moments}

-- what a source or a sink tells: the bytes that are left of it, or that it holds, where these are told; and how often a
-- read, or
-- a put, has failed
pub record Carried : Type 0 where
  pub bytes : Option (List ℕ)
  pub faults : ℕ

-- a part of which nothing is told
abbrev pub no_part : Carried
no_part = record { bytes = None; faults = 0 }

-- what a clock tells: its moments by index, where these are told, and the index of the next one
pub record Timed : Type 0 where
  pub moments : Option Moments
  pub next : ℕ
