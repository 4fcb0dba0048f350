-- What a receiver of datagrams tells, and what its calls take; and such a receiver in memory.
use Rattle.std.specs.Prelude.{◌≡◌, ◌≤◌, ◌+◌, ◌==◌, ℕ, Bool, true, false, List, [], ◌∷◌, ◌++◌, length, take, drop, ⊤}
use Rattle.std.specs.Prelude.{Option, Some, None, Result, Ok, Err}
use Rattle.std.specs.List.{list_any}
use Rattle.agent_base.specs.Counts.{Rose}
use Rattle.agent_base.specs.Failing.{one_more}
use Rattle.agent_base.specs.declared.outside.Failed.{Failed}
use Rattle.statsd_server.specs.declared.datagrams.Dgram.{Dgram}
use Rattle.statsd_server.specs.declared.datagrams.Dgram.TheVariants.{Packet, Quiet}
use Rattle.statsd_server.specs.declared.datagrams.Got.{Got}
use Rattle.statsd_server.specs.declared.datagrams.Got.TheVariants as gots

-- what is told: the packets and quiets that are left, where these are told; and how often a call has failed
pub record Arriving : Type 0 where
  pub left : Option (List Dgram)
  pub faults : ℕ

-- how many bytes an answer speaks of
abbrev pub size_of : Got → ℕ
size_of (gots.Packet n) = n
size_of got = 0

-- how many bytes a datagram has
abbrev pub bytes_in : Dgram → ℕ
bytes_in (Packet packet) = length packet
bytes_in Quiet = 0

-- what a call takes of what was left: a packet, whose bytes stand at the front of the buffer, or a quiet; at the end,
-- where nothing is left, and where the call fails, it takes nothing
abbrev pub Takes : List Dgram → List Dgram → Result Got Failed → List ℕ → Type 0
Takes old new (Ok (gots.Packet n)) buffer = old ≡ Packet (take n buffer) ∷ new
Takes old new (Ok gots.Quiet) buffer = old ≡ Quiet ∷ new
Takes old new (Ok gots.End) buffer = (old ≡ []) × (new ≡ [])
Takes old new (Err fault) buffer = new ≡ old

-- the same where what is left is told
abbrev pub Receives : Option (List Dgram) → Option (List Dgram) → Result Got Failed → List ℕ → Type 0
Receives None new result buffer = ⊤
Receives (Some old) None result buffer = ⊥
Receives (Some old) (Some new) result buffer = Takes old new result buffer

-- at most so many datagrams were taken of what was left, where that is told
abbrev pub TakesAtMost : ℕ → Option (List Dgram) → Option (List Dgram) → Type 0
TakesAtMost n None new = ⊤
TakesAtMost n (Some old) None = ⊥
TakesAtMost n (Some old) (Some new) = length old ≤ length new + n

-- the count of failed calls rose where the call failed, else it is as before
abbrev pub ReceiveFails : ℕ → ℕ → Result Got Failed → Type 0
ReceiveFails before now (Ok got) = now ≡ before
ReceiveFails before now (Err fault) = Rose before now

-- the count of failed calls never falls, and rose exactly where the call failed, unless it stands at its last value
pub record ReceiveHasCause (before now : ℕ) (result : Result Got Failed) : Type 0 where
  pub later : before ≤ now
  pub failed : ReceiveFails before now result

-- ---- in memory

-- what is left, the numbers of the calls that are to fail, how many calls there were, and how many of them failed
pub record DatagramState : Type 0 where
  pub left : List Dgram
  pub fails : List ℕ
  pub calls : ℕ
  pub faults : ℕ

-- whether the next call is to fail: its number, how many calls there were before it, is listed
abbrev pub is_to_fail : DatagramState → Bool
is_to_fail state = list_any (λ number. number == state.calls) state.fails

-- what a call answers to a datagram, and what then stands in the buffer
abbrev pub got_of : Dgram → Got
got_of (Packet packet) = gots.Packet (length packet)
got_of Quiet = gots.Quiet

abbrev pub laid_over : Dgram → List ℕ → List ℕ
laid_over (Packet packet) buffer = packet ++ drop (length packet) buffer
laid_over Quiet buffer = buffer

-- the same for the first of what is left, and the end where nothing is
abbrev pub next_got : List Dgram → Got
next_got [] = gots.End
next_got (datagram ∷ left) = got_of datagram

abbrev pub next_laid : List Dgram → List ℕ → List ℕ
next_laid [] buffer = buffer
next_laid (datagram ∷ left) buffer = laid_over datagram buffer

-- the next call fails exactly where it is to fail, and else answers to the first datagram that is left
abbrev pub ReceiveAnswers : DatagramState → Result Got Failed → Type 0
ReceiveAnswers state (Ok got) = (is_to_fail state ≡ false) × (got ≡ next_got state.left)
ReceiveAnswers state (Err fault) = is_to_fail state ≡ true

-- what a call leaves: what stands behind the first datagram, and all where the call failed; it is counted
abbrev pub after_receive : DatagramState → Result Got Failed → DatagramState
after_receive state (Ok got) = record state { left = drop 1 state.left; calls = one_more state.calls }
after_receive state (Err fault) =
    record state { calls = one_more state.calls; faults = one_more state.faults }
