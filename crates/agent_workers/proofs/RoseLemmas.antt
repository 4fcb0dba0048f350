-- Counts that rose by so many.
use Rattle.std.proofs.Common.{◌≤◌, ℕ, ◌+◌, arith}
use Rattle.agent_base.specs.Counts.{Rose, RoseBy}

pub rose_none : (a : ℕ) → RoseBy 0 a a
rose_none a = omega arith

pub rose_later : (n a b c : ℕ) → RoseBy n a b → b ≤ c → RoseBy n a c
rose_later n a b c r l = omega arith

-- a count that rose from a later number rose from an earlier one
pub rose_from : (a b c : ℕ) → a ≤ b → Rose b c → Rose a c
rose_from a b c l r = omega arith

pub rose_more : (n a b c : ℕ) → RoseBy n a b → Rose b c → RoseBy (n + 1) a c
rose_more n a b c r l = omega arith
