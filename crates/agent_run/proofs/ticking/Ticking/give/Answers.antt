use Rattle.std.proofs.Common.{◌≡◌, ◌≤◌, ◌*◌, ◌+◌, ℕ, min, to_z, w64, arith}
use Rattle.std.proofs.lemmas.Int.{to_z_pos}
use Rattle.agent_base.specs.Moments.{GivesAt}
use Rattle.agent_run.specs.Generated.{generated_moment, generated_moments}
use Rattle.agent_run.proofs.ticking.Ticking.give.Goals as goal

-- the index of the next moment rises, up to that of the last one
given : (old new : ℕ) → old ≤ 9223372036 → new ≡ min (old + 1) 9223372036
    → GivesAt generated_moments old new (to_z w64 (old * 1000000000))
unfolding generated_moment generated_moments
given old new within next = record {
  within = within;
  given = to_z_pos w64 (old * 1000000000) (omega arith);
  next = next;
}

pub returns-then-self-lt-LAST-clause-gives : goal.returns-then-self-lt-LAST-clause-gives
returns-then-self-lt-LAST-clause-gives c = given _ _ c.args.self.now.within (omega arith)

pub returns-else-self-lt-LAST-clause-gives : goal.returns-else-self-lt-LAST-clause-gives
returns-else-self-lt-LAST-clause-gives c = given _ _ c.args.self.now.within (omega arith)
