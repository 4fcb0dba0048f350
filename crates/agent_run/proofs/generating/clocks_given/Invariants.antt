use Rattle.std.proofs.Common.{◌≡◌, map, take}
use Rattle.std.specs.Prelude.{Some}
use Rattle.agent_base.specs.Carried.{Timed}
use Rattle.agent_run.specs.Generated.{generated_moments}
use Rattle.agent_run.specs.Generating.{clocks_given}
use Rattle.agent_run.specs.declared.ticking.Ticking.{Ticking}
use Rattle.agent_run.proofs.generating.clocks_given.Given as goal

-- what a generated clock tells
abbrev told : Ticking → Timed
told clock = record { moments = Some generated_moments; next = clock.next }

abbrev pub invariant-loop-part : goal.invariant-loop-part
invariant-loop-part g l = map told l.clocks.items ≡ clocks_given (take l._part-index l.parts)
