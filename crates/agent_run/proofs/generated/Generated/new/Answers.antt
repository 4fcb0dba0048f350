use Rattle.std.proofs.Common.{◌≡◌, [], List, ℕ, drop, ◌-◌, ◌++◌, refl, ap}
use Rattle.std.proofs.Math.Nat.{sub-zero}
use Rattle.std.specs.Prelude.{Some}
use Rattle.agent_run.specs.Generated.{generated_from, generated_text}
use Rattle.agent_base.specs.Carried.{Carried}
use Rattle.agent_run.proofs.generated.Generated.new.Goals as goal

-- no line was made, and all are to come
none_made : (line : List ℕ) (lines : ℕ) → line ≡ [] → drop 0 line ++ generated_from 0 (lines - 0) ≡ generated_text lines
unfolding generated_text
none_made line lines e = rw (e, sub-zero) refl

pub returns : goal.returns
returns c = ap (λ (left : List ℕ). let told : Carried = record { bytes = Some left; faults = 0 } in told)
    (none_made c.in_ok-line.line.items c.args.lines c.in_ok-line.ensures.items)
