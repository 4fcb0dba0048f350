use Rattle.std.proofs.Common.{ℕ, cond, refl, arith}
use Rattle.fixed_num.proofs.ByteTables.{from_table}
use Rattle.metric.specs.declared.plain.TheConstants.{MARKS}
use Rattle.metric.specs.Plain.{is_plain}
use Rattle.metric.proofs.plain.mark_of.Goals as goal

pub returns : goal.returns
unfolding is_plain
returns c = from_table (λ b. cond {A = ℕ} (is_plain b) 48 49) MARKS c.args.b (omega arith) refl
