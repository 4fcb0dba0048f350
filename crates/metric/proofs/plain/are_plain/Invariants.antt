use Rattle.std.proofs.Common.{◌≡◌, ℕ, cond, take}
use Rattle.std.specs.List.{list_all}
use Rattle.metric.specs.Plain.{is_plain}
use Rattle.metric.proofs.plain.are_plain.Given as goal

abbrev pub invariant-loop-b : goal.invariant-loop-b
invariant-loop-b l = l.marks ≡ cond {A = ℕ} (list_all is_plain (take l.b-index l.bytes)) 48 49
