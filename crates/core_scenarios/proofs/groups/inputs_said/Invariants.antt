use Rattle.std.specs.Prelude.{◌≡◌, ◌≤◌, true, All}
use Rattle.pipeline_core.specs.declared.setup.InSetup.{InSetup}
use Rattle.core_scenarios.proofs.groups.inputs_said.Given as goal

abbrev pub invariant-loop-part : goal.invariant-loop-part
invariant-loop-part l = All (λ (x : InSetup). x.tracked ≡ true → 1 ≤ x.max_undelivered) l.inputs.items
