-- How many metrics a line says at most.
use Rattle.std.proofs.Common.{◌≤◌, length, arith, Result, Ok, Err, Option, Some, None}
use Rattle.std.specs.Prelude.{IfOk}
use Rattle.std.specs.Option.{option_to_list}
use Rattle.metric.specs.declared.metric.Content.{Content}
use Rattle.graphite_text.specs.declared.fault.GraphiteFault.{GraphiteFault}
use Rattle.graphite_text.specs.Reading.{reading}
use Rattle.graphite_text.specs.Grammar.{SaysAtMost, most_said}

one_at_most : (r : Result (Option Content) GraphiteFault) → IfOk r
    (λ metric. length (option_to_list metric) ≤ most_said)
one_at_most (Ok None) = omega arith
one_at_most (Ok (Some metric)) = omega arith
one_at_most (Err fault) = tt

pub says_at_most : SaysAtMost
says_at_most templates separator piece moment = one_at_most (reading templates separator piece moment)
