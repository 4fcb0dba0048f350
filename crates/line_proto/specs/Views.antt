-- What a reader of lines returned, and what a line reads as.
use Rattle.std.specs.Prelude.{◌≡◌, Option, Result, Ok, Err, ◌⊎◌}
use Rattle.metric.specs.declared.metric.Content.{Content}
use Rattle.line_proto.specs.declared.fault.LineFault.{LineFault}
use Rattle.line_proto.specs.declared.fault.LineKind.TheVariants.{OutOfMemory}

-- the result is the reading, or memory ran out
abbrev pub Answers : Result (Option Content) LineFault → Result (Option Content) LineFault → Type 0
Answers (Ok metric) reading = reading ≡ Ok metric
Answers (Err e) reading = (e ≡ record { kind = OutOfMemory; offset = 0 }) ⊎ (reading ≡ Err e)
