use Rattle.std.proofs.Common.{◌≡◌, drop}
use Rattle.std.specs.List.{fold}
use Rattle.statsd_server.specs.Marked.{mixed, text_mark}
use Rattle.statsd_server.proofs.marked.text_mark.Given as goal

-- the number with the text, from here on
abbrev pub invariant-loop-byte : goal.invariant-loop-byte
invariant-loop-byte l = fold mixed l.mark (drop l.byte-index l.byte-items) ≡ text_mark l.fn.mark l.text
