-- Text that is to be given.
use Rattle.std.specs.Prelude.{ℕ, ◌++◌, List, drop}
use Rattle.statsd_server.specs.declared.outgoing.Outgoing.{Outgoing}
use Rattle.statsd_server.specs.Groups.{lines_text}

-- what is written and wasn't given, and the lines that aren't written
abbrev pub text_in : Outgoing → List ℕ
text_in o = drop o.at o.text.items ++ lines_text o.metrics.items
