use Rattle.std.proofs.Common.{◌∙◌, ap}
use Rattle.statsd_server.specs.Parts.{kind_of}
use Rattle.statsd_server.proofs.ServedLemmas.{level_left}
use Rattle.statsd_server.proofs.served.level_given.Goals as goal

pub returns-in-Counter : goal.returns-in-Counter
returns-in-Counter c = λ summary.
    level_left c.args.series.now c.of.result (c.of.ensures ∙ ap kind_of c.tags.ensures) c.in-Counter.is summary _ _
