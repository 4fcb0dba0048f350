use Rattle.std.proofs.Common.{◌++◌, ap, ◌∙◌}
use Rattle.graphite_text.proofs.Paths.{path_is}
use Rattle.graphite_text.proofs.write.append_path.Goals as goal

pub returns : goal.returns
returns c = c.in_ok-append_parts.ensures ∙ ap (λ text. c.args.out.now.items ++ text)
    (path_is c.args.metric.now c.args.key.now)
