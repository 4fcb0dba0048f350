use Rattle.std.proofs.Common.{◌∙◌, ap, sym, Bool, List, length}
use Rattle.metric.specs.declared.metric.Content.{Content}
use Rattle.account.specs.Numbers.{gathered_more, input_numbers, with_input}
use Rattle.pipeline_core.specs.Steps.{gathered_too}
use Rattle.pipeline_core.proofs.ReportTotals.{counted_started}
use Rattle.pipeline_core.proofs.gathering.count_gathered.Goals as goal

pub returns-then-tracked : goal.returns-then-tracked
returns-then-tracked c =
    counted_started c.args.account.now c.gathered.new.self c.group_started.new.self c.args.g.now.input
    (gathered_more (input_numbers c.args.account.now c.args.g.now.input) c.args.g.now.pieces c.args.g.now.refused
    c.args.g.now.passed c.args.g.now.filtered (length c.args.g.now.metrics)) c.requires.within
    (c.gathered.ensures ∙ ap (λ (xs : List Content). with_input c.args.account.now c.args.g.now.input
    (gathered_more (input_numbers c.args.account.now c.args.g.now.input) c.args.g.now.pieces c.args.g.now.refused
    c.args.g.now.passed c.args.g.now.filtered (length xs))) c.as_slice-count.ensures) c.group_started.ensures
    ∙ ap (λ (tracked : Bool). with_input c.args.account.now c.args.g.now.input
    (gathered_too (input_numbers c.args.account.now c.args.g.now.input) c.args.g.now tracked)) (sym c.if-tracked.true)
