use Rattle.std.proofs.Common.{◌<◌, length, ◌∙◌, arith}
use Rattle.journal_reader.proofs.FormLemmas.{output_more}
use Rattle.journal_reader.proofs.account_lines.add_outputs.Goals as goal

pub loop-index-preserved : goal.loop-index-preserved
loop-index-preserved c =
    let within : c.loop-index.index < length c.args.outputs.now = omega (arith, c.loop-index-test.true) in
    rw c.in_ok-push.ensures.ok (output_more c.loop-index.forms c.args.outputs.now c.loop-index.index within
    ∙ c.loop-index.invariant)
