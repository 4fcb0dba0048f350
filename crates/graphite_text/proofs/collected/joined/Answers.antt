use Rattle.std.proofs.Common.{[]}
use Rattle.graphite_text.proofs.Taking.{one_joined}
use Rattle.graphite_text.proofs.collected.joined.Goals as goal

pub returns-then-texts-eq1 : goal.returns-then-texts-eq1
returns-then-texts-eq1 c = one_joined c.args.separator.now c.args.texts.now
    (record { ref_ptr = (0, 0); now = [] }) c.if-texts-eq1.true
