use Rattle.std.proofs.Common.{◌≡◌, ◌++◌, List, ℕ, sym, subst}
use Rattle.std.specs.Prelude.{OnOk}
use Rattle.journal_text.specs.MetricText.{escaped}
use Rattle.text_parts.proofs.Adding.{appended}
use Rattle.journal_text.proofs.MetricLemmas.{plain_text}
use Rattle.journal_text.proofs.metrics.append_text.Goals as goal

pub returns-then-is_known_plain : goal.returns-then-is_known_plain
returns-then-is_known_plain c =
    let plain : escaped c.args.text.now ≡ c.args.text.now = plain_text _
    (c.is_known_plain.ensures c.if-is_known_plain.true) in
    appended c.append.result c.args.out.now.items c.append.new.out.items (escaped c.args.text.now)
    (subst (λ (text : List ℕ). OnOk c.append.result (c.append.new.out.items ≡ c.args.out.now.items ++ text)) (sym plain)
    c.append.ensures.ok) c.append.ensures.err
