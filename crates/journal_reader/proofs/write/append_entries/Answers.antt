use Rattle.std.proofs.Common.{List, ◌++◌, sym, ap, ◌∙◌}
use Rattle.metric.specs.declared.metric.Content.{Content}
use Rattle.account.specs.Items.{named_by}
use Rattle.text_parts.proofs.Adding.{extends_after, fails}
use Rattle.journal_reader.proofs.WriteLemmas.{no_items, no_text, items_more, text_more}
use Rattle.journal_reader.proofs.write.append_entries.Goals as goal

pub loop-e-init : goal.loop-e-init
loop-e-init c = record { known = c.new-known.ensures.items ∙ no_items; text = no_text c.args.out.now.items }

pub returns-in_err-append_entry : goal.returns-in_err-append_entry
returns-in_err-append_entry c =
    fails _ _ _ _ c.from_residual.ensures.0
    (extends_after _ _ _ _ c.loop-e.invariant.text c.in_err-append_entry.ensures)

pub loop-e-preserved : goal.loop-e-preserved
loop-e-preserved c =
    let es = c.args.entries.now in
    let i = c.loop-e.e-index in
    let e = c.e-item.result in
    record {
      known =
          c.in_ok-add_known.ensures
          ∙ ap (λ (ms : List Content). ms ++ named_by e) c.loop-e.invariant.known
          ∙ sym (items_more es i e c.loop-e-test.true c.e-item.is);
      text =
          text_more es i e c.args.out.now.items c.loop-e.out.items c.append_entry.new.out.items c.as_slice.result.now
          c.loop-e-test.true c.e-item.is (c.as_slice.ensures.value ∙ c.loop-e.invariant.known) c.loop-e.invariant.text
          c.in_ok-append_entry.ensures;
    }
