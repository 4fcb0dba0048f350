use Rattle.journal_text.proofs.KnownLemmas.{entry_added}
use Rattle.journal_text.proofs.entry.append_entry.Goals as goal

pub returns : goal.returns
returns c =
    entry_added c.nothing.result c.args.item.now c.named_by.result.now c.reports_of.result.now c.args.e.now
    c.args.out.now.items c.append_head.new.out.items c.append_metric_lines.new.out.items c.append_reports.new.out.items
    c.nothing.ensures c.named_by.ensures c.reports_of.ensures c.in_ok-append_head.ensures
    c.in_ok-append_metric_lines.ensures c.in_ok-append_reports.ensures
