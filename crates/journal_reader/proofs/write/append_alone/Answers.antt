use Rattle.std.proofs.Common.{◌≡◌, ◌++◌, ◌∷◌, [], List, Option, Some, sym, ap, ◌∙◌}
use Rattle.std.specs.Prelude.{codes}
use Rattle.std.specs.Fmt.{decimal}
use Rattle.metric.specs.declared.metric.Content.{Content}
use Rattle.account.specs.Says.{reports_of}
use Rattle.account.specs.declared.entry.Entry.{Entry}
use Rattle.account.specs.declared.entry.Entry.TheVariants.{Route}
use Rattle.journal_text.specs.JournalText.{entry_text, report_lines}
use Rattle.journal_reader.proofs.WriteLemmas.{written_adds, entry_alone, removed_alone, three_add}
use Rattle.journal_reader.proofs.write.append_alone.Goals as goal

pub returns-in_ok-other-in-Some : goal.returns-in_ok-other-in-Some
returns-in_ok-other-in-Some c =
    let r = c.in-Route in
    let whole = c.in-Some.whole in
    let other = c.in_ok-other-in-Some.other in
    let shape : c.args.e.now ≡ Route r.item (Some whole) r.verdict r.aggs r.outs r.reports =
    r.is ∙ ap (λ (o : Option Content). Route r.item o r.verdict r.aggs r.outs r.reports) c.in-Some.is in
    written_adds c.write_entry.result c.args.out.now.items c.write_entry.new.out.items
    (entry_text (other ∷ []) c.args.e.now) (entry_text [] c.args.e.now)
    (ap (entry_text (other ∷ [])) shape
    ∙ entry_alone other r.item whole r.verdict r.aggs r.outs r.reports c.in_ok-other-in-Some.ensures
    ∙ sym (ap (entry_text []) shape)) c.write_entry.ensures.ok c.write_entry.ensures.err

pub returns-in_ok-append_words-in-None : goal.returns-in_ok-append_words-in-None
returns-in_ok-append_words-in-None c =
    let r = c.in-Route in
    let shape = r.is ∙ ap (λ (o : Option Content). Route r.item o r.verdict r.aggs r.outs r.reports) c.in-None.is in
    three_add c.write_reports.result c.args.out.now.items c.append_unsigned.new.out.items c.append_words.new.out.items
    c.write_reports.new.out.items (codes "route " ++ decimal r.item) (codes " - removed\n")
    (report_lines (reports_of c.args.e.now)) (entry_text [] c.args.e.now) c.in_ok-append_unsigned-in-None.ensures
    c.in_ok-append_words-in-None.ensures c.write_reports.ensures.ok c.write_reports.ensures.err
    (removed_alone c.args.e.now r.item r.verdict r.aggs r.outs r.reports shape
    ∙ sym (ap (λ (e : Entry). (codes "route " ++ decimal r.item) ++ (codes " - removed\n"
    ++ report_lines (reports_of e))) shape))
