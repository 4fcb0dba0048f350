use Rattle.std.proofs.Common.{◌∙◌, ap, ◌++◌, append-nil}
use Rattle.std.specs.Prelude.{codes, decimal}
use Rattle.journal_text.specs.SetupText.{agg_line}
use Rattle.text_parts.proofs.Adding.{after}
use Rattle.journal_text.proofs.setup.append_agg.Goals as goal

pub returns : goal.returns
unfolding agg_line
returns c =
    let old = c.args.out.now.items in
    let number = codes "aggregator " ++ decimal c.args.agg in
    after old c.append_times.new.out.items _ _ _
    (after old c.append_kind.new.out.items _ _ _
    (after old c.append_numbers.new.out.items _ _ _
    (c.in_ok-append_numbers.ensures ∙ ap (λ text. old ++ (text ++ codes " ")) (append-nil number))
    c.in_ok-append_kind.ensures)
    c.in_ok-append_times.ensures)
    (c.in_ok-append_words.ensures ∙ ap (λ text. c.append_times.new.out.items ++ text) c.ending.ensures)
