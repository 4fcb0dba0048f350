use Rattle.std.proofs.Common.{◌≡◌, Bool, cond, List, ℕ, Some, None, length, map, sym, ap, ◌∙◌, arith}
use Rattle.std.proofs.lemmas.List.{drop_all}
use Rattle.std.specs.Borrow.{Bor}
use Rattle.journal_reader.specs.AccountReading.{behind_counts}
use Rattle.journal_reader.proofs.AccountLemmas.{counts_step_at, counts_stop_at, counts_end}
use Rattle.journal_reader.proofs.account_lines.take_counts.Goals as goal

pub returns-then-not-take_count : goal.returns-then-not-take_count
returns-then-not-take_count c =
    counts_stop_at c.args.labels.now c.loop-label.label-index _ c.loop-label.words _ c.loop-label-test.true
    (c.take_count.ensures ∙ ap (λ (t : Bool). cond t (Some c.take_count.new.words) None) c.if-not-take_count.true)
    c.loop-label.invariant

pub loop-label-preserved : goal.loop-label-preserved
loop-label-preserved c =
    counts_step_at c.args.labels.now c.loop-label.label-index _ c.loop-label.words c.take_count.new.words _
    c.loop-label-test.true
    (c.take_count.ensures ∙ ap (λ (t : Bool). cond t (Some c.take_count.new.words) None) c.if-not-take_count.false)
    c.loop-label.invariant

pub returns : goal.returns
returns c =
    sym c.loop-label.invariant
    ∙ ap (λ (ls : List (Bor (List ℕ))). behind_counts (map (λ label. label.now) ls) c.loop-label.words)
    (drop_all c.loop-label.label-index c.args.labels.now (omega (arith, c.loop-label-test.false)))
    ∙ counts_end c.loop-label.words
