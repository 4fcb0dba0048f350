use Rattle.std.proofs.Common.{◌≡◌, ◌+◌, ◌&&◌, List, false, true, drop, sym, ap, ◌∙◌, rules, arith}
use Rattle.std.proofs.lemmas.List.{drop_all}
use Rattle.std.specs.Cmp.Lexicographic.{slice_cmp}
use Rattle.std.specs.Ordering.{is_lt, nat_cmp}
use Rattle.journal_reader.specs.MetricReading.{is_filled, are_tags}
use Rattle.journal_reader.proofs.AccountLemmas.{drop_here}
use Rattle.journal_reader.proofs.KeyLemmas.{Tag, tag_step, tag_stop, tags_end}
use Rattle.journal_reader.proofs.tags.are_tags.Goals as goal

pub returns-then-not-is_behind : goal.returns-then-not-is_behind
returns-then-not-is_behind c =
    let i = c.loop-key.key-index in
    let tag = c.loop-key-item.result in
    let test : (is_filled tag.1 && is_lt (slice_cmp nat_cmp c.loop-key.before.now tag.0)) ≡ false = search rules in
    sym (ap (λ (ts : List Tag). are_tags c.loop-key.before.now ts)
    (drop_here c.args.tags.now i tag c.loop-key-test.true c.loop-key-item.is)
    ∙ tag_stop c.loop-key.before.now tag (drop (i + 1) c.args.tags.now) test)
    ∙ c.loop-key.invariant.left

pub loop-key-preserved : goal.loop-key-preserved
loop-key-preserved c =
    let i = c.loop-key.key-index in
    let tag = c.loop-key-item.result in
    let test : (is_filled tag.1 && is_lt (slice_cmp nat_cmp c.loop-key.before.now tag.0)) ≡ true = search rules in
    record {
      utf8 = search rules;
      left =
          rw c.as_str-before.ensures (sym (ap (λ (ts : List Tag). are_tags c.loop-key.before.now ts)
          (drop_here c.args.tags.now i tag c.loop-key-test.true c.loop-key-item.is)
          ∙ tag_step c.loop-key.before.now tag (drop (i + 1) c.args.tags.now) test)
          ∙ c.loop-key.invariant.left);
    }

pub returns : goal.returns
returns c =
    sym (ap (λ (ts : List Tag). are_tags c.loop-key.before.now ts)
    (drop_all c.loop-key.key-index c.args.tags.now (omega (arith, c.loop-key-test.false)))
    ∙ tags_end c.loop-key.before.now)
    ∙ c.loop-key.invariant.left
