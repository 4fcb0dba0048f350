use Rattle.std.proofs.Common.{◌∙◌, Some, sym, ap}
use Rattle.std.specs.Option.{is_some}
use Rattle.openmetrics_text.proofs.LabelLemmas.{label_twice, label_once, label_seen, labels_end}
use Rattle.std.specs.BTreeMap.{get_by}
use Rattle.std.specs.Cmp.Lexicographic.{slice_cmp}
use Rattle.std.specs.Ordering.{nat_cmp}
use Rattle.std.proofs.lemmas.Map.Text.{btree_map_updates_str}
use Rattle.openmetrics_text.proofs.labels.many_have_twice.Goals as goal

pub returns-then-is_some : goal.returns-then-is_some
returns-then-is_some c =
    let label = c.label-item.result in
    let seen = sym c.if-is_some.true ∙ c.is_some.ensures ∙ ap is_some c.in_ok-insert.ensures.old
    ∙ c.loop-label.invariant.seen label.name.now in
    sym (label_twice c.args.labels.now c.loop-label.label-index label c.loop-label-test.true c.label-item.is (sym seen))
    ∙ c.loop-label.invariant.so_far

pub loop-label-preserved : goal.loop-label-preserved
loop-label-preserved c =
    let labels = c.args.labels.now in
    let label = c.label-item.result in
    let seen = sym c.if-is_some.false ∙ c.is_some.ensures ∙ ap is_some c.in_ok-insert.ensures.old
    ∙ c.loop-label.invariant.seen label.name.now in record {
      so_far = label_once labels c.loop-label.label-index label c.loop-label-test.true c.label-item.is (sym seen)
          ∙ c.loop-label.invariant.so_far;
      seen = λ other.
          ap is_some (btree_map_updates_str label.name.now c.loop-label.before c.insert.new.self
          (Some tt) c.in_ok-insert.ensures.updates other)
          ∙ label_seen labels c.loop-label.label-index label c.loop-label-test.true c.label-item.is other
          (get_by (λ key. slice_cmp nat_cmp other key.now) c.loop-label.before)
          (c.loop-label.invariant.seen other);
    }

pub returns : goal.returns
returns c =
    sym (labels_end c.args.labels.now c.loop-label.label-index c.loop-label-test.false) ∙ c.loop-label.invariant.so_far
