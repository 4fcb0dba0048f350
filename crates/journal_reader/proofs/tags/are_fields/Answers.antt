use Rattle.std.proofs.Common.{◌≡◌, false, true, List, [], take, not, sym, ap, subst, ◌∙◌, rules, arith}
use Rattle.std.specs.List.{IsAllAdjacentAnswer}
use Rattle.std.specs.Ordering.{is_lt}
use Rattle.std.proofs.lemmas.List.{take_all}
use Rattle.std.proofs.lemmas.List.Folds.{list_all_at}
use Rattle.std.proofs.lemmas.List.Sorted.{answers_always}
use Rattle.journal_reader.specs.MetricReading.{is_filled}
use Rattle.journal_reader.proofs.KeyLemmas.{Field, all_filled, filled_as, fields_differ, no_fields}
use Rattle.journal_reader.proofs.MarkLemmas.{Key, key_cmp, marked_keys, told}
use Rattle.journal_reader.proofs.tags.are_fields.Goals as goal

pub returns-then-is_empty : goal.returns-then-is_empty
returns-then-is_empty c =
    let fields = c.args.fields.now in
    let field = c.loop-key-item.result in
    let empty : is_filled field.0 ≡ false =
    filled_as field.0 c.as_str-key.result.now c.is_empty.result c.as_str-key.ensures c.is_empty.ensures
    ∙ ap not c.if-is_empty.true in
    let here : all_filled fields ≡ false =
    list_all_at (λ (f : Field). is_filled f.0) fields c.loop-key.key-index field c.loop-key-test.true
    (subst (λ (f : Field). is_filled f.0 ≡ false) c.loop-key-item.is empty) in
    sym (no_fields fields (λ e. false_true (sym here ∙ (fields_differ [] fields e).filled)))
  where
    false_true : false ≡ true → ⊥
    false_true e = absurd cc

pub returns : goal.returns
returns c =
    let fields = c.args.fields.now in
    let all : take c.loop-key.key-index fields ≡ fields =
    take_all c.loop-key.key-index fields (omega (arith, c.loop-key-test.false)) in
    let rise = c.is_sorted_by.ensures.cases (λ (x y : Key). is_lt (key_cmp x y))
    (answers_always _ _ _ (λ f a r g h. search rules)) in
    told c.loop-key.keys.items c.sort_unstable.new.self.items fields (c.loop-key.invariant.marked ∙ ap marked_keys all)
    (sym (ap all_filled all) ∙ c.loop-key.invariant.filled)
    c.sort_unstable.ensures.permutation c.sort_unstable.ensures.sorted c.is_sorted_by.result
    (subst (λ (keys : List Key). IsAllAdjacentAnswer (λ x y b. b ≡ is_lt (key_cmp x y)) keys c.is_sorted_by.result)
    c.as_slice.ensures.value rise)
