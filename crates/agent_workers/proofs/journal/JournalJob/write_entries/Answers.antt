use Rattle.std.proofs.Common.{◌≡◌, ◌<◌, ◌+◌, ◌∷◌, [], ℕ, List, length, get_or, drop, set, sym, ap, subst, ◌∙◌}
use Rattle.std.proofs.Common.{length-drop, arith}
use Rattle.std.proofs.lemmas.List.{drop_more, drop-set-lt, get_or-drop}
use Rattle.account.specs.declared.entry.Entry.{Entry}
use Rattle.journal_text.specs.JournalText.{IsWholeOrRemoved}
use Rattle.agent_workers.specs.Noted.{part_of, SpellsOut}
use Rattle.agent_workers.proofs.NotedLemmas.{first_none, first_more, first_all}
use Rattle.agent_workers.proofs.journal.JournalJob.write_entries.Goals as goal

-- lists that are the same from an index on have as many elements behind it
as_long : (xs ys : List Entry) (i : ℕ) → i < length xs → drop i xs ≡ drop i ys → i < length ys
as_long xs ys i lt same = omega (arith, lt, ap length same, length-drop i xs, length-drop i ys)

same_at : (xs ys : List Entry) (i : ℕ) (e : Entry) → e ≡ get_or xs i e → drop i xs ≡ drop i ys → e ≡ get_or ys i e
same_at xs ys i e is same =
    let none : i + 0 ≡ i = omega arith in
    is ∙ ap (λ (n : ℕ). get_or xs n e) (sym none) ∙ sym (get_or-drop i xs 0 e)
    ∙ ap (λ (zs : List Entry). get_or zs 0 e) same ∙ get_or-drop i ys 0 e
    ∙ ap (λ (n : ℕ). get_or ys n e) none

behind_one : (xs ys : List Entry) (i : ℕ) (e left : Entry) → i < length xs → drop i xs ≡ drop i ys
    → drop (i + 1) (set xs i left) ≡ drop (i + 1) ys
behind_one xs ys i e left lt same =
    drop-set-lt (i + 1) xs i left (omega arith) ∙ sym (ap (drop 1) (drop_more xs i e lt)) ∙ ap (drop 1) same
    ∙ ap (drop 1) (drop_more ys i e (as_long xs ys i lt same))

pub loop-entry-init : goal.loop-entry-init
loop-entry-init g c = record {
  spelled = first_none c.args.entries.items (part_of g.K.Sink.told c.args.self.now) c.args.text.now.items;
  behind = c.deref_mut-entry-items.ensures.value;
}

pub loop-entry-preserved : goal.loop-entry-preserved
loop-entry-preserved g c =
    let lt : c.loop-entry.entry-index < length c.loop-entry.entry-items =
    omega (arith, c.loop-entry-test.true, c.loop-entry.auto.entry-items) in
    let told = g.K.Sink.told in
    record {
      spelled =
          first_more c.loop-entry.entry-index c.args.entries.items c.entry-item.result (part_of told c.args.self.now)
          (part_of told c.loop-entry.self) (part_of told c.write_one.new.self)
          c.args.text.now.items c.loop-entry.text.items c.write_one.new.text.items
          (as_long c.loop-entry.entry-items c.args.entries.items c.loop-entry.entry-index lt
          c.loop-entry.invariant.behind)
          (same_at c.loop-entry.entry-items c.args.entries.items c.loop-entry.entry-index c.entry-item.result
          c.entry-item.is c.loop-entry.invariant.behind)
          c.loop-entry.invariant.spelled
          (subst (λ (e : Entry). SpellsOut (e ∷ []) (part_of told c.loop-entry.self)
          (part_of told c.write_one.new.self) c.loop-entry.text.items c.write_one.new.text.items)
          (sym c.entry-item.is) c.in_ok-write_one.ensures);
      behind = behind_one c.loop-entry.entry-items c.args.entries.items c.loop-entry.entry-index c.entry-item.result
          c.write_one.new.entry lt c.loop-entry.invariant.behind;
    }

pub returns : goal.returns
returns g c =
    first_all c.loop-entry.entry-index c.args.entries.items (part_of g.K.Sink.told c.args.self.now)
    (part_of g.K.Sink.told c.loop-entry.self) c.args.text.now.items c.loop-entry.text.items
    (omega (arith, c.loop-entry-test.false, ap length c.deref_mut-entry-items.ensures.value))
    c.loop-entry.invariant.spelled

pub write_one-requires : goal.write_one-requires
write_one-requires g c =
    let lt : c.loop-entry.entry-index < length c.loop-entry.entry-items =
    omega (arith, c.loop-entry-test.true, c.loop-entry.auto.entry-items) in
    subst IsWholeOrRemoved c.entry-item.is (subst IsWholeOrRemoved
    (sym (same_at c.loop-entry.entry-items c.args.entries.items c.loop-entry.entry-index c.entry-item.result
    c.entry-item.is c.loop-entry.invariant.behind))
    (c.requires c.loop-entry.entry-index c.entry-item.result
    (as_long c.loop-entry.entry-items c.args.entries.items c.loop-entry.entry-index lt c.loop-entry.invariant.behind)))
