use Rattle.std.proofs.Common.{◌≡◌, [], ◌∷◌, length, cond, map, Some, None, ap, sym, ◌∙◌, arith}
use Rattle.std.specs.Str.{bytes_eq}
use Rattle.std.proofs.lemmas.List.{length-map, map-append}
use Rattle.std.proofs.lemmas.Map.Text.{btree_map_updates_str}
use Rattle.openmetrics_text.specs.Groups.{with_last}
use Rattle.openmetrics_text.specs.WriteViews.{line_view, group_view, groups_view, index_in}
use Rattle.openmetrics_text.proofs.IndexLemmas.{index_within, put_there, indices_stay, put_behind, indices_more}
use Rattle.openmetrics_text.proofs.groups.Groups.put.Goals as goal

pub add_to-requires : goal.add_to-requires
add_to-requires c =
    let found : index_in c.args.key.now (groups_view c.args.self.now) ≡ Some c.in-Some.index =
    sym (c.requires c.args.key.now) ∙ sym c.get.ensures.value ∙ sym c.copied.ensures ∙ c.in-Some.is in
    omega (
      arith,
      index_within c.args.key.now (groups_view c.args.self.now) c.in-Some.index found,
      length-map c.args.self.now.groups.items group_view,
    )

pub returns-in_ok-add_to-in-Some-clause-put : goal.returns-in_ok-add_to-in-Some-clause-put
returns-in_ok-add_to-in-Some-clause-put c =
    let found : index_in c.args.key.now (groups_view c.args.self.now) ≡ Some c.in-Some.index =
    sym (c.requires c.args.key.now) ∙ sym c.get.ensures.value ∙ sym c.copied.ensures ∙ c.in-Some.is in
    put_there c.args.key.now (groups_view c.args.self.now) (map group_view c.add_to.new.groups.items) c.in-Some.index
    (line_view c.args.sample) found c.in_ok-add_to-in-Some.ensures

pub returns-in_ok-add_to-in-Some-clause-indexed : goal.returns-in_ok-add_to-in-Some-clause-indexed
returns-in_ok-add_to-in-Some-clause-indexed c = λ q.
    c.requires q ∙ indices_stay q (groups_view c.args.self.now) (map group_view c.add_to.new.groups.items)
    c.in-Some.index (line_view c.args.sample) c.in_ok-add_to-in-Some.ensures

pub returns-in_ok-push-in-None-clause-put : goal.returns-in_ok-push-in-None-clause-put
returns-in_ok-push-in-None-clause-put c =
    let none : index_in c.args.key.now (groups_view c.args.self.now) ≡ None =
    sym (c.requires c.args.key.now) ∙ sym c.get.ensures.value ∙ sym c.copied.ensures ∙ c.in-None.is in
    ap (map group_view) c.in_ok-push-in-None.ensures.items ∙ map-append group_view c.args.self.now.groups.items
    (record { key = c.args.key; samples = c.of_one.result } ∷ [])
    ∙ rw c.of_one.ensures (put_behind (with_last (line_view c.args.sample)) (groups_view c.args.self.now) c.args.key.now
    none)

pub returns-in_ok-push-in-None-clause-indexed : goal.returns-in_ok-push-in-None-clause-indexed
returns-in_ok-push-in-None-clause-indexed c = λ q.
    let none : index_in c.args.key.now (groups_view c.args.self.now) ≡ None =
    sym (c.requires c.args.key.now) ∙ sym c.get.ensures.value ∙ sym c.copied.ensures ∙ c.in-None.is in
    let len : c.len.result ≡ length (groups_view c.args.self.now) =
    omega (arith, c.len.ensures, length-map c.args.self.now.groups.items group_view) in
    btree_map_updates_str c.args.key.now c.args.self.now.indices c.insert.new.self
    (Some c.len.result) c.in_ok-insert-in-None.ensures.updates q
    ∙ (λ j. cond (bytes_eq c.args.key.now q) (Some (len j)) (c.requires q j))
    ∙ indices_more q (groups_view c.args.self.now) c.args.key.now (map line_view c.of_one.result) none
    ∙ ap (index_in q) (sym (ap (map group_view) c.in_ok-push-in-None.ensures.items
    ∙ map-append group_view c.args.self.now.groups.items (record { key = c.args.key; samples = c.of_one.result } ∷ [])))
