use Rattle.std.proofs.Common.{◌<◌, [], ℕ, List, length, map, sym, ap, subst, ◌∙◌}
use Rattle.std.proofs.lemmas.Int.{to_z-of_z}
use mir.Syntax.{w64}
use Rattle.text_parts.specs.Chain.{Gives}
use Rattle.graphite_text.specs.Applied.{name_of, key_of, collected_tags}
use Rattle.format_words.specs.Views.{now_of, tag_view}
use Rattle.graphite_text.specs.Views.{path_view}
use Rattle.graphite_text.proofs.Collecting.{name_some, key_some}
use Rattle.graphite_text.proofs.Lines.{same_said, same_tags, ready}
use Rattle.graphite_text.proofs.applied.applied.Goals as goal

pub field-requires : goal.field-requires
field-requires c =
    let segments = ap (map now_of) c.as_slice-segments.ensures.value in
    let key = c.as_str-2.ensures.value ∙ c.in_ok-key.ensures
    ∙ ap (key_of c.args.separator.now c.args.naming.now.parts.now) segments in
    subst (λ (k : List ℕ). 0 < length k) (sym key) (key_some c.args.separator.now c.args.naming.now.parts.now
    (path_view c.args.path.now).segments c.requires.path.filled)

pub finish-requires : goal.finish-requires
finish-requires c =
    let segments = ap (map now_of) c.as_slice-segments.ensures.value in
    let name =
    c.field.ensures.name ∙ c.put_given.ensures.name ∙ c.put_collected.ensures.name ∙ c.put_own.ensures.name
    ∙ c.in_ok-draft.ensures.name ∙ c.as_str.ensures.value ∙ c.in_ok-name.ensures
    ∙ ap (name_of c.args.separator.now c.args.naming.now.parts.now) segments in
    let own = c.in_ok-put_own.ensures.ok [] c.in_ok-draft.ensures.none in
    let gathered = c.in_ok-put_collected.ensures.ok _ own in
    let given = c.in_ok-put_given.ensures.ok _ gathered in
    ready c.field.new.self _ c.as_str-2.result.now c.args.value
    (name_of c.args.separator.now c.args.naming.now.parts.now (path_view c.args.path.now).segments) name
    (name_some c.args.separator.now c.args.naming.now.parts.now
    (path_view c.args.path.now).segments c.requires.path.some c.requires.path.filled)
    (c.in_ok-field.ensures.ok _ [] given)

pub returns : goal.returns
returns c =
    let segments = ap (map now_of) c.as_slice-segments.ensures.value in
    let name =
    c.field.ensures.name ∙ c.put_given.ensures.name ∙ c.put_collected.ensures.name ∙ c.put_own.ensures.name
    ∙ c.in_ok-draft.ensures.name ∙ c.as_str.ensures.value ∙ c.in_ok-name.ensures
    ∙ ap (name_of c.args.separator.now c.args.naming.now.parts.now) segments in
    let key = c.as_str-2.ensures.value ∙ c.in_ok-key.ensures
    ∙ ap (key_of c.args.separator.now c.args.naming.now.parts.now) segments in
    let own = c.in_ok-put_own.ensures.ok [] c.in_ok-draft.ensures.none in
    let gathered = c.in_ok-put_collected.ensures.ok _ own in
    let given = c.in_ok-put_given.ensures.ok _ gathered in
    let tags =
    same_tags c.args.naming.now.tags.now (collected_tags c.args.separator.now c.args.naming.now.parts.now
    (map now_of c.as_slice-segments.result.now)) (map tag_view c.as_slice.result.now)
    (collected_tags c.args.separator.now c.args.naming.now.parts.now (path_view c.args.path.now).segments)
    (path_view c.args.path.now).tags
    (ap (collected_tags c.args.separator.now c.args.naming.now.parts.now) segments)
    (ap (map tag_view) c.as_slice.ensures.value) in
    subst (λ r. Gives (λ x. x) c.finish.result r)
    (same_said c.args.separator.now c.args.naming.now.parts.now c.args.naming.now.tags.now
    (path_view c.args.path.now) c.args.value c.args.time c.field.new.self.parts.name c.as_str-2.result.now _ name key
    tags)
    (rw (to_z-of_z w64 c.args.time c.ranges.time) at (c.finish.ensures _ c.as_str-2.result.now c.args.value
    (c.in_ok-field.ensures.ok _ [] given)))
