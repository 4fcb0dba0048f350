use Rattle.std.proofs.Common.{◌++◌, [], List, map, ap, subst, ◌∙◌}
use Rattle.metric.specs.Draft.{Tag, StandsFor}
use Rattle.graphite_text.specs.Applied.{joined, collected, tag_share}
use Rattle.format_words.specs.Views.{now_of}
use Rattle.graphite_text.proofs.Collecting.{tag_at_part}
use Rattle.graphite_text.proofs.applied.put_part.Goals as goal

pub returns-in_ok-tag-clause-ok : goal.returns-in_ok-tag-clause-ok
returns-in_ok-tag-clause-ok c = λ given s.
    let value = c.as_str-in-Tag-2.ensures.value ∙ c.in_ok-value.ensures
    ∙ ap (λ key. joined c.args.separator.now (collected (tag_share key) c.args.parts.now
    (map now_of c.args.segments.now))) c.as_str.ensures in
    subst (λ (ts : List Tag). StandsFor c.tag.new.self (given ++ ts) [])
    (tag_at_part c.args.separator.now c.args.parts.now (map now_of c.args.segments.now) c.args.part.now c.in-Tag.key
    c.as_str-in-Tag.result.now c.as_str-in-Tag-2.result.now c.in-Tag.is c.as_str-in-Tag.ensures value)
    (c.in_ok-tag.ensures.ok given [] s)
