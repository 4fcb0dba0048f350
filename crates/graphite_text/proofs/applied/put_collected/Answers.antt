use Rattle.std.proofs.Common.{◌++◌, [], List, map, subst}
use Rattle.std.specs.Prelude.{flat_map}
use Rattle.metric.specs.Draft.{StandsFor}
use Rattle.format_words.specs.declared.template.TemplatePart.{TemplatePart}
use Rattle.graphite_text.specs.Applied.{tags_at}
use Rattle.format_words.specs.Views.{now_of}
use Rattle.graphite_text.proofs.Collecting.{taken_all, taken_some}
use Rattle.graphite_text.proofs.applied.put_collected.Goals as goal

pub returns-else-i-segments-clause-ok : goal.returns-else-i-segments-clause-ok
returns-else-i-segments-clause-ok c = λ given s.
    subst (λ (ps : List TemplatePart). StandsFor c.loop-i.draft
    (given ++ flat_map (tags_at c.args.separator.now c.args.parts.now (map now_of c.args.segments.now)) ps) [])
    (taken_some c.args.parts.now c.args.segments.now c.loop-i.i c.loop-i.invariant.within c.if-i-segments.false)
    (c.loop-i.invariant.kept given s)

pub returns-after-loop-i-clause-ok : goal.returns-after-loop-i-clause-ok
returns-after-loop-i-clause-ok c = λ given s.
    subst (λ (ps : List TemplatePart). StandsFor c.loop-i.draft
    (given ++ flat_map (tags_at c.args.separator.now c.args.parts.now (map now_of c.args.segments.now)) ps) [])
    (taken_all c.args.parts.now c.args.segments.now c.loop-i.i c.loop-i.invariant.within c.loop-i-test.false)
    (c.loop-i.invariant.kept given s)
