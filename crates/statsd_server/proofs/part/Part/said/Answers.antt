use Rattle.std.proofs.Common.{◌≡◌, ◌∙◌, List, ap, pos, sym}
use Rattle.metric.specs.Draft.{Tag}
use Rattle.statsd_text.specs.TagMap.{kept_content, part_tags}
use Rattle.statsd_server.specs.Parts.{change_of}
use Rattle.statsd_server.proofs.SoundLemmas.{said_is, sound_said}
use Rattle.statsd_server.proofs.part.Part.said.Goals as goal

pub of-requires-clause-sound : goal.of-requires-clause-sound
of-requires-clause-sound c =
    rw c.in_ok-tags.ensures
    (sound_said c.args.name c.args.tags.now c.args.said.metric_type c.requires.named c.requires.keyed)

pub returns : goal.returns
returns c =
    let series : c.of.result ≡ (c.args.name, part_tags c.args.tags.now c.args.said.metric_type) =
    c.of.ensures ∙ ap (λ (tags : List Tag). (c.args.name, tags)) c.in_ok-tags.ensures in
    let change : c.in_ok-said.field-0 ≡ change_of (kept_content c.args.name c.args.tags.now (pos 0) c.args.said) =
    c.in_ok-said.ensures
    ∙ sym (said_is c.args.name c.args.tags.now (pos 0) c.args.said c.requires.valued) in
    λ i. record { series = series i; change = change i }
