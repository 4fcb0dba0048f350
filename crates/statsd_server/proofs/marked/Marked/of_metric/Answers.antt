use Rattle.std.proofs.Common.{◌∙◌}
use Rattle.statsd_server.proofs.SoundLemmas.{sound_metric}
use Rattle.statsd_server.proofs.marked.Marked.of_metric.Goals as goal

pub of-requires-2-clause-sound : goal.of-requires-2-clause-sound
of-requires-2-clause-sound c =
    rw (
      c.in_ok-name.ensures ∙ c.name.ensures.name,
      c.in_ok-tags.ensures ∙ c.in_ok-tag_copies.ensures ∙ c.tags.ensures,
    )
    (sound_metric c.args.metric.now c.shows_metric.ensures)
