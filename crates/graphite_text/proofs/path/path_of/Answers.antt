use Rattle.format_words.specs.Views.{texts_view, tags_view}
use Rattle.graphite_text.proofs.Filled.{path_some}
use Rattle.graphite_text.proofs.Lines.{path_is}
use Rattle.graphite_text.proofs.path.path_of.Goals as goal

pub returns-clause-filled : goal.returns-clause-filled
returns-clause-filled c =
    path_some c.args.text.now (record {
      segments = texts_view c.in_ok-segments.segments;
      tags = tags_view c.in_ok-tags.tags;
    })
    (path_is c.args.text.now c.first_part.result.0 c.first_part.result.1 (texts_view c.in_ok-segments.segments)
    (tags_view c.in_ok-tags.tags) c.first_part.ensures.value c.in_ok-segments.ensures c.in_ok-tags.ensures)
