use Rattle.statsd_text.proofs.KeptTags.{keyed_none}
use Rattle.statsd_server.proofs.tags.tags_of.Goals as goal

pub part_tags-requires-clause-sorted : goal.part_tags-requires-clause-sorted
part_tags-requires-clause-sorted c = keyed_none.sorted
