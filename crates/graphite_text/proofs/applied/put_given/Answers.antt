use Rattle.graphite_text.proofs.Collecting.{key_at}
use Rattle.graphite_text.proofs.applied.put_given.Goals as goal

pub tag-requires : goal.tag-requires
tag-requires c = key_at c.args.tags.now c.loop-key.key-index _ c.loop-key-test.true c.requires.keyed
