use Rattle.std.specs.Int.{w64}
use Rattle.std.proofs.lemmas.Int.{to_z-of_z}
use Rattle.agg_keep.proofs.FinalLemmas.{none_held}
use Rattle.agg_keep.proofs.finals.Final.new.Goals as goal

pub returns : goal.returns
returns c = none_held c.args.timeout _ (to_z-of_z w64 c.args.timeout c.ranges.timeout) c.new.ensures.empty
    c.new-2.ensures.items
