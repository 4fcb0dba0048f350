use Rattle.std.specs.Int.{w64}
use Rattle.std.proofs.lemmas.Int.{to_z-of_z}
use Rattle.proc_dedup.proofs.DedupLemmas.{none_held}
use Rattle.proc_dedup.proofs.dedup.Dedup.new.Goals as goal

pub returns : goal.returns
returns c = record {
  same = to_z-of_z w64 c.args.interval c.ranges.interval;
  each = λ series. none_held c.args.interval _ series c.new.ensures.empty;
}
