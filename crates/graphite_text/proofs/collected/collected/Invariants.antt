use Rattle.std.proofs.Common.{◌≡◌, ◌-◌, ◌++◌, length, drop, map}
use Rattle.graphite_text.specs.Applied.{collected}
use Rattle.format_words.specs.Views.{now_of}
use Rattle.graphite_text.specs.Wanted.{share_of}
use Rattle.graphite_text.proofs.collected.collected.Given as goal

abbrev pub invariant-loop-i : goal.invariant-loop-i
invariant-loop-i l =
    map now_of l.texts.items ++ collected (share_of l.wanted) (drop l.i l.parts) (drop l.i (map now_of l.segments))
    ≡ collected (share_of l.wanted) l.parts (map now_of l.segments)

abbrev pub decreases-loop-i : goal.decreases-loop-i
decreases-loop-i l = length l.parts - l.i
