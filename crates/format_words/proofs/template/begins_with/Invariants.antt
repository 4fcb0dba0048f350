use Rattle.std.proofs.Common.{◌≡◌, ◌-◌, length, drop, map}
use Rattle.format_words.specs.Serving.{begins_with}
use Rattle.format_words.specs.Views.{now_of}
use Rattle.format_words.proofs.template.begins_with.Given as goal

abbrev pub invariant-loop-i : goal.invariant-loop-i
invariant-loop-i l = begins_with (drop l.i l.filter) (drop l.i (map now_of l.segments)) ≡ begins_with l.filter
    (map now_of l.segments)

abbrev pub decreases-loop-i : goal.decreases-loop-i
decreases-loop-i l = length l.filter - l.i
