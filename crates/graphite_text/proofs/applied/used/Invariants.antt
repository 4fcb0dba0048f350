use Rattle.std.proofs.Common.{◌≡◌, drop, map}
use Rattle.std.specs.List.{find}
use Rattle.format_words.specs.Serving.{serves}
use Rattle.format_words.specs.Views.{now_of}
use Rattle.graphite_text.proofs.applied.used.Given as goal

abbrev pub invariant-loop-template : goal.invariant-loop-template
invariant-loop-template l =
    find (serves (map now_of l.segments)) (drop l.template-index l.templates) ≡ find
    (serves (map now_of l.segments)) l.templates
