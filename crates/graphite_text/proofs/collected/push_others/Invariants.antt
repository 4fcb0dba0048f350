use Rattle.std.proofs.Common.{◌≡◌, ◌++◌, take, map}
use Rattle.std.specs.Prelude.{flat_map}
use Rattle.std.specs.String.{string_bytes}
use Rattle.format_words.specs.Views.{now_of}
use Rattle.graphite_text.proofs.collected.push_others.Given as goal

abbrev pub invariant-loop-other : goal.invariant-loop-other
invariant-loop-other l =
    string_bytes l.text ≡ string_bytes l.fn.text ++ flat_map (λ other. l.separator ++ other)
    (map now_of (take l.other-index l.others))
