use Rattle.std.proofs.Common.{◌≡◌, take, map}
use Rattle.format_words.specs.Views.{now_of}
use Rattle.format_words.proofs.template_text.texts_of.Given as goal

abbrev pub invariant-loop-text : goal.invariant-loop-text
invariant-loop-text l = l.kept.items ≡ map now_of (take l.text-index l.texts)
