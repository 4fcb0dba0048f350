use Rattle.std.proofs.Common.{◌≡◌, drop}
use Rattle.proc_edit.specs.Convert.{tags_converted}
use Rattle.proc_edit.proofs.convert.convert_each_tag.Given as goal

abbrev pub invariant-loop-tag : goal.invariant-loop-tag
invariant-loop-tag l = tags_converted l.rules l.m (drop l.tag-index l.tags) ≡ tags_converted l.rules l.fn.m l.tags
