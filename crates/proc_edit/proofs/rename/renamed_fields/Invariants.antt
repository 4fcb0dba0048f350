use Rattle.std.proofs.Common.{◌≡◌, ◌++◌, drop}
use Rattle.proc_edit.specs.Rename.{with_key_renamed}
use Rattle.proc_edit.proofs.rename.renamed_fields.Given as goal

abbrev pub invariant-loop-field : goal.invariant-loop-field
invariant-loop-field l =
    l.renamed ++ with_key_renamed (drop l.field-index l.fields) l.from l.dest ≡ with_key_renamed l.fields l.from l.dest
