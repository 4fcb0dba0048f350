use Rattle.std.proofs.Common.{◌≡◌, drop}
use Rattle.proc_edit.specs.Convert.{fields_converted}
use Rattle.proc_edit.proofs.convert.convert_each_field.Given as goal

abbrev pub invariant-loop-field : goal.invariant-loop-field
invariant-loop-field l = fields_converted l.rules l.m (drop l.field-index l.fields) ≡ fields_converted l.rules l.fn.m
    l.fields
