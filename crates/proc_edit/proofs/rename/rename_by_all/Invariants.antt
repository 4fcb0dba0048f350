use Rattle.std.proofs.Common.{◌≡◌, drop}
use Rattle.proc_edit.specs.Rename.{renamed}
use Rattle.proc_edit.proofs.rename.rename_by_all.Given as goal

abbrev pub invariant-loop-rule : goal.invariant-loop-rule
invariant-loop-rule l = renamed (drop l.rule-index l.rules) l.m ≡ renamed l.rules l.fn.m
