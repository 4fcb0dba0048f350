use Rattle.std.proofs.Common.{◌≡◌, drop}
use Rattle.proc_regex.specs.Rewrite.{all_rewritten}
use Rattle.proc_chain.proofs.stage.rewrite_by_all.Given as goal

abbrev pub invariant-rules : goal.invariant-rules
invariant-rules l = record {
  same : l.rules.items ≡ l.fn.rules.items;
  rest : all_rewritten (drop l.index l.fn.rules.items) l.m ≡ all_rewritten l.fn.rules.items l.fn.m;
}
