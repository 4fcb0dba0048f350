use Rattle.std.proofs.Common.{◌≡◌, length, rules}
use Rattle.proc_chain.proofs.PushLemmas.{none_left}
use Rattle.proc_chain.proofs.chain.push_all.Goals as goal

pub returns-then-is_empty-clause-pushes : goal.returns-then-is_empty-clause-pushes
returns-then-is_empty-clause-pushes c =
    let none : length c.args.stages.now.items ≡ 0 = search rules in
    none_left 0 c.args.stages.now.items c.args.m none
