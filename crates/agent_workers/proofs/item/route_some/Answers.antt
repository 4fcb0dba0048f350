use Rattle.std.proofs.Common.{ap, arith, refl, Ok}
use Rattle.agent_workers.specs.Item.{proc_of}
use Rattle.agent_workers.specs.Progress.{with_known}
use Rattle.agent_workers.proofs.RoundSteps.{goes_more}
use Rattle.agent_workers.proofs.OutLemmas.{routable_same, routable_more}
use Rattle.agent_workers.proofs.PartsLemmas.{proc_fits, proc_itself, same_proc}
use Rattle.agent_workers.proofs.ProgressLemmas.{went_open}
use Rattle.agent_workers.proofs.item.route_some.Goals as goal

pub route_next-requires-clause-fit : goal.route_next-requires-clause-fit
route_next-requires-clause-fit g c = proc_fits c.args.core.now c.loop-taken.core (proc_of c.args.proc.now)
    (proc_of c.loop-taken.proc) c.requires.fit c.loop-taken.invariant.kept.setup c.loop-taken.invariant.same

pub loop-taken-init : goal.loop-taken-init
loop-taken-init g c = record {
  rests = c.requires.rests;
  kept = routable_same c.args.core.now c.args.core.now refl refl refl refl refl (λ all. all);
  fewer = omega arith;
  same = proc_itself (proc_of c.args.proc.now);
  goes = λ start now ticked anew stays w.
      went_open start (record now {
        core = c.args.core.now;
        proc = proc_of c.args.proc.now;
        journal = with_known now.journal c.args.known.now.items;
      }) ticked (λ t. (stays t).0) w;
}

pub loop-taken-preserved : goal.loop-taken-preserved
loop-taken-preserved g c = record {
  rests = c.in_ok-route_next.ensures.rests;
  kept = routable_more c.args.core.now c.loop-taken.core c.route_next.new.core c.loop-taken.invariant.kept
      c.in_ok-route_next.ensures.kept;
  fewer = omega (
    arith,
    c.loop-taken.invariant.fewer,
    c.in_ok-route_next.ensures.fewer (ap Ok c.if-not-branch.false),
  );
  same = same_proc (proc_of c.args.proc.now) (proc_of c.loop-taken.proc) (proc_of c.route_next.new.proc)
      c.loop-taken.invariant.same c.route_next.ensures.same;
  goes = goes_more c.args.core.now c.loop-taken.core c.route_next.new.core (proc_of c.args.proc.now)
      (proc_of c.loop-taken.proc) (proc_of c.route_next.new.proc) c.args.known.now.items c.loop-taken.known.items
      c.route_next.new.known.items c.loop-taken.invariant.kept.made
      c.loop-taken.invariant.goes c.in_ok-route_next.ensures.goes;
}

pub returns-then-not-branch-clause-goes : goal.returns-then-not-branch-clause-goes
returns-then-not-branch-clause-goes g c =
    goes_more c.args.core.now c.loop-taken.core c.route_next.new.core (proc_of c.args.proc.now)
    (proc_of c.loop-taken.proc) (proc_of c.route_next.new.proc) c.args.known.now.items c.loop-taken.known.items
    c.route_next.new.known.items c.loop-taken.invariant.kept.made
    c.loop-taken.invariant.goes c.in_ok-route_next.ensures.goes
