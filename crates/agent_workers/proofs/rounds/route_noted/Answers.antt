use Rattle.std.proofs.Common.{ap, refl, subst, sym}
use Rattle.pipeline_core.specs.CoreState.{CoreState}
use Rattle.agent_workers.specs.Item.{proc_of}
use Rattle.agent_workers.specs.Noted.{JournalPart, part_of}
use Rattle.agent_workers.specs.declared.journal.JournalJob.{JournalJob}
use Rattle.agent_workers.proofs.RoundSteps.{routes_more, routes_last}
use Rattle.agent_workers.proofs.OutLemmas.{routable_same, routable_more}
use Rattle.agent_workers.proofs.PartsLemmas.{proc_fits, proc_itself, same_proc}
use Rattle.agent_workers.proofs.ProgressLemmas.{went_open}
use Rattle.agent_workers.specs.Running.{AllMade}
use Rattle.agent_workers.proofs.rounds.route_noted.Given.{Over}
use Rattle.agent_workers.proofs.rounds.route_noted.Goals as goal

abbrev noted : (g : Over) → JournalJob g.row.K.Denot g.row.C.Denot → JournalPart
noted g = part_of g.K.Sink.told

pub loop-part-init : goal.loop-part-init
loop-part-init g c = record {
  rests = c.requires.rests;
  kept = routable_same c.args.core.now c.args.core.now refl refl refl refl refl (λ all. all);
  same = proc_itself (proc_of c.args.proc.now);
  routes = λ start now ticked anew stays w.
      went_open start (record now
      { core = c.args.core.now; proc = proc_of c.args.proc.now; journal = noted g c.args.journal.now }) ticked
      (λ t. (stays t).0) w;
}

pub loop-part-preserved : goal.loop-part-preserved
loop-part-preserved g c =
    let cut = c.in_ok-note.ensures.noted in
    record {
      rests = c.in_ok-note.ensures.rests;
      kept = routable_more c.args.core.now c.route_some.new.core c.note.new.core
          (routable_more c.args.core.now c.loop-part.core c.route_some.new.core c.loop-part.invariant.kept
          c.in_ok-route_some.ensures.kept)
          (routable_same c.route_some.new.core c.note.new.core
          (ap (λ (s : CoreState). s.setup) cut) (ap (λ (s : CoreState). s.ended) cut)
          (ap (λ (s : CoreState). s.gathered) cut) (ap (λ (s : CoreState). s.stopped) cut)
          (ap (λ (s : CoreState). s.lanes) cut) (λ all. subst AllMade (sym (ap (λ (s : CoreState). s.made) cut)) all));
      same = same_proc (proc_of c.args.proc.now) (proc_of c.loop-part.proc) (proc_of c.route_some.new.proc)
          c.loop-part.invariant.same c.route_some.ensures.same;
      routes = routes_more c.args.core.now c.loop-part.core c.route_some.new.core c.note.new.core
          (proc_of c.args.proc.now) (proc_of c.loop-part.proc) (proc_of c.route_some.new.proc)
          (noted g c.args.journal.now) (noted g c.loop-part.journal) (noted g c.note.new.journal)
          c.route_some.new.known.items c.loop-part.invariant.kept.made
          c.loop-part.invariant.routes c.in_ok-route_some.ensures.goes c.in_ok-note.ensures.notes;
    }

pub returns-then-not-branch-clause-routes : goal.returns-then-not-branch-clause-routes
returns-then-not-branch-clause-routes g c =
    routes_last c.args.core.now c.loop-part.core c.route_some.new.core (proc_of c.args.proc.now)
    (proc_of c.loop-part.proc) (proc_of c.route_some.new.proc)
    (noted g c.args.journal.now) (noted g c.loop-part.journal) c.route_some.new.known.items
    c.loop-part.invariant.kept.made
    c.loop-part.invariant.routes
    c.in_ok-route_some.ensures.goes

pub route_some-requires-clause-fit : goal.route_some-requires-clause-fit
route_some-requires-clause-fit g c = proc_fits c.args.core.now c.loop-part.core (proc_of c.args.proc.now)
    (proc_of c.loop-part.proc) c.requires.fit c.loop-part.invariant.kept.setup c.loop-part.invariant.same
