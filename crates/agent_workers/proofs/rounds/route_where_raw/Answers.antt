use Rattle.std.proofs.Common.{refl}
use Rattle.agent_workers.specs.Item.{proc_of}
use Rattle.agent_workers.specs.Noted.{part_of}
use Rattle.agent_workers.proofs.OutLemmas.{routable_same}
use Rattle.agent_workers.proofs.RoundSteps.{routes_none, routes_some}
use Rattle.agent_workers.proofs.rounds.route_where_raw.Goals as goal

pub returns-then-not-has_raw-clause-kept : goal.returns-then-not-has_raw-clause-kept
returns-then-not-has_raw-clause-kept g c =
    routable_same c.args.core.now c.args.core.now refl refl refl refl refl (λ all. all)

pub returns-then-not-has_raw-clause-routes : goal.returns-then-not-has_raw-clause-routes
returns-then-not-has_raw-clause-routes g c =
    routes_none c.args.core.now (proc_of c.args.proc.now) (part_of g.K.Sink.told c.args.journal.now)

pub returns-clause-routes : goal.returns-clause-routes
returns-clause-routes g c =
    routes_some c.args.core.now c.route_noted.new.core (proc_of c.args.proc.now) (proc_of c.route_noted.new.proc)
    (part_of g.K.Sink.told c.args.journal.now) (part_of g.K.Sink.told c.route_noted.new.journal)
    c.in_ok-route_noted.ensures.routes
