use Rattle.statsd_server.proofs.StandingLemmas.{failed_same, gather_given, gather_serving, gather_some}
use Rattle.statsd_server.proofs.standing.Standing.gather.Goals as goal

pub invariant_of-self : goal.invariant_of-self
invariant_of-self c = record {
  serving = gather_serving c.gather.result _ _ c.args.self.now.serving c.gather.ensures.ok c.gather.ensures.err;
}

pub returns-clause-given : goal.returns-clause-given
returns-clause-given c =
    gather_given _ c.gather.result _ _ c.args.self.now.serving c.self-1.given.0 c.gather.ensures.served
    c.gather.ensures.ok

pub returns-clause-some : goal.returns-clause-some
returns-clause-some c = gather_some _ c.gather.result _ c.args.self.now.serving c.gather.ensures.served

pub returns-clause-err : goal.returns-clause-err
returns-clause-err c =
    failed_same c.gather.result _ _ c.args.self.now.serving c.self-1.given.0 c.gather.ensures.err
