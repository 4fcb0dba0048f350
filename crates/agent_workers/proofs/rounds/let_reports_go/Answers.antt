use Rattle.std.proofs.Common.{length, ap, arith}
use Rattle.std.proofs.lemmas.List.{length-map}
use Rattle.pipeline_core.specs.CoreState.{CoreState}
use Rattle.agent_workers.specs.Inputs.{in_of}
use Rattle.agent_workers.proofs.InLemmas.{job_number}
use Rattle.agent_workers.proofs.QueueLemmas.{none_to}
use Rattle.agent_workers.proofs.RoundSteps.{told_then, went_told}
use Rattle.agent_workers.proofs.rounds.let_reports_go.Goals as goal

pub let_reports_of-requires : goal.let_reports_of-requires
let_reports_of-requires g c =
    let here = job_number g.S.Source.told g.C.Clock.told c.args.inputs.now (length c.args.core.now.setup.inputs)
    c.args.core.now.ended c.loop-job.job-index c.job-item.result c.requires
    (omega (arith, c.loop-job-test.true, c.loop-job.auto.job-index-end)) c.job-item.is in
    omega (arith, here.0, here.1, ap (λ (s : CoreState). length s.setup.inputs) c.loop-job.invariant.same)

pub loop-job-preserved : goal.loop-job-preserved
loop-job-preserved g c =
    let here = job_number g.S.Source.told g.C.Clock.told c.args.inputs.now (length c.args.core.now.setup.inputs)
    c.args.core.now.ended c.loop-job.job-index c.job-item.result c.requires
    (omega (arith, c.loop-job-test.true, c.loop-job.auto.job-index-end)) c.job-item.is in
    record {
      gone = none_to c.loop-job.core.told c.let_reports_of.new.core.told c.loop-job.job-index
          c.job-item.result.input here.0 c.let_reports_of.ensures.gone c.let_reports_of.ensures.others
          c.loop-job.invariant.gone;
      same = told_then c.args.core.now c.loop-job.core c.let_reports_of.new.core c.loop-job.invariant.same
          c.let_reports_of.ensures.same;
      stands = λ journal h. c.let_reports_of.ensures.stands journal (c.loop-job.invariant.stands journal h);
    }

pub returns-clause-gone : goal.returns-clause-gone
returns-clause-gone g c = λ input l. c.loop-job.invariant.gone input (omega (
  arith,
  l,
  c.loop-job-test.false,
  c.loop-job.auto.job-index-end,
  c.requires.count_is,
  length-map c.args.inputs.now (in_of g.S.Source.told g.C.Clock.told),
  ap (λ (s : CoreState). length s.setup.inputs) c.loop-job.invariant.same,
))

pub returns-clause-tells : goal.returns-clause-tells
returns-clause-tells g c = went_told c.args.core.now c.loop-job.core c.loop-job.invariant.same
    c.loop-job.invariant.stands
