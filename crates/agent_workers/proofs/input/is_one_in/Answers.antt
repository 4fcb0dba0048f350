use denote.Enum.Bare.{same_false}
use Rattle.std.proofs.Common.{◌≡◌, ◌<◌, ◌≤◌, ◌∙◌, length, sym, arith}
use Rattle.formats.specs.contracts.pieces.InState.{the_type}
use Rattle.agent_workers.proofs.InLemmas.{none_more, none_in}
use Rattle.agent_workers.proofs.input.is_one_in.Goals as goal

pub loop-job-preserved : goal.loop-job-preserved
loop-job-preserved g c =
    let b : c.loop-job.job-index < length c.args.inputs.now =
    omega (arith, c.loop-job-test.true, c.loop-job.auto.job-index-end) in
    let other : c.job-item.result.state ≡ c.args.state → ⊥ =
    same_false the_type _ _ (sym c.eq.ensures ∙ c.if-eq.false) in
    none_more g.S.Source.told g.C.Clock.told c.args.state c.args.inputs.now c.loop-job.job-index c.loop-job.invariant
    c.job-item.result b c.job-item.is other

pub returns : goal.returns
returns g c =
    let all : length c.args.inputs.now ≤ c.loop-job.job-index =
    omega (arith, c.loop-job-test.false, c.loop-job.auto.job-index-end) in
    none_in g.S.Source.told g.C.Clock.told c.args.state c.args.inputs.now c.loop-job.job-index c.loop-job.invariant all
