use Rattle.std.proofs.Common.{◌<◌, length, arith}
use Rattle.std.proofs.lemmas.List.{length-map}
use Rattle.agent_workers.specs.Output.{outs_of, out_of}
use Rattle.agent_workers.proofs.OutLemmas.{anew_more}
use Rattle.agent_workers.proofs.output.begin_anew.Goals as goal

pub loop-job-preserved : goal.loop-job-preserved
loop-job-preserved g c =
    let b : c.loop-job.job-index < length c.loop-job.outputs =
    omega (arith, c.loop-job-test.true, c.loop-job.auto.outputs, c.loop-job.auto.job-index-end) in
    let l : c.loop-job.job-index < length (outs_of g.K.Sink.told c.args.outputs.now) =
    omega (
      arith,
      c.loop-job-test.true,
      length-map c.args.outputs.now (out_of g.K.Sink.told),
      c.loop-job.auto.job-index-end,
    ) in
    anew_more g.K.Sink.told c.loop-job.outputs c.loop-job.job-index c.job-item.result
    (outs_of g.K.Sink.told c.args.outputs.now) b c.loop-job.invariant l
