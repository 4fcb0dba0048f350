use Rattle.std.proofs.Common.{◌≡◌, ◌<◌, ◌≤◌, ◌∙◌, ◌+◌, ◌||◌, Bool, List, length, get_or, set, ap, sym, subst, arith}
use Rattle.std.proofs.lemmas.Bool.{or_parts}
use Rattle.std.proofs.lemmas.List.{length-map, map-set}
use Rattle.account.specs.Setup.{Setup}
use Rattle.agent_workers.specs.Output.{OutPart, outs_of, out_of}
use Rattle.agent_workers.specs.Progress.{still_flushed, SendsOn}
use Rattle.agent_workers.proofs.OutLemmas.{part_here, part_number, part_set, sent_on}
use Rattle.agent_workers.proofs.SendSteps.{flushed_both, sends_at, sends_fewer, sends_then}
use Rattle.agent_workers.proofs.SweepLemmas.{Sweeping, sweeps_part, swept}
use Rattle.agent_workers.proofs.output.send_each.Goals as goal

pub send_all-requires-clause-known : goal.send_all-requires-clause-known
send_all-requires-clause-known g c =
    let jobs = c.loop-job.outputs in
    let i = c.loop-job.job-index in
    let b : i < length jobs = omega (
      arith,
      c.loop-job-test.true,
      c.loop-job.auto.outputs,
      c.loop-job.auto.job-index-end,
    ) in
    let number = part_number g.K.Sink.told jobs i c.job-item.result (length c.args.core.now.setup.outputs) b
    c.loop-job.invariant.outputs in
    omega (
      arith,
      number,
      b,
      c.loop-job.invariant.outputs.count_is,
      length-map jobs (out_of g.K.Sink.told),
      ap (λ (s : Setup). length s.outputs) c.loop-job.invariant.kept.setup,
    )

pub loop-job-preserved : goal.loop-job-preserved
loop-job-preserved g c =
    let jobs = c.loop-job.outputs in
    let i = c.loop-job.job-index in
    let count = length c.args.core.now.setup.outputs in
    let b : i < length jobs = omega (
      arith,
      c.loop-job-test.true,
      c.loop-job.auto.outputs,
      c.loop-job.auto.job-index-end,
    ) in
    let outs : List OutPart = outs_of g.K.Sink.told jobs in
    let l : i < length outs = omega (arith, b, length-map jobs (out_of g.K.Sink.told)) in
    let old = get_or jobs i c.job-item.result in
    let part : OutPart = out_of g.K.Sink.told old in
    let new : OutPart = out_of g.K.Sink.told c.send_all.new.job in
    let number = part_number g.K.Sink.told jobs i c.job-item.result count b c.loop-job.invariant.outputs in
    let at = part_here g.K.Sink.told jobs i c.job-item.result b in
    let are = map-set (out_of g.K.Sink.told) jobs i c.send_all.new.job in
    let firsts : List OutPart = outs_of g.K.Sink.told c.args.outputs.now in
    let sent = c.in_ok-flush.ensures.kept in
    let flush = c.in_ok-flush.flush in
    let more = sweeps_part i c.loop-job.sweep.emptied c.loop-job.sweep.accepted flush c.args.core.now c.loop-job.core
    c.send_all.new.core firsts outs part new l at number sent c.in_ok-flush.ensures.flushed
    c.loop-job.invariant.swept in
    let counted = subst (λ (e : Bool). Sweeping (i + 1) e (c.loop-job.sweep.accepted || flush.accepted) c.args.core.now
    c.send_all.new.core firsts (set outs i new)) (sym c.and-sweep.ensures.emptied) more in
    let swept_all = subst (λ (a : Bool). Sweeping (i + 1) c.and-sweep.result.emptied a c.args.core.now
    c.send_all.new.core firsts (set outs i new)) (sym c.and-sweep.ensures.accepted) counted in
    let after = c.and-sweep.result in
    let sends = sends_fewer (λ still. still_flushed flush (still_flushed c.loop-job.sweep still)) (still_flushed after)
    c.args.core.now c.send_all.new.core firsts (set outs i new)
    (λ still. flushed_both c.loop-job.sweep flush after.emptied after.accepted still c.and-sweep.ensures.emptied
    c.and-sweep.ensures.accepted)
    (sends_then (still_flushed c.loop-job.sweep) (still_flushed flush) c.args.core.now c.loop-job.core
    c.send_all.new.core firsts outs (set outs i new) c.loop-job.invariant.sends
    (sends_at (still_flushed flush) c.loop-job.core c.send_all.new.core i part new outs number l
    at c.in_ok-flush.ensures.sends)) in
    record {
      rests = c.in_ok-flush.ensures.rests;
      kept = sent_on c.args.core.now c.loop-job.core c.send_all.new.core c.loop-job.invariant.kept sent.kept;
      outputs = part_set g.K.Sink.told jobs i c.send_all.new.job count b
          (c.send_all.ensures.number ∙ number) c.loop-job.invariant.outputs;
      swept = subst (Sweeping (i + 1) c.and-sweep.result.emptied c.and-sweep.result.accepted c.args.core.now
          c.send_all.new.core firsts) (sym are) swept_all;
      quiet = λ none.
          let both = or_parts c.loop-job.sweep.accepted flush.accepted (sym c.and-sweep.ensures.accepted ∙ none) in
          c.in_ok-flush.ensures.quiet both.1 ∙ c.loop-job.invariant.quiet both.0;
      sends = subst (SendsOn (still_flushed after) c.args.core.now c.send_all.new.core firsts) (sym are) sends;
    }

pub returns-clause-swept : goal.returns-clause-swept
returns-clause-swept g c =
    let firsts : List OutPart = outs_of g.K.Sink.told c.args.outputs.now in
    let outs : List OutPart = outs_of g.K.Sink.told c.loop-job.outputs in
    let same : length outs ≡ length firsts = omega (
      arith,
      length-map c.loop-job.outputs (out_of g.K.Sink.told),
      length-map c.args.outputs.now (out_of g.K.Sink.told),
      c.loop-job.auto.outputs,
    ) in
    let all : length firsts ≤ c.loop-job.job-index = omega (
      arith,
      length-map c.args.outputs.now (out_of g.K.Sink.told),
      c.loop-job-test.false,
      c.loop-job.auto.job-index-end,
      c.loop-job.auto.outputs,
    ) in
    swept c.loop-job.job-index c.loop-job.sweep c.args.core.now c.loop-job.core firsts outs all same
    c.loop-job.invariant.swept
