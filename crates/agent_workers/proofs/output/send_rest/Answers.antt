use Rattle.std.proofs.Common.{◌≡◌, ◌<◌, ◌≤◌, ◌-◌, ◌^◌, ◌∙◌, ℕ, List, length, refl, sym, ap, subst, arith}
use Rattle.std.proofs.lemmas.List.{length-map}
use Rattle.account.specs.Setup.{Setup}
use Rattle.agent_workers.specs.Output.{OutPart, outs_of, out_of, AreOutputs}
use Rattle.agent_workers.specs.Progress.{still_flushed, SendsOn}
use Rattle.agent_workers.specs.Running.{AreLeft, HaveFailed}
use Rattle.agent_workers.specs.declared.output.OutJob.{OutJob}
use Rattle.agent_workers.proofs.OutLemmas.{sent_on}
use Rattle.agent_workers.proofs.SendSteps.{sends_fewer, sends_then}
use Rattle.agent_workers.proofs.SweepLemmas.{failed_next, failed_none as none_failed, left_none}
use Rattle.agent_workers.proofs.ProgressLemmas.{went_fewer}
use Rattle.agent_workers.proofs.output.send_rest.Given.{Over}
use Rattle.agent_workers.proofs.output.send_rest.Goals.{In_ok-sweep, After-tries_after-tries}
use Rattle.agent_workers.proofs.output.send_rest.Goals as goal

-- what the jobs tell
abbrev outs : (g : Over) → List (OutJob g.row.K.Denot g.row.C.Denot) → List OutPart
outs g = outs_of g.K.Sink.told

-- each output had its turn once more
sends : (g : Over) (c : In_ok-sweep g) → SendsOn (λ still. 0) c.args.core.now c.send_each.new.core
    (outs g c.args.outputs.now)
    (outs g c.send_each.new.outputs)
sends g c = sends_fewer (λ still. still_flushed c.in_ok-sweep.sweep 0) (λ still. 0) c.args.core.now
    c.send_each.new.core (outs g c.args.outputs.now) (outs g c.send_each.new.outputs) (λ still. omega arith)
    (sends_then (λ still. 0) (still_flushed c.in_ok-sweep.sweep) c.args.core.now c.loop-repeat.core
    c.send_each.new.core (outs g c.args.outputs.now) (outs g c.loop-repeat.outputs)
    (outs g c.send_each.new.outputs) c.loop-repeat.invariant.sends c.in_ok-sweep.ensures.sends)

as_many : (g : Over) (c : In_ok-sweep g) → length (outs g c.send_each.new.outputs) ≡ length
    (outs g c.loop-repeat.outputs)
as_many g c =
    length-map c.send_each.new.outputs (out_of g.K.Sink.told) ∙ c.send_each.ensures.count
    ∙ sym (length-map c.loop-repeat.outputs (out_of g.K.Sink.told))

failed : (g : Over) (c : After-tries_after-tries g) → length (outs g c.send_each.new.outputs) ≡ length
    (outs g c.loop-repeat.outputs) →
    HaveFailed c.tries_after-tries.result c.send_each.new.core (outs g c.send_each.new.outputs)
    × (1 ≤ c.tries_after-tries.result → AreLeft c.tries_after-tries.result c.send_each.new.core
    (outs g c.send_each.new.outputs))
failed g c same =
    let few : c.loop-repeat.tries < 2 ^ 32 - 1 = omega (
      arith,
      c.loop-repeat.invariant.few,
      c.ranges.final_tries.fits,
    ) in
    failed_next c.loop-repeat.tries c.tries_after-tries.result c.in_ok-sweep.sweep c.loop-repeat.core
    c.send_each.new.core (outs g c.loop-repeat.outputs) (outs g c.send_each.new.outputs) few same
    c.tries_after-tries.ensures.none c.tries_after-tries.ensures.some c.loop-repeat.invariant.failed
    c.in_ok-sweep.ensures.swept

-- nothing was tried yet
pub loop-repeat-init : goal.loop-repeat-init
loop-repeat-init g c = record {
  rests = c.requires.rests;
  kept = record { setup = refl; raw = refl; held = refl; ended = refl; gathered = refl; stopped = refl };
  outputs = c.requires.outputs;
  count = refl;
  few = omega (arith, c.requires.some);
  failed = none_failed c.args.core.now (outs g c.args.outputs.now);
  sends = λ start now w. went_fewer start
      (record now { core = c.args.core.now; outs = outs g c.args.outputs.now }) 0 (omega arith) w;
}

pub loop-repeat-preserved : goal.loop-repeat-preserved
loop-repeat-preserved g c =
    let k = goal.at.loop-repeat-preserved g c in
    record {
      rests = c.in_ok-sweep.ensures.rests;
      kept = sent_on c.args.core.now c.loop-repeat.core c.send_each.new.core c.loop-repeat.invariant.kept
          c.in_ok-sweep.ensures.kept;
      outputs = subst (λ (n : ℕ). AreOutputs n (outs g c.send_each.new.outputs))
          (ap (λ (s : Setup). length s.outputs) c.loop-repeat.invariant.kept.setup) c.in_ok-sweep.ensures.outputs;
      count = c.send_each.ensures.count ∙ c.loop-repeat.invariant.count;
      few = omega (arith, c.tries_after-tries.ensures.few, c.if-tries-final_tries.false);
      failed = (failed g k.After-tries_after-tries (as_many g k.In_ok-sweep)).0;
      sends = sends g k.In_ok-sweep;
    }

pub returns-then-sweep-clause-rest : goal.returns-then-sweep-clause-rest
returns-then-sweep-clause-rest g c =
    left_none c.args.final_tries c.in_ok-sweep.sweep c.loop-repeat.core c.send_each.new.core
    (outs g c.loop-repeat.outputs) (outs g c.send_each.new.outputs)
    (as_many g (goal.at.returns-then-sweep-clause-rest g c).In_ok-sweep) c.if-sweep.true c.in_ok-sweep.ensures.swept

pub returns-then-sweep-clause-sends : goal.returns-then-sweep-clause-sends
returns-then-sweep-clause-sends g c = sends g (goal.at.returns-then-sweep-clause-sends g c).In_ok-sweep

pub returns-then-tries-final_tries-clause-rest : goal.returns-then-tries-final_tries-clause-rest
returns-then-tries-final_tries-clause-rest g c =
    let k = goal.at.returns-then-tries-final_tries-clause-rest g c in
    rw c.if-tries-final_tries.true at ((failed g k.After-tries_after-tries (as_many g k.In_ok-sweep)).1
    (omega (arith, c.if-tries-final_tries.true, c.requires.some)))

pub returns-then-tries-final_tries-clause-sends : goal.returns-then-tries-final_tries-clause-sends
returns-then-tries-final_tries-clause-sends g c = sends g (goal.at.returns-then-tries-final_tries-clause-sends g
    c).In_ok-sweep
