use Rattle.std.proofs.Common.{◌≡◌, ◌∙◌, ◌+◌, ◌==◌, ℕ, true, false, not, arith, subst, sym, rules, Ok}
use Rattle.std.specs.Prelude.{◌≢◌}
use Rattle.agent_workers.specs.declared.output.Sending.{Sending}
use Rattle.agent_workers.specs.Output.{OutPart, out_of}
use Rattle.agent_workers.specs.Progress.{still_flushed, still_sent, SendsAt}
use Rattle.agent_workers.specs.Running.{IsSentAt, waiting_at}
use Rattle.agent_workers.specs.declared.output.OutJob.{OutJob}
use Rattle.agent_workers.specs.declared.output.Sending.TheVariants as sendings
use Rattle.agent_workers.proofs.OutLemmas.{sent_more}
use Rattle.agent_workers.proofs.SendSteps.{flushed_fewer, from_more, sends_fewer_at, sends_more, still_from}
use Rattle.agent_workers.proofs.SweepLemmas.{flushed_failed, flushed_nothing, zero_of}
use Rattle.agent_workers.proofs.output.send_all.Given.{Over}
use Rattle.agent_workers.proofs.output.send_all.Goals.{In_ok-send_next}
use Rattle.agent_workers.proofs.output.send_all.Goals as goal

-- what the job tells
abbrev part : (g : Over) → OutJob g.row.K.Denot g.row.C.Denot → OutPart
part g = out_of g.K.Sink.told

failed_apart : sendings.Failed ≡ sendings.Accepted → ⊥
failed_apart e = cc

nothing_apart : sendings.Nothing ≡ sendings.Accepted → ⊥
nothing_apart e = cc

-- one batch more was tried
kept : (g : Over) (c : In_ok-send_next g) → IsSentAt c.args.job.now.output c.args.core.now c.send_next.new.core
kept g c = sent_more c.args.job.now.output c.args.core.now c.loop-batch.core c.send_next.new.core
    c.loop-batch.invariant.kept (subst (λ (o : ℕ). IsSentAt o c.loop-batch.core c.send_next.new.core)
    c.loop-batch.invariant.number c.in_ok-send_next.ensures.kept)

sends : (g : Over) (c : In_ok-send_next g) → SendsAt
    (λ still. still_sent c.in_ok-send_next.field-0 (still_from c.loop-batch.batch still)) c.args.core.now
    c.send_next.new.core (part g c.args.job.now) (part g c.send_next.new.job)
sends g c = sends_more (still_from c.loop-batch.batch) (still_sent c.in_ok-send_next.field-0) c.args.core.now
    c.loop-batch.core c.send_next.new.core (part g c.args.job.now)
    (part g c.loop-batch.job) (part g c.send_next.new.job) c.loop-batch.invariant.number c.loop-batch.invariant.sends
    c.in_ok-send_next.ensures.sends

pub loop-batch-preserved : goal.loop-batch-preserved
loop-batch-preserved g c =
    let k = (goal.at.loop-batch-preserved g c).In_ok-send_next in
    record {
      rests = c.in_ok-send_next.ensures.rests;
      kept = kept g k;
      first = λ e. absurd (omega (arith, e));
      waits = λ e. absurd (omega (arith, e));
      number = c.send_next.ensures.number ∙ c.loop-batch.invariant.number;
      quiet = λ e. absurd (omega (arith, e));
      sends = sends_fewer_at (λ still. still_sent c.in_ok-send_next.field-0 (still_from c.loop-batch.batch still))
          (still_from (c.loop-batch.batch + 1)) c.args.core.now c.send_next.new.core (part g c.args.job.now)
          (part g c.send_next.new.job) (λ still. from_more c.loop-batch.batch still _) (sends g k);
    }

pub returns-in-Failed-clause-kept : goal.returns-in-Failed-clause-kept
returns-in-Failed-clause-kept g c = kept g (goal.at.returns-in-Failed-clause-kept g c).In_ok-send_next

pub returns-in-Failed-clause-sends : goal.returns-in-Failed-clause-sends
returns-in-Failed-clause-sends g c =
    let batch : ℕ = c.loop-batch.batch in
    let is : c.in_ok-send_next.field-0 ≡ sendings.Failed = search rules in
    let all = sends g (goal.at.returns-in-Failed-clause-sends g c).In_ok-send_next in
    sends_fewer_at (λ still. still_from batch still + 1)
    (still_flushed (record { emptied = false; accepted = not (batch == 0) })) c.args.core.now c.send_next.new.core
    (part g c.args.job.now) (part g c.send_next.new.job) (λ still. flushed_fewer batch still false)
    (subst (λ (s : Sending). SendsAt (λ still. still_sent s (still_from batch still)) c.args.core.now
    c.send_next.new.core (part g c.args.job.now) (part g c.send_next.new.job)) is all)

pub returns-in-Failed-clause-quiet : goal.returns-in-Failed-clause-quiet
returns-in-Failed-clause-quiet g c = λ none.
    let is : c.in_ok-send_next.field-0 ≡ sendings.Failed = search rules in
    c.in_ok-send_next.ensures.quiet (λ e. failed_apart (sym is ∙ e)) ∙ c.loop-batch.invariant.quiet
    (zero_of c.loop-batch.batch none)

pub returns-in-Nothing-clause-quiet : goal.returns-in-Nothing-clause-quiet
returns-in-Nothing-clause-quiet g c = λ none.
    let is : c.in_ok-send_next.field-0 ≡ sendings.Nothing = search rules in
    c.in_ok-send_next.ensures.quiet (λ e. nothing_apart (sym is ∙ e)) ∙ c.loop-batch.invariant.quiet
    (zero_of c.loop-batch.batch none)

pub returns-in-Failed-clause-flushed : goal.returns-in-Failed-clause-flushed
returns-in-Failed-clause-flushed g c =
    let is : c.send_next.result ≡ Ok sendings.Failed = search rules in
    let came = c.send_next.ensures.failed is in
    flushed_failed c.loop-batch.batch c.args.job.now.output c.args.core.now c.loop-batch.core c.send_next.new.core
    c.args.job.now.failed_since c.loop-batch.job.failed_since c.send_next.new.job.failed_since
    (subst (λ (o : ℕ). waiting_at c.loop-batch.core o ≢ 0) c.loop-batch.invariant.number came.0) came.1
    c.loop-batch.invariant.first c.loop-batch.invariant.waits

pub returns-in-Nothing-clause-flushed : goal.returns-in-Nothing-clause-flushed
returns-in-Nothing-clause-flushed g c =
    let is : c.send_next.result ≡ Ok sendings.Nothing = search rules in
    flushed_nothing _ c.args.job.now.output c.loop-batch.job.output c.args.core.now c.send_next.new.core
    c.args.job.now.failed_since c.send_next.new.job.failed_since c.loop-batch.invariant.number
    (c.send_next.ensures.nothing is)

pub returns-in-Nothing-clause-kept : goal.returns-in-Nothing-clause-kept
returns-in-Nothing-clause-kept g c = kept g (goal.at.returns-in-Nothing-clause-kept g c).In_ok-send_next

pub returns-in-Nothing-clause-sends : goal.returns-in-Nothing-clause-sends
returns-in-Nothing-clause-sends g c =
    let batch : ℕ = c.loop-batch.batch in
    let is : c.in_ok-send_next.field-0 ≡ sendings.Nothing = search rules in
    let all = sends g (goal.at.returns-in-Nothing-clause-sends g c).In_ok-send_next in
    sends_fewer_at (still_from batch)
    (still_flushed (record { emptied = true; accepted = not (batch == 0) })) c.args.core.now c.send_next.new.core
    (part g c.args.job.now) (part g c.send_next.new.job) (λ still. flushed_fewer batch still true)
    (subst (λ (s : Sending). SendsAt (λ still. still_sent s (still_from batch still)) c.args.core.now
    c.send_next.new.core (part g c.args.job.now) (part g c.send_next.new.job)) is all)
