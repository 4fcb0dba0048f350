use Rattle.std.proofs.Common.{◌≡◌, ◌<◌, ◌∙◌, Bool, List, not, length, set, sym, ap, subst, arith, rules}
use Rattle.agent_base.specs.Carried.{Carried}
use Rattle.agent_workers.specs.Output.{OutPart, out_of}
use Rattle.agent_workers.specs.Progress.{Progress, SendsAt}
use Rattle.agent_workers.specs.RunState.{RunState}
use Rattle.agent_workers.specs.Running.{BeginsNext, IsAtRest, IsSentAt}
use Rattle.agent_workers.proofs.OutLemmas.{lent_views, ready_done, sent_at}
use Rattle.formats.specs.Batches.{batch_text}
use Rattle.metric.specs.declared.metric.Content.{Content}
use Rattle.pipeline_core.specs.CoreState.{lane_at}
use Rattle.pipeline_core.specs.Offers.{offered_views}
use Rattle.pipeline_core.specs.Steps.{after_done, batch_views}
use Rattle.pipeline_core.specs.declared.output.Offer.{Offer}
use Rattle.agent_workers.proofs.HeldLemmas.{nothing_dropped}
use Rattle.agent_workers.proofs.SendSteps.{put_again, still_done, went_put}
use Rattle.agent_workers.proofs.StandingLemmas.{continues, fewer_sent}
use Rattle.agent_workers.proofs.output.send_next.Given.{Over}
use Rattle.agent_workers.proofs.output.send_next.Goals.{After-count_put}
use Rattle.agent_workers.proofs.output.send_next.Goals as goal

within : (g : Over) (c : After-count_put g) → c.args.job.now.output < length c.args.core.now.lanes
within g c = omega (arith, c.requires.known, c.requires.rests.ready.lane_count)

begins : (g : Over) (c : After-count_put g)
    → BeginsNext c.args.job.now.output c.args.core.now c.begin_next.new.core c.in-Some.batch
begins g c = search rules

rests : (g : Over) (c : After-count_put g) → IsAtRest c.done.new.self
rests g c = record {
  ready = ready_done c.args.core.now c.begin_next.new.core c.done.new.self c.args.job.now.output c.in-Some.batch.from
      c.in-Some.batch.to _ (within g c) (begins g c).after c.done.ensures.after c.requires.rests.ready;
  stands = continues c.done.ensures.stands (continues (begins g c).continues c.requires.rests.stands);
}

pub returns-then-failed-clause-rests : goal.returns-then-failed-clause-rests
returns-then-failed-clause-rests g c = rests g (goal.at.returns-then-failed-clause-rests g c).After-count_put

pub returns-else-failed-clause-rests : goal.returns-else-failed-clause-rests
returns-else-failed-clause-rests g c = rests g (goal.at.returns-else-failed-clause-rests g c).After-count_put

kept : (g : Over) (c : After-count_put g) → IsSentAt c.args.job.now.output c.args.core.now c.done.new.self
kept g c = sent_at c.args.core.now c.begin_next.new.core c.done.new.self c.args.job.now.output
    c.in-Some.batch.from c.in-Some.batch.to _ (within g c) (begins g c).after c.done.ensures.after

pub returns-then-failed-clause-kept : goal.returns-then-failed-clause-kept
returns-then-failed-clause-kept g c = kept g (goal.at.returns-then-failed-clause-kept g c).After-count_put

pub returns-else-failed-clause-kept : goal.returns-else-failed-clause-kept
returns-else-failed-clause-kept g c = kept g (goal.at.returns-else-failed-clause-kept g c).After-count_put

pub returns-else-failed-clause-fewer : goal.returns-else-failed-clause-fewer
returns-else-failed-clause-fewer g c =
    let at = (goal.at.returns-else-failed-clause-fewer g c).After-count_put in
    λ e. fewer_sent c.args.core.now c.begin_next.new.core c.done.new.self c.args.job.now.output
    c.in-Some.batch.from c.in-Some.batch.to c.in_ok-failed.failed (within g at)
    (c.requires.rests.ready.each c.args.job.now.output (within g at)).some (begins g at).waits (begins g at).after
    c.done.ensures.after c.if-failed.false

-- what is put is the text of the batch that was begun
spelled : (g : Over) (c : After-count_put g)
    → batch_text c.args.job.now.format (offered_views c.flight-offers.result.now)
    ≡ batch_text c.args.job.now.format (batch_views (lane_at c.args.core.now.lanes c.args.job.now.output))
spelled g c = ap (λ (views : List Content). batch_text c.args.job.now.format views)
    (ap (λ (offers : List Offer). offered_views offers) c.flight-offers.ensures
    ∙ lent_views c.args.core.now c.begin_next.new.core c.args.job.now.output c.in-Some.batch.from c.in-Some.batch.to
    (within g c) (begins g c).after)

-- how far the batch brings a run
sends : (g : Over) (c : After-count_put g) → SendsAt (still_done (not c.in_ok-failed.failed)) c.args.core.now
    c.done.new.self (out_of g.K.Sink.told c.args.job.now) (out_of g.K.Sink.told c.count_put.new.job)
sends g c = λ outs b at start now w.
    let here : RunState = record now { outs = outs } in
    let old : OutPart = out_of g.K.Sink.told c.args.job.now in
    let sink : Carried = g.K.Sink.told c.put_batch.new.sink in
    subst (λ (out : OutPart). Progress start (record here {
      core = c.done.new.self;
      outs = set outs c.args.job.now.output out;
      still = still_done (not c.in_ok-failed.failed) now.still;
    }))
    (sym (c.count_put.ensures ∙ put_again c.in_ok-failed.failed sink old sink.bytes sink.faults))
    (went_put start c.args.core.now c.begin_next.new.core c.done.new.self here old c.in-Some.batch _
    c.in_ok-failed.failed sink c.requires.known c.requires.routed (begins g c) (spelled g c) b at c.in_ok-failed.ensures
    c.done.ensures.after c.done.ensures.stands w)

pub returns-then-failed-clause-sends : goal.returns-then-failed-clause-sends
returns-then-failed-clause-sends g c =
    subst (λ (b : Bool). SendsAt (still_done (not b)) c.args.core.now c.done.new.self
    (out_of g.K.Sink.told c.args.job.now) (out_of g.K.Sink.told c.count_put.new.job)) c.if-failed.true
    (sends g (goal.at.returns-then-failed-clause-sends g c).After-count_put)

pub returns-else-failed-clause-sends : goal.returns-else-failed-clause-sends
returns-else-failed-clause-sends g c =
    subst (λ (b : Bool). SendsAt (still_done (not b)) c.args.core.now c.done.new.self
    (out_of g.K.Sink.told c.args.job.now) (out_of g.K.Sink.told c.count_put.new.job)) c.if-failed.false
    (sends g (goal.at.returns-else-failed-clause-sends g c).After-count_put)

-- a batch that failed lets no group go
pub returns-then-failed-clause-quiet : goal.returns-then-failed-clause-quiet
returns-then-failed-clause-quiet g c = λ e. nothing_dropped c.args.core.now c.begin_next.new.core c.done.new.self
    c.args.job.now.output c.in-Some.batch.from c.in-Some.batch.to c.requires.rests.stands
    (begins g (goal.at.returns-then-failed-clause-quiet g c).After-count_put).after
    (c.done.ensures.after ∙ ap (λ (b : Bool). after_done c.begin_next.new.core c.args.job.now.output (not b))
    c.if-failed.true)
