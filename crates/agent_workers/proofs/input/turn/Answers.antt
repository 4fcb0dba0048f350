use Rattle.std.proofs.Common.{◌∙◌, ℕ, Bool, subst, sym}
use mathlib.Core.Bool.{false≢true}
use Rattle.agent_workers.specs.Inputs.{InPart, in_of, FitsInput}
use Rattle.agent_workers.specs.Progress.{GathersAt}
use Rattle.agent_workers.specs.Running.{IsGatheredAt}
use Rattle.agent_workers.specs.declared.input.InJob.{InJob}
use Rattle.agent_workers.proofs.GatherSteps.{turns, turns_full}
use Rattle.agent_workers.proofs.InLemmas.{same_input, gathered_at_then, fits_read, fits_own, turn_quiet}
use Rattle.agent_workers.proofs.input.turn.Given.{Over}
use Rattle.agent_workers.proofs.input.turn.Goals as goal

-- what the job tells
abbrev part : (g : Over) → InJob g.row.S.Denot g.row.C.Denot → InPart
part g = in_of g.S.Source.told g.C.Clock.told

pub offer-requires-clause-fits : goal.offer-requires-clause-fits
offer-requires-clause-fits g c = fits_read c.args.core.now.ended (part g c.args.job.now)
    (part g c.read_where_free.new.job) c.requires.fits c.read_where_free.ensures.same c.in_ok-met.ensures.ended
    c.in_ok-met.ensures.cut_by c.in_ok-met.ensures.own c.in_ok-met.ensures.none_held

pub end_where_met-requires-clause-fits : goal.end_where_met-requires-clause-fits
end_where_met-requires-clause-fits g c = fits_own c.read_where_free.new.job.input c.offer.new.core.ended
    (part g c.offer.new.job) c.in_ok-offered.ensures.fits

pub returns-then-turn-clause-gathers : goal.returns-then-turn-clause-gathers
returns-then-turn-clause-gathers g c =
    turns_full c.in_ok-met.met c.of-turn.result.accepted c.args.core.now c.offer.new.core c.offer.new.core
    (part g c.args.job.now) (part g c.read_where_free.new.job) (part g c.offer.new.job) (part g c.offer.new.job)
    c.read_where_free.ensures.same.input c.in_ok-offered.ensures.part (c.in_ok-met.ensures.reads c.args.core.now)
    c.in_ok-met.ensures.met
    (subst (λ (b : Bool). GathersAt b c.args.core.now c.offer.new.core (part g c.read_where_free.new.job)
    (part g c.offer.new.job)) (sym c.of-turn.ensures.accepted) c.in_ok-offered.ensures.gathers)

pub returns-clause-kept : goal.returns-clause-kept
returns-clause-kept g c =
    gathered_at_then c.args.job.now.input c.args.core.now c.offer.new.core c.end_where_met.new.core
    (subst (λ (k : ℕ). IsGatheredAt k c.args.core.now c.offer.new.core) c.read_where_free.ensures.same.input
    c.in_ok-offered.ensures.kept)
    (subst (λ (k : ℕ). IsGatheredAt k c.offer.new.core c.end_where_met.new.core)
    (c.offer.ensures.same.input ∙ c.read_where_free.ensures.same.input) c.in_ok-end_where_met.ensures.kept)

pub returns-clause-fits : goal.returns-clause-fits
returns-clause-fits g c = subst (λ (k : ℕ). FitsInput k c.end_where_met.new.core.ended (part g c.end_where_met.new.job))
    (c.offer.ensures.same.input ∙ c.read_where_free.ensures.same.input) c.in_ok-end_where_met.ensures.fits

pub returns-clause-gathers : goal.returns-clause-gathers
returns-clause-gathers g c =
    turns c.in_ok-met.met c.of-turn.result.accepted c.args.core.now c.offer.new.core c.end_where_met.new.core
    (part g c.args.job.now) (part g c.read_where_free.new.job) (part g c.offer.new.job)
    (part g c.end_where_met.new.job) c.read_where_free.ensures.same.input c.in_ok-offered.ensures.part
    (c.in_ok-met.ensures.reads c.args.core.now) c.in_ok-met.ensures.met
    (subst (λ (b : Bool). GathersAt b c.args.core.now c.offer.new.core (part g c.read_where_free.new.job)
    (part g c.offer.new.job)) (sym c.of-turn.ensures.accepted) c.in_ok-offered.ensures.gathers)
    c.offer.ensures.same.input c.in_ok-end_where_met.ensures.ends

pub returns-clause-quiet : goal.returns-clause-quiet
returns-clause-quiet g c = λ open_run none.
    let reads = c.in_ok-met.ensures in
    let ended = c.in_ok-end_where_met.ensures in
    turn_quiet c.in_ok-met.met c.in_ok-offered.offered c.args.core.now c.offer.new.core c.end_where_met.new.core
    (part g c.read_where_free.new.job) (part g c.offer.new.job) (part g c.end_where_met.new.job)
    c.in_ok-offered.ensures.offered (λ e. false≢true (sym open_run ∙ c.of-turn.ensures.full.1 e))
    (sym c.of-turn.ensures.accepted ∙ none) ended.quiet ended.kept.kept.setup (λ m. (reads.met m).0) reads.moved
    (c.end_where_met.ensures.same.input ∙ c.offer.ensures.same.input) c.end_where_met.ensures.held ended.out ended.unmet

pub returns-clause-same : goal.returns-clause-same
returns-clause-same g c =
    same_input (part g c.args.job.now) (part g c.offer.new.job) (part g c.end_where_met.new.job)
    (same_input (part g c.args.job.now) (part g c.read_where_free.new.job)
    (part g c.offer.new.job) c.read_where_free.ensures.same c.offer.ensures.same) c.end_where_met.ensures.same
