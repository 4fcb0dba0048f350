use Rattle.std.proofs.Common.{◌≡◌, ◌∙◌, sym, ap, subst, refl, rules, inl, inr}
use Rattle.std.specs.declared.option.Option.{Option}
use Rattle.std.specs.declared.option.Option.TheVariants.{Some, None}
use Rattle.pipeline_core.specs.CoreState.{CoreState}
use Rattle.agent_workers.specs.Inputs.{InPart, in_of, FitsInput}
use Rattle.agent_workers.specs.Progress.{GathersAt}
use Rattle.agent_workers.specs.Running.{IsAtLimit}
use Rattle.std.specs.Prelude.{true}
use Rattle.pipeline_core.specs.declared.gathering.Gathered.{Gathered}
use Rattle.agent_workers.proofs.GatherSteps.{own_of, offer_accepted, offer_full, offer_kept, gathers_none}
use Rattle.agent_workers.proofs.InLemmas.{gathered_core, held_as_before, ready_gathered, fits_gathered, raw_there}
use Rattle.agent_workers.proofs.InLemmas.{undelivered_at}
use Rattle.agent_workers.proofs.StandingLemmas.{continues}
use Rattle.agent_workers.proofs.input.offer.Goals as goal

pub returns-in-Ok-clause-running : goal.returns-in-Ok-clause-running
returns-in-Ok-clause-running g c = record {
  ready = ready_gathered c.args.job.now.input c.args.core.now c.gather.new.self
      (gathered_core c.args.job.now.input c.args.core.now c.gather.new.self c.in-Some.gathered c.in-Ok.ensures.ok)
      c.requires.running.ready;
  stands = continues c.in-Ok.ensures.stands c.requires.running.stands;
  going = search rules;
}

pub returns-in-Ok-clause-kept : goal.returns-in-Ok-clause-kept
returns-in-Ok-clause-kept g c = gathered_core c.args.job.now.input c.args.core.now c.gather.new.self c.in-Some.gathered
    c.in-Ok.ensures.ok

pub returns-in-Ok-clause-fits : goal.returns-in-Ok-clause-fits
returns-in-Ok-clause-fits g c =
    let free : c.take.new.self ≡ None = search rules in
    let old : InPart = in_of g.S.Source.told g.C.Clock.told c.args.job.now in
    subst (λ (x : Option Gathered). FitsInput c.args.job.now.input c.gather.new.self.ended (record old { held = x }))
    (sym free)
    (fits_gathered c.args.job.now.input c.args.core.now.ended c.gather.new.self.ended
    (in_of g.S.Source.told g.C.Clock.told c.args.job.now) (ap (λ (s : CoreState). s.ended) c.in-Ok.ensures.ok)
    c.requires.fits)

pub returns-in-Ok-clause-gathers : goal.returns-in-Ok-clause-gathers
returns-in-Ok-clause-gathers g c =
    let held : c.args.job.now.held ≡ Some c.in-Some.gathered = search rules in
    let free : c.take.new.self ≡ None = search rules in
    let old : InPart = in_of g.S.Source.told g.C.Clock.told c.args.job.now in
    subst (λ (x : Option Gathered). GathersAt true c.args.core.now c.gather.new.self old (record old { held = x }))
    (sym free)
    (offer_accepted c.args.core.now c.gather.new.self (in_of g.S.Source.told g.C.Clock.told c.args.job.now)
    c.in-Some.gathered held c.requires.fits.own c.in-Ok.ensures.answer.0
    c.in-Ok.ensures.ok c.in-Ok.ensures.stands)

pub returns-in-None-clause-gathers : goal.returns-in-None-clause-gathers
returns-in-None-clause-gathers g c =
    let held : c.args.job.now.held ≡ None = search rules in
    let free : c.take.new.self ≡ None = search rules in
    let old : InPart = in_of g.S.Source.told g.C.Clock.told c.args.job.now in
    gathers_none c.args.core.now c.args.core.now old (record old { held = c.take.new.self }) refl
    (ap (λ (x : Option Gathered). let p : InPart = record old { held = x } in p) (free ∙ sym held))

pub returns-in-Err-RunFull-clause-gathers : goal.returns-in-Err-RunFull-clause-gathers
returns-in-Err-RunFull-clause-gathers g c =
    let held : c.args.job.now.held ≡ Some c.in-Some.gathered = search rules in
    offer_full c.args.core.now c.gather.new.self (in_of g.S.Source.told g.C.Clock.told c.args.job.now)
    c.in-Some.gathered c.in-Err-RunFull.back held (search rules) (search rules) c.requires.fits.readable.some
    c.requires.fits.none_held (search rules)

pub returns-in-Err-HeldRaw-clause-gathers : goal.returns-in-Err-HeldRaw-clause-gathers
returns-in-Err-HeldRaw-clause-gathers g c =
    let held : c.args.job.now.held ≡ Some c.in-Some.gathered = search rules in
    offer_kept c.args.core.now c.gather.new.self (in_of g.S.Source.told g.C.Clock.told c.args.job.now)
    c.in-Some.gathered c.in-Err-HeldRaw.back held (search rules) (search rules)

-- as many of its groups are live as may be
pub returns-in-Err-HeldUndelivered-clause-offered : goal.returns-in-Err-HeldUndelivered-clause-offered
returns-in-Err-HeldUndelivered-clause-offered g c =
    let held : c.args.job.now.held ≡ Some c.in-Some.gathered = search rules in
    let same : c.gather.new.self ≡ c.args.core.now = search rules in
    let full : IsAtLimit c.args.core.now c.in-Some.gathered.input =
    undelivered_at c.args.core.now c.in-Some.gathered c.in-Err-HeldUndelivered.back c.in-Err-HeldUndelivered.field-0
    c.in-Err-HeldUndelivered.field-0-is c.in-Err-HeldUndelivered.ensures.answer in
    held_as_before c.args.core.now c.gather.new.self (in_of g.S.Source.told g.C.Clock.told c.args.job.now)
    (in_of g.S.Source.told g.C.Clock.told
    (record c.args.job.now { held = Some c.in-Err-HeldUndelivered.back })) same refl
    (inr (subst (IsAtLimit c.args.core.now) (own_of (in_of g.S.Source.told g.C.Clock.told c.args.job.now)
    c.in-Some.gathered held c.requires.fits.own) full))

pub returns-in-Err-HeldUndelivered-clause-gathers : goal.returns-in-Err-HeldUndelivered-clause-gathers
returns-in-Err-HeldUndelivered-clause-gathers g c =
    let held : c.args.job.now.held ≡ Some c.in-Some.gathered = search rules in
    offer_kept c.args.core.now c.gather.new.self (in_of g.S.Source.told g.C.Clock.told c.args.job.now)
    c.in-Some.gathered c.in-Err-HeldUndelivered.back held (search rules) (search rules)

-- items are raw
pub returns-in-Err-HeldRaw-clause-offered : goal.returns-in-Err-HeldRaw-clause-offered
returns-in-Err-HeldRaw-clause-offered g c =
    let same : c.gather.new.self ≡ c.args.core.now = search rules in
    held_as_before c.args.core.now c.gather.new.self (in_of g.S.Source.told g.C.Clock.told c.args.job.now)
    (in_of g.S.Source.told g.C.Clock.told (record c.args.job.now { held = Some c.in-Err-HeldRaw.back })) same refl
    (inl (raw_there c.args.core.now c.in-Some.gathered c.in-Err-HeldRaw.back c.in-Err-HeldRaw.field-0
    c.in-Err-HeldRaw.field-0-is c.in-Err-HeldRaw.ensures.answer))
