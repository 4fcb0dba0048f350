use Rattle.std.proofs.Common.{◌≡◌, true, rules}
use Rattle.std.specs.declared.option.Option.TheVariants.{None}
use Rattle.agent_workers.specs.Inputs.{in_of}
use Rattle.formats.specs.declared.pieces.InState.TheVariants as states
use Rattle.agent_workers.proofs.GatherSteps.{end_noted}
use Rattle.agent_workers.proofs.InLemmas.{ended_core, ready_gathered, fits_ended}
use Rattle.agent_workers.proofs.StandingLemmas.{continues}
use Rattle.agent_workers.proofs.input.end_where_met.Goals as goal

pub returns-clause-running : goal.returns-clause-running
returns-clause-running g c = record {
  ready = ready_gathered c.args.job.now.input c.args.core.now c.ended.new.self
      (ended_core c.args.job.now.input c.args.core.now c.ended.new.self c.in_ok-ended.ensures.ok)
      c.requires.running.ready;
  stands = continues c.in_ok-ended.ensures.stands c.requires.running.stands;
  going = search rules;
}

pub returns-clause-kept : goal.returns-clause-kept
returns-clause-kept g c = ended_core c.args.job.now.input c.args.core.now c.ended.new.self c.in_ok-ended.ensures.ok

pub returns-clause-fits : goal.returns-clause-fits
returns-clause-fits g c =
    let free : c.args.job.now.held ≡ None = search rules in
    let reading : c.args.job.now.state ≡ states.Reading = search rules in
    fits_ended c.args.core.now c.ended.new.self (in_of g.S.Source.told g.C.Clock.told c.args.job.now)
    c.in_ok-ended.ensures.ok free reading c.requires.fits

pub returns-clause-ends : goal.returns-clause-ends
returns-clause-ends g c =
    let met : c.args.met ≡ true = search rules in
    let free : c.args.job.now.held ≡ None = search rules in
    let reading : c.args.job.now.state ≡ states.Reading = search rules in
    end_noted c.args.met c.args.core.now c.ended.new.self (in_of g.S.Source.told g.C.Clock.told c.args.job.now) met free
    reading c.requires.fits.readable.some c.in_ok-ended.ensures.ok c.in_ok-ended.ensures.stands
