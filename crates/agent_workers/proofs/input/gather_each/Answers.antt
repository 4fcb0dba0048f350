use Rattle.std.proofs.Common.{◌≡◌, ◌<◌, ◌+◌, ◌||◌, ◌∙◌, ℕ, Bool, List, length, get_or, set, refl, sym, subst, arith}
use mathlib.Core.Bool.{false≢true}
use Rattle.std.proofs.lemmas.Bool.{or_parts}
use Rattle.std.proofs.lemmas.List.{length-map, map-set}
use Rattle.agent_workers.specs.Inputs.{InPart, FitsInput, in_of, in_at, ins_of, AreInputs, AreSameInputs, OneIsFull}
use Rattle.agent_workers.specs.Inputs.{IsSameInput}
use Rattle.agent_workers.specs.Progress.{GathersTo}
use Rattle.agent_workers.specs.Running.{IsGatheredAt}
use Rattle.agent_workers.specs.declared.input.InJob.{InJob}
use Rattle.agent_workers.proofs.InLemmas.{fits_here, input_number, input_here, inputs_set, inputs_themselves, same_set}
use Rattle.agent_workers.proofs.InLemmas.{gathered_none, gathered_then, gathers_then, gathers_on, gathers_nothing}
use Rattle.agent_workers.proofs.InLemmas.{one_is_full, HasTurned, turned_none, turned_more, turned_all}
use Rattle.agent_workers.proofs.input.gather_each.Given.{Over}
use Rattle.agent_workers.proofs.input.gather_each.Goals.{In_ok-more}
use Rattle.agent_workers.proofs.input.gather_each.Goals as goal

-- what the jobs tell
abbrev part : (g : Over) → InJob g.row.S.Denot g.row.C.Denot → InPart
part g = in_of g.S.Source.told g.C.Clock.told

abbrev ins : (g : Over) → List (InJob g.row.S.Denot g.row.C.Denot) → List InPart
ins g = ins_of g.S.Source.told g.C.Clock.told

-- the job at its index had its turn
here : (g : Over) (c : In_ok-more g) → c.loop-job.job-index < length c.loop-job.inputs
here g c = omega (arith, c.loop-job-test.true, c.loop-job.auto.inputs, c.loop-job.auto.job-index-end)

within : (g : Over) (c : In_ok-more g) → c.loop-job.job-index < length (ins g c.loop-job.inputs)
within g c = omega (arith, here g c, length-map c.loop-job.inputs (part g))

number : (g : Over) (c : In_ok-more g) → (get_or c.loop-job.inputs c.loop-job.job-index c.job-item.result).input
    ≡ c.loop-job.job-index
number g c = input_number g.S.Source.told g.C.Clock.told c.loop-job.inputs c.loop-job.job-index c.job-item.result
    (length c.args.core.now.setup.inputs) c.loop-job.core.ended (here g c) c.loop-job.invariant.inputs

at_index : (g : Over) (c : In_ok-more g) → in_at (ins g c.loop-job.inputs) c.loop-job.job-index ≡ part g
    (get_or c.loop-job.inputs c.loop-job.job-index c.job-item.result)
at_index g c = input_here g.S.Source.told g.C.Clock.told c.loop-job.inputs c.loop-job.job-index c.job-item.result
    (here g c)

are : (g : Over) (c : In_ok-more g) → set (ins g c.loop-job.inputs) c.loop-job.job-index (part g c.turn.new.job) ≡ ins g
    (set c.loop-job.inputs c.loop-job.job-index c.turn.new.job)
are g c = sym (map-set (part g) c.loop-job.inputs c.loop-job.job-index c.turn.new.job)

kept : (g : Over) (c : In_ok-more g) → IsGatheredAt c.loop-job.job-index c.loop-job.core c.turn.new.core
kept g c = subst (λ (k : ℕ). IsGatheredAt k c.loop-job.core c.turn.new.core) (number g c) c.in_ok-more.ensures.kept

inputs : (g : Over) (c : In_ok-more g) → AreInputs (length c.args.core.now.setup.inputs) c.turn.new.core.ended
    (ins g (set c.loop-job.inputs c.loop-job.job-index c.turn.new.job))
inputs g c =
    let fits : FitsInput c.loop-job.job-index c.turn.new.core.ended (part g c.turn.new.job) =
    subst (λ (k : ℕ). FitsInput k c.turn.new.core.ended (part g c.turn.new.job))
    (number g c) c.in_ok-more.ensures.fits in
    let below : c.loop-job.job-index < length c.args.core.now.setup.inputs =
    omega (arith, within g c, c.loop-job.invariant.inputs.count_is) in
    subst (AreInputs (length c.args.core.now.setup.inputs) c.turn.new.core.ended) (are g c)
    (inputs_set (length c.args.core.now.setup.inputs) c.loop-job.job-index c.loop-job.core c.turn.new.core
    (ins g c.loop-job.inputs) (part g c.turn.new.job) below (kept g c) fits c.loop-job.invariant.inputs)

same : (g : Over) (c : In_ok-more g) → AreSameInputs (ins g c.args.inputs.now)
    (ins g (set c.loop-job.inputs c.loop-job.job-index c.turn.new.job))
same g c =
    subst (AreSameInputs (ins g c.args.inputs.now)) (are g c)
    (same_set (ins g c.args.inputs.now) (ins g c.loop-job.inputs) c.loop-job.job-index (part g c.turn.new.job)
    (within g c) c.loop-job.invariant.same (subst (λ (x : InPart). IsSameInput x (part g c.turn.new.job))
    (sym (at_index g c)) c.turn.ensures.same))

gathers : (g : Over) (c : In_ok-more g) → GathersTo (c.loop-job.job-index + 1)
    (c.loop-job.turns.accepted || c.in_ok-more.more.accepted) c.args.core.now c.turn.new.core
    (ins g c.args.inputs.now) (ins g (set c.loop-job.inputs c.loop-job.job-index c.turn.new.job))
gathers g c =
    subst (GathersTo (c.loop-job.job-index + 1)
    (c.loop-job.turns.accepted || c.in_ok-more.more.accepted) c.args.core.now
    c.turn.new.core (ins g c.args.inputs.now)) (are g c)
    (gathers_then c.loop-job.job-index c.loop-job.turns.accepted c.in_ok-more.more.accepted c.args.core.now
    c.loop-job.core
    c.turn.new.core (ins g c.args.inputs.now)
    (ins g c.loop-job.inputs) (part g (get_or c.loop-job.inputs c.loop-job.job-index c.job-item.result))
    (part g c.turn.new.job)
    c.loop-job.invariant.kept (number g c) (within g c) (at_index g c) c.in_ok-more.ensures.gathers
    c.loop-job.invariant.gathers)

-- the same by what the turns came to
accepted : (g : Over) (c : In_ok-more g) (b : Bool) → b ≡ (c.loop-job.turns.accepted || c.in_ok-more.more.accepted)
    → GathersTo (c.loop-job.job-index + 1) b c.args.core.now
    c.turn.new.core (ins g c.args.inputs.now) (ins g (set c.loop-job.inputs c.loop-job.job-index c.turn.new.job))
accepted g c b is =
    subst (λ (a : Bool). GathersTo (c.loop-job.job-index + 1) a c.args.core.now c.turn.new.core
    (ins g c.args.inputs.now) (ins g (set c.loop-job.inputs c.loop-job.job-index c.turn.new.job)))
    (sym is) (gathers g c)

pub turn-requires-clause-fits : goal.turn-requires-clause-fits
turn-requires-clause-fits g c =
    let b : c.loop-job.job-index < length c.loop-job.inputs =
    omega (arith, c.loop-job-test.true, c.loop-job.auto.inputs, c.loop-job.auto.job-index-end) in
    fits_here g.S.Source.told g.C.Clock.told c.loop-job.inputs c.loop-job.job-index c.job-item.result
    (length c.args.core.now.setup.inputs) c.loop-job.core.ended b c.loop-job.invariant.inputs

pub loop-job-init : goal.loop-job-init
loop-job-init g c = record {
  running = c.requires.running;
  kept = gathered_none c.args.core.now;
  inputs = c.requires.inputs;
  same = inputs_themselves (ins g c.args.inputs.now);
  going = refl;
  turned = λ none. turned_none c.args.core.now (ins g c.args.inputs.now);
  gathers = gathers_nothing c.args.core.now (ins g c.args.inputs.now);
}

pub loop-job-preserved : goal.loop-job-preserved
loop-job-preserved g c =
    let k = (goal.at.loop-job-preserved g c).In_ok-more in
    record {
      running = c.in_ok-more.ensures.running;
      kept = gathered_then c.args.core.now c.loop-job.core c.turn.new.core c.loop-job.invariant.kept (kept g k).kept;
      inputs = inputs g k;
      same = same g k;
      going = c.then-turns.ensures.full ∙ c.if-more.false;
      turned = λ none.
          let each = or_parts c.loop-job.turns.accepted c.in_ok-more.more.accepted
          (sym c.then-turns.ensures.accepted ∙ none) in
          subst (HasTurned (c.loop-job.job-index + 1) c.args.core.now c.turn.new.core) (are g k)
          (turned_more c.loop-job.job-index c.args.core.now c.loop-job.core c.turn.new.core (ins g c.loop-job.inputs)
          (part g c.turn.new.job) (within g k) (kept g k).kept.setup
          (c.in_ok-more.ensures.quiet c.if-more.false each.1) (c.loop-job.invariant.turned each.0));
      gathers = accepted g k c.then-turns.result.accepted c.then-turns.ensures.accepted;
    }

pub returns-then-more-clause-inputs : goal.returns-then-more-clause-inputs
returns-then-more-clause-inputs g c = inputs g (goal.at.returns-then-more-clause-inputs g c).In_ok-more

pub returns-then-more-clause-same : goal.returns-then-more-clause-same
returns-then-more-clause-same g c = same g (goal.at.returns-then-more-clause-same g c).In_ok-more

pub returns-then-more-clause-gathers : goal.returns-then-more-clause-gathers
returns-then-more-clause-gathers g c =
    let k = (goal.at.returns-then-more-clause-gathers g c).In_ok-more in
    gathers_on (c.loop-job.job-index + 1) c.then-turns.result.accepted c.args.core.now
    c.turn.new.core (ins g c.args.inputs.now)
    (ins g (set c.loop-job.inputs c.loop-job.job-index c.turn.new.job))
    (omega (arith, within g k, c.loop-job.invariant.same.count))
    (accepted g k c.then-turns.result.accepted c.then-turns.ensures.accepted)

pub returns-then-more-clause-full : goal.returns-then-more-clause-full
returns-then-more-clause-full g c = λ e.
    let k = (goal.at.returns-then-more-clause-full g c).In_ok-more in
    subst (OneIsFull c.turn.new.core.gathered) (are g k) (one_is_full c.turn.new.core.gathered
    (ins g c.loop-job.inputs) c.loop-job.job-index (part g c.turn.new.job) (within g k)
    (c.in_ok-more.ensures.full c.if-more.true))

pub returns-clause-gathers : goal.returns-clause-gathers
returns-clause-gathers g c =
    let all : length (ins g c.args.inputs.now) ≡ c.loop-job.job-index =
    omega (
      arith,
      length-map c.args.inputs.now (part g),
      c.loop-job-test.false,
      c.loop-job.auto.job-index-end,
      c.loop-job.auto.inputs,
    ) in
    subst (λ (n : ℕ). GathersTo n c.loop-job.turns.accepted c.args.core.now c.loop-job.core (ins g c.args.inputs.now)
    (ins g c.loop-job.inputs))
    (sym all) c.loop-job.invariant.gathers

pub returns-clause-full : goal.returns-clause-full
returns-clause-full g c = λ full. absurd (false≢true (sym c.loop-job.invariant.going ∙ full))

pub returns-clause-quiet : goal.returns-clause-quiet
returns-clause-quiet g c = λ not_full none.
    turned_all c.loop-job.job-index c.args.core.now c.loop-job.core (ins g c.loop-job.inputs)
    (omega (
      arith,
      length-map c.loop-job.inputs (part g),
      c.loop-job-test.false,
      c.loop-job.auto.inputs,
      c.loop-job.auto.job-index-end,
    )) (c.loop-job.invariant.turned none)
