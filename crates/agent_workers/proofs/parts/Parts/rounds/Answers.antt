use Rattle.std.proofs.Common.{◌≡◌, ◌+◌, ◌∙◌, ℕ, Bool, true, false, List, sym, subst, inl, inr, refl, arith}
use Rattle.agent_base.specs.Carried.{Timed}
use Rattle.pipeline_core.specs.CoreState.{CoreState}
use Rattle.agent_workers.specs.Inputs.{InPart, ins_of, AreOut}
use Rattle.agent_workers.specs.Item.{proc_of}
use Rattle.agent_workers.specs.Progress.{RunsOn}
use Rattle.agent_workers.specs.Rounds.{still_behind}
use Rattle.agent_workers.specs.RunState.{RunState, state_of, IsAboutSame}
use Rattle.agent_workers.specs.declared.input.InJob.{InJob}
use Rattle.agent_workers.specs.declared.parts.Parts.{Parts}
use Rattle.agent_workers.proofs.InLemmas.{same_inputs, inputs_themselves}
use Rattle.agent_workers.proofs.PartsLemmas.{proc_itself, same_proc}
use Rattle.agent_workers.proofs.RoundSteps.{enough, left_there, runs_fewer, runs_more, runs_none, runs_waited}
use Rattle.agent_workers.proofs.parts.Parts.rounds.Given.{Over}
use Rattle.agent_workers.proofs.parts.Parts.rounds.Goals.{In_ok-round, After-is_over}
use Rattle.agent_workers.proofs.parts.Parts.rounds.Goals as goal

-- what the jobs and the parts tell
abbrev ins : (g : Over) → List (InJob g.row.S.Denot g.row.C.Denot) → List InPart
ins g = ins_of g.S.Source.told g.C.Clock.told

abbrev state : (g : Over) → CoreState → Parts g.row.S.Denot g.row.K.Denot g.row.C.Denot → RunState
state g = state_of g.S.Source.told g.K.Sink.told g.C.Clock.told

-- one round more
runs : (g : Over) (c : In_ok-round g) → RunsOn (λ still. still_behind c.in_ok-round.round c.loop-round.idle)
    (state g c.args.core.now c.args.self.now) (state g c.round.new.core c.round.new.self)
runs g c = runs_more (λ still. c.loop-round.idle) (still_behind c.in_ok-round.round)
    (state g c.args.core.now c.args.self.now) (state g c.loop-round.core c.loop-round.self)
    (state g c.round.new.core c.round.new.self) c.loop-round.invariant.about.timer c.loop-round.invariant.settled
    c.loop-round.invariant.runs c.in_ok-round.ensures.runs

about : (g : Over) (c : In_ok-round g) → IsAboutSame (state g c.args.core.now c.args.self.now)
    (state g c.round.new.core c.round.new.self)
about g c = record {
  setup = c.in_ok-round.ensures.about.setup ∙ c.loop-round.invariant.about.setup;
  inputs = same_inputs (ins g c.args.self.now.inputs.items) (ins g c.loop-round.self.inputs.items)
      (ins g c.round.new.self.inputs.items) c.loop-round.invariant.about.inputs c.in_ok-round.ensures.about.inputs;
  proc = same_proc (proc_of c.args.self.now.proc) (proc_of c.loop-round.self.proc) (proc_of c.round.new.self.proc)
      c.loop-round.invariant.about.proc c.in_ok-round.ensures.about.proc;
  timer = c.in_ok-round.ensures.about.timer ∙ c.loop-round.invariant.about.timer;
}

not_so : (b : Bool) → (b ≡ true → ⊥) → b ≡ false
not_so true h = absurd (h refl)
not_so false h = refl

-- where the round isn't the last one, and didn't come on, batches are left
left : (g : Over) (c : After-is_over g) → c.is_over.result ≡ false → c.in_ok-round.round.moved ≡ false
    → c.in_ok-round.round.left ≡ true
left g c on none =
    let whole : c.in_ok-round.round.full ≡ false = not_so c.in_ok-round.round.full
    (λ full. c.is_over.ensures.on on (inl full)) in
    left_there (state g c.round.new.core c.round.new.self) c.in_ok-round.round c.in_ok-round.ensures.running
    c.in_ok-round.ensures.fit c.in_ok-round.ensures.sent c.in_ok-round.ensures.rounded whole none
    (λ out. c.is_over.ensures.on on (inr (subst (λ (jobs : List (InJob g.row.S.Denot g.row.C.Denot)). AreOut
    (ins g jobs))
    (sym c.deref.ensures.value) out)))

pub loop-round-init : goal.loop-round-init
loop-round-init g c = record {
  running = c.requires.running;
  parts = record { in_count = refl; count = refl; tries = refl; back = refl };
  fit = c.requires.fit;
  about = record {
    setup = refl;
    inputs = inputs_themselves (ins g c.args.self.now.inputs.items);
    proc = proc_itself (proc_of c.args.self.now.proc);
    timer = refl;
  };
  settled = λ s. s;
  few = omega (arith, c.requires.some);
  runs = runs_none (state g c.args.core.now c.args.self.now);
}

pub returns-then-is_over-clause-about : goal.returns-then-is_over-clause-about
returns-then-is_over-clause-about g c = about g (goal.at.returns-then-is_over-clause-about g c).In_ok-round

pub returns-then-is_over-clause-over : goal.returns-then-is_over-clause-over
returns-then-is_over-clause-over g c = elim (c.is_over.ensures.over c.if-is_over.true) [
  | inl full ↦ inl (c.in_ok-round.ensures.rounded.full full)
  | inr out ↦ inr (inl (subst (λ (jobs : List (InJob g.row.S.Denot g.row.C.Denot)). AreOut (ins g jobs))
      c.deref.ensures.value out))
]

pub returns-then-is_over-clause-runs : goal.returns-then-is_over-clause-runs
returns-then-is_over-clause-runs g c =
    runs_fewer (λ still. still_behind c.in_ok-round.round c.loop-round.idle) (λ still. 0)
    (state g c.args.core.now c.args.self.now) (state g c.round.new.core c.round.new.self) (λ still. omega arith)
    (runs g (goal.at.returns-then-is_over-clause-runs g c).In_ok-round)

-- so many rounds in succession didn't come on, behind this one
counted : (g : Over) (c : In_ok-round g) (next : ℕ) → (c.in_ok-round.round.moved ≡ false → next ≡ c.loop-round.idle + 1)
    → (c.in_ok-round.round.moved ≡ true → next ≡ 0)
    → (c.in_ok-round.round.moved ≡ false → c.in_ok-round.round.left ≡ true) → RunsOn (λ still. next)
    (state g c.args.core.now c.args.self.now) (state g c.round.new.core c.round.new.self)
counted g c next none some is_left =
    runs_fewer (λ still. still_behind c.in_ok-round.round c.loop-round.idle) (λ still. next)
    (state g c.args.core.now c.args.self.now) (state g c.round.new.core c.round.new.self)
    (λ still. enough c.in_ok-round.round c.loop-round.idle next none some is_left) (runs g c)

pub returns-then-idle-self-clause-about : goal.returns-then-idle-self-clause-about
returns-then-idle-self-clause-about g c = about g (goal.at.returns-then-idle-self-clause-about g c).In_ok-round

pub returns-then-idle-self-clause-over : goal.returns-then-idle-self-clause-over
returns-then-idle-self-clause-over g c =
    let still : c.in_ok-round.round.moved ≡ false = not_so c.in_ok-round.round.moved (λ moved. absurd (omega (
      arith,
      c.tries_after-idle.ensures.some moved,
      c.if-idle-self.true,
      c.requires.some,
      c.round.ensures.parts.tries,
      c.loop-round.invariant.parts.tries,
    ))) in
    let whole : c.in_ok-round.round.full ≡ false = not_so c.in_ok-round.round.full
    (λ full. c.is_over.ensures.on c.if-is_over.false (inl full)) in
    inr (inr (record {
      tried = omega (arith, c.if-idle-self.true, c.round.ensures.parts.tries, c.loop-round.invariant.parts.tries);
      each = c.in_ok-round.ensures.rounded.idle whole still;
    }))

pub returns-then-idle-self-clause-runs : goal.returns-then-idle-self-clause-runs
returns-then-idle-self-clause-runs g c =
    counted g (goal.at.returns-then-idle-self-clause-runs g c).In_ok-round c.tries_after-idle.result
    c.tries_after-idle.ensures.none c.tries_after-idle.ensures.some
    (left g (goal.at.returns-then-idle-self-clause-runs g c).After-is_over c.if-is_over.false)

pub loop-round-preserved : goal.loop-round-preserved
loop-round-preserved g c =
    let k = (goal.at.loop-round-preserved g c).In_ok-round in
    let timer : Timed = g.C.Clock.told c.wait_unless.new.clock in
    let known = about g k in
    record {
      running = c.in_ok-round.ensures.running;
      parts = record {
        in_count = c.round.ensures.parts.in_count ∙ c.loop-round.invariant.parts.in_count;
        count = c.round.ensures.parts.count ∙ c.loop-round.invariant.parts.count;
        tries = c.round.ensures.parts.tries ∙ c.loop-round.invariant.parts.tries;
        back = c.round.ensures.parts.back ∙ c.loop-round.invariant.parts.back;
      };
      fit = record {
        inputs = c.in_ok-round.ensures.fit.inputs;
        limits = c.in_ok-round.ensures.fit.limits;
        outputs = c.in_ok-round.ensures.fit.outputs;
        filters = c.in_ok-round.ensures.fit.filters;
      };
      about = record {
        setup = known.setup;
        inputs = known.inputs;
        proc = known.proc;
        timer = c.wait_unless.ensures.list ∙ known.timer;
      };
      settled = λ s. c.in_ok-round.ensures.sent.settled;
      few = omega (
        arith,
        c.tries_after-idle.ensures.few,
        c.if-idle-self.false,
        c.round.ensures.parts.tries,
        c.loop-round.invariant.parts.tries,
      );
      runs = runs_waited (λ still. c.tries_after-idle.result) (state g c.args.core.now c.args.self.now)
          (state g c.round.new.core c.round.new.self) timer known.timer c.wait_unless.ensures.later
          (counted g k c.tries_after-idle.result c.tries_after-idle.ensures.none c.tries_after-idle.ensures.some
          (left g (goal.at.loop-round-preserved g c).After-is_over c.if-is_over.false));
    }
