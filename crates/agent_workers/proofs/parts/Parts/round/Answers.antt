use Rattle.std.proofs.Common.{◌≡◌, ◌∙◌, ◌||◌, ℕ, false, not, List, [], length, ap, sym, subst, refl, arith}
use Rattle.std.proofs.lemmas.List.{with_items_is}
use Rattle.std.specs.Vec.{with_items}
use Rattle.std.specs.Prelude.{map}
use Rattle.account.specs.Setup.{Setup}
use Rattle.pipeline_core.specs.CoreState.{CoreState}
use Rattle.agent_workers.specs.Inputs.{InPart, ins_of, AreInputs, AreSameInputs, OneIsFull}
use Rattle.agent_workers.specs.Item.{proc_of, IsSameProc}
use Rattle.agent_workers.specs.Noted.{JournalPart, part_of}
use Rattle.agent_workers.specs.Output.{OutPart, out_of, outs_of, anew, AreOutputs}
use Rattle.agent_workers.specs.Progress.{still_flushed, GathersOn, RunsOn, SendsOn}
use Rattle.agent_workers.specs.Rounds.{still_behind, HasRounded, HasSent}
use Rattle.agent_workers.specs.declared.rounds.Round.{Round}
use Rattle.std.proofs.lemmas.List.{length-map}
use Rattle.agent_workers.specs.RunState.{RunState, state_of, AreFit, IsAboutSame}
use Rattle.agent_workers.specs.Running.{buffered_at, IsRunning}
use Rattle.agent_workers.specs.declared.input.InJob.{InJob}
use Rattle.agent_workers.specs.declared.journal.JournalJob.{JournalJob}
use Rattle.agent_workers.specs.declared.output.OutJob.{OutJob}
use Rattle.agent_workers.specs.declared.parts.Parts.{Parts}
use Rattle.agent_workers.proofs.OutLemmas.{outputs_still}
use Rattle.agent_workers.proofs.InLemmas.{fits_on, inputs_still}
use Rattle.agent_workers.proofs.RoundSteps.{four_none, held_full, not_false, ready_told, round_runs, settled_still}
use Rattle.agent_workers.proofs.RoundSteps.{settled_told}
use Rattle.pipeline_core.proofs.JournalKept.{has_still}
use Rattle.agent_workers.proofs.PartsLemmas.{same_proc, state_by}
use Rattle.agent_workers.proofs.parts.Parts.round.Given.{Over}
use Rattle.agent_workers.proofs.parts.Parts.round.Goals.{After-let_reports_go}
use Rattle.agent_workers.proofs.parts.Parts.round.Goals as goal

-- what the jobs and the parts tell
abbrev ins : (g : Over) → List (InJob g.row.S.Denot g.row.C.Denot) → List InPart
ins g = ins_of g.S.Source.told g.C.Clock.told

abbrev outs : (g : Over) → List (OutJob g.row.K.Denot g.row.C.Denot) → List OutPart
outs g = outs_of g.K.Sink.told

abbrev noted : (g : Over) → JournalJob g.row.K.Denot g.row.C.Denot → JournalPart
noted g = part_of g.K.Sink.told

abbrev state : (g : Over) → CoreState → Parts g.row.S.Denot g.row.K.Denot g.row.C.Denot → RunState
state g = state_of g.S.Source.told g.K.Sink.told g.C.Clock.told

-- the jobs that were lent as slices
in_jobs : (g : Over) (c : After-let_reports_go g) → (with_items c.args.self.now.inputs c.gather_each.new.inputs).items
    ≡ c.gather_each.new.inputs
in_jobs g c = with_items_is c.args.self.now.inputs c.gather_each.new.inputs
    (omega (arith, c.deref_mut.ensures.len, c.gather_each.ensures.count))

firsts : (g : Over) (c : After-let_reports_go g) → c.deref_mut.result.now ≡ c.args.self.now.inputs.items
firsts g c = c.deref_mut.ensures.value

olds : (g : Over) (c : After-let_reports_go g) → c.deref_mut-2.result.now ≡ c.args.self.now.outputs.items
olds g c = c.deref_mut-2.ensures.value

fresh : (g : Over) (c : After-let_reports_go g) → outs g c.begin_anew.new.outputs ≡ map anew
    (outs g c.args.self.now.outputs.items)
fresh g c = c.begin_anew.ensures.fresh ∙ ap (λ (jobs : List (OutJob g.row.K.Denot g.row.C.Denot)). map anew
    (outs g jobs)) (olds g c)

mids : (g : Over) (c : After-let_reports_go g) → c.deref_mut-3.result.now ≡ c.begin_anew.new.outputs
mids g c = c.deref_mut-3.ensures.value ∙ with_items_is c.args.self.now.outputs c.begin_anew.new.outputs
    (omega (arith, c.deref_mut-2.ensures.len, c.begin_anew.ensures.count))

out_jobs : (g : Over) (c : After-let_reports_go g) → (with_items
    (with_items c.args.self.now.outputs c.begin_anew.new.outputs)
    c.send_each.new.outputs).items ≡ c.send_each.new.outputs
out_jobs g c = with_items_is (with_items c.args.self.now.outputs c.begin_anew.new.outputs) c.send_each.new.outputs
    (omega (arith, c.deref_mut-3.ensures.len, c.send_each.ensures.count))

-- the parts, and what the run consists of, behind a round
abbrev parts : (g : Over) → After-let_reports_go g → Parts g.row.S.Denot g.row.K.Denot g.row.C.Denot
parts g c = record c.args.self.now {
  inputs = with_items c.args.self.now.inputs c.gather_each.new.inputs;
  timer = c.tick_noted.new.timer;
  proc = c.tick_noted.new.proc;
  outputs = with_items (with_items c.args.self.now.outputs c.begin_anew.new.outputs) c.send_each.new.outputs;
  journal = c.note.new.journal;
}

abbrev last : (g : Over) → After-let_reports_go g → RunState
last g c = record (state g c.let_reports_go.new.core (parts g c)) {
  ins = ins g c.gather_each.new.inputs;
  outs = outs g c.send_each.new.outputs;
}

is_last : (g : Over) (c : After-let_reports_go g) → state g c.let_reports_go.new.core (parts g c) ≡ last g c
is_last g c = state_by g.S.Source.told g.K.Sink.told g.C.Clock.told c.let_reports_go.new.core
    (parts g c) c.gather_each.new.inputs c.send_each.new.outputs (in_jobs g c) (out_jobs g c)

-- what a round leaves
routed_setup : (g : Over) (c : After-let_reports_go g) → c.route_where_raw.new.core.setup ≡ c.args.core.now.setup
routed_setup g c = c.in_ok-routed.ensures.kept.setup ∙ c.in_ok-turns.ensures.kept.setup

ticked_setup : (g : Over) (c : After-let_reports_go g) → c.tick_noted.new.core.setup ≡ c.args.core.now.setup
ticked_setup g c = c.in_ok-made.ensures.kept.setup ∙ routed_setup g c

noted_setup : (g : Over) (c : After-let_reports_go g) → c.note.new.core.setup ≡ c.args.core.now.setup
noted_setup g c = ap (λ (s : CoreState). s.setup) c.in_ok-note.ensures.noted ∙ c.in_ok-sweep.ensures.kept.setup
    ∙ ticked_setup g c

setup : (g : Over) (c : After-let_reports_go g) → c.let_reports_go.new.core.setup ≡ c.args.core.now.setup
setup g c = ap (λ (s : CoreState). s.setup) c.let_reports_go.ensures.same ∙ noted_setup g c

running : (g : Over) (c : After-let_reports_go g) → IsRunning c.let_reports_go.new.core
running g c = record {
  ready = ready_told c.note.new.core c.let_reports_go.new.core c.let_reports_go.ensures.same
      c.in_ok-note.ensures.rests.ready;
  stands = has_still c.note.new.core c.let_reports_go.new.core c.let_reports_go.ensures.stands
      c.in_ok-note.ensures.rests.stands;
  going = ap (λ (s : CoreState). s.stopped) c.let_reports_go.ensures.same
      ∙ ap (λ (s : CoreState). s.stopped) c.in_ok-note.ensures.noted ∙ c.in_ok-sweep.ensures.kept.stopped
      ∙ c.in_ok-made.ensures.running.going;
}

-- what routes the items is about the same behind a round
round_proc : (g : Over) (c : After-let_reports_go g) → IsSameProc (proc_of c.args.self.now.proc)
    (proc_of c.tick_noted.new.proc)
round_proc g c = same_proc (proc_of c.args.self.now.proc) (proc_of c.route_where_raw.new.proc)
    (proc_of c.tick_noted.new.proc) c.route_where_raw.ensures.same c.tick_noted.ensures.same

same_ins : (g : Over) (c : After-let_reports_go g) → AreSameInputs (ins g c.args.self.now.inputs.items)
    (ins g c.gather_each.new.inputs)
same_ins g c = subst (λ (jobs : List (InJob g.row.S.Denot g.row.C.Denot)). AreSameInputs (ins g jobs)
    (ins g c.gather_each.new.inputs)) (firsts g c) c.in_ok-turns.ensures.same

about : (g : Over) (c : After-let_reports_go g) → IsAboutSame (state g c.args.core.now c.args.self.now) (last g c)
about g c = record {
  setup = setup g c;
  inputs = same_ins g c;
  proc = round_proc g c;
  timer = c.tick_noted.ensures.timer;
}

-- what a round consists of fits still
fit : (g : Over) (c : After-let_reports_go g) → AreFit (last g c)
fit g c =
    let ended = ap (λ (s : CoreState). s.ended) c.let_reports_go.ensures.same
    ∙ ap (λ (s : CoreState). s.ended) c.in_ok-note.ensures.noted ∙ c.in_ok-sweep.ensures.kept.ended
    ∙ c.in_ok-made.ensures.kept.ended ∙ c.in_ok-routed.ensures.kept.ended in
    fits_on (state g c.args.core.now c.args.self.now) (last g c) (about g c)
    (inputs_still (length c.args.core.now.setup.inputs) c.gather_each.new.core.ended c.let_reports_go.new.core.ended
    (ins g c.gather_each.new.inputs) ended c.in_ok-turns.ensures.inputs)
    (subst (λ (n : ℕ). AreOutputs n (outs g c.send_each.new.outputs))
    (ap (λ (s : Setup). length s.outputs) (ticked_setup g c)) c.in_ok-sweep.ensures.outputs) c.requires.fit

-- what the round came to
module _ (g : Over) (c : After-let_reports_go g) (round : Round)
    (moves : round.moved ≡ (c.in_ok-turns.turns.accepted || c.in_ok-routed.routed || c.in_ok-made.made
    || c.in_ok-sweep.sweep.accepted)) (leaves : round.left ≡ not c.in_ok-sweep.sweep.emptied) where
  runs : RunsOn (still_behind round) (state g c.args.core.now c.args.self.now) (last g c)
  runs =
      round_runs (state g c.args.core.now c.args.self.now) (last g c) c.in_ok-turns.turns.accepted
      c.in_ok-routed.routed c.in_ok-made.made c.in_ok-sweep.sweep round c.gather_each.new.core
      c.route_where_raw.new.core c.tick_noted.new.core c.send_each.new.core c.note.new.core
      (proc_of c.route_where_raw.new.proc) (outs g c.begin_anew.new.outputs)
      (noted g c.route_where_raw.new.journal) (noted g c.tick_noted.new.journal) moves leaves refl refl refl refl
      (subst (λ (jobs : List (InJob g.row.S.Denot g.row.C.Denot)). GathersOn c.in_ok-turns.turns.accepted
      c.args.core.now c.gather_each.new.core (ins g jobs) (ins g c.gather_each.new.inputs)) (firsts g c)
      c.in_ok-turns.ensures.gathers)
      (fresh g c) c.in_ok-routed.ensures.routes c.in_ok-made.ensures.ticks c.in_ok-made.ensures.none
      (subst (λ (jobs : List (OutJob g.row.K.Denot g.row.C.Denot)). SendsOn (still_flushed c.in_ok-sweep.sweep)
      c.tick_noted.new.core c.send_each.new.core (outs g jobs) (outs g c.send_each.new.outputs)) (mids g c)
      c.in_ok-sweep.ensures.sends)
      c.in_ok-note.ensures.notes c.let_reports_go.ensures.tells

  -- where nothing came on the groups are as they were when the inputs had their turns
  same_groups : round.moved ≡ false → c.let_reports_go.new.core.tracker ≡ c.gather_each.new.core.tracker
  same_groups none =
      let n = four_none c.in_ok-turns.turns.accepted c.in_ok-routed.routed c.in_ok-made.made
      c.in_ok-sweep.sweep.accepted (sym moves ∙ none) in
      ap (λ (s : CoreState). s.tracker) c.let_reports_go.ensures.same
      ∙ ap (λ (s : CoreState). s.tracker) c.in_ok-note.ensures.noted ∙ c.in_ok-sweep.ensures.quiet n.3
      ∙ (c.in_ok-made.ensures.quiet n.2).tracker ∙ (c.in_ok-routed.ensures.quiet n.1).tracker

  rounded : (round.full ≡ c.in_ok-turns.turns.full) → HasRounded round (last g c)
  rounded full_is = record {
    full = λ full.
        subst (λ (n : ℕ). OneIsFull n (ins g c.gather_each.new.inputs))
        (sym (ap (λ (s : CoreState). s.gathered) c.let_reports_go.ensures.same
        ∙ ap (λ (s : CoreState). s.gathered) c.in_ok-note.ensures.noted ∙ c.in_ok-sweep.ensures.kept.gathered
        ∙ c.in_ok-made.ensures.kept.gathered ∙ c.in_ok-routed.ensures.kept.gathered))
        (c.in_ok-turns.ensures.full (sym full_is ∙ full));
    idle = λ whole none.
        let n = four_none c.in_ok-turns.turns.accepted c.in_ok-routed.routed c.in_ok-made.made
        c.in_ok-sweep.sweep.accepted (sym moves ∙ none) in
        let turns = c.in_ok-turns.ensures.quiet (sym full_is ∙ whole) n.0 in
        let raw : c.gather_each.new.core.raw ≡ [] =
        sym (c.in_ok-routed.ensures.quiet n.1).raw ∙ c.in_ok-routed.ensures.none in
        held_full c.gather_each.new.core c.let_reports_go.new.core (ins g c.gather_each.new.inputs)
        (length c.args.core.now.setup.inputs) c.gather_each.new.core.ended raw (same_groups none)
        (setup g c ∙ sym c.in_ok-turns.ensures.kept.setup) c.in_ok-turns.ensures.inputs turns.each;
    emptied = λ none o l.
        ap (λ (s : CoreState). buffered_at s o) (c.let_reports_go.ensures.same)
        ∙ ap (λ (s : CoreState). buffered_at s o) c.in_ok-note.ensures.noted
        ∙ c.in_ok-sweep.ensures.swept.emptied (not_false c.in_ok-sweep.sweep.emptied (sym leaves ∙ none)) o
        (omega (
          arith,
          l,
          ap length (mids g c),
          length-map c.begin_anew.new.outputs (λ (job : OutJob g.row.K.Denot g.row.C.Denot). out_of g.K.Sink.told job),
          length-map c.deref_mut-3.result.now (λ (job : OutJob g.row.K.Denot g.row.C.Denot). out_of g.K.Sink.told job),
          length-map c.send_each.new.outputs (λ (job : OutJob g.row.K.Denot g.row.C.Denot). out_of g.K.Sink.told job),
          c.send_each.ensures.count,
        ));
    heard = c.let_reports_go.ensures.gone;
  }

-- where the round was sent nothing is raw, and the outputs are settled
sent : (g : Over) (c : After-let_reports_go g) → HasSent (last g c)
sent g c = record {
  none_raw = ap (λ (s : CoreState). s.raw) c.let_reports_go.ensures.same
      ∙ ap (λ (s : CoreState). s.raw) c.in_ok-note.ensures.noted ∙ c.in_ok-sweep.ensures.kept.raw
      ∙ c.in_ok-made.ensures.none;
  settled = settled_told c.note.new.core c.let_reports_go.new.core (outs g c.send_each.new.outputs)
      c.let_reports_go.ensures.same
      (settled_still c.send_each.new.core c.note.new.core (outs g c.send_each.new.outputs)
      c.in_ok-note.ensures.noted c.in_ok-sweep.ensures.swept.settled);
}

pub send_each-requires-clause-outputs : goal.send_each-requires-clause-outputs
send_each-requires-clause-outputs g c =
    let olds = c.deref_mut-2.ensures.value in
    let fresh : outs g c.begin_anew.new.outputs ≡ map anew (outs g c.args.self.now.outputs.items) =
    c.begin_anew.ensures.fresh ∙ ap (λ (jobs : List (OutJob g.row.K.Denot g.row.C.Denot)). map anew (outs g jobs))
    olds in
    let mids = c.deref_mut-3.ensures.value ∙ with_items_is c.args.self.now.outputs
    c.begin_anew.new.outputs (omega (arith, c.deref_mut-2.ensures.len, c.begin_anew.ensures.count)) in
    outputs_still (length c.args.core.now.setup.outputs) (length c.tick_noted.new.core.setup.outputs)
    (outs g c.args.self.now.outputs.items) (outs g c.deref_mut-3.result.now) (ap (outs g) mids ∙ fresh)
    (ap (λ (s : Setup). length s.outputs) (c.in_ok-made.ensures.kept.setup
    ∙ c.in_ok-routed.ensures.kept.setup ∙ c.in_ok-turns.ensures.kept.setup))
    c.requires.fit.outputs

pub let_reports_go-requires : goal.let_reports_go-requires
let_reports_go-requires g c =
    let looked : c.deref.result.now ≡ c.gather_each.new.inputs = c.deref.ensures.value ∙ with_items_is
    c.args.self.now.inputs c.gather_each.new.inputs (omega
    (arith, c.deref_mut.ensures.len, c.gather_each.ensures.count)) in
    let same : c.note.new.core.setup ≡ c.args.core.now.setup =
    ap (λ (s : CoreState). s.setup) c.in_ok-note.ensures.noted ∙ c.in_ok-sweep.ensures.kept.setup
    ∙ c.in_ok-made.ensures.kept.setup ∙ c.in_ok-routed.ensures.kept.setup ∙ c.in_ok-turns.ensures.kept.setup in
    let ended = ap (λ (s : CoreState). s.ended) c.in_ok-note.ensures.noted ∙ c.in_ok-sweep.ensures.kept.ended
    ∙ c.in_ok-made.ensures.kept.ended ∙ c.in_ok-routed.ensures.kept.ended in
    subst (λ (jobs : List (InJob g.row.S.Denot g.row.C.Denot)). AreInputs (length c.note.new.core.setup.inputs)
    c.note.new.core.ended (ins g jobs)) (sym looked)
    (subst (λ (s : Setup). AreInputs (length s.inputs) c.note.new.core.ended (ins g c.gather_each.new.inputs))
    (sym same)
    (inputs_still (length c.args.core.now.setup.inputs) c.gather_each.new.core.ended c.note.new.core.ended
    (ins g c.gather_each.new.inputs) ended c.in_ok-turns.ensures.inputs))

pub returns-clause-running : goal.returns-clause-running
returns-clause-running g c = running g (goal.at.returns-clause-running g c).After-let_reports_go

pub returns-clause-fit : goal.returns-clause-fit
returns-clause-fit g c =
    let k = (goal.at.returns-clause-fit g c).After-let_reports_go in subst AreFit (sym (is_last g k)) (fit g k)

pub returns-clause-about : goal.returns-clause-about
returns-clause-about g c =
    let k = (goal.at.returns-clause-about g c).After-let_reports_go in
    subst (IsAboutSame (state g c.args.core.now c.args.self.now)) (sym (is_last g k)) (about g k)

pub returns-clause-sent : goal.returns-clause-sent
returns-clause-sent g c =
    let k = (goal.at.returns-clause-sent g c).After-let_reports_go in subst HasSent (sym (is_last g k)) (sent g k)

pub returns-clause-rounded : goal.returns-clause-rounded
returns-clause-rounded g c =
    let k = (goal.at.returns-clause-rounded g c).After-let_reports_go in
    subst (HasRounded c.of.result) (sym (is_last g k))
    (rounded g k c.of.result c.of.ensures.moved c.of.ensures.left c.of.ensures.full)

pub returns-clause-runs : goal.returns-clause-runs
returns-clause-runs g c =
    let k = (goal.at.returns-clause-runs g c).After-let_reports_go in
    subst (RunsOn (still_behind c.of.result) (state g c.args.core.now c.args.self.now)) (sym (is_last g k))
    (runs g k c.of.result c.of.ensures.moved c.of.ensures.left)
