use Rattle.std.proofs.Common.{◌≡◌, ◌∙◌, ◌∷◌, ◌++◌, [], ℕ, ℤ, List, length, ap, sym, subst, refl, arith, append_assoc}
use Rattle.std.proofs.Common.{◌≤◌, ◌⊎◌}
use Rattle.std.proofs.lemmas.Int.{to_z-of_z}
use Rattle.std.proofs.lemmas.List.{with_items_is}
use mir.Syntax.{w64}
use mir.Val.{of_z, to_z}
use Rattle.std.specs.Int.{int_max}
use Rattle.std.specs.Prelude.{map}
use Rattle.std.specs.Vec.{with_items}
use Rattle.account.specs.Setup.{Setup}
use Rattle.agent_base.specs.Clocked.{last_of}
use Rattle.pipeline_core.specs.CoreState.{CoreState}
use Rattle.pipeline_core.specs.Moments.{IsStoppedAt}
use Rattle.agent_workers.specs.Inputs.{InPart, ins_of, AreInputs}
use Rattle.agent_workers.specs.Item.{proc_of}
use Rattle.agent_workers.specs.Output.{OutPart, out_at, outs_of, anew, AreAnew, AreOutputs}
use Rattle.agent_workers.specs.Progress.{with_known, SendsOn, StopsAt}
use Rattle.agent_workers.specs.Rounds.{HasStopped}
use Rattle.agent_workers.specs.RunState.{Beginning, RunState, state_of, AreFit, IsAboutSame}
use Rattle.agent_workers.specs.declared.input.InJob.{InJob}
use Rattle.agent_workers.specs.declared.output.OutJob.{OutJob}
use Rattle.agent_workers.specs.declared.parts.Parts.{Parts}
use Rattle.agent_workers.proofs.InLemmas.{fits_on, inputs_still, inputs_themselves}
use Rattle.agent_workers.proofs.OutLemmas.{are_anew, outputs_still, ready_same}
use Rattle.agent_workers.specs.Running.{buffered_at, AllMade}
use Rattle.agent_workers.proofs.TickLemmas.{made_stopped, none_marked}
use Rattle.std.specs.Prelude.{true}
use Rattle.agent_workers.proofs.PartsLemmas.{state_by}
use Rattle.agent_workers.proofs.ProgressLemmas.{went_back, went_front, went_stop}
use Rattle.agent_workers.proofs.RoundSteps.{ready_told}
use Rattle.pipeline_core.proofs.JournalKept.{has_still}
use Rattle.account.specs.declared.entry.Entry.{Entry}
use Rattle.account.specs.declared.entry.Entry.TheVariants.{Stop}
use Rattle.agent_workers.proofs.StandingLemmas.{continues}
use Rattle.agent_workers.proofs.parts.Parts.stop.Given.{Over}
use Rattle.agent_workers.proofs.parts.Parts.stop.Goals.{After-let_reports_go}
use Rattle.agent_workers.proofs.parts.Parts.stop.Goals as goal

-- what the jobs and the parts tell
abbrev ins : (g : Over) → List (InJob g.row.S.Denot g.row.C.Denot) → List InPart
ins g = ins_of g.S.Source.told g.C.Clock.told

abbrev outs : (g : Over) → List (OutJob g.row.K.Denot g.row.C.Denot) → List OutPart
outs g = outs_of g.K.Sink.told

abbrev state : (g : Over) → CoreState → Parts g.row.S.Denot g.row.K.Denot g.row.C.Denot → RunState
state g = state_of g.S.Source.told g.K.Sink.told g.C.Clock.told

-- the jobs that were lent as slices
fresh : (g : Over) (c : After-let_reports_go g) → outs g c.begin_anew.new.outputs ≡ map anew
    (outs g c.args.self.now.outputs.items)
fresh g c = c.begin_anew.ensures.fresh ∙ ap (λ (jobs : List (OutJob g.row.K.Denot g.row.C.Denot)). map anew
    (outs g jobs)) c.deref_mut.ensures.value

mids : (g : Over) (c : After-let_reports_go g) → c.deref_mut-2.result.now ≡ c.begin_anew.new.outputs
mids g c = c.deref_mut-2.ensures.value ∙ with_items_is c.args.self.now.outputs c.begin_anew.new.outputs
    (omega (arith, c.deref_mut.ensures.len, c.begin_anew.ensures.count))

out_jobs : (g : Over) (c : After-let_reports_go g) → (with_items (with_items c.args.self.now.outputs
    c.begin_anew.new.outputs) c.send_rest.new.outputs).items ≡ c.send_rest.new.outputs
out_jobs g c = with_items_is (with_items c.args.self.now.outputs c.begin_anew.new.outputs) c.send_rest.new.outputs
    (omega (arith, c.deref_mut-2.ensures.len, c.send_rest.ensures.count))

-- the parts, and what the run consists of, behind the stop
abbrev parts : (g : Over) → After-let_reports_go g → Parts g.row.S.Denot g.row.K.Denot g.row.C.Denot
parts g c = record c.args.self.now {
  proc = c.route_all.new.proc;
  journal = record c.args.self.now.journal { known = c.route_all.new.known };
  outputs = with_items (with_items c.args.self.now.outputs c.begin_anew.new.outputs) c.send_rest.new.outputs;
}

abbrev last : (g : Over) → After-let_reports_go g → RunState
last g c = record (state g c.let_reports_go.new.core (parts g c)) { outs = outs g c.send_rest.new.outputs }

is_last : (g : Over) (c : After-let_reports_go g) → state g c.let_reports_go.new.core (parts g c) ≡ last g c
is_last g c = state_by g.S.Source.told g.K.Sink.told g.C.Clock.told c.let_reports_go.new.core
    (parts g c) c.args.self.now.inputs.items c.send_rest.new.outputs refl (out_jobs g c)

-- what the stop leaves
routed_setup : (g : Over) (c : After-let_reports_go g) → c.route_all.new.core.setup ≡ c.args.core.now.setup
routed_setup g c = c.in_ok-route_all.ensures.kept.setup ∙ ap (λ (s : CoreState). s.setup) c.in_ok-stop.ensures.ok.after

setup : (g : Over) (c : After-let_reports_go g) → c.let_reports_go.new.core.setup ≡ c.args.core.now.setup
setup g c = ap (λ (s : CoreState). s.setup) c.let_reports_go.ensures.same ∙ c.in_ok-send_rest.ensures.kept.setup
    ∙ routed_setup g c

ended : (g : Over) (c : After-let_reports_go g) → c.let_reports_go.new.core.ended ≡ c.args.core.now.ended
ended g c = ap (λ (s : CoreState). s.ended) c.let_reports_go.ensures.same ∙ c.in_ok-send_rest.ensures.kept.ended
    ∙ c.in_ok-route_all.ensures.kept.ended
    ∙ ap (λ (s : CoreState). s.ended) c.in_ok-stop.ensures.ok.after

about : (g : Over) (c : After-let_reports_go g) → IsAboutSame (state g c.args.core.now c.args.self.now) (last g c)
about g c = record {
  setup = setup g c;
  inputs = inputs_themselves (ins g c.args.self.now.inputs.items);
  proc = c.route_all.ensures.same;
  timer = refl;
}

fit : (g : Over) (c : After-let_reports_go g) → AreFit (last g c)
fit g c =
    fits_on (state g c.args.core.now c.args.self.now) (last g c) (about g c)
    (inputs_still (length c.args.core.now.setup.inputs) c.args.core.now.ended c.let_reports_go.new.core.ended
    (ins g c.args.self.now.inputs.items) (ended g c) c.requires.fit.inputs)
    (subst (λ (n : ℕ). AreOutputs n (outs g c.send_rest.new.outputs))
    (ap (λ (s : Setup). length s.outputs) (routed_setup g c)) c.in_ok-send_rest.ensures.outputs) c.requires.fit

stopped : (g : Over) (c : After-let_reports_go g) → HasStopped c.args.self.now.final_tries
    (state g c.args.core.now c.args.self.now) (last g c)
stopped g c = record {
  stopped = ap (λ (s : CoreState). s.stopped) c.let_reports_go.ensures.same
      ∙ c.in_ok-send_rest.ensures.kept.stopped ∙ c.in_ok-route_all.ensures.kept.stopped
      ∙ ap (λ (s : CoreState). s.stopped) c.in_ok-stop.ensures.ok.after;
  gathered = ap (λ (s : CoreState). s.gathered) c.let_reports_go.ensures.same
      ∙ c.in_ok-send_rest.ensures.kept.gathered ∙ c.in_ok-route_all.ensures.kept.gathered
      ∙ ap (λ (s : CoreState). s.gathered) c.in_ok-stop.ensures.ok.after;
  ended = ended g c;
  none_raw = ap (λ (s : CoreState). s.raw) c.let_reports_go.ensures.same ∙ c.in_ok-send_rest.ensures.kept.raw
      ∙ c.in_ok-route_all.ensures.none;
  ins = refl;
  timer = refl;
  rest = λ o l. subst (λ (n : ℕ). (n ≡ 0) ⊎ (c.args.self.now.final_tries
      ≤ (out_at (outs g c.send_rest.new.outputs) o).failed_since))
      (sym (ap (λ (s : CoreState). buffered_at s o) c.let_reports_go.ensures.same))
      (c.in_ok-send_rest.ensures.rest o l);
  heard = c.let_reports_go.ensures.gone;
}

-- what the stop made is all that is raw
all_made : (g : Over) (c : After-let_reports_go g) → AllMade c.stop.new.self.made
all_made g c = made_stopped (to_z w64 (of_z w64 c.args.moment)) c.args.core.now c.stop.new.self c.in_ok-stop.ensures.ok
    (none_marked c.args.core.now c.requires.running.stands c.requires.running.ready.empty_handed
    c.requires.sent.none_raw)

stops : (g : Over) (c : After-let_reports_go g) → StopsAt c.args.moment (state g c.args.core.now c.args.self.now)
    (last g c)
stops g c = λ start counted still w.
    let olds : List OutPart = outs g c.args.self.now.outputs.items in
    let news : List OutPart = outs g c.begin_anew.new.outputs in
    let zero : AreAnew news = subst AreAnew (sym (fresh g c)) (are_anew olds) in
    let first : RunState = record (state g c.args.core.now c.args.self.now) { counted_at = counted; still = still } in
    let same : to_z w64 (of_z w64 c.args.moment) ≡ c.args.moment = to_z-of_z w64 c.args.moment c.ranges.moment in
    let stops = subst (λ (m : ℤ). IsStoppedAt m c.args.core.now c.stop.new.self) same c.in_ok-stop.ensures.ok in
    let b =
    went_stop start c.args.core.now c.stop.new.self first olds news c.args.moment
    c.requires.sent.none_raw c.requires.sent.settled (fresh g c) zero stops w in
    let behind : Beginning = record start { front = b.progress.journal } in
    let sends = subst (λ (jobs : List (OutJob g.row.K.Denot g.row.C.Denot)). SendsOn (λ n. 0) c.route_all.new.core
    c.send_rest.new.core (outs g jobs) (outs g c.send_rest.new.outputs)) (mids g c) c.in_ok-send_rest.ensures.sends in
    let counts : List ℤ = counted ++ int_max c.args.moment (last_of start.start counted) ∷ [] in
    let now_stopped : RunState = record first { outs = news; counted_at = counts } in
    let whole : RunState = record now_stopped { core = c.stop.new.self; ticked = true } in
    let d = c.in_ok-route_all.ensures.goes behind now_stopped true zero (λ t. (refl, all_made g c))
    (went_front start whole b.progress) in
    let part = with_known now_stopped.journal c.route_all.new.known.items in
    let routed : RunState = record now_stopped { proc = proc_of c.route_all.new.proc; journal = part; still = 0 } in
    let sent = sends behind routed d in
    let all =
    c.let_reports_go.ensures.tells behind (record routed { outs = outs g c.send_rest.new.outputs }) sent in
    let done : RunState = record (last g c) { counted_at = counts } in
    record {
      progress = went_back start whole done b.progress all;
      moment = b.moment;
      made = b.made;
      behind = b.behind ++ all.text.more;
      stops = all.text.goes_on ∙ ap (λ (es : List Entry). es ++ all.text.more) b.stops
          ∙ append_assoc w.journal (Stop b.moment b.made ∷ b.behind) all.text.more;
    }

pub route_all-requires-clause-rests : goal.route_all-requires-clause-rests
route_all-requires-clause-rests g c = record {
  ready = ready_same c.args.core.now c.stop.new.self
      (ap (λ (s : CoreState). s.setup) c.in_ok-stop.ensures.ok.after)
      (ap (λ (s : CoreState). s.lanes) c.in_ok-stop.ensures.ok.after) (ap (λ
      (s : CoreState). s.held) c.in_ok-stop.ensures.ok.after)
      c.requires.running.ready;
  stands = continues c.in_ok-stop.ensures.ok.continues c.requires.running.stands;
}

pub send_rest-requires-clause-outputs : goal.send_rest-requires-clause-outputs
send_rest-requires-clause-outputs g c =
    let fresh : outs g c.begin_anew.new.outputs ≡ map anew (outs g c.args.self.now.outputs.items) =
    c.begin_anew.ensures.fresh ∙ ap (λ (jobs : List (OutJob g.row.K.Denot g.row.C.Denot)). map anew (outs g jobs))
    c.deref_mut.ensures.value in
    let mids = c.deref_mut-2.ensures.value ∙ with_items_is c.args.self.now.outputs c.begin_anew.new.outputs
    (omega (arith, c.deref_mut.ensures.len, c.begin_anew.ensures.count)) in
    outputs_still (length c.args.core.now.setup.outputs) (length c.route_all.new.core.setup.outputs)
    (outs g c.args.self.now.outputs.items) (outs g c.deref_mut-2.result.now) (ap (outs g) mids ∙ fresh)
    (ap (λ (s : Setup). length s.outputs) (c.in_ok-route_all.ensures.kept.setup
    ∙ ap (λ (s : CoreState). s.setup) c.in_ok-stop.ensures.ok.after)) c.requires.fit.outputs

pub let_reports_go-requires : goal.let_reports_go-requires
let_reports_go-requires g c =
    let same : c.send_rest.new.core.setup ≡ c.args.core.now.setup = c.in_ok-send_rest.ensures.kept.setup
    ∙ c.in_ok-route_all.ensures.kept.setup ∙ ap (λ (s : CoreState). s.setup) c.in_ok-stop.ensures.ok.after in
    let ended = c.in_ok-send_rest.ensures.kept.ended ∙ c.in_ok-route_all.ensures.kept.ended
    ∙ ap (λ (s : CoreState). s.ended) c.in_ok-stop.ensures.ok.after in
    subst (λ (jobs : List (InJob g.row.S.Denot g.row.C.Denot)). AreInputs (length c.send_rest.new.core.setup.inputs)
    c.send_rest.new.core.ended (ins g jobs)) (sym c.deref.ensures.value)
    (subst (λ (s : Setup). AreInputs (length s.inputs) c.send_rest.new.core.ended
    (ins g c.args.self.now.inputs.items)) (sym same)
    (inputs_still (length c.args.core.now.setup.inputs) c.args.core.now.ended c.send_rest.new.core.ended
    (ins g c.args.self.now.inputs.items) ended c.requires.fit.inputs))

pub returns-clause-fit : goal.returns-clause-fit
returns-clause-fit g c =
    let k = (goal.at.returns-clause-fit g c).After-let_reports_go in
    subst AreFit (sym (is_last g k)) (fit g k)

pub returns-clause-about : goal.returns-clause-about
returns-clause-about g c =
    let k = (goal.at.returns-clause-about g c).After-let_reports_go in
    subst (IsAboutSame (state g c.args.core.now c.args.self.now)) (sym (is_last g k)) (about g k)

pub returns-clause-stopped : goal.returns-clause-stopped
returns-clause-stopped g c =
    let k = (goal.at.returns-clause-stopped g c).After-let_reports_go in
    subst (HasStopped c.args.self.now.final_tries (state g c.args.core.now c.args.self.now))
    (sym (is_last g k)) (stopped g k)

pub returns-clause-stops : goal.returns-clause-stops
returns-clause-stops g c =
    let k = (goal.at.returns-clause-stops g c).After-let_reports_go in
    subst (StopsAt c.args.moment (state g c.args.core.now c.args.self.now)) (sym (is_last g k))
    (stops g k)

pub returns-clause-rests : goal.returns-clause-rests
returns-clause-rests g c = record {
  ready = ready_told c.send_rest.new.core c.let_reports_go.new.core c.let_reports_go.ensures.same
      c.in_ok-send_rest.ensures.rests.ready;
  stands = has_still c.send_rest.new.core c.let_reports_go.new.core c.let_reports_go.ensures.stands
      c.in_ok-send_rest.ensures.rests.stands;
}
