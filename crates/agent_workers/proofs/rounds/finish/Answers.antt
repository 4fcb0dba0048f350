use Rattle.std.specs.declared.option.Option.{Option}
use Rattle.agent_base.specs.Moments.{Moments}
use Rattle.std.proofs.Common.{◌≡◌, ◌∙◌, ◌∷◌, ◌++◌, [], ℕ, ℤ, List, rules, length, ap, sym, subst, refl, inl, inr}
use Rattle.std.proofs.lemmas.Int.{to_z-of_z}
use Rattle.std.proofs.lemmas.List.{length-map}
use mir.Syntax.{w64}
use mir.Val.{of_z, to_z}
use Rattle.std.specs.Prelude.{◌⊎◌, ◌<◌, ◌≤◌}
use Rattle.std.specs.Int.{int_max}
use Rattle.account.specs.Setup.{Setup}
use Rattle.agent_base.specs.Carried.{Timed}
use Rattle.agent_base.specs.Clocked.{last_of}
use Rattle.agent_base.specs.Moments.{Gives}
use Rattle.pipeline_core.specs.CoreState.{CoreState}
use Rattle.agent_workers.specs.Held.{IsHeldBack}
use Rattle.agent_workers.specs.Inputs.{in_at, ins_of, AreInputs, AreOut, IsOneIn, IsOut, OneIsFull}
use Rattle.agent_workers.specs.declared.input.InJob.{InJob}
use Rattle.formats.specs.declared.pieces.InState.TheVariants as states
use Rattle.agent_workers.specs.Job.{Job, journal_setup_of, limit_of, output_sizes}
use Rattle.agent_workers.specs.Noted.{part_of}
use Rattle.agent_workers.specs.Output.{AreOutputs}
use Rattle.agent_workers.specs.Progress.{Progress}
use Rattle.agent_workers.specs.RunState.{RunState, state_of, setup_at}
use Rattle.agent_workers.specs.Running.{AreLeft}
use Rattle.agent_workers.specs.declared.parts.Parts.{Parts}
use Rattle.agent_workers.proofs.InLemmas.{same_inputs}
use Rattle.agent_workers.proofs.FinishSteps.{finished}
use Rattle.agent_workers.proofs.RoundSteps.{all_held}
use Rattle.agent_workers.proofs.ProgressLemmas.{stored_in_order, went_timed}
use Rattle.agent_workers.proofs.rounds.finish.Given.{Over}
use Rattle.agent_workers.proofs.rounds.finish.Goals as goal

abbrev state : (g : Over) → CoreState → Parts g.row.S.Denot g.row.K.Denot g.row.C.Denot → RunState
state g = state_of g.S.Source.told g.K.Sink.told g.C.Clock.told

pub returns-clause-same : goal.returns-clause-same
returns-clause-same g c =
    same_inputs (ins_of g.S.Source.told g.C.Clock.told c.args.parts.now.inputs.items)
    (ins_of g.S.Source.told g.C.Clock.told c.rounds.new.self.inputs.items)
    (ins_of g.S.Source.told g.C.Clock.told c.stop.new.self.inputs.items)
    c.in_ok-_idle.ensures.about.inputs c.in_ok-stop.ensures.about.inputs

pub returns-clause-finished : goal.returns-clause-finished
returns-clause-finished g c = λ job tries start counted is starts_count outs_count settled w.
    let moment = to_z w64 (of_z w64 c.now-moment.result) in
    let same_moment : moment ≡ c.now-moment.result = to_z-of_z w64 c.now-moment.result (search rules) in
    let first : RunState = record (state g c.args.core.now c.args.parts.now) { counted_at = counted } in
    let idle : ℕ = c.in_ok-_idle._idle in
    let over_rounds = c.in_ok-_idle.ensures.runs start counted 0 settled w in
    let so_far : List ℤ = over_rounds.counted_now in
    let rounded : RunState = record
    (state g c.rounds.new.core c.rounds.new.self) { counted_at = so_far; still = idle } in
    let went = went_timed start rounded (g.C.Clock.told c.now-moment.new.self) over_rounds.progress in
    let counts : List ℤ = so_far ++ int_max moment (last_of start.start so_far) ∷ [] in
    let last : RunState = record (state g c.stop.new.core c.stop.new.self) { counted_at = counts } in
    let stops = c.in_ok-stop.ensures.stops start so_far idle went in
    let stopped : Progress start last = stops.progress in
    let put_so = c.in_ok-account.ensures.ends (journal_setup_of (setup_at start)) start.noted start.note_faults
    stopped.text.written stopped.text.notes (stored_in_order start c.stop.new.core last.journal stopped.journal
    stopped.text) stopped.text.known in
    let in_count : length c.stop.new.core.setup.inputs ≡ length start.job.inputs =
    ap (λ (s : Setup). length s.inputs) stopped.text.setup_is ∙ length-map start.job.inputs limit_of in
    let out_count : length c.stop.new.core.setup.outputs ≡ length start.job.outputs =
    ap (λ (s : Setup). length s.outputs) stopped.text.setup_is ∙ length-map start.job.outputs output_sizes in
    let tried : c.rounds.new.self.final_tries ≡ start.job.tries =
    c.rounds.ensures.parts.tries ∙ sym tries ∙ sym (ap (λ (j : Job). j.tries) is) in
    let tries_are : c.args.parts.now.final_tries ≡ start.job.tries = sym c.rounds.ensures.parts.tries ∙ tried in
    let over : OneIsFull c.stop.new.core.gathered last.ins ⊎ AreOut last.ins ⊎ ((k : ℕ) → k < length last.ins
    → IsOut (in_at last.ins k) ⊎ IsHeldBack start.job.tries (setup_at start) stopped.journal k) =
    elim c.in_ok-_idle.ensures.over [
      | inl full ↦ inl (subst (λ (k : ℕ). OneIsFull k last.ins) (sym c.in_ok-stop.ensures.stopped.gathered)
          (subst (OneIsFull c.rounds.new.core.gathered) (sym c.in_ok-stop.ensures.stopped.ins) full))
      | inr (inl out) ↦ inr (inl (subst AreOut (sym c.in_ok-stop.ensures.stopped.ins) out))
      | inr (inr held) ↦ inr (inr (all_held start rounded over_rounds.progress last.ins stopped.journal stops.moment
          stops.made stops.behind (subst (λ (n : ℕ). n ≤ idle) tries_are held.tried) held.each
          c.in_ok-stop.ensures.stopped.ins stops.stops))
    ] in
    let gives : Gives first.timer.moments (g.C.Clock.told c.rounds.new.self.timer).next
    (g.C.Clock.told c.stop.new.self.timer).next moment =
    subst (λ (all : Option Moments). Gives all (g.C.Clock.told c.rounds.new.self.timer).next
    (g.C.Clock.told c.stop.new.self.timer).next moment) c.in_ok-_idle.ensures.about.timer
    (subst (λ (t : Timed). Gives (g.C.Clock.told c.rounds.new.self.timer).moments
    (g.C.Clock.told c.rounds.new.self.timer).next t.next moment) (sym c.in_ok-stop.ensures.stopped.timer)
    (rw same_moment c.now-moment.ensures.gives)) in
    finished start last stopped
    c.in_ok-stop.ensures.stopped.stopped c.in_ok-stop.ensures.stopped.none_raw
    c.in_ok-stop.ensures.rests.ready.empty_handed
    (starts_count ∙ w.in_count) (outs_count ∙ w.out_count) (subst (λ (n : ℕ). AreLeft n c.stop.new.core last.outs) tried
    c.in_ok-stop.ensures.stopped.rest)
    c.stop.new.core.ended (subst (λ (k : ℕ). AreInputs k c.stop.new.core.ended last.ins) in_count
    c.in_ok-stop.ensures.fit.inputs)
    (subst (λ (k : ℕ). AreOutputs k last.outs) out_count c.in_ok-stop.ensures.fit.outputs) over
    _ first c.end_journal.new.core (part_of g.K.Sink.told c.end_journal.new.journal)
    (g.C.Clock.told c.stop.new.self.timer) (g.C.Clock.told c.rounds.new.self.timer).next so_far moment
    c.in_ok-account.ensures.cut over_rounds.counts gives refl
    (subst (λ (jobs : List (InJob g.row.S.Denot g.row.C.Denot)). IsOneIn states.LimitReached
    (ins_of g.S.Source.told g.C.Clock.told jobs) c.is_one_in.result) c.deref-2.ensures.value c.is_one_in.ensures)
    (subst (λ (jobs : List (InJob g.row.S.Denot g.row.C.Denot)). IsOneIn states.Faulted
    (ins_of g.S.Source.told g.C.Clock.told jobs) c.is_one_in-2.result) c.deref-3.ensures.value c.is_one_in-2.ensures)
    _ c.is_one_in-reading.result c.is_one_of.ensures c.in_ok-account.ensures.left
    (subst (λ (jobs : List (InJob g.row.S.Denot g.row.C.Denot)). IsOneIn states.Reading
    (ins_of g.S.Source.told g.C.Clock.told jobs) c.is_one_in-reading.result) c.deref.ensures.value
    c.is_one_in-reading.ensures)
    c.in_ok-account.ensures.account put_so
