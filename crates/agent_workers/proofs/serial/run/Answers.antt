use Rattle.std.proofs.Common.{◌≡◌, ℕ, length, sym, ap, subst, arith, refl, rules}
use Rattle.std.specs.Prelude.{map}
use Rattle.std.proofs.lemmas.Int.{to_z-of_z}
use Rattle.std.proofs.lemmas.List.{length-map}
use mir.Syntax.{w64}
use mir.Val.{of_z, to_z}
use Rattle.agent_base.specs.Moments.{Gives}
use Rattle.agent_base.specs.Carried.{Timed}
use Rattle.agent_workers.specs.Inputs.{in_of, ins_of}
use Rattle.agent_workers.specs.Job.{job_of}
use Rattle.agent_workers.specs.Output.{out_of, outs_of}
use Rattle.agent_workers.specs.Opened.{Carries, Times, in_carried, out_carried, carried_by, timed_by}
use Rattle.agent_workers.specs.RunState.{RunState, state_of}
use Rattle.agent_workers.proofs.OpenedLemmas.{ins_count, outs_count, ran_by, ran_timed, carries_is, carried_at}
use Rattle.agent_workers.proofs.OpenedLemmas.{finishes_as, same_count}
use Rattle.agent_workers.proofs.serial.run.Given.{Over}
use Rattle.agent_workers.proofs.serial.run.Goals.{In-Ok}
use Rattle.agent_workers.proofs.serial.run.Goals as goal

-- there is a part and a clock for each input, and a part for each output
sources : (g : Over) (c : In-Ok g) → length (map g.S.Source.told c.args.opened.inputs.items) ≡ length
    c.args.config.now.inputs
sources g c = omega (
  arith,
  length-map c.args.opened.inputs.items (g.S.Source.told),
  c.requires.parts.sources,
  c.args.opened.inputs.ok,
)

clocks : (g : Over) (c : In-Ok g) → length (map g.C.Clock.told c.args.clocks.inputs.items) ≡ length
    c.args.config.now.inputs
clocks g c = omega (
  arith,
  length-map c.args.clocks.inputs.items (g.C.Clock.told),
  c.requires.parts.in_clocks,
  c.args.clocks.inputs.ok,
)

sinks : (g : Over) (c : In-Ok g) → length (map g.K.Sink.told c.args.opened.outputs.items) ≡ length
    c.args.config.now.outputs
sinks g c = omega (
  arith,
  length-map c.args.opened.outputs.items (g.K.Sink.told),
  c.requires.parts.sinks,
  c.args.opened.outputs.ok,
)

-- and so there is a job for each
inputs : (g : Over) (c : In-Ok g) → length c.in-Ok.made.1.inputs.items ≡ length c.args.opened.inputs.items
inputs g c =
    let count = ins_count c.args.config.now _ _ _ _ c.in-Ok.ensures.made (sources g c) (clocks g c) in
    omega (
      arith,
      count,
      length-map c.in-Ok.made.1.inputs.items (in_of g.S.Source.told g.C.Clock.told),
      c.requires.parts.sources,
      c.args.opened.inputs.ok,
    )

outputs : (g : Over) (c : In-Ok g) → length c.in-Ok.made.1.outputs.items ≡ length c.args.opened.outputs.items
outputs g c =
    let count = outs_count c.args.config.now _ _ _ _ c.in-Ok.ensures.made (sinks g c) in
    omega (
      arith,
      count,
      length-map c.in-Ok.made.1.outputs.items (out_of g.K.Sink.told),
      c.requires.parts.sinks,
      c.args.opened.outputs.ok,
    )

pub returns-clause-in_count : goal.returns-clause-in_count
returns-clause-in_count g c =
    let count = inputs g (goal.at.returns-clause-in_count g c).In-Ok in
    let jobs = c.finish-ending.new.parts.inputs.items in
    let given = same_count (g.S.Source.told) in_carried c.take_apart.result.inputs.items
    (ins_of g.S.Source.told g.C.Clock.told jobs) c.take_apart.ensures.sources in
    omega (
      arith,
      count,
      given,
      length-map jobs (in_of g.S.Source.told g.C.Clock.told),
      c.in-Ok.made.1.inputs.ok,
      c.finish-ending.new.parts.inputs.ok,
      c.finish-ending.ensures.parts.in_count,
    )

pub returns-clause-count : goal.returns-clause-count
returns-clause-count g c =
    let count = outputs g (goal.at.returns-clause-count g c).In-Ok in
    let jobs = c.finish-ending.new.parts.outputs.items in
    let given = same_count (g.K.Sink.told) out_carried c.take_apart.result.outputs.items
    (outs_of g.K.Sink.told jobs) c.take_apart.ensures.sinks in
    omega (
      arith,
      count,
      given,
      length-map jobs (out_of g.K.Sink.told),
      c.in-Ok.made.1.outputs.ok,
      c.finish-ending.new.parts.outputs.ok,
      c.finish-ending.ensures.parts.count,
    )

pub returns-clause-ran : goal.returns-clause-ran
returns-clause-ran g c =
    let k = (goal.at.returns-clause-ran g c).In-Ok in
    let told = g.C.Clock.told in
    let config = c.args.config.now in
    let same : to_z w64 (of_z w64 c.now-start.result) ≡ c.now-start.result =
    to_z-of_z w64 c.now-start.result (search rules) in
    let timer : Timed = told c.now-start.new.self in
    let started : Gives timer.moments 0 timer.next (to_z w64 (of_z w64 c.now-start.result)) =
    rw (same, c.now-start.ensures.list) (subst (λ (p : ℕ). Gives (told c.args.clocks.timer).moments p timer.next
    c.now-start.result) c.requires.timer_first c.now-start.ensures.gives) in
    let made = c.in-Ok.ensures.made in
    let now : RunState = state_of g.S.Source.told g.K.Sink.told told c.in-Ok.made.0 c.in-Ok.made.1 in
    let last : RunState = state_of g.S.Source.told g.K.Sink.told told c.finish-ending.new.core
    c.finish-ending.new.parts in
    let times : Times = record (timed_by told c.args.clocks) { timer = timer } in
    let opened : Carries = carried_by g.S.Source.told g.K.Sink.told c.args.opened in
    let news : Carries = carried_by g.S.Source.told g.K.Sink.told c.take_apart.result in
    let back : news ≡ carried_at last = carries_is _ _ _ _ _ _ c.take_apart.ensures.sources c.take_apart.ensures.sinks
    (ap g.K.Sink.told c.take_apart.ensures.journal) in
    ran_timed config opened news times (told c.args.clocks.timer) c.finish-ending.result c.now-start.ensures.list
    (ran_by config _ opened news times now last c.finish-ending.result made (sources g k) (clocks g k) refl
    (subst (λ (t : Timed). Gives t.moments 0 t.next (to_z w64 (of_z w64 c.now-start.result))) (sym made.timer) started)
    back c.finish-ending.ensures.same (finishes_as (job_of config) c.in-Ok.made.1.final_tries now last
    c.finish-ending.result (sym c.in-Ok.ensures.tries) c.finish-ending.ensures.finished))
