use Rattle.std.proofs.Common.{◌≡◌, ◌∙◌, ℤ, List, length, ap, subst, arith, refl, rules}
use Rattle.std.specs.Prelude.{map}
use Rattle.std.proofs.lemmas.Int.{to_z-of_z}
use Rattle.std.proofs.lemmas.List.{length-map}
use mir.Syntax.{w64}
use mir.Val.{of_z, to_z}
use Rattle.agent_workers.specs.Job.{job_of, journal_setup_of, setup_of}
use Rattle.agent_workers.specs.Opened.{IsNewCore}
use Rattle.agent_workers.specs.Inputs.{InPart, in_of, ins_of}
use Rattle.agent_workers.specs.Output.{OutPart, out_of, outs_of}
use Rattle.agent_workers.proofs.OpenedLemmas.{is_made, length-fresh_ins, length-fresh_outs}
use Rattle.agent_workers.proofs.parts.set_up.Goals as goal

pub returns-clause-room : goal.returns-clause-room
returns-clause-room g c =
    let told = g.S.Source.told in
    let config = c.args.config.now in
    let back = c.in-Ok.ensures.back in
    let sources : length (map told c.args.opened.inputs.items) ≡ length config.inputs =
    omega (arith, length-map c.args.opened.inputs.items told, c.requires.parts.sources, c.args.opened.inputs.ok) in
    let clocks : length (map g.C.Clock.told c.args.clocks.inputs.items) ≡ length config.inputs =
    omega (
      arith,
      length-map c.args.clocks.inputs.items (g.C.Clock.told),
      c.requires.parts.in_clocks,
      c.args.clocks.inputs.ok,
    ) in
    let sinks : length (map g.K.Sink.told c.args.opened.outputs.items) ≡ length config.outputs =
    omega (
      arith,
      length-map c.args.opened.outputs.items (g.K.Sink.told),
      c.requires.parts.sinks,
      c.args.opened.outputs.ok,
    ) in
    let in_jobs : length (ins_of told g.C.Clock.told c.fill_inputs.new.jobs.items) ≡ length config.inputs =
    ap (λ (xs : List InPart). length xs) c.fill_inputs.ensures
    ∙ length-fresh_ins config 0 config.inputs (map told c.args.opened.inputs.items)
    (map g.C.Clock.told c.args.clocks.inputs.items) sources clocks in
    let out_jobs : length (outs_of g.K.Sink.told c.fill_outputs.new.jobs.items) ≡ length config.outputs =
    ap (λ (xs : List OutPart). length xs) c.fill_outputs.ensures
    ∙ length-fresh_outs 0 config.outputs (map g.K.Sink.told c.args.opened.outputs.items) sinks in
    record {
      no_source = back.no_source;
      source_room = omega (
        arith,
        in_jobs,
        length-map c.fill_inputs.new.jobs.items (in_of told g.C.Clock.told),
        c.fill_inputs.new.jobs.ok,
        back.source_room,
      );
      no_sink = back.no_sink;
      sink_room = omega (
        arith,
        out_jobs,
        length-map c.fill_outputs.new.jobs.items (out_of g.K.Sink.told),
        c.fill_outputs.new.jobs.ok,
        back.sink_room,
      );
    }

pub returns-clause-made : goal.returns-clause-made
returns-clause-made g c =
    let config = c.args.config.now in
    let same_start : to_z w64 (of_z w64 c.args.start) ≡ c.args.start = to_z-of_z w64 c.args.start c.ranges.start in
    is_made config c.args.start _ _ _ c.requires.sound (subst (λ (m : ℤ). IsNewCore config m c.in-Ok.room.core)
    same_start c.in-Ok.ensures.core)
    (record {
      sources = omega (
        arith,
        length-map c.args.opened.inputs.items (g.S.Source.told),
        c.requires.parts.sources,
        c.args.opened.inputs.ok,
      );
      clocks = omega (
        arith,
        length-map c.args.clocks.inputs.items (g.C.Clock.told),
        c.requires.parts.in_clocks,
        c.args.clocks.inputs.ok,
      );
      sinks = omega (
        arith,
        length-map c.args.opened.outputs.items (g.K.Sink.told),
        c.requires.parts.sinks,
        c.args.opened.outputs.ok,
      );
      first = c.requires.first;
      ins_are = c.fill_inputs.ensures;
      outs_are = c.fill_outputs.ensures;
      aggs = search rules;
      skip = refl;
      filters = search rules;
      chain = c.in-Ok.ensures.chain;
      known = c.new.ensures.known;
      about = c.new.ensures.setup ∙ c.in-Ok.ensures.about ∙ ap
          (λ (m : ℤ). journal_setup_of (setup_of (job_of config) m)) same_start;
      kept = c.new.ensures.kept;
      entries = c.new.ensures.entries;
      put = c.new.ensures.going;
      counted = refl;
      still = refl;
      held = search rules;
      faults = search rules;
      timer = refl;
    })
