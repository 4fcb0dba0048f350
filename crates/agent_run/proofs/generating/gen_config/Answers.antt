use Rattle.std.proofs.Common.{◌∙◌, ap, arith, length, map, subst}
use Rattle.std.specs.Prelude.{Some}
use Rattle.std.proofs.lemmas.List.{length-map}
use Rattle.agent_base.specs.Carried.{Timed}
use Rattle.agent_base.specs.Places.{Place}
use Rattle.agent_workers.specs.Opened.{Carries, Times}
use Rattle.agent_workers.proofs.OpenedLemmas.{same_count}
use Rattle.agent_run.specs.Generated.{generated_moments}
use Rattle.agent_run.specs.Generating.{clock_given, source_given, sources_given, unfailing}
use Rattle.agent_run.specs.PlaceLists.{AreRefused, out_places}
use Rattle.agent_run.specs.declared.places.Unopened.{Unopened}
use Rattle.agent_run.specs.declared.ticking.Ticking.{Ticking}
use Rattle.agent_run.proofs.GeneratingLemmas.{all_given_first, ends_generated, refused_so}
use Rattle.agent_run.proofs.RunningLemmas.{home_but, opened_opens, opens_then}
use Rattle.agent_run.proofs.generating.gen_config.Goals as goal

-- what a generated clock tells
abbrev told : Ticking → Timed
told clock = record { moments = Some generated_moments; next = clock.next }

pub run_opened-left-requires-clause-parts : goal.run_opened-left-requires-clause-parts
run_opened-left-requires-clause-parts g c κs within = record {
  sources = c.in-Ok.inputs.ok.0 ∙ same_count unfailing (source_given c.args.lines) c.in-Ok.inputs.items
      c.as_slice.result.now c.in-Ok.ensures ∙ ap length c.as_slice.ensures;
  in_clocks = c.in-Ok-all_clocks_given.clocks.inputs.ok.0 ∙ same_count told (λ conf. clock_given)
      c.in-Ok-all_clocks_given.clocks.inputs.items c.args.config.now.inputs c.in-Ok-all_clocks_given.ensures.inputs;
  sinks = omega (
    arith,
    c.in-Ok-open_written.outputs.ok.0,
    c.in-Ok-open_written.ensures.opened.count,
    length-map c.in-Ok-open_written.outputs.items g.W.Out.Sink.told,
    length-map c.args.config.now.outputs (λ output. output.place),
  );
  out_clocks = c.in-Ok-all_clocks_given.ensures.outputs;
}

pub run_opened-left-requires-clause-first : goal.run_opened-left-requires-clause-first
run_opened-left-requires-clause-first g c κs within =
    all_given_first (map told c.in-Ok-all_clocks_given.clocks.inputs.items) c.args.config.now.inputs
    c.in-Ok-all_clocks_given.ensures.inputs

pub returns-in-Ok-open_written-clause-ends : goal.returns-in-Ok-open_written-clause-ends
returns-in-Ok-open_written-clause-ends g c = λ ne.
    let opened : Carries = record {
      sources = map unfailing c.in-Ok.inputs.items;
      sinks = map g.W.Out.Sink.told c.in-Ok-open_written.outputs.items;
      journal = g.W.Out.Sink.told c.in-Ok-open_written.journal;
    } in
    let times : Times = record {
      ins = map told c.in-Ok-all_clocks_given.clocks.inputs.items;
      timer = told c.in-Ok-all_clocks_given.clocks.timer;
    } in
    ends_generated c.args.config.now c.args.lines c.run_opened-left.result.1 (g.W.World.view c.args.world.now)
    (g.W.World.view c.run_opened-left.new.world) (g.W.World.view c.open_written.new.world) opened times
    c.run_opened-left.result.0.items c.in-Ok-open_written.ensures.opened c.open_written.ensures.only.report
    (c.in-Ok.ensures ∙ ap (sources_given c.args.lines) c.as_slice.ensures)
    c.in-Ok-all_clocks_given.ensures.inputs c.in-Ok-all_clocks_given.ensures.timer
    (c.run_opened-left.ensures.count ∙ same_count unfailing (source_given c.args.lines) c.in-Ok.inputs.items
    c.as_slice.result.now c.in-Ok.ensures ∙ ap length c.as_slice.ensures)
    c.run_opened-left.ensures.ends

pub returns-in-Ok-open_written-clause-opened : goal.returns-in-Ok-open_written-clause-opened
returns-in-Ok-open_written-clause-opened g c = λ other short. record {
  ins = λ q. ap (λ (p : Place). p.open_faults) (c.run_opened-left.ensures.only.ins q
      ∙ c.open_written.ensures.only.ins q);
  outs = opens_then (g.W.World.view c.args.world.now).outs (g.W.World.view c.open_written.new.world).outs
      (g.W.World.view c.run_opened-left.new.world).outs (opened_opens (out_places c.args.config.now) _
      (g.W.World.view c.args.world.now).outs (g.W.World.view c.open_written.new.world).outs
      c.in-Ok-open_written.ensures.opened) c.run_opened-left.ensures.opened;
}

pub returns-in-Ok-open_written-clause-home : goal.returns-in-Ok-open_written-clause-home
returns-in-Ok-open_written-clause-home g c =
    c.run_opened-left.ensures.home (home_but (out_places c.args.config.now) (g.W.World.view c.args.world.now).outs
    (g.W.World.view c.open_written.new.world).outs c.requires.outs c.in-Ok-open_written.ensures.opened.others)

pub returns-in-Err-Failed-clause-open : goal.returns-in-Err-Failed-clause-open
returns-in-Err-Failed-clause-open g c = λ e.
    refused_so c.args.config.now c.report_open_fault.result c.in-Err-Failed.place.now (g.W.World.view c.args.world.now)
    (g.W.World.view c.open_written.new.world) (g.W.World.view c.report_open_fault.new.world)
    (subst (λ (u : Unopened). AreRefused u (out_places c.args.config.now) (g.W.World.view c.args.world.now).outs
    (g.W.World.view c.open_written.new.world).outs) c.in-Err-Failed.field-0-is c.in-Err-Failed.ensures.refused)
    c.open_written.ensures.only.report c.report_open_fault.ensures.only.outs c.report_open_fault.ensures.answer e
