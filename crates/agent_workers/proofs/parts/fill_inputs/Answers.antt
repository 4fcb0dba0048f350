use Rattle.std.proofs.Common.{◌≡◌, ◌<◌, ◌∙◌, List, length, get_or, sym, ap, arith, rules}
use Rattle.agent_config.specs.declared.config.InputConf.{InputConf}
use Rattle.agent_workers.proofs.OpenedLemmas.{in_filled, in_filled_all, hands_next}
use Rattle.agent_workers.proofs.parts.fill_inputs.Goals as goal

pub in_job-requires-clause-none_read : goal.in_job-requires-clause-none_read
in_job-requires-clause-none_read g c =
    let within : c.loop-conf.conf-index < length c.args.config.now.inputs =
    omega (arith, c.loop-conf-test.true, ap (λ (xs : List InputConf). length xs) c.as_slice-conf-items.ensures) in
    let conf_is : c.conf-item.result ≡ get_or c.args.config.now.inputs c.loop-conf.conf-index c.conf-item.result =
    search rules in
    (hands_next c.loop-conf.conf-index c.args.config.now.inputs c.in-Some.taken _ c.conf-item.result within conf_is
    (sym c.in-Some.ensures.items ∙ c.loop-conf.invariant.pieces)).0

pub loop-conf-preserved : goal.loop-conf-preserved
loop-conf-preserved g c =
    let n = c.loop-conf.conf-index in
    let config = c.args.config.now in
    let within : n < length config.inputs = omega (
      arith,
      c.loop-conf-test.true,
      ap (λ (xs : List InputConf). length xs) c.as_slice-conf-items.ensures,
    ) in
    let conf_is : c.conf-item.result ≡ get_or config.inputs n c.conf-item.result = search rules in
    record {
      made = rw c.push_reserved.ensures.items
          (in_filled g.S.Source.told g.C.Clock.told config n c.len-input.result config.inputs c.loop-conf.jobs.items
          c.in_job.result c.in-Some-next.source _ c.in-Some-next-2.clock _ c.conf-item.result _
          within (omega (arith, c.len-input.ensures, c.loop-conf.invariant.jobs)) conf_is c.in_job.ensures
          (rw (c.in-Some-next.ensures.items, c.in-Some-next-2.ensures.items) at c.loop-conf.invariant.made));
      pieces = (hands_next n config.inputs c.in-Some.taken _ c.conf-item.result within conf_is
          (sym c.in-Some.ensures.items ∙ c.loop-conf.invariant.pieces)).1;
      sources = omega (arith, within, c.in-Some-next.ensures.len, c.loop-conf.invariant.sources);
      taken = omega (arith, within, c.in-Some.ensures.len, c.loop-conf.invariant.taken);
      clocks = omega (arith, within, c.in-Some-next-2.ensures.len, c.loop-conf.invariant.clocks);
      jobs = omega (arith, c.push_reserved.ensures.len, c.loop-conf.invariant.jobs);
      room = omega (arith, c.push_reserved.ensures.capacity, c.loop-conf.invariant.room);
    }

pub returns : goal.returns
returns g c =
    in_filled_all c.args.config.now c.loop-conf.conf-index c.args.config.now.inputs _ _ _ _
    (omega (arith, c.loop-conf-test.false, ap (λ (xs : List InputConf). length xs) c.as_slice-conf-items.ensures))
    c.loop-conf.invariant.made
