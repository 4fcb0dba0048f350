use Rattle.std.proofs.Common.{◌≡◌, ◌<◌, List, length, get_or, ap, arith, rules}
use Rattle.agent_config.specs.declared.config.OutputConf.{OutputConf}
use Rattle.agent_workers.proofs.OpenedLemmas.{out_filled, out_filled_all}
use Rattle.agent_workers.proofs.parts.fill_outputs.Goals as goal

pub loop-conf-preserved : goal.loop-conf-preserved
loop-conf-preserved g c =
    let n = c.loop-conf.conf-index in
    let confs = c.args.config.now.outputs in
    let within : n < length confs = omega (
      arith,
      c.loop-conf-test.true,
      ap (λ (xs : List OutputConf). length xs) c.as_slice-conf-items.ensures,
    ) in
    let conf_is : c.conf-item.result ≡ get_or confs n c.conf-item.result = search rules in
    record {
      made = rw c.push_reserved.ensures.items
          (out_filled g.K.Sink.told n c.len-output.result confs c.loop-conf.jobs.items c.out_job.result c.in-Some.sink _
          c.conf-item.result _
          within (omega (arith, c.len-output.ensures, c.loop-conf.invariant.jobs)) conf_is c.out_job.ensures
          (rw c.in-Some.ensures.items at c.loop-conf.invariant.made));
      sinks = omega (arith, within, c.in-Some.ensures.len, c.loop-conf.invariant.sinks);
      clocks = omega (arith, within, c.in-Some-next.ensures.len, c.loop-conf.invariant.clocks);
      jobs = omega (arith, c.push_reserved.ensures.len, c.loop-conf.invariant.jobs);
      room = omega (arith, c.push_reserved.ensures.capacity, c.loop-conf.invariant.room);
    }

pub returns : goal.returns
returns g c =
    out_filled_all c.loop-conf.conf-index c.args.config.now.outputs _ _ _
    (omega (arith, c.loop-conf-test.false, ap (λ (xs : List OutputConf). length xs) c.as_slice-conf-items.ensures))
    c.loop-conf.invariant.made
