use Rattle.std.proofs.Common.{◌≡◌, ◌≤◌, ◌+◌, ◌-◌, ◌%◌, arith, length, ◌∙◌}
use Rattle.std.proofs.lemmas.List.{length-set}
use Rattle.agent_config.proofs.DecimalLemmas.{digits-set, place_more}
use Rattle.agent_config.proofs.sums.add_places.Goals as goal

pub loop-at-preserved : goal.loop-at-preserved
loop-at-preserved c =
    let l = c.loop-at in
    let sum = c.place_sum-sum.result in
    let small : sum % 10 ≤ 9 = omega arith in
    let one : l.at ≡ l.at - 1 + 1 = omega arith in
    record {
      within = omega arith;
      len = length-set l.places (l.at - 1) (sum % 10) ∙ l.invariant.len;
      small = omega arith;
      digits = digits-set l.places (l.at - 1) (sum % 10) l.invariant.digits small;
      value = place_more l.places c.args.digits.now (length c.args.places.now) l.at
          (l.at - 1) c.args.unit l.carry _ sum
          l.invariant.len one (omega arith) c.requires.fits c.place_sum-sum.ensures.value l.invariant.value;
    }
