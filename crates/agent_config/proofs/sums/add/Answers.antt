use Rattle.std.proofs.Common.{◌≡◌, ◌+◌, ◌*◌, ◌<◌, ◌^◌, length, arith, ap, sym, ◌∙◌, rules}
use Rattle.std.proofs.lemmas.List.{take_at}
use Rattle.std.specs.Vec.{with_items}
use Rattle.agent_config.specs.Durations.{longest, number_behind}
use Rattle.agent_config.specs.Pairs.{pair_view}
use Rattle.agent_config.specs.Sums.{places_len, weight}
use Rattle.agent_config.proofs.DecimalLemmas.{added, same_total, too_many, too_much}
use Rattle.agent_config.proofs.sums.add.Goals as goal

pub returns-in_default-clause-value : goal.returns-in_default-clause-value
returns-in_default-clause-value c =
    let sum = c.args.sum.now in
    too_many (places_len sum) sum.whole (pair_view c.args.pair.now) sum.places.items c.requires.fits
    c.requires.unit.0 c.in_default.ensures

pub returns-then-whole-from-clause-value : goal.returns-then-whole-from-clause-value
returns-then-whole-from-clause-value c =
    let sum = c.args.sum.now in
    let pair = c.args.pair.now in
    let total = c.from.result + c.from-2.result * c.from-3.result + c.from-4.result in
    let is : total ≡ sum.whole + number_behind 0 pair.whole.now * pair.unit + c.add_places-carry.result =
    same_total _ _ _ _ _ _ _ _ c.from.ensures (c.from-2.ensures ∙ c.in-Some.ensures) c.from-3.ensures
    c.from-4.ensures in
    let long : longest < total = omega arith in
    too_much (places_len sum) sum.whole c.add_places-carry.result total (pair_view pair) sum.places.items
    c.add_places-carry.new.places c.requires.fits
    (rw c.as_mut_slice.ensures.value at c.add_places-carry.ensures.value) is long

pub returns-clause-value : goal.returns-clause-value
returns-clause-value c =
    let sum = c.args.sum.now in
    let pair = c.args.pair.now in
    let after = c.add_places-carry.new.places in
    let total = c.from.result + c.from-2.result * c.from-3.result + c.from-4.result in
    let is : total ≡ sum.whole + number_behind 0 pair.whole.now * pair.unit + c.add_places-carry.result =
    same_total _ _ _ _ _ _ _ _ c.from.ensures (c.from-2.ensures ∙ c.in-Some.ensures) c.from-3.ensures
    c.from-4.ensures in
    let len : length after ≡ places_len sum = search rules in
    let items : (with_items sum.places after).items ≡ after =
    take_at after _ sum.places.len (len ∙ sym sum.places.ok.0) in
    ap (λ places. total * 10 ^ length places + weight places) items
    ∙ ap (λ n. total * 10 ^ n + weight after) len
    ∙ ap (λ t. t * 10 ^ places_len sum + weight after) is
    ∙ added (places_len sum) sum.whole c.add_places-carry.result (pair_view pair) sum.places.items after
    c.requires.fits (rw c.as_mut_slice.ensures.value at c.add_places-carry.ensures.value)
