use Rattle.std.proofs.Common.{◌≡◌, true, false, arith, rules, ap, ◌∙◌, option_map, pos}
use Rattle.agent_config.specs.Durations.{whole_of}
use Rattle.agent_config.specs.Pairs.{pair_view}
use Rattle.agent_config.specs.Sums.{places_len, value_of}
use Rattle.agent_config.proofs.TimeLemmas.{begin, ends_at, next, none_left, some_left, stops_at, too_long_at}
use Rattle.agent_config.proofs.times.time_of_pairs.Goals as goal

pub loop-rest-init : goal.loop-rest-init
loop-rest-init c = record {
  so_far = begin c.args.text.now c.as_bytes-rest.result.now
      (value_of c.in_ok-sum.sum) c.as_bytes-rest.ensures.value
      c.in_ok-sum.ensures.value;
  len = c.in_ok-sum.ensures.len ∙ c.as_bytes-rest.ensures.len;
  within = omega arith;
  digits = c.in_ok-sum.ensures.digits;
}

pub returns-in_default : goal.returns-in_default
returns-in_default c =
    let l = c.loop-rest in
    let test : c.is_empty.result ≡ false = search rules in
    let some = some_left c.is_empty.result l.rest.now c.is_empty.ensures test in
    ap (option_map (λ x. pos x))
    (stops_at c.args.text.now l.rest.now (value_of l.sum) l.invariant.so_far some c.in_default.ensures.value)

pub returns-then-not-add : goal.returns-then-not-add
returns-then-not-add c =
    let l = c.loop-rest in
    let test : c.is_empty.result ≡ false = search rules in
    let some = some_left c.is_empty.result l.rest.now c.is_empty.ensures test in
    ap (option_map (λ x. pos x))
    (too_long_at c.args.text.now l.rest.now (value_of l.sum) (places_len l.sum) (pair_view c.in-Some.pair)
    l.invariant.so_far some c.in-Some.ensures.value l.invariant.len c.if-not-add.ensures.value)

pub loop-rest-preserved : goal.loop-rest-preserved
loop-rest-preserved c =
    let l = c.loop-rest in
    let test : c.is_empty.result ≡ false = search rules in
    let some = some_left c.is_empty.result l.rest.now c.is_empty.ensures test in
    record {
      so_far = next c.args.text.now l.rest.now (value_of l.sum) (value_of c.add.new.sum) (places_len l.sum)
          (pair_view c.in-Some.pair) l.invariant.so_far some c.in-Some.ensures.value l.invariant.len
          c.if-not-add.ensures.value c.in-Some.ensures.behind;
      len = c.if-not-add.ensures.len ∙ l.invariant.len;
      within = omega (arith, c.in-Some.ensures.behind);
      digits = c.if-not-add.ensures.digits;
    }

pub returns : goal.returns
returns c =
    let l = c.loop-rest in
    let test : c.is_empty.result ≡ true = search rules in
    let none = none_left c.is_empty.result l.rest.now c.is_empty.ensures test in
    c.time.ensures
    ∙ ap (λ n. option_map (λ x. pos x) (whole_of n (value_of l.sum))) l.invariant.len
    ∙ ap (option_map (λ x. pos x)) (ends_at c.args.text.now l.rest.now
    (value_of l.sum) l.invariant.so_far none)
