use Rattle.std.proofs.Common.{◌≡◌, true, false, refl, sym, ap, ◌∙◌, option_map, pos}
use Rattle.std.specs.List.{list_all}
use Rattle.std.specs.Prelude.{◌==◌}
use Rattle.agent_config.specs.Sums.{places_len}
use Rattle.agent_config.proofs.DecimalLemmas.{whole_not, whole_there}
use Rattle.agent_config.proofs.sums.time.Goals as goal

pub returns-then-are_zero : goal.returns-then-are_zero
returns-then-are_zero c =
    let sum = c.args.sum.now in
    let zeros : list_all (λ d. d == 0) sum.places.items ≡ true =
    ap (list_all (λ d. d == 0)) (sym c.as_slice.ensures.value) ∙ sym c.are_zero.ensures
    ∙ c.if-are_zero.true in
    c.fitting.ensures
    ∙ sym (ap (option_map (λ x. pos x)) (whole_there (places_len sum) sum.whole sum.places.items zeros))

pub returns-else-are_zero : goal.returns-else-are_zero
returns-else-are_zero c =
    let sum = c.args.sum.now in
    let some : list_all (λ d. d == 0) sum.places.items ≡ false =
    ap (list_all (λ d. d == 0)) (sym c.as_slice.ensures.value) ∙ sym c.are_zero.ensures
    ∙ c.if-are_zero.false in
    sym (ap (option_map (λ x. pos x))
    (whole_not (places_len sum) sum.whole sum.places.items refl c.requires some))
