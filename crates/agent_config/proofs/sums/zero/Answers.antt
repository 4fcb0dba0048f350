use Rattle.std.proofs.Common.{◌≡◌, arith, ap, ◌∙◌}
use Rattle.std.specs.Prelude.{replicate}
use Rattle.agent_config.specs.Sums.{weight}
use Rattle.agent_config.proofs.DecimalLemmas.{weight_zeros}
use Rattle.agent_config.proofs.sums.zero.Goals as goal

pub returns-clause-value : goal.returns-clause-value
returns-clause-value c =
    let made = c.in_ok-from_elem.field-0 in
    let items : made.items
    ≡ replicate c.args.places 0 = c.in_ok-from_elem.ensures.items_if_clones_equal (λ y e. e) in
    let none : weight made.items ≡ 0 = ap weight items ∙ weight_zeros c.args.places in
    omega (arith, none)
