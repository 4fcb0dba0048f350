use Rattle.std.proofs.Common.{◌≡◌, ◌∙◌, Some, option_map, ap, sym, arith}
use Rattle.toml.specs.Data.{as_array}
use Rattle.toml.specs.View.{array_view, items_view, view}
use Rattle.agent_config.specs.Naming.{count_by, items_count}
use Rattle.agent_config.proofs.NameLemmas.{items_count-view}
use Rattle.agent_config.proofs.naming.count_in.Goals as goal

pub returns-in-Some : goal.returns-in-Some
returns-in-Some c =
    let items = c.in-Some.items.now in
    let there : Some (items_view items.items) ≡ as_array (view c.args.value.now) =
    ap (option_map (λ list. array_view list.now)) (sym c.in-Some.is) ∙ c.as_array.ensures in
    let counted : c.len.result ≡ items_count (items_view items.items) =
    omega (arith, c.len.ensures, items.ok, items_count-view items.items) in
    counted ∙ ap count_by there
