-- How many plugins a value stands for.
use Rattle.std.proofs.Common.{◌≡◌, List, [], ◌∷◌, length, refl, arith}
use Rattle.toml.specs.View.{items_view}
use Rattle.toml.specs.declared.value.Value.{Value}
use Rattle.agent_config.specs.Naming.{items_count}

pub items_count-view : (values : List Value) → items_count (items_view values) ≡ length values
items_count-view [] = refl
items_count-view (v ∷ values) = omega (arith, items_count-view values)
