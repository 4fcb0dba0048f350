-- The elements of a list, however it is kept.
use Rattle.std.specs.Prelude.{List}
use Rattle.fixed_num.specs.declared.seq.Kept.{Kept}
use Rattle.fixed_num.specs.declared.seq.Kept.TheVariants.{One, Many}

-- one element stands in place, and any number of them in a vector
abbrev pub kept_items : {T : Type 0} → Kept T → List T
kept_items (One item) = item
kept_items (Many items) = items.items
