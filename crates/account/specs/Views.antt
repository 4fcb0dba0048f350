-- What aggregators and outputs see of an item.
use Rattle.std.specs.Prelude.{◌≡◌, List}
use Rattle.std.specs.List.{AllByRecursion}
use Rattle.std.specs.declared.option.Option.{Option}
use Rattle.std.specs.declared.option.Option.TheVariants.{Some, None}
use Rattle.metric.specs.declared.metric.Content.{Content}

-- all views are none where the whole is none
abbrev pub HasViews : Option Content → List (Option Content) → Type 0
HasViews None views = AllByRecursion (λ (view : Option Content). view ≡ None) views
HasViews (Some whole) views = Unit {0}
