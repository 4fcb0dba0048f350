-- The views that are handed out.
use Rattle.std.specs.Prelude.{List, [], ◌∷◌}
use Rattle.std.specs.declared.option.Option.{Option}
use Rattle.metric.specs.declared.metric.Content.{Content}
use Rattle.pipeline_core.specs.declared.room.Views.{Views}
use Rattle.pipeline_core.specs.declared.room.Views.TheVariants.{One, Several}

-- one for each output, in order
abbrev pub listed_views : Views → List (Option Content)
listed_views (One view) = view ∷ []
listed_views (Several views) = views.items
