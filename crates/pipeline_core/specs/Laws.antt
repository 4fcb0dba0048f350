-- Laws of journals and of the words for what isn't built yet.
use Rattle.std.specs.Prelude.{◌≡◌, List, [], ◌∷◌, ◌++◌}
use Rattle.std.specs.List.{All}
use Rattle.std.specs.declared.option.Option.TheVariants.{None}
use Rattle.account.specs.Setup.{Setup}
use Rattle.account.specs.Origins.{groups}
use Rattle.account.specs.declared.entry.Entry.{Entry}
use Rattle.pipeline_core.specs.Groups.{reports_at}
use Rattle.pipeline_core.specs.Legal.{IsLegal}

-- where no input is tracked, a legal journal has no groups, and nothing settles in it
pub record NoGroups (setup : Setup) : Type 0 where
  pub groups : (journal : List Entry) → IsLegal setup journal → groups journal ≡ 0
  pub reports : (journal : List Entry) (e : Entry) → IsLegal setup (journal ++ e ∷ []) →
      reports_at setup journal e ≡ []

abbrev pub UntrackedHasNoGroups : Type 0
UntrackedHasNoGroups = (setup : Setup) → All (λ x. x ≡ None) setup.inputs → NoGroups setup
