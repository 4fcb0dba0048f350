-- What becomes of the routed metrics adds up.
use Rattle.std.specs.Prelude.{◌≡◌, ℕ, List}
use Rattle.account.specs.Numbers.{sum_of_fates}
use Rattle.account.specs.declared.entry.Entry.{Entry}
use Rattle.pipeline_core.specs.Totals.{output_total, total_by, routed_by}

-- At each output the numbers of all fates add up to the routed metrics.
abbrev pub FatesAddUp : Type 0
FatesAddUp =
    (limit output : ℕ) (journal : List Entry) →
    sum_of_fates (output_total limit output journal) ≡ total_by routed_by journal
