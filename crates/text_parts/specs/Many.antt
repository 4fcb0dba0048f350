-- A list of items of one kind, each behind a separator.
use Rattle.std.specs.Prelude.{ℕ, zero, suc, ◌+◌, ◌==◌, List, [], ◌∷◌, length, Result, Ok, slice_index}
use Rattle.std.specs.Prelude.{if◌then◌else◌}
use Rattle.text_parts.specs.Chain.{◌>>=◌}

-- a reader of items of a piece: from an offset, the item and the offset behind it
abbrev pub Reader : Type 0 → Type 0 → Type 0
Reader A F = List ℕ → ℕ → Result (A × ℕ) F

-- the items from an offset on, each behind the separator, and the offset behind them; there are at most n
unfoldable pub many_at : {A F : Type 0} → Reader A F → ℕ → ℕ → List ℕ → ℕ → Result (List A × ℕ) F
many_at item_at separator zero piece i = Ok ([], i)
many_at item_at separator (suc n) piece i =
    if slice_index piece i == separator then (do
      first ← item_at piece (i + 1)
      others ← many_at item_at separator n piece first.1
      Ok (first.0 ∷ others.0, others.1))
    else Ok ([], i)

-- all items from an offset on, each behind the separator, and the offset behind them
abbrev pub items_at : {A F : Type 0} → Reader A F → ℕ → Reader (List A) F
items_at item_at separator piece i = many_at item_at separator (length piece) piece i

-- one item or more, with separators between them, and the offset behind them
abbrev pub some_items_at : {A F : Type 0} → Reader A F → ℕ → Reader (List A) F
some_items_at item_at separator piece i = do
  first ← item_at piece i
  others ← items_at item_at separator piece first.1
  Ok (first.0 ∷ others.0, others.1)
