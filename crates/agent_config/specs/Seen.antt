-- Borrowed values as what they are.
use Rattle.std.specs.Borrow.{Bor}
use Rattle.std.specs.BTreeMap.{BTreeMap}
use Rattle.std.specs.Prelude.{ℕ, List, map, String}
use Rattle.std.specs.declared.alloc.Global.{Global}
use Rattle.toml.specs.Data.{Members}
use Rattle.toml.specs.View.{table_view}
use Rattle.toml.specs.declared.value.Value.{Value}

-- the texts that references lead to
abbrev pub now_of : List (Bor (List ℕ)) → List (List ℕ)
now_of texts = map (λ text. text.now) texts

-- the tables that references lead to
abbrev pub tables_view : List (Bor (BTreeMap (String Global) Value)) → List Members
tables_view tables = map (λ table. table_view table.now) tables
