-- The entries behind the Stop.
use Rattle.std.specs.Prelude.{List, [], ◌∷◌, if◌then◌else◌}
use Rattle.pipeline_core.specs.Legal.{is_stop}
use Rattle.account.specs.declared.entry.Entry.{Entry}

-- the entries behind the Stop; none where there is no Stop
unfoldable pub behind_stop : List Entry → List Entry
behind_stop [] = []
behind_stop (e ∷ es) = if is_stop e then es else behind_stop es
