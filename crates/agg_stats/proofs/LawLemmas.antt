-- Each emit gives the fold of its members.
use Rattle.std.proofs.Common.{List, [], ◌∷◌, ◌++◌}
use Rattle.metric.specs.declared.metric.Content.{Content}
use Rattle.agg_stats.specs.Kept.{Memory, StandsFor}
use Rattle.agg_stats.specs.Laws.{AreFew, CallsFold, EmitFolds, Goes, StatsCall, Add, Emit}
use Rattle.agg_stats.specs.declared.kind.StatsKind.{StatsKind}

from : (kind : StatsKind) (members : List Content) (first last : Memory) (calls : List StatsCall)
    → StandsFor kind members first → Goes first calls last → AreFew members calls → EmitFolds kind members calls
unfolding EmitFolds Goes AreFew
from kind members first last [] h goes few = tt
from kind members first last (Add m ∷ calls) h goes few =
    from kind (members ++ m ∷ []) goes.0 last calls (goes.1 kind members h few.0) goes.2 few.1
from kind members first last (Emit time made ∷ calls) h goes few =
    let emitted = goes.1 kind members h in
    (emitted.0, from kind [] goes.0 last calls emitted.1 goes.2 few)

pub calls_fold : CallsFold
calls_fold = λ kind first last calls h goes few. from kind [] first last calls h goes few
