-- Each emit gives the merge of its members.
use Rattle.std.proofs.Common.{List, [], ◌∷◌, ◌++◌}
use Rattle.metric.specs.declared.metric.Content.{Content}
use Rattle.agg_keep.specs.MergeKept.{MergeMemory, MergeStandsFor}
use Rattle.agg_keep.specs.MergeLaws.{CallsMerge, EmitMerges, MergeCall, MergeGoes, Add, Emit}

from : (members : List Content) (first last : MergeMemory) (calls : List MergeCall) → MergeStandsFor members first
    → MergeGoes first calls last → EmitMerges members calls
unfolding EmitMerges MergeGoes
from members first last [] h goes = tt
from members first last (Add m ∷ calls) h goes =
    from (members ++ m ∷ []) goes.0 last calls (goes.1 members h) goes.2
from members first last (Emit made ∷ calls) h goes =
    let emitted = goes.1 members h in
    (emitted.0, from [] goes.0 last calls emitted.1 goes.2)

pub calls_merge : CallsMerge
calls_merge = λ first last calls h goes. from [] first last calls h goes
