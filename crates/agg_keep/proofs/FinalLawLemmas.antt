-- Each emit gives what its closing gives of its members.
use Rattle.std.proofs.Common.{ℤ, List, [], ◌∷◌, ◌++◌}
use Rattle.metric.specs.declared.metric.Content.{Content}
use Rattle.agg_keep.specs.Final.{left_of}
use Rattle.agg_keep.specs.FinalKept.{FinalMemory, FinalStandsFor}
use Rattle.agg_keep.specs.FinalLaws.{CallsFinal, EmitFinals, FinalCall, FinalGoes, Add, Emit}

from : (timeout : ℤ) (members : List Content) (first last : FinalMemory) (calls : List FinalCall)
    → FinalStandsFor timeout members first → FinalGoes first calls last → EmitFinals timeout members calls
unfolding EmitFinals FinalGoes
from timeout members first last [] h goes = tt
from timeout members first last (Add m ∷ calls) h goes =
    from timeout (members ++ m ∷ []) goes.0 last calls (goes.1 timeout members h) goes.2
from timeout members first last (Emit closing made ∷ calls) h goes =
    let emitted = goes.1 timeout members h in
    (emitted.0, from timeout (left_of timeout closing members) goes.0 last calls emitted.1 goes.2)

pub calls_final : CallsFinal
calls_final = λ timeout first last calls h goes. from timeout [] first last calls h goes
