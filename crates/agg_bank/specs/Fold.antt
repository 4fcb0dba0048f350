-- How what the code keeps of members is seen.
use Rattle.agg_bank.specs.Bank.{FoldMemory, OfFinal, OfMerge, OfStats}
use Rattle.agg_bank.specs.declared.fold.Fold.{Fold}
use Rattle.agg_bank.specs.declared.fold.Fold.TheVariants.{Stats, Merge, Final}

abbrev pub memory_of : Fold → FoldMemory
memory_of (Stats memory) = OfStats memory
memory_of (Merge memory) = OfMerge memory
memory_of (Final memory) = OfFinal memory
