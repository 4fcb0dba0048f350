-- The moment that counts.
use Rattle.std.proofs.Common.{◌≡◌, ℤ, List, [], ◌∷◌, refl}
use Rattle.account.specs.declared.entry.Entry.{Entry}
use Rattle.account.specs.declared.entry.Entry.TheVariants.{Gather, Ended, Take, Route, Tick, Stop, Begin, Done}
use Rattle.agent_base.specs.Clocked.{last_of}
use Rattle.pipeline_core.specs.Legal.{counted_from}
use Rattle.account.specs.EntryMoments.{counted_moments}

-- the moment that counts is the last one of those that were counted
pub counted_from-last : (counted : ℤ) (es : List Entry) → counted_from counted es ≡ last_of counted (counted_moments es)
unfolding counted_from counted_moments
counted_from-last counted [] = refl
counted_from-last counted (Gather input moment pieces refused passed filtered metrics group reports ∷ es) =
    counted_from-last counted es
counted_from-last counted (Ended input ∷ es) = counted_from-last counted es
counted_from-last counted (Take item ∷ es) = counted_from-last counted es
counted_from-last counted (Route item whole verdict aggs outs reports ∷ es) = counted_from-last counted es
counted_from-last counted (Tick moment made ∷ es) = counted_from-last moment es
counted_from-last counted (Stop moment made ∷ es) = counted_from-last moment es
counted_from-last counted (Begin output from to ∷ es) = counted_from-last counted es
counted_from-last counted (Done output ok reports ∷ es) = counted_from-last counted es
