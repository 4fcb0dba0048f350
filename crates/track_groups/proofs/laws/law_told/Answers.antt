use Rattle.track_groups.proofs.CopyLemmas.{all_told, still_tracks}
use Rattle.track_groups.proofs.laws.law_told.Goals as goal

pub returns : goal.returns
returns c = record { told = all_told; tracks = still_tracks }
