use Rattle.track_groups.proofs.SettlingLemmas.{none_goes, one_goes}
use Rattle.track_groups.proofs.laws.law_copies.Goals as goal

pub returns : goal.returns
returns c = record { none = none_goes; one = one_goes }
