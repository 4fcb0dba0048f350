use Rattle.journal_text.proofs.KnownLemmas.{known_stays, nothing_stays}
use Rattle.journal_text.proofs.laws.known_stays.Goals as goal

pub returns-clause-known : goal.returns-clause-known
returns-clause-known c = known_stays

pub returns-clause-nothing : goal.returns-clause-nothing
returns-clause-nothing c = nothing_stays
