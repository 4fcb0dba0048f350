use Rattle.journal_text.proofs.JournalLemmas.{text_grows, fronts_stay}
use Rattle.journal_text.proofs.laws.text_grows.Goals as goal

pub returns-clause-one : goal.returns-clause-one
returns-clause-one c = text_grows

pub returns-clause-fronts : goal.returns-clause-fronts
returns-clause-fronts c = fronts_stay
