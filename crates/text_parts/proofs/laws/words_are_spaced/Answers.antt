use Rattle.text_parts.proofs.WordTexts as words
use Rattle.text_parts.proofs.laws.words_are_spaced.Goals as goal

pub returns-clause-words : goal.returns-clause-words
returns-clause-words c = words.spaced_are_words

pub returns-clause-spaced : goal.returns-clause-spaced
returns-clause-spaced c = words.words_are_spaced
