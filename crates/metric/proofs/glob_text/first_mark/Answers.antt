use Rattle.metric.proofs.GlobTextLemmas.{escaped, unescaped, brace, bare}
use Rattle.metric.proofs.glob_text.first_mark.Goals as goal

pub returns-in_default-clause-value : goal.returns-in_default-clause-value
returns-in_default-clause-value c = unescaped _ _ c.if-first-eq92.true c.in_default.ensures

pub returns-then-first-eq92-clause-value : goal.returns-then-first-eq92-clause-value
returns-then-first-eq92-clause-value c = escaped _ _ _ _ c.if-first-eq92.true c.in-Some.ensures

pub returns-then-first-eq123-clause-value : goal.returns-then-first-eq123-clause-value
returns-then-first-eq123-clause-value c = brace _ _ c.then-first-eq123.either

pub returns-clause-value : goal.returns-clause-value
returns-clause-value c = bare _ _ c.if-first-eq92.false c.if-first-eq123.false c.if-first-eq125.false
