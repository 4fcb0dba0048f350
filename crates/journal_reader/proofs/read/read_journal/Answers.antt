use Rattle.std.proofs.Common.{◌≡◌, length, false, true, inr, sym, subst, ◌+◌, ◌∙◌, Result, List, ℕ}
use Rattle.text_parts.specs.Answers.{Answers}
use Rattle.text_parts.specs.Bytes.{newline}
use Rattle.text_parts.specs.Split.{first_part}
use Rattle.journal_reader.specs.declared.fault.JournalFault.{JournalFault}
use Rattle.journal_reader.specs.declared.fault.JournalKind.TheVariants.{BadHeader}
use Rattle.journal_reader.specs.declared.fault.TheConstants.{NO_MEMORY}
use Rattle.journal_reader.specs.declared.read.Journal.{Journal}
use Rattle.journal_reader.specs.Reading.{reading, lines_left}
use Rattle.journal_reader.proofs.ReadLemmas.{no_line, other_line, version_line, none_behind_it, some_behind_it}
use Rattle.journal_reader.proofs.ReadLemmas.{fault_is}
use Rattle.journal_reader.proofs.read.read_journal.Goals as goal

pub returns-in_default-clause-reads : goal.returns-in_default-clause-reads
returns-in_default-clause-reads c =
    let line = c.first_part.result.0.now in
    let first = none_behind_it line c.first_part.result.1 (first_part newline c.args.text.now)
    c.first_part.ensures.value c.in_default.is in
    inr (no_line c.args.text.now line first
    ∙ fault_is c.fault.result BadHeader 0 c.fault.ensures.kind c.fault.ensures.place)

pub returns-then-not-is-clause-reads : goal.returns-then-not-is-clause-reads
returns-then-not-is-clause-reads c =
    let line = c.first_part.result.0.now in
    let first = some_behind_it line c.first_part.result.1 c.in-Some.behind (first_part newline c.args.text.now)
    c.first_part.ensures.value c.in-Some.is in
    inr (other_line c.args.text.now line c.in-Some.behind.now first (sym c.is.ensures ∙ c.if-not-is.true)
    ∙ fault_is c.fault-then-not-is.result BadHeader 0 c.fault-then-not-is.ensures.kind
    c.fault-then-not-is.ensures.place)

pub returns-clause-reads : goal.returns-clause-reads
returns-clause-reads c =
    let line = c.first_part.result.0.now in
    let first = some_behind_it line c.first_part.result.1 c.in-Some.behind (first_part newline c.args.text.now)
    c.first_part.ensures.value c.in-Some.is in
    subst (λ (r : Result Journal JournalFault). Answers NO_MEMORY (λ x. x) c.read_behind.result r)
    (sym (version_line c.args.text.now line c.in-Some.behind.now first (sym c.is.ensures ∙ c.if-not-is.false)))
    c.read_behind.ensures.reads
