use Rattle.std.proofs.Common.{◌≡◌, ◌+◌, length, List, ℕ, Option, Some, None, inr, sym, ◌∙◌}
use Rattle.std.specs.Borrow.{Bor}
use Rattle.text_parts.specs.Bytes.{newline}
use Rattle.text_parts.specs.Split.{first_part}
use Rattle.journal_reader.specs.declared.fault.JournalKind.TheVariants.{BadEntry}
use Rattle.journal_reader.specs.Reading.{lines_left}
use Rattle.journal_reader.specs.Steps.{after}
use Rattle.journal_reader.proofs.ReadLemmas.{answers_as, no_line_left, none_behind_it, some_behind_it, if_some_is}
use Rattle.journal_reader.proofs.ReadLemmas.{made_none, made_some, fault_is, answer_whole, line_bad, line_goes_on}
use Rattle.journal_reader.proofs.ReadLemmas.{places_go}
use Rattle.journal_reader.proofs.WholeLemmas.{after_whole}
use Rattle.journal_reader.proofs.read.read_behind.Goals as goal

pub returns-in_default-clause-reads : goal.returns-in_default-clause-reads
returns-in_default-clause-reads c =
    let line = c.first_part.result.0.now in
    let first = none_behind_it line c.first_part.result.1 (first_part newline c.loop-behind.rest.now)
    c.first_part.ensures.value c.in_default.is in
    answers_as _ c.answer_of.result (lines_left c.args.size c.args.start c.args.text.now)
    (no_line_left c.args.size c.loop-behind.place c.loop-behind.state c.loop-behind.rest.now line
    (lines_left c.args.size c.args.start c.args.text.now) first c.loop-behind.invariant.read
    ∙ sym c.answer_of.ensures)

pub returns-in_default-clause-whole : goal.returns-in_default-clause-whole
returns-in_default-clause-whole c =
    answer_whole c.args.size c.loop-behind.place c.loop-behind.state c.first_part.result.0.now c.answer_of.result
    c.loop-behind.invariant.whole c.answer_of.ensures

pub returns-in-Ok-false-clause-reads : goal.returns-in-Ok-false-clause-reads
returns-in-Ok-false-clause-reads c =
    let line = c.first_part.result.0.now in
    let first = some_behind_it line c.first_part.result.1 c.in-Some.behind (first_part newline c.loop-behind.rest.now)
    c.first_part.ensures.value c.in-Some.is in
    let none : after c.loop-behind.state line ≡ None =
    made_none c.in-Ok-false.field-0 (after c.loop-behind.state line) c.take_line.new.self c.in-Ok-false.field-0-test
    c.in-Ok-false.ensures in
    inr (line_bad c.args.size c.loop-behind.place c.loop-behind.state c.loop-behind.rest.now line c.in-Some.behind.now
    (lines_left c.args.size c.args.start c.args.text.now) first none c.loop-behind.invariant.read
    ∙ fault_is c.fault.result BadEntry c.loop-behind.place c.fault.ensures.kind c.fault.ensures.place)

pub loop-behind-preserved : goal.loop-behind-preserved
loop-behind-preserved c =
    let line = c.first_part.result.0.now in
    let behind = c.in-Some.behind.now in
    let first = some_behind_it line c.first_part.result.1 c.in-Some.behind (first_part newline c.loop-behind.rest.now)
    c.first_part.ensures.value c.in-Some.is in
    let made : after c.loop-behind.state line ≡ Some c.take_line.new.self =
    made_some c.in-Ok-true.field-0 (after c.loop-behind.state line) c.take_line.new.self c.in-Ok-true.field-0-test
    c.in-Ok-true.ensures in
    record {
      places =
          places_go c.loop-behind.place c.args.size (length c.loop-behind.rest.now) (length line) (length behind)
          c.loop-behind.invariant.places
          (if_some_is (λ (rest : Bor (List ℕ)). length line + length rest.now + 1 ≡ length c.loop-behind.rest.now)
          c.first_part.result.1 c.in-Some.behind c.in-Some.is c.first_part.ensures.rest);
      read =
          line_goes_on c.args.size c.loop-behind.place c.loop-behind.state c.take_line.new.self c.loop-behind.rest.now
          line
          behind (lines_left c.args.size c.args.start c.args.text.now) first made c.loop-behind.invariant.read;
      whole = after_whole c.loop-behind.state c.take_line.new.self line c.loop-behind.invariant.whole made;
    }
