use Rattle.std.proofs.Common.{◌≡◌, ◌+◌, length}
use Rattle.std.specs.List.{slice_split}
use Rattle.text_parts.specs.Bytes.{newline}
use Rattle.text_parts.specs.Split.{is_byte}
use Rattle.journal_reader.specs.Reading.{lines_read, lines_left}
use Rattle.journal_reader.proofs.WholeLemmas.{Wholes}
use Rattle.journal_reader.proofs.read.read_behind.Given as goal

abbrev pub invariant-loop-behind : goal.invariant-loop-behind
invariant-loop-behind l = record {
  places : l.place + length l.rest ≡ l.size;
  read : lines_read l.size l.place l.state (slice_split (is_byte newline) l.rest) ≡ lines_left l.size l.start l.text;
  whole : Wholes l.state;
}

abbrev pub decreases-loop-behind : goal.decreases-loop-behind
decreases-loop-behind l = length l.rest
