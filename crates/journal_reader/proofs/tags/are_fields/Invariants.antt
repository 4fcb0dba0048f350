use Rattle.std.proofs.Common.{◌≡◌, take, true}
use Rattle.journal_reader.proofs.KeyLemmas.{all_filled}
use Rattle.journal_reader.proofs.MarkLemmas.{seen, marked_keys}
use Rattle.journal_reader.proofs.tags.are_fields.Given as goal

-- the keys so far are filled, and are there with their marks
abbrev pub invariant-loop-key : goal.invariant-loop-key
invariant-loop-key l = record {
  filled : all_filled (take l.key-index l.fields) ≡ true;
  marked : seen l.keys.items ≡ marked_keys (take l.key-index l.fields);
}
