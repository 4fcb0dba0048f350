use Rattle.std.proofs.Common.{◌≡◌, ℕ, ℤ, true, List, Result, rules}
use Rattle.std.specs.Str.{is_utf8}
use Rattle.text_parts.proofs.Utf8Readings.{answers, utf8_gives}
use Rattle.openmetrics_text.specs.declared.exposition.Exposition.{Exposition}
use Rattle.openmetrics_text.specs.declared.fault.ExpositionFault.{ExpositionFault}
use Rattle.openmetrics_text.specs.Reading.{text_reading, reading}
use Rattle.openmetrics_text.proofs.read.read_exposition.Goals as goal

pub returns : goal.returns
unfolding reading
returns c =
    let is : (c.in_ok-text.text.now ≡ c.args.piece.now) × (is_utf8 c.args.piece.now ≡ true) = search rules in
    let read : List ℕ → ℤ → Result Exposition ExpositionFault =
    λ text moment. text_reading text moment c.args.type_tag c.args.pass_out_of_range in
    rw c.answer.ensures (answers _ (λ x. x) c.read_text-read.result
    (reading c.args.piece.now c.args.moment c.args.type_tag c.args.pass_out_of_range)
    (utf8_gives (λ x. x) read _ c.args.piece.now c.in_ok-text.text.now c.args.moment c.read_text-read.result is
    c.ranges.moment c.read_text-read.ensures))
