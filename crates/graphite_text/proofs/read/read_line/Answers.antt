use Rattle.std.proofs.Common.{◌≡◌, true, rules}
use Rattle.std.specs.Str.{is_utf8}
use Rattle.text_parts.proofs.Utf8Readings.{answers, utf8_gives}
use Rattle.graphite_text.specs.Reading.{text_reading, reading}
use Rattle.graphite_text.proofs.read.read_line.Goals as goal

pub returns : goal.returns
unfolding reading
returns c =
    let is : (c.in_ok-text.text.now ≡ c.args.piece.now) × (is_utf8 c.args.piece.now ≡ true) = search rules in
    rw c.answer.ensures (answers _ (λ x. x) c.read_text-read.result
    (reading c.args.templates.now c.args.separator.now c.args.piece.now c.args.moment)
    (utf8_gives (λ x. x) (text_reading c.args.templates.now c.args.separator.now) _ c.args.piece.now
    c.in_ok-text.text.now c.args.moment c.read_text-read.result is c.ranges.moment c.read_text-read.ensures))
