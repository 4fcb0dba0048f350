-- How many metrics an exposition says at most: a sample has four bytes with its newline.
use Rattle.std.proofs.Common.{◌≡◌, ◌≤◌, ◌+◌, ◌*◌, ℕ, ℤ, Bool, List, [], ◌∷◌, ◌++◌, length, refl, ap, ◌∙◌, arith}
use Rattle.std.proofs.Common.{length-append, Result, Ok, Err}
use Rattle.std.specs.Prelude.{codes, IfOk}
use Rattle.std.specs.List.{flat_map}
use Rattle.std.proofs.lemmas.List.Concat.{flat_map-cons}
use Rattle.std.proofs.lemmas.Nat.{le-div}
use Rattle.fixed_num.specs.Decimal.{decimal_of}
use Rattle.metric.specs.Draft.{Tag}
use Rattle.openmetrics_text.specs.declared.exposition.Exposition.{Exposition}
use Rattle.openmetrics_text.specs.declared.fault.ExpositionFault.{ExpositionFault}
use Rattle.openmetrics_text.specs.declared.number.Number.{Number}
use Rattle.openmetrics_text.specs.declared.number.Number.TheVariants.{Decimal, NoDecimal, OutOfRange}
use Rattle.openmetrics_text.specs.Grammar.{WrittenLine, TypeLine, HelpLine, UnitLine, OtherLine, SampleLine, line_text}
use Rattle.openmetrics_text.specs.Grammar.{with_newline, end_text, braces_text, time_text, exemplar_text, IsLine}
use Rattle.openmetrics_text.specs.Grammar.{AreLines}
use Rattle.openmetrics_text.specs.Lines.{LineSays, Typed, Nothing, Sampled}
use Rattle.openmetrics_text.specs.Reading.{contents_by, contents_of, metrics_from, reading}
use Rattle.openmetrics_text.specs.Sample.{Said, number_of}
use Rattle.openmetrics_text.specs.Types.{type_of}
use Rattle.openmetrics_text.specs.Grammar.{SaysAtMost, most_said}
use Rattle.openmetrics_text.proofs.Wholes.{read_is_written}

number_filled : (text : List ℕ) (n : _) → number_of text ≡ Ok n → 1 ≤ length text
unfolding number_of decimal_of
number_filled (b ∷ text) n e = omega arith
number_filled [] n e = absurd cc

sample_long : (passing : Bool) (line : WrittenLine) (said : Said) → IsLine passing line (Sampled said)
    → 3 ≤ length (line_text line)
sample_long passing (TypeLine name kind) said h = absurd (let z : Sampled said ≡ Typed name kind = h.2 in cc)
sample_long passing (HelpLine name text) said h = absurd (let z : Sampled said ≡ Nothing = h.1 in cc)
sample_long passing (UnitLine name text) said h = absurd (let z : Sampled said ≡ Nothing = h.1 in cc)
sample_long passing (OtherLine text) said h = absurd (let z : Sampled said ≡ Nothing = h.1 in cc)
sample_long passing (SampleLine sample) said h =
    omega (
      arith,
      length-append sample.name (braces_text sample.labels ++ 32 ∷
          (sample.number ++ (time_text sample.time ++ exemplar_text sample.exemplar))),
      length-append (braces_text sample.labels) (32 ∷ (sample.number
          ++ (time_text sample.time ++ exemplar_text sample.exemplar))),
      length-append sample.number (time_text sample.time ++ exemplar_text sample.exemplar),
      h.1.name.filled,
      number_filled sample.number h.1.number h.1.is_number,
    )

contents_one : (moment : ℤ) (typed : Bool) (kind : List ℕ) (said : Said) (number : Number)
    → length (contents_by moment typed kind said number) ≤ 1
contents_one moment typed kind said (Decimal number) = omega arith
contents_one moment typed kind said NoDecimal = omega arith
contents_one moment typed kind said OutOfRange = omega arith

lines_more : (line : WrittenLine) (lines : List WrittenLine)
    → length (flat_map with_newline (line ∷ lines)) ≡ length (line_text line) + 1 + length (flat_map with_newline lines)
lines_more line lines =
    ap length (flat_map-cons with_newline line lines) ∙ length-append (with_newline line) (flat_map with_newline lines)
    ∙ ap (λ (n : ℕ). n + length (flat_map with_newline lines)) (length-append (line_text line) (10 ∷ []))

lines_long : (passing : Bool) (moment : ℤ) (typed : Bool) (types : List Tag) (lines : List WrittenLine)
    (says : List LineSays) → AreLines passing lines says → 4 * length (metrics_from moment typed types says) ≤ length
    (flat_map with_newline lines)
unfolding metrics_from
lines_long passing moment typed types [] [] h = omega arith
lines_long passing moment typed types [] (x ∷ says) h = absurd h
lines_long passing moment typed types (line ∷ lines) [] h = absurd h
lines_long passing moment typed types (line ∷ lines) (Typed name kind ∷ says) h =
    omega (arith, lines_more line lines, lines_long passing moment typed (types ++ (name, kind) ∷ []) lines says h.2)
lines_long passing moment typed types (line ∷ lines) (Nothing ∷ says) h =
    omega (arith, lines_more line lines, lines_long passing moment typed types lines says h.2)
lines_long passing moment typed types (line ∷ lines) (Sampled said ∷ says) h =
    omega (
      arith,
      lines_more line lines,
      lines_long passing moment typed types lines says h.2,
      sample_long passing line said h.1,
      contents_one moment typed (type_of said.name types) said said.number,
      length-append (contents_of moment typed (type_of said.name types) said) (metrics_from moment typed types says),
    )

exposition_long : (piece : List ℕ) (moment : ℤ) (typed passing : Bool) (exposition : Exposition)
    → reading piece moment typed passing ≡ Ok exposition → 4 * length exposition.metrics ≤ length piece
exposition_long piece moment typed passing exposition e =
    let w = read_is_written piece moment typed passing exposition e in
    omega (
      arith,
      ap length w.3,
      length-append (flat_map with_newline w.0) (codes "# EOF" ++ end_text w.2),
      lines_long passing moment typed [] w.0 w.1 w.5,
      ap (λ (x : Exposition). length x.metrics) w.6,
    )

pub says_at_most : SaysAtMost
says_at_most piece moment typed passing = go (reading piece moment typed passing) refl
  where
    go : (r : Result Exposition ExpositionFault) → reading piece moment typed passing ≡ r
        → IfOk r (λ exposition. length exposition.metrics ≤ most_said (length piece))
    go (Ok exposition) e = le-div (length exposition.metrics) (length piece) 4 (omega arith)
        (omega (arith, exposition_long piece moment typed passing exposition e))
    go (Err f) e = tt
