-- How many metrics a line says at most: a part has a bar and a type.
use Rattle.std.proofs.Common.{◌≡◌, ◌≤◌, ◌+◌, ◌*◌, ℕ, ℤ, Bool, true, false, cond, List, [], ◌∷◌, ◌++◌, length, map, refl}
use Rattle.std.proofs.Common.{ap, arith, length-append, Result, Ok, Err, Some}
use Rattle.std.specs.Prelude.{IfOk}
use Rattle.std.specs.List.{join_with_byte}
use Rattle.std.specs.Str.{is_utf8}
use Rattle.std.specs.Str.Lossy.{utf8_valid_len}
use Rattle.std.proofs.lemmas.List.{length-map}
use Rattle.std.proofs.lemmas.Nat.{le-div}
use Rattle.metric.specs.declared.metric.Content.{Content}
use Rattle.statsd_text.specs.declared.fault.StatsdFault.{StatsdFault}
use Rattle.statsd_text.specs.declared.fault.StatsdKind.TheVariants.{NotUtf8}
use Rattle.statsd_text.specs.Said.{type_of}
use Rattle.statsd_text.specs.Sections.{fault}
use Rattle.statsd_text.specs.Reading.{content_of, is_blank, line_reading, text_reading, reading}
use Rattle.statsd_text.specs.Grammar.{WrittenPart, part_spelling, rate_spelling, IsPart, AreParts}
use Rattle.statsd_text.specs.Grammar.{Written, head_spelling, parts_spelling, end_spelling, line_spelling, IsLine}
use Rattle.statsd_text.specs.Grammar.{given_end}
use Rattle.statsd_text.specs.Grammar.{SaysAtMost, most_said}
use Rattle.statsd_text.proofs.Founds.{read_is_written}

type_filled : (text : List ℕ) (kind : _) → type_of text ≡ Some kind → 1 ≤ length text
unfolding type_of
type_filled [] kind e = absurd cc
type_filled (b ∷ text) kind e = omega arith

part_long : (w : WrittenPart) (said : _) → IsPart w said → 2 ≤ length (part_spelling w)
part_long w said h =
    omega (
      arith,
      length-append w.value (124 ∷ (w.type_text ++ rate_spelling w.rate)),
      length-append w.type_text (rate_spelling w.rate),
      type_filled w.type_text said.metric_type h.named,
    )

parts_long : (ws : List WrittenPart) (said : _) → AreParts ws said
    → 3 * length said ≤ length (join_with_byte 58 (map part_spelling ws)) + 1
parts_long [] [] h = omega arith
parts_long [] (x ∷ said) h = absurd h
parts_long (w ∷ ws) [] h = absurd h
parts_long (w ∷ []) (x ∷ []) h = omega (arith, part_long w x h.0)
parts_long (w ∷ []) (x ∷ y ∷ said) h = absurd h.1
parts_long (w ∷ v ∷ ws) (x ∷ []) h = absurd h.1
parts_long (w ∷ v ∷ ws) (x ∷ y ∷ said) h =
    omega (
      arith,
      part_long w x h.0,
      parts_long (v ∷ ws) (y ∷ said) h.1,
      length-append (part_spelling w) (58 ∷ join_with_byte 58 (map part_spelling (v ∷ ws))),
    )

spelled_long : (w : Written) (said : _) → IsLine w said → 3 * length said ≤ length (line_spelling w)
spelled_long w said h =
    omega (
      arith,
      length-append (head_spelling w) (58 ∷ (parts_spelling w ++ end_spelling w.later)),
      length-append (parts_spelling w) (end_spelling w.later),
      parts_long (w.first ∷ w.others) said h.parts,
    )

none_long : (piece : List ℕ) (metrics : List Content) → (let r : Result (List Content) StatsdFault = Ok [] in
    r) ≡ Ok metrics → 3 * length metrics ≤ length piece
none_long piece metrics e = let none : [] ≡ metrics = cc in omega (arith, ap (λ (ms : List Content). length ms) none)

blank_none : (piece : List ℕ) (moment : ℤ) (metrics : List Content) → is_blank piece ≡ true
    → reading piece moment ≡ Ok metrics → 3 * length metrics ≤ length piece
unfolding reading text_reading
blank_none piece moment metrics b e =
    elim (is_utf8 piece) as (λ t. cond t (cond (is_blank piece) (Ok []) (line_reading piece moment))
    (fault NotUtf8 (utf8_valid_len piece)) ≡ Ok metrics → 3 * length metrics ≤ length piece) [
      | true ↦ λ k. none_long piece metrics (rw b at k)
      | false ↦ λ k. absurd cc
    ] e

line_long : (piece : List ℕ) (moment : ℤ) (metrics : List Content) → reading piece moment ≡ Ok metrics
    → 3 * length metrics ≤ length piece
line_long piece moment metrics e = go (is_blank piece) refl
  where
    go : (b : Bool) → is_blank piece ≡ b → 3 * length metrics ≤ length piece
    go true blank = blank_none piece moment metrics blank e
    go false some =
        let w = read_is_written piece moment metrics some e in
        omega (
          arith,
          ap length w.2,
          ap (λ (ms : List Content). length ms) w.6,
          length-map w.1 (content_of w.0.name (w.0.tags ++ given_end w.0.later) moment),
          spelled_long w.0 w.1 w.4,
        )

pub says_at_most : SaysAtMost
says_at_most piece moment = go (reading piece moment) refl
  where
    go : (r : Result (List Content) StatsdFault) → reading piece moment ≡ r
        → IfOk r (λ metrics. length metrics ≤ most_said (length piece))
    go (Ok metrics) e = le-div (length metrics) (length piece) 3 (omega arith)
        (omega (arith, line_long piece moment metrics e))
    go (Err f) e = tt
