-- Names end where a character does.
use Rattle.std.proofs.Common.{◌≡◌, ℕ, zero, suc, ◌+◌, ◌<◌, ◌≤◌, Bool, false, List, length, get_or, subst, arith}
use Rattle.std.specs.List.{position_or_len}
use Rattle.std.specs.Str.{IsUtf8, IsCharBoundary}
use Rattle.std.proofs.lemmas.Bool.Decides.{nat_tests}
use Rattle.std.proofs.lemmas.Str.{IsCharBoundary-after_ascii, IsCharBoundary-start}
use Rattle.std.proofs.lemmas.List.Sums.{fails_before_first}
use Rattle.openmetrics_text.specs.declared.names.Alphabet.{Alphabet}
use Rattle.openmetrics_text.specs.declared.names.Alphabet.TheVariants.{Labels, Samples}
use Rattle.openmetrics_text.specs.Names.{ends, ends_label, ends_name}
use Rattle.text_parts.proofs.Spans.{position_or_len_le}

-- behind bytes that are ASCII
pub ascii_boundary : (text : List ℕ) (n : ℕ) → IsUtf8 text → n ≤ length text → ((k : ℕ) → k < n → get_or text k 0 < 128)
    → IsCharBoundary text n
ascii_boundary text zero u within low = IsCharBoundary-start text u
ascii_boundary text (suc n) u within low =
    let e : n + 1 ≡ suc n = omega arith in
    subst (IsCharBoundary text) e (IsCharBoundary-after_ascii text n u (omega arith) (low n (omega arith)))

-- the alphabets are ASCII
label_low : (b : ℕ) → ends_label b ≡ false → b < 128
label_low b e = grind (arith, nat_tests)

name_low : (b : ℕ) → ends_name b ≡ false → b < 128
name_low b e = grind (arith, nat_tests)

pub alphabet_low : (alphabet : Alphabet) (b : ℕ) → ends alphabet b ≡ false → b < 128
alphabet_low Labels b e = label_low b e
alphabet_low Samples b e = name_low b e

pub front_boundary : (p : ℕ → Bool) → ((b : ℕ) → p b ≡ false → b < 128) → (text : List ℕ) → IsUtf8 text
    → IsCharBoundary text (position_or_len p text)
front_boundary p low text u = ascii_boundary text (position_or_len p text) u (position_or_len_le p text)
    (λ k lt. low (get_or text k 0) (fails_before_first p text k 0 lt))
