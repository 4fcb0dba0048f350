-- A line that is written has the words that it is written of.
use Rattle.std.proofs.Common.{◌≡◌, ℕ, ℤ, zero, suc, ◌/◌, ◌%◌, ◌<◌, ◌^◌, Bool, true, false, cond, ltb, not, List, []}
use Rattle.std.proofs.Common.{◌∷◌, ◌++◌, refl, ap}
use Rattle.std.proofs.Common.{Option, Some, ◌∙◌, arith, append_assoc}
use Rattle.std.specs.Prelude.{◌==◌, FitsSigned}
use Rattle.std.specs.Int.{w64}
use Rattle.std.specs.Fmt.{decimal, signed_decimal, digits, digits_onto, digit_glyph}
use Rattle.std.specs.List.{AllByRecursion, join_with_byte, list_all}
use Rattle.std.proofs.lemmas.Bool.{and_parts, lt-ltb}
use Rattle.std.proofs.Math.Nat.{mod-lt}
use Rattle.fixed_num.proofs.NumberBytes.{IsNumberByte}
use Rattle.text_parts.specs.Bytes.{space, newline}
use Rattle.text_parts.specs.Grammar.{HasNone}
use Rattle.text_parts.specs.Split.{is_byte}
use Rattle.text_parts.proofs.Lacking.{none_append, number_none}
use Rattle.text_parts.proofs.Splits.{joined_are_split}
use Rattle.metric.specs.declared.metric.Content.{Content}
use Rattle.metric.specs.Metric.{IsMetric}
use Rattle.journal_text.specs.MetricText.{metric_text}
use Rattle.journal_reader.specs.Words.{Parts, taken, behind, words_of}
use Rattle.journal_reader.proofs.WordLemmas.{same_bytes}
use Rattle.journal_reader.proofs.MetricAgain.{decimal_none, signed_none, metric_none, spaces_separate}
use Rattle.journal_reader.proofs.MetricAgain.{newlines_separate}
use Rattle.journal_reader.proofs.MetricAgain.{spaces_outside, newlines_outside, number_apart}

-- ---- words

-- neither a space nor a newline stands in a word
pub record Quiet (word : List ℕ) : Type 0 where
  pub spaces : HasNone (is_byte space) word
  pub newlines : HasNone (is_byte newline) word

pub lacks : (byte : ℕ) (word : List ℕ) → list_all (λ b. not (b == byte)) word ≡ true → HasNone (is_byte byte) word
lacks byte [] e = tt
lacks byte (b ∷ word) e =
    let parts = and_parts (not (b == byte)) (list_all (λ b. not (b == byte)) word) e in
    (differs (b == byte) parts.0, lacks byte word parts.1)
  where
    differs : (t : Bool) → not t ≡ true → t ≡ false
    differs true e = absurd cc
    differs false e = refl

-- a word that is written out
pub literal : (word : List ℕ) → list_all (λ b. not (b == space)) word ≡ true
    → list_all (λ b. not (b == newline)) word ≡ true → Quiet word
literal word spaces newlines =
    record { spaces = lacks space word spaces; newlines = lacks newline word newlines }

pub decimal_quiet : (n : ℕ) → n < 2 ^ 64 → Quiet (decimal n)
decimal_quiet n h =
    record { spaces = decimal_none space n spaces_separate h; newlines = decimal_none newline n newlines_separate h }

-- a number of any size
digit_byte : (n : ℕ) → IsNumberByte (digit_glyph false (n % 10))
digit_byte n =
    let rest : n % 10 < 10 = mod-lt n {m = 10} (omega arith) in
    let test : ltb (n % 10) 10 ≡ true = lt-ltb _ _ rest in
    rw test (omega arith, omega arith)

all_digits : (k n : ℕ) (after : List ℕ) → AllByRecursion IsNumberByte after
    → AllByRecursion IsNumberByte (digits_onto k 10 false n after)
all_digits zero n after h = h
all_digits (suc k) n after h =
    at (n / 10 == 0) (all_digits k (n / 10) (digit_glyph false (n % 10) ∷ after) (digit_byte n, h))
  where
    at : (t : Bool)
        → AllByRecursion IsNumberByte (digits_onto k 10 false (n / 10) (digit_glyph false (n % 10) ∷ after))
        → AllByRecursion IsNumberByte (cond t (digit_glyph false (n % 10) ∷ after)
        (digits_onto k 10 false (n / 10) (digit_glyph false (n % 10) ∷ after)))
    at true others = (digit_byte n, h)
    at false others = others

digit_bytes : (n : ℕ) → AllByRecursion IsNumberByte (decimal n)
unfolding digits
digit_bytes n = all_digits 64 n [] tt

pub index_quiet : (n : ℕ) → Quiet (decimal n)
index_quiet n = record {
  spaces = number_none (is_byte space) (λ b is. number_apart space b spaces_separate is) (decimal n) (digit_bytes n);
  newlines =
      number_none (is_byte newline) (λ b is. number_apart newline b newlines_separate is) (decimal n) (digit_bytes n);
}

pub signed_quiet : (z : ℤ) → FitsSigned w64 z → Quiet (signed_decimal z)
signed_quiet z h =
    record { spaces = signed_none space z spaces_separate h; newlines = signed_none newline z newlines_separate h }

pub metric_quiet : (m : Content) → IsMetric m → Quiet (metric_text m)
metric_quiet m h =
    record {
      spaces = metric_none space spaces_outside refl m h;
      newlines = metric_none newline newlines_outside refl m h;
    }

-- ---- lines

-- the line has these words, and no newline
pub record IsLine (line : List ℕ) (words : Parts) : Type 0 where
  pub is : words_of line ≡ words
  pub none : HasNone (is_byte newline) line

all_spaces : (words : Parts) → AllByRecursion Quiet words → AllByRecursion (HasNone (is_byte space)) words
all_spaces [] h = tt
all_spaces (word ∷ words) h = (h.0.spaces, all_spaces words h.1)

joined_none : (words : Parts) → AllByRecursion Quiet words → HasNone (is_byte newline) (join_with_byte space words)
joined_none [] h = tt
joined_none (word ∷ []) h = h.0.newlines
joined_none (word ∷ next ∷ words) h =
    none_append (is_byte newline) word (space ∷ join_with_byte space (next ∷ words)) h.0.newlines
    (refl, joined_none (next ∷ words) h.1)

-- words with a space between two of them
pub line_of : (first : List ℕ) (others : Parts) → AllByRecursion Quiet (first ∷ others)
    → IsLine (join_with_byte space (first ∷ others)) (first ∷ others)
line_of first others h = record {
  is = joined_are_split space first others (all_spaces (first ∷ others) h);
  none = joined_none (first ∷ others) h;
}

-- words, each behind a space, and a newline
abbrev pub spaced_end : Parts → List ℕ
spaced_end [] = newline ∷ []
spaced_end (word ∷ words) = space ∷ (word ++ spaced_end words)

pub join_end : (first : List ℕ) (words : Parts)
    → join_with_byte space (first ∷ words) ++ newline ∷ [] ≡ first ++ spaced_end words
join_end first [] = refl
join_end first (next ∷ words) =
    append_assoc first (space ∷ join_with_byte space (next ∷ words)) (newline ∷ [])
    ∙ ap (λ (t : List ℕ). first ++ (space ∷ t)) (join_end next words)

-- ---- taking words

pub taken_is : {A : Type 0} (says : List ℕ → Option A) (word : List ℕ) (words : Parts) (x : A) → says word ≡ Some x
    → taken says (word ∷ words) ≡ Some (x, words)
taken_is says word words x e = rw e refl

pub behind_is : (text : List ℕ) (words : Parts) → behind text (text ∷ words) ≡ Some words
unfolding behind
behind_is text words = rw (same_bytes text) refl
