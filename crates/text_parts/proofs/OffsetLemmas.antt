-- What stands at an offset of a piece.
use Rattle.std.proofs.Common.{◌≡◌, ℕ, ℤ, ◌+◌, ◌*◌, ◌-◌, ◌^◌, ◌<◌, Bool, true, false, cond, List, [], ◌∷◌, ◌++◌, length}
use Rattle.std.proofs.Common.{get_or, take, take_all, drop, Result, Ok, Err, Option, Some, None, is_some, refl, sym, ap}
use Rattle.std.proofs.Common.{subst, ◌∙◌, add-zero, append_assoc, append-nil, arith, inl, inr}
use Rattle.std.specs.Prelude.{◌⊎◌, nat_lt}
use Rattle.std.specs.List.{AllByRecursion, before_first, position_or_len, join_with_byte}
use Rattle.std.proofs.lemmas.Bool.{eq-eqb}
use Rattle.std.proofs.lemmas.List.{take_at, get_or-drop, get_or-append-add, length-append, length-drop}
use Rattle.fixed_num.specs.declared.fixed.NumFault.{NumFault}
use Rattle.fixed_num.specs.declared.fixed.NumFault.TheVariants as numbers
use Rattle.fixed_num.specs.Decimal.{Decimal, decimal_of, billionths}
use Rattle.fixed_num.specs.Fixed.{read_as, fixed_of}
use Rattle.text_parts.specs.Grammar.{HasNone}
use Rattle.text_parts.specs.Split.{PartAt, is_byte, placed}
use Rattle.text_parts.specs.Offsets.{word_at, Follows, is_decimal}
use Rattle.text_parts.proofs.Splits.{none_at, found_at}
use Rattle.text_parts.proofs.Stands.{Spans}
use Rattle.text_parts.proofs.Takes.{At, step, over, at_byte}

-- ---- words

-- the rest is empty, or begins with a byte that passes the test
abbrev pub Begins : (ℕ → Bool) → List ℕ → Type 0
Begins p [] = Unit {0}
Begins p (b ∷ rest) = p b ≡ true

pub word_is : (p : ℕ → Bool) (piece : List ℕ) (offset : ℕ) (word rest : List ℕ) → drop offset piece ≡ word ++ rest
    → HasNone p word → Begins p rest → word_at p piece offset ≡ word
word_is p piece offset word [] is none begins =
    ap (λ (t : List ℕ). before_first p t) (is ∙ append-nil word)
    ∙ take_all (position_or_len p word) word (omega (arith, none_at p word none))
word_is p piece offset word (b ∷ rest) is none begins =
    ap (λ (t : List ℕ). before_first p t) is ∙ ap (λ (n : ℕ). take n (word ++ b ∷ rest))
    (found_at p word b rest none begins) ∙ take_at word (b ∷ rest) (length word) refl

-- where such a byte stands, or the piece ends, the word is empty
pub no_word : (p : ℕ → Bool) (bs : List ℕ) → (0 < length bs → p (get_or bs 0 0) ≡ true) → before_first p bs ≡ []
no_word p [] h = refl
no_word p (b ∷ bs) h = rw (h (omega arith)) refl

pub byte_there : (piece : List ℕ) (i : ℕ) → get_or (drop i piece) 0 0 ≡ get_or piece i 0
byte_there piece i = get_or-drop i piece 0 0 ∙ rw add-zero refl

-- ---- the byte before an offset

pub follows_byte : (byte : ℕ) (piece : List ℕ) (i : ℕ) → get_or piece i 0 ≡ byte → Follows byte piece (i + 1)
follows_byte byte piece i is =
    let before : i + 1 - 1 ≡ i = omega arith in
    record { some = omega arith; is = ap (λ (n : ℕ). get_or piece n 0) before ∙ is }

pub byte_behind : (w rest : List ℕ) (b : ℕ) → get_or (w ++ b ∷ rest) (length w) 0 ≡ b
byte_behind w rest b = ap (λ (n : ℕ). get_or (w ++ b ∷ rest) n 0) (sym (add-zero (length w)))
    ∙ get_or-append-add w (b ∷ rest) 0 0

-- behind a text that ends with a byte
pub follows_last : (piece : List ℕ) (i j b : ℕ) (w : List ℕ) → Spans piece i j (w ++ b ∷ []) → Follows b piece j
follows_last piece i j b w s =
    let size : length (drop i piece) ≡ length (w ++ b ∷ []) + length (drop j piece) =
    ap length s.is ∙ length-append (w ++ b ∷ []) (drop j piece) in
    let more = s.more in
    let within = s.within in
    let end : i + length w + 1 ≡ j = omega (
      arith,
      size,
      length-append w (b ∷ []),
      length-drop i piece,
      length-drop j piece,
    ) in
    let there : get_or piece (i + length w) 0 ≡ b =
    sym (get_or-drop i piece (length w) 0) ∙ ap (λ (t : List ℕ). get_or t (length w) 0)
    (s.is ∙ append_assoc w (b ∷ []) (drop j piece)) ∙ byte_behind w (drop j piece) b in
    let before : j - 1 ≡ i + length w = omega arith in
    record { some = omega arith; is = ap (λ (n : ℕ). get_or piece n 0) before ∙ there }

-- ---- parts between separators

-- where a part stands: the separator or what stands behind the last part follows it
pub record Standing (piece : List ℕ) (byte : ℕ) (tail : List ℕ) (part : PartAt) : Type 0 where
  pub rest : List ℕ
  pub at : At piece part.0 (part.1 ++ rest)
  pub behind : (rest ≡ tail) ⊎ ((others : List ℕ) × (rest ≡ byte ∷ others))
  pub lacks : HasNone (is_byte byte) part.1

-- B is so of the offset of the first part, and behind each separator
pub all_stand : (piece : List ℕ) (byte : ℕ) (tail : List ℕ) (B : ℕ → Type 0) → ((i : ℕ) → Follows byte piece i → B i)
    → (offset : ℕ) (texts : List (List ℕ)) → B offset → At piece offset (join_with_byte byte texts ++ tail)
    → AllByRecursion (HasNone (is_byte byte)) texts
    → AllByRecursion (λ (part : PartAt). B part.0 × Standing piece byte tail part) (placed offset texts)
all_stand piece byte tail B later offset [] first at lack = tt
all_stand piece byte tail B later offset (text ∷ []) first at lack =
    ((first, record { rest = tail; at = at; behind = inl refl; lacks = lack.0 }), tt)
all_stand piece byte tail B later offset (text ∷ next ∷ texts) first at lack =
    let others : List ℕ = join_with_byte byte (next ∷ texts) ++ tail in
    let here : At piece offset (text ++ byte ∷ (join_with_byte byte (next ∷ texts) ++ tail)) =
    rw (← append_assoc text (byte ∷ join_with_byte byte (next ∷ texts)) tail) at in
    let end = step piece offset text (byte ∷ (join_with_byte byte (next ∷ texts) ++ tail)) here in
    let there : get_or piece (offset + length text) 0 ≡ byte =
    at_byte piece (offset + length text) (byte ∷ (join_with_byte byte (next ∷ texts) ++ tail)) end in (
      (
        first,
        record {
          rest = byte ∷ (join_with_byte byte (next ∷ texts) ++ tail);
          at = here;
          behind = inr (others, refl);
          lacks = lack.0;
        },
      ),
      all_stand piece byte tail B later (offset + length text + 1) (next ∷ texts)
          (later (offset + length text + 1) (follows_byte byte piece (offset + length text) there))
          (over piece (offset + length text) byte (join_with_byte byte (next ∷ texts) ++ tail) end) lack.1,
    )

-- where the separator or an end of that kind follows the part, the part is the word there
pub standing_word : (byte : ℕ) (piece tail : List ℕ) (part : PartAt) → Begins (is_byte byte) tail
    → Standing piece byte tail part → word_at (is_byte byte) piece part.0 ≡ part.1
standing_word byte piece tail part begins s = word_is (is_byte byte) piece part.0 part.1 s.rest s.at.is s.lacks
    (end s.rest s.behind)
  where
    end : (rest : List ℕ) → (rest ≡ tail) ⊎ ((others : List ℕ) × (rest ≡ byte ∷ others)) → Begins (is_byte byte) rest
    end rest (inl e) = subst (Begins (is_byte byte)) (sym e) begins
    end rest (inr e) = subst (Begins (is_byte byte)) (sym e.1) (eq-eqb byte byte refl)

-- ---- numbers

-- the reading is no number exactly where the test fails
abbrev pub IsNumeric : {A : Type 0} → Bool → Result A NumFault → Type 0
IsNumeric t (Ok number) = t ≡ true
IsNumeric t (Err numbers.NotANumber) = t ≡ false
IsNumeric t (Err numbers.NumberRange) = t ≡ true

pub decimal_numeric : (text : List ℕ) → IsNumeric (is_decimal text) (read_as text)
decimal_numeric text = of_decimal (decimal_of text)
  where
    of_decimal : (o : Option Decimal) → IsNumeric (is_some o) (fixed_of o)
    of_decimal None = refl
    of_decimal (Some d) = in_range (nat_lt (billionths d) (2 ^ 64 * 10 ^ 9)) _
      where
        in_range : (t : Bool) (n : ℤ) → IsNumeric true (cond {A = Result ℤ NumFault} t (Ok n) (Err numbers.NumberRange))
        in_range true n = refl
        in_range false n = refl

-- a number that was read passes the test
pub numeric_ok : {A : Type 0} (t : Bool) (r : Result A NumFault) (n : A) → IsNumeric t r → r ≡ Ok n → t ≡ true
numeric_ok t (Ok m) n h e = h
numeric_ok t (Err f) n h e = absurd cc
