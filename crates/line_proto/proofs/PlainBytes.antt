-- Bytes that pass no test.
use Rattle.std.proofs.Common.{◌≡◌, ℕ, zero, suc, Bool, true, false, List, [], ◌∷◌, ◌++◌, get_or, reverse, refl, sym}
use Rattle.std.proofs.Common.{subst, arith}
use Rattle.std.specs.Prelude.{◌||◌, ◌==◌, nat_lt}
use Rattle.std.specs.List.{list_any, list_all, prefix_len}
use Rattle.std.specs.Str.{IsUtf8, IsAscii}
use Rattle.std.proofs.lemmas.Bool.{or_parts, and_parts, ltb-true}
use Rattle.std.proofs.lemmas.List.{reverse-append}
use Rattle.std.proofs.lemmas.Str.{IsUtf8-append, IsUtf8-from_ascii}
use Rattle.text_parts.specs.Grammar.{HasNone}
use Rattle.text_parts.proofs.Lacking.{none_append}
use Rattle.line_proto.specs.OneLine.{ends_line}
use Rattle.metric.specs.declared.value.Value.{Value}
use Rattle.metric.specs.declared.value.Value.TheVariants.{Int, Uint, Fixed, «Bool» as Truth, Text}

-- ---- bytes that pass no test

pub none_at : (p : ℕ → Bool) (xs : List ℕ) (k : ℕ) → p 0 ≡ false → HasNone p xs → p (get_or xs k 0) ≡ false
none_at p [] k past h = past
none_at p (x ∷ xs) zero past h = h.0
none_at p (x ∷ xs) (suc k) past h = none_at p xs k past h.1

none_reverse : (p : ℕ → Bool) (xs : List ℕ) → HasNone p xs → HasNone p (reverse xs)
none_reverse p [] h = tt
none_reverse p (x ∷ xs) h = subst (HasNone p) (sym (reverse-append (x ∷ []) xs))
    (none_append p (reverse xs) (x ∷ []) (none_reverse p xs h.1) (h.0, tt))

none_front : (p : ℕ → Bool) (xs : List ℕ) → HasNone p xs → prefix_len p xs ≡ 0
none_front p [] h = refl
none_front p (x ∷ xs) h = rw h.0 refl

-- ---- what a test is made of

first_false : (a b : Bool) → (a || b) ≡ false → a ≡ false
first_false a b e = (or_parts a b e).0

last_false : (a b : Bool) → (a || b) ≡ false → b ≡ false
last_false a b e = (or_parts a b e).1

-- a backslash or a double quote
abbrev pub is_refused : ℕ → Bool
is_refused b = b == 92 || b == 34

-- neither an end of a line nor one of these
abbrev pub is_unclean : ℕ → Bool
is_unclean b = ends_line b || is_refused b

unclean : (a b c : Bool) → (a || b || c) ≡ false → (b || c) ≡ false
unclean a b c e = let front = or_parts (a || b) c e in rw ((or_parts a b front.0).1, front.1) refl

unclean_line : (b : ℕ) → is_unclean b ≡ false → ends_line b ≡ false
unclean_line b e = first_false (ends_line b) (is_refused b) e

unclean_refused : (b : ℕ) → is_unclean b ≡ false → is_refused b ≡ false
unclean_refused b e = last_false (ends_line b) (is_refused b) e

unclean_backslash : (b : ℕ) → is_unclean b ≡ false → (b == 92) ≡ false
unclean_backslash b e = first_false (b == 92) (b == 34) (unclean_refused b e)

-- ---- clean texts

-- a value that is no text
abbrev pub IsNoText : Value → Type 0
IsNoText (Int n) = Unit {0}
IsNoText (Uint n) = Unit {0}
IsNoText (Fixed n) = Unit {0}
IsNoText (Truth b) = Unit {0}
IsNoText (Text text) = ⊥

-- UTF-8 in one line without these
pub record Clean (text : List ℕ) : Type 0 where
  pub utf8 : IsUtf8 text
  pub none : HasNone is_unclean text

pub clean-append : (xs ys : List ℕ) → Clean xs → Clean ys → Clean (xs ++ ys)
clean-append xs ys x y = record {
  utf8 = IsUtf8-append xs ys x.utf8 y.utf8;
  none = none_append is_unclean xs ys x.none y.none;
}

pub clean_none : Clean []
clean_none = record { utf8 = ([], (refl, refl)); none = tt }

-- a word of ASCII that is given
pub clean_word : (word : List ℕ) → list_all (λ b. nat_lt b 128) word ≡ true → list_any is_unclean word ≡ false
    → Clean word
clean_word word low none = record { utf8 = IsUtf8-from_ascii word (ascii word low); none = none_of word none }
  where
    ascii : (word : List ℕ) → list_all (λ b. nat_lt b 128) word ≡ true → IsAscii word
    ascii [] low k = omega arith
    ascii (b ∷ bs) low zero = ltb-true b 128 (and_parts (nat_lt b 128) (list_all (λ b. nat_lt b 128) bs) low).0
    ascii (b ∷ bs) low (suc k) = ascii bs (and_parts (nat_lt b 128) (list_all (λ b. nat_lt b 128) bs) low).1 k

    none_of : (word : List ℕ) → list_any is_unclean word ≡ false → HasNone is_unclean word
    none_of [] none = tt
    none_of (b ∷ bs) none = let parts = or_parts (is_unclean b) (list_any is_unclean bs) none in
        (parts.0, none_of bs parts.1)
