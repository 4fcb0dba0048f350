-- A text that is written with escapes is read as it.
use Rattle.std.proofs.Common.{◌≡◌, ℕ, ◌+◌, ◌*◌, ◌/◌, ◌%◌, ◌<◌, Bool, true, false, cond, List, [], ◌∷◌, ◌++◌}
use Rattle.std.proofs.Common.{Some, ltb, inl, inr, refl, sym, ap, subst, ◌∙◌, arith}
use Rattle.std.proofs.lemmas.Nat.{div_below}
use Rattle.std.proofs.Math.Nat.{mod-lt}
use Rattle.fixed_num.proofs.NumberBytes.{all_append}
use lib.Utf8.{scalar, scalars, encode, encodes, next, scalar_cases}
use Rattle.std.specs.Prelude.{◌==◌, ◌||◌, nat_eq}
use Rattle.std.specs.List.{AllByRecursion, list_all}
use Rattle.std.specs.Str.{IsUtf8}
use Rattle.std.proofs.lemmas.Bool.{agree_below_at, eqb-true, ltb-true, and_parts}
use Rattle.std.proofs.lemmas.Str.{is_utf8-from_IsUtf8}
use Rattle.text_parts.specs.Grammar.{HasNone}
use Rattle.text_parts.proofs.Lacking.{none_append}
use Rattle.metric.specs.Plain.{is_plain}
use Rattle.journal_text.specs.MetricText.{hex_digit, byte_text, escaped}
use Rattle.journal_reader.specs.MetricReading.{digit_of, unescaped, text_of, percent}

-- ---- what stands in a text with escapes

-- a plain byte, or `%`
unfoldable pub is_safe : ℕ → Bool
is_safe b = is_plain b || b == percent

safe_bytes : (b : ℕ) → b < 256 → list_all is_safe (byte_text b) ≡ true
unfolding is_safe is_plain byte_text hex_digit
safe_bytes b h = agree_below_at (λ k. list_all is_safe (byte_text k)) (λ _. true) 256 b refl h

none_safe : (p : ℕ → Bool) → ((b : ℕ) → is_safe b ≡ true → p b ≡ false) → (bs : List ℕ) → list_all is_safe bs ≡ true
    → HasNone p bs
none_safe p apart [] e = tt
none_safe p apart (b ∷ bs) e =
    let parts = and_parts (is_safe b) (list_all is_safe bs) e in (apart b parts.0, none_safe p apart bs parts.1)

-- bytes are below 256
pub AreBytes : List ℕ → Type 0
AreBytes bs = AllByRecursion (λ b. b < 256) bs

-- none of the bytes that stand between the parts of a metric and of a line
pub escaped_none : (p : ℕ → Bool) → ((b : ℕ) → is_safe b ≡ true → p b ≡ false) → (bs : List ℕ) → AreBytes bs
    → HasNone p (escaped bs)
unfolding escaped AreBytes
escaped_none p apart [] h = tt
escaped_none p apart (b ∷ bs) h =
    none_append p (byte_text b) (escaped bs) (none_safe p apart (byte_text b) (safe_bytes b h.0))
    (escaped_none p apart bs h.1)

-- ---- reading it

-- a byte that is no `%` stands for itself
bare : (b : ℕ) (bs : List ℕ) → (b == percent) ≡ false → unescaped (b ∷ bs) ≡ b ∷ unescaped bs
unfolding unescaped
bare b [] e = refl
bare b (c ∷ []) e = refl
bare b (c ∷ d ∷ bs) e = rw e refl

-- the digits of a byte are those that are read as it
digits : (b : ℕ) → b < 256 → digit_of (hex_digit (b / 16)) * 16 + digit_of (hex_digit (b % 16)) ≡ b
unfolding hex_digit digit_of
digits b h =
    eqb-true _ _ (agree_below_at
    (λ k. nat_eq (digit_of (hex_digit (k / 16)) * 16 + digit_of (hex_digit (k % 16))) k) (λ _. true) 256 b refl h)

plain_no_percent : (b : ℕ) → b < 256 → (cond (is_plain b) (b == percent) false) ≡ false
unfolding is_plain
plain_no_percent b h = agree_below_at (λ k. cond (is_plain k) (k == percent) false) (λ _. false) 256 b refl h

escape : (b : ℕ) (rest : List ℕ) → b < 256
    → unescaped (37 ∷ hex_digit (b / 16) ∷ hex_digit (b % 16) ∷ rest) ≡ b ∷ unescaped rest
unfolding unescaped
escape b rest h = ap (λ (k : ℕ). k ∷ unescaped rest) (digits b h)

one_byte : (b : ℕ) (rest : List ℕ) → b < 256 → unescaped (byte_text b ++ rest) ≡ b ∷ unescaped rest
unfolding byte_text
one_byte b rest h = at (is_plain b) refl
  where
    at : (plain : Bool) → is_plain b ≡ plain
        → unescaped (cond plain (b ∷ []) (37 ∷ hex_digit (b / 16) ∷ hex_digit (b % 16) ∷ []) ++ rest)
        ≡ b ∷ unescaped rest
    at true is = bare b rest (sym (ap (λ (t : Bool). cond t (b == percent) false) is) ∙ plain_no_percent b h)
    at false is = escape b rest h

pub unescaped_again : (bs : List ℕ) → AreBytes bs → unescaped (escaped bs) ≡ bs
unfolding escaped unescaped AreBytes
unescaped_again [] h = refl
unescaped_again (b ∷ bs) h =
    one_byte b (escaped bs) h.0 ∙ ap (λ (rest : List ℕ). b ∷ rest) (unescaped_again bs h.1)

pub text_again : (text : List ℕ) → IsUtf8 text → AreBytes text → text_of (escaped text) ≡ Some text
unfolding text_of
text_again text utf8 bytes = rw (unescaped_again text bytes, is_utf8-from_IsUtf8 text utf8) refl

-- ---- the bytes of UTF-8 are below 256

next_fits : (n : ℕ) → next n < 256
next_fits n = let rest : n % 64 < 64 = mod-lt n {m = 64} (omega arith) in omega arith

encode_bytes : (c : ℕ) → c < 1114112 → AreBytes (encode c)
unfolding encode AreBytes
encode_bytes c small = at (ltb c 128) (ltb c 2048) (ltb c 65536) refl refl refl
  where
    at : (one two three : Bool) → ltb c 128 ≡ one → ltb c 2048 ≡ two → ltb c 65536 ≡ three
        → AllByRecursion (λ b. b < 256) (cond one (c ∷ []) (cond two ((192 + c / 64) ∷ next c ∷ [])
        (cond three ((224 + c / 4096) ∷ next (c / 64) ∷ next c ∷ [])
        ((240 + c / 262144) ∷ next (c / 4096) ∷ next (c / 64) ∷ next c ∷ []))))
    at true two three e f g = (omega (arith, ltb-true _ _ e), tt)
    at false true three e f g =
        let q : c / 64 < 32 = div_below c 64 32 (omega arith) (omega (arith, ltb-true _ _ f)) in
        (omega arith, (next_fits c, tt))
    at false false true e f g =
        let q : c / 4096 < 16 = div_below c 4096 16 (omega arith) (omega (arith, ltb-true _ _ g)) in
        (omega arith, (next_fits (c / 64), (next_fits c, tt)))
    at false false false e f g =
        let q : c / 262144 < 5 = div_below c 262144 5 (omega arith) (omega arith) in
        (omega arith, (next_fits (c / 4096), (next_fits (c / 64), (next_fits c, tt))))

scalar_small : (c : ℕ) → scalar c ≡ true → c < 1114112
scalar_small c e = elim (scalar_cases c e) [ inl h ↦ omega arith | inr h ↦ h.1 ]

both_bytes : (xs ys : List ℕ) → AreBytes xs → AreBytes ys → AreBytes (xs ++ ys)
unfolding AreBytes
both_bytes xs ys first second = all_append (λ b. b < 256) xs ys first second

encoded_bytes : (cs : List ℕ) → scalars cs ≡ true → AreBytes (encodes cs)
unfolding AreBytes
encoded_bytes [] e = tt
encoded_bytes (c ∷ cs) e =
    let parts = and_parts (scalar c) (scalars cs) e in
    both_bytes (encode c) (encodes cs) (encode_bytes c (scalar_small c parts.0)) (encoded_bytes cs parts.1)

pub utf8_bytes : (text : List ℕ) → IsUtf8 text → AreBytes text
utf8_bytes text h = subst AreBytes h.1.1 (encoded_bytes h.0 h.1.0)
