-- Texts without their escapes, as the code reads them.
use Rattle.std.proofs.Common.{◌≡◌, ℕ, suc, ◌+◌, ◌-◌, ◌*◌, ◌<◌, ◌≤◌, Bool, true, false, List, [], ◌∷◌, ◌++◌, length}
use Rattle.std.proofs.Common.{get_or}
use Rattle.std.proofs.Common.{take, drop, take_all, Option, Some, None, refl, sym, ap, subst, ◌∙◌, arith}
use Rattle.std.specs.Prelude.{◌==◌}
use Rattle.std.specs.Str.{IsUtf8, is_utf8}
use Rattle.std.proofs.lemmas.List.{append-nil}
use Rattle.std.proofs.lemmas.Str.{is_utf8-from_IsUtf8}
use Rattle.journal_reader.specs.Words.{where_true}
use Rattle.journal_reader.specs.MetricReading.{percent, digit_of, unescaped, text_of}

-- a byte that is no `%` stands for itself
pub bare : (b : ℕ) (bs : List ℕ) → (b == percent) ≡ false → unescaped (b ∷ bs) ≡ b ∷ unescaped bs
unfolding unescaped
bare b [] e = refl
bare b (c ∷ []) e = refl
bare b (c ∷ d ∷ bs) e = rw e refl

-- so does each at the end
pub short : (b : ℕ) (bs : List ℕ) → length bs < 2 → unescaped (b ∷ bs) ≡ b ∷ unescaped bs
unfolding unescaped
short b [] lt = refl
short b (c ∷ []) lt = refl
short b (c ∷ d ∷ bs) lt = absurd (omega (arith, lt))

-- `%` and two digits stand for a byte
pub escape : (b : ℕ) (bs : List ℕ) (high low : ℕ) → b ≡ 37 → 2 ≤ length bs → high ≡ digit_of (get_or bs 0 0)
    → low ≡ digit_of (get_or bs 1 0)
    → unescaped (b ∷ bs) ≡ (high * 16 + low) ∷ unescaped (take (length bs - 2) (drop 2 bs))
unfolding unescaped
escape b [] high low is le h l = absurd (omega (arith, le))
escape b (c ∷ []) high low is le h l = absurd (omega (arith, le))
escape b (c ∷ d ∷ bs) high low is le h l =
    let count : suc (suc (length bs)) - 2 ≡ length bs = omega arith in
    let all : take (length bs) bs ≡ bs = take_all (length bs) bs (omega arith) in
    rw (is, h, l, count, all) refl

-- where nothing is left all was read
pub unescaped_end : (text rest all : List ℕ) → text ++ unescaped rest ≡ all → length rest ≡ 0 → text ≡ all
unfolding unescaped
unescaped_end text [] all h none = sym (append-nil text) ∙ h
unescaped_end text (b ∷ rest) all h none = absurd (omega (arith, none))

pub text_read : (written bytes text : List ℕ) → bytes ≡ unescaped written → text ≡ bytes → IsUtf8 bytes
    → Some text ≡ text_of written
unfolding text_of
text_read written bytes text is same utf8 =
    let test : is_utf8 (unescaped written) ≡ true =
    is_utf8-from_IsUtf8 (unescaped written) (subst IsUtf8 is utf8) in
    rw (test, same, is) refl

pub text_unread : (written bytes : List ℕ) → bytes ≡ unescaped written → is_utf8 bytes ≡ false → None ≡ text_of written
unfolding text_of
text_unread written bytes is bad =
    let test : is_utf8 (unescaped written) ≡ false = subst (λ (t : List ℕ). is_utf8 t ≡ false) is bad in
    rw test refl
