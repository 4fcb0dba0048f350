-- Bytes that a text hasn't.
use Rattle.std.proofs.Common.{◌≡◌, ℕ, ◌<◌, Bool, false, List, [], ◌∷◌, ◌++◌, refl, arith}
use Rattle.std.specs.List.{AllByRecursion, list_any}
use Rattle.std.proofs.lemmas.Bool.{ne_eqb}
use Rattle.fixed_num.proofs.NumberBytes.{IsNumberByte}
use Rattle.text_parts.specs.Grammar.{HasNone}
use Rattle.text_parts.specs.Split.{is_byte}

pub fewer : (p q : ℕ → Bool) → ((b : ℕ) → p b ≡ false → q b ≡ false) → (bs : List ℕ) → HasNone p bs → HasNone q bs
fewer p q h [] none = tt
fewer p q h (b ∷ bs) none = (h b none.0, fewer p q h bs none.1)

pub none_append : (p : ℕ → Bool) (xs ys : List ℕ) → HasNone p xs → HasNone p ys → HasNone p (xs ++ ys)
none_append p [] ys h k = k
none_append p (x ∷ xs) ys h k = (h.0, none_append p xs ys h.1 k)

pub none_split : (p : ℕ → Bool) (xs ys : List ℕ) → HasNone p (xs ++ ys) → HasNone p xs × HasNone p ys
none_split p [] ys h = (tt, h)
none_split p (x ∷ xs) ys h = let both = none_split p xs ys h.1 in ((h.0, both.0), both.1)

pub none_any : (p : ℕ → Bool) (bs : List ℕ) → HasNone p bs → list_any p bs ≡ false
none_any p [] h = refl
none_any p (b ∷ bs) h = rw h.0 (none_any p bs h.1)

-- ---- the texts of numbers

-- what minus, point and digits don't pass
pub number_none : (p : ℕ → Bool) → ((b : ℕ) → IsNumberByte b → p b ≡ false) → (text : List ℕ)
    → AllByRecursion IsNumberByte text → HasNone p text
number_none p fails [] h = tt
number_none p fails (b ∷ text) h = (fails b h.0, number_none p fails text h.1)

-- a byte below these
pub number_lacks : (byte : ℕ) → byte < 45 → (text : List ℕ) → AllByRecursion IsNumberByte text
    → HasNone (is_byte byte) text
number_lacks byte low text h = number_none (is_byte byte) (λ b is. ne_eqb b byte (λ e. absurd (omega (arith, is.0))))
    text h
