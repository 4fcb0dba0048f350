-- The bytes of paths and of numbers.
use Rattle.std.proofs.Common.{◌≡◌, ℕ, ◌<◌, ◌≤◌, Bool, true, false, cond, leb, List, [], ◌∷◌, map, refl, sym, ap, subst}
use Rattle.std.proofs.Common.{◌∙◌, arith}
use Rattle.std.specs.Prelude.{◌==◌, ◌||◌, ◌&&◌}
use Rattle.std.specs.Char.{is_ascii_alphanumeric}
use Rattle.std.specs.Int.{is_in_range}
use Rattle.std.specs.List.{AllByRecursion}
use Rattle.std.proofs.lemmas.Bool.{ne_eqb, eqb-true, leb-true}
use Rattle.text_parts.specs.Grammar.{HasNone}
use Rattle.text_parts.specs.Split.{is_byte}
use Rattle.fixed_num.proofs.NumberBytes.{IsNumberByte}
use Rattle.graphite_text.specs.Writing.{is_kept, value_byte, name_byte}

-- a byte of a line's word that ends no path
pub record IsClean (b : ℕ) : Type 0 where
  pub no_space : (b == 32) ≡ false
  pub no_semicolon : (b == 59) ≡ false
  pub ascii : b < 128

abbrev pub AreClean : List ℕ → Type 0
AreClean = AllByRecursion IsClean

pub clean_spaces : (xs : List ℕ) → AreClean xs → HasNone (is_byte 32) xs
clean_spaces [] h = tt
clean_spaces (x ∷ xs) h = ((h.0).no_space, clean_spaces xs h.1)

pub clean_semicolons : (xs : List ℕ) → AreClean xs → HasNone (is_byte 59) xs
clean_semicolons [] h = tt
clean_semicolons (x ∷ xs) h = ((h.0).no_semicolon, clean_semicolons xs h.1)

-- ---- kept bytes

differs : (b c : ℕ) → is_kept c ≡ false → is_kept b ≡ true → (b == c) ≡ false
differs b c lacks has = ne_eqb b c (λ e. absurd (true_false (sym has ∙ ap is_kept e ∙ lacks)))
  where
    true_false : true ≡ false → ⊥
    true_false e = cc

or_either : (a b : Bool) (P : Type 0) → (a || b) ≡ true → (a ≡ true → P) → (b ≡ true → P) → P
or_either true b P e f g = f refl
or_either false b P e f g = g e

and_second : (a b : Bool) → (a && b) ≡ true → b ≡ true
and_second true b e = e
and_second false b e = absurd cc

range_low : (low high b : ℕ) → high < 128 → is_in_range low high b ≡ true → b < 128
range_low low high b small e = let le : b ≤ high = leb-true b high (and_second (leb low b) (leb b high) e) in
    omega arith

kept_ascii : (b : ℕ) → is_kept b ≡ true → b < 128
kept_ascii b e =
    or_either (is_ascii_alphanumeric b || b == 95) (b == 45) (b < 128) e
    (λ f. or_either (is_ascii_alphanumeric b) (b == 95) (b < 128) f
    (λ g. or_either (is_in_range 48 57 b || is_in_range 65 90 b) (is_in_range 97 122 b) (b < 128) g
    (λ h. or_either (is_in_range 48 57 b) (is_in_range 65 90 b) (b < 128) h (range_low 48 57 b (omega arith))
    (range_low 65 90 b (omega arith)))
    (range_low 97 122 b (omega arith)))
    (λ g. let is : b ≡ 95 = eqb-true b 95 g in omega arith))
    (λ f. let is : b ≡ 45 = eqb-true b 45 f in omega arith)

kept_clean : (b : ℕ) → is_kept b ≡ true → IsClean b
kept_clean b e = record { no_space = differs b 32 refl e; no_semicolon = differs b 59 refl e; ascii = kept_ascii b e }

pub value_clean : (b : ℕ) → IsClean (value_byte b)
unfolding value_byte
value_clean b = elim (is_kept b) as (λ t. is_kept b ≡ t → IsClean (cond t b 95)) [
  | true ↦ λ e. kept_clean b e
  | false ↦ λ e. record { no_space = refl; no_semicolon = refl; ascii = omega arith }
] refl

pub value_no_dot : (b : ℕ) → (value_byte b == 46) ≡ false
unfolding value_byte
value_no_dot b = elim (is_kept b) as (λ t. is_kept b ≡ t → (cond t b 95 == 46) ≡ false) [
  | true ↦ λ e. differs b 46 refl e
  | false ↦ λ e. refl
] refl

name_kept : (b : ℕ) → (is_kept b || b == 46) ≡ true → IsClean b
name_kept b e = or_either (is_kept b) (b == 46) (IsClean b) e (kept_clean b)
    (λ f. subst IsClean (sym (eqb-true b 46 f)) (record { no_space = refl; no_semicolon = refl; ascii = omega arith }))

pub name_clean : (b : ℕ) → IsClean (name_byte b)
unfolding name_byte
name_clean b = elim (is_kept b || b == 46) as (λ t. (is_kept b || b == 46) ≡ t → IsClean (cond t b 95)) [
  | true ↦ λ e. name_kept b e
  | false ↦ λ e. record { no_space = refl; no_semicolon = refl; ascii = omega arith }
] refl

-- a dot of a name stays, and no other byte becomes one
or_no : (a b : Bool) → (a || b) ≡ false → b ≡ false
or_no true b e = absurd cc
or_no false b e = e

pub name_dot : (b : ℕ) → (name_byte b == 46) ≡ (b == 46)
unfolding name_byte
name_dot b = elim (is_kept b || b == 46) as (λ t. (is_kept b || b == 46) ≡ t → (cond t b 95 == 46) ≡ (b == 46)) [
  | true ↦ λ e. refl
  | false ↦ λ e. sym (or_no (is_kept b) (b == 46) e)
] refl

pub mapped_clean : (f : ℕ → ℕ) → ((b : ℕ) → IsClean (f b)) → (bs : List ℕ) → AreClean (map f bs)
mapped_clean f h [] = tt
mapped_clean f h (b ∷ bs) = (h b, mapped_clean f h bs)

pub clean_point : IsClean 46
clean_point = record { no_space = refl; no_semicolon = refl; ascii = omega arith }

number_clean : (b : ℕ) → IsNumberByte b → IsClean b
number_clean b is = record {
  no_space = ne_eqb b 32 (λ e. absurd (omega (arith, is.0)));
  no_semicolon = ne_eqb b 59 (λ e. absurd (omega (arith, is.1)));
  ascii = omega (arith, is.1);
}

pub clean_number : (bs : List ℕ) → AllByRecursion IsNumberByte bs → AreClean bs
clean_number [] h = tt
clean_number (b ∷ bs) h = (number_clean b h.0, clean_number bs h.1)
