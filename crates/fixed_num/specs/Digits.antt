-- Digits that spell a number.
use Rattle.std.specs.Prelude.{◌≡◌, ℕ, List, ◌∷◌, ◌++◌, take}
use Rattle.std.specs.Str.Parse.{AllDigits, digits_value}

pub record Spells (text : List ℕ) (number : ℕ) : Type 0 where
  pub digits : AllDigits 10 text
  pub is : number ≡ digits_value 10 text

-- up to an index the text is digits with a point among them, which spell a number without it
pub record Pointed (text : List ℕ) (point at number : ℕ) : Type 0 where
  pub fraction : List ℕ
  pub text_is : take at text ≡ take point text ++ 46 ∷ fraction
  pub whole_digits : AllDigits 10 (take point text)
  pub fraction_digits : AllDigits 10 fraction
  pub is : number ≡ digits_value 10 (take point text ++ fraction)
