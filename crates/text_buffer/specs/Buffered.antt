-- What is seen of a text buffer.
use Rattle.std.specs.Prelude.{ℕ, List, refl}
use Rattle.std.specs.Coded.{Coded, code_by, coded×, coded_list, coded_ℕ}

-- the bytes of its text, and how many more stand ready for it
pub record Buffered : Type 0 where
  pub items : List ℕ
  pub ready : ℕ

-- both, as a pair
abbrev pub buffered_code : Coded Buffered
buffered_code = code_by (List ℕ × ℕ) (coded× (coded_list coded_ℕ) coded_ℕ)
    (λ b. (b.items, b.ready)) (λ pair. record { items = pair.0; ready = pair.1 }) (λ _. refl)
