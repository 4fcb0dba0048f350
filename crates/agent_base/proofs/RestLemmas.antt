-- Texts as lines and a rest.
use Rattle.std.proofs.Common.{◌≡◌, ◌==◌, ℕ, Bool, true, false, List, [], ◌∷◌, refl, sym, ap, subst}
use Rattle.std.specs.List.{AllByRecursion}
use Rattle.std.proofs.lemmas.Bool.{eqb-true}
use Rattle.agent_base.specs.Cut.{NoNewline}
use Rattle.agent_base.specs.Lines.{text_of}

-- a text as lines, each with its newline, and a rest without one
pub record HasLines (text : List ℕ) : Type 0 where
  pub lines : List (List ℕ)
  pub rest : List ℕ
  pub is : text ≡ text_of lines rest
  pub clean : AllByRecursion NoNewline lines
  pub rest_clean : NoNewline rest

-- one byte more in front
newline_more : (text : List ℕ) → HasLines text → HasLines (10 ∷ text)
newline_more text h = record {
  lines = [] ∷ h.lines;
  rest = h.rest;
  is = ap (λ (bs : List ℕ). 10 ∷ bs) h.is;
  clean = (refl, h.clean);
  rest_clean = h.rest_clean;
}

line_grows : (b : ℕ) (line : List ℕ) → (b == 10) ≡ false → NoNewline line → NoNewline (b ∷ line)
line_grows b line other h = rw other h

byte_more : (b : ℕ) (text : List ℕ) → (b == 10) ≡ false → HasLines text → HasLines (b ∷ text)
byte_more b text other h = go h.lines h.is h.clean
  where
    go : (lines : List (List ℕ)) → text ≡ text_of lines h.rest → AllByRecursion NoNewline lines → HasLines (b ∷ text)
    go [] is clean = record {
      lines = [];
      rest = b ∷ h.rest;
      is = ap (λ (bs : List ℕ). b ∷ bs) is;
      clean = clean;
      rest_clean = line_grows b h.rest other h.rest_clean;
    }
    go (line ∷ lines) is clean = record {
      lines = (b ∷ line) ∷ lines;
      rest = h.rest;
      is = ap (λ (bs : List ℕ). b ∷ bs) is;
      clean = (line_grows b line other clean.0, clean.1);
      rest_clean = h.rest_clean;
    }

one_more : (is_newline : Bool) (b : ℕ) (text : List ℕ) → (b == 10) ≡ is_newline → HasLines text → HasLines (b ∷ text)
one_more true b text e h = subst (λ (k : ℕ). HasLines (k ∷ text)) (sym (eqb-true b 10 e)) (newline_more text h)
one_more false b text e h = byte_more b text e h

pub has_lines : (text : List ℕ) → HasLines text
has_lines [] = record { lines = []; rest = []; is = refl; clean = tt; rest_clean = refl }
has_lines (b ∷ text) = one_more (b == 10) b text refl (has_lines text)
