-- A part that is read is the one part of the grammar.
use Rattle.std.proofs.Common.{◌≡◌, ℕ, suc, ◌+◌, Bool, true, false, cond, List, [], ◌∷◌, ◌++◌, length, drop, refl, ap}
use Rattle.std.proofs.Common.{◌∙◌, arith}
use Rattle.std.specs.Prelude.{◌&&◌, ◌==◌}
use Rattle.std.proofs.lemmas.Bool.{eqb-true}
use Rattle.text_parts.specs.Part.{Kind, part_len, plain, is_escape}
use Rattle.text_parts.specs.Grammar.{Mark, Escaped, Bare, spelled, meant, Ends, IsPart}

len_of_part : (k : Kind) (us : List Mark) (rest : List ℕ) → IsPart k us rest
    → part_len k (spelled us ++ rest) ≡ length (spelled us)
unfolding part_len
len_of_part k [] [] h = refl
len_of_part k [] (b ∷ []) h = rw h.0 refl
len_of_part k [] (b ∷ c ∷ rest) h = rw (h.1, h.0) refl
len_of_part k (Escaped c ∷ us) rest h = rw h.0 (ap (λ (n : ℕ). 2 + n) (len_of_part k us rest h.1) ∙ omega arith)
len_of_part k (Bare b ∷ []) [] h = rw h.0 refl
len_of_part k (Bare b ∷ []) (c ∷ rest) h = rw (h.1, h.0) (ap (λ (n : ℕ). 1 + n) (len_of_part k [] (c ∷ rest) h.2))
len_of_part k (Bare b ∷ Bare c ∷ us) rest h = rw (h.1, h.0) (ap (λ (n : ℕ). 1 + n)
    (len_of_part k (Bare c ∷ us) rest h.2) ∙ omega arith)
len_of_part k (Bare b ∷ Escaped c ∷ us) rest h = rw (h.1, h.0)
    (ap (λ (n : ℕ). 1 + n) (len_of_part k (Escaped c ∷ us) rest h.2) ∙ omega arith)

text_of_part : (k : Kind) (us : List Mark) (rest : List ℕ) → IsPart k us rest → plain k (spelled us) ≡ meant k us
unfolding plain
text_of_part k [] rest h = refl
text_of_part k (Escaped c ∷ us) rest h = rw h.0 (ap (λ (t : List ℕ). k.means c ∷ t) (text_of_part k us rest h.1))
text_of_part k (Bare b ∷ []) rest h = refl
text_of_part k (Bare b ∷ Bare c ∷ us) rest h = rw h.1 (ap (λ (t : List ℕ). b ∷ t)
    (text_of_part k (Bare c ∷ us) rest h.2))
text_of_part k (Bare b ∷ Escaped c ∷ us) rest h = rw h.1 (ap (λ (t : List ℕ). b ∷ t)
    (text_of_part k (Escaped c ∷ us) rest h.2))

pub part_is_read : (k : Kind) (us : List Mark) (rest : List ℕ) → IsPart k us rest
    → (part_len k (spelled us ++ rest) ≡ length (spelled us)) × (plain k (spelled us) ≡ meant k us)
part_is_read k us rest h = (len_of_part k us rest h, text_of_part k us rest h)

-- ---- each text begins with a part

pub record Found (k : Kind) (bs : List ℕ) (n : ℕ) : Type 0 where
  pub marks : List Mark
  pub text : bs ≡ spelled marks ++ drop n bs
  pub part : IsPart k marks (drop n bs)

ended : (k : Kind) (bs : List ℕ) → Ends k bs → Found k bs 0
ended k bs h = record { marks = []; text = refl; part = h }

escaped : (k : Kind) (c : ℕ) (bs : List ℕ) (n : ℕ) → k.escapes c ≡ true → Found k bs n → Found k (92 ∷ c ∷ bs) (2 + n)
escaped k c bs n e f = let m : 2 + n ≡ suc (suc n) = omega arith in
    rw m (record { marks = Escaped c ∷ f.marks; text = ap (λ (t : List ℕ). 92 ∷ c ∷ t) f.text; part = (e, f.part) })

bare : (k : Kind) (b : ℕ) (bs : List ℕ) (n : ℕ) → k.ends b ≡ false → is_escape k (b ∷ bs) ≡ false → Found k bs n
    → Found k (b ∷ bs) (1 + n)
bare k b bs n e no_escape f =
    let m : 1 + n ≡ suc n = omega arith in
    rw m (record {
      marks = Bare b ∷ f.marks;
      text = ap (λ (t : List ℕ). b ∷ t) f.text;
      part = (e, rw (← f.text) no_escape, f.part);
    })

both_true : (a b : Bool) → (a && b) ≡ true → (a ≡ true) × (b ≡ true)
both_true true b e = (refl, e)
both_true false b e = absurd cc

escape_found : (k : Kind) (b c : ℕ) (bs : List ℕ) → (b == 92 && k.escapes c) ≡ true → Found k bs (part_len k bs)
    → Found k (b ∷ c ∷ bs) (2 + part_len k bs)
escape_found k b c bs e f =
    let both = both_true (b == 92) (k.escapes c) e in
    let is = eqb-true b 92 both.0 in
    rw is (escaped k c bs (part_len k bs) both.1 f)

pub found : (k : Kind) (bs : List ℕ) → Found k bs (part_len k bs)
unfolding part_len
found k [] = ended k [] tt
found k (b ∷ []) =
    elim (k.ends b) as (λ t. k.ends b ≡ t → Found k (b ∷ []) (cond t 0 1)) [
      | true ↦ λ e. ended k (b ∷ []) (e, refl)
      | false ↦ λ e. bare k b [] 0 e refl (ended k [] tt)
    ] refl
found k (b ∷ c ∷ bs) =
    elim (b == 92 && k.escapes c) as (λ t. (b == 92 && k.escapes c) ≡ t
    → Found k (b ∷ c ∷ bs) (cond t (2 + part_len k bs) (cond (k.ends b) 0 (1 + part_len k (c ∷ bs))))) [
      | true ↦ λ e. escape_found k b c bs e (found k bs)
      | false ↦ λ e. elim (k.ends b) as
          (λ t. k.ends b ≡ t → Found k (b ∷ c ∷ bs) (cond t 0 (1 + part_len k (c ∷ bs)))) [
            | true ↦ λ f. ended k (b ∷ c ∷ bs) (f, e)
            | false ↦ λ f. bare k b (c ∷ bs) (part_len k (c ∷ bs)) f e (found k (c ∷ bs))
          ] refl
    ] refl
