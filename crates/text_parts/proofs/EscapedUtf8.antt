-- An escaped text is UTF-8.
use Rattle.std.proofs.Common.{◌≡◌, ℕ, ◌<◌, true, false, cond, List, [], ◌∷◌, ◌++◌, refl, sym, subst, append_assoc}
use Rattle.std.proofs.Common.{arith}
use Rattle.std.specs.Str.{IsUtf8}
use Rattle.std.proofs.lemmas.Str.{IsUtf8-append}
use Rattle.text_parts.specs.Escaped.{Escapes, escaped}
use Rattle.text_parts.proofs.Utf8.{around_ascii, first_ascii}

-- all that is escaped is ASCII, and so is what is written for it
pub record AreAscii (e : Escapes) : Type 0 where
  pub marks : (b : ℕ) → e.is_mark b ≡ true → b < 128
  pub written : (b : ℕ) → b < 128 → e.written b < 128

-- a byte below 128 can become two others
two_ascii : (xs ys : List ℕ) (b c d : ℕ) → b < 128 → c < 128 → d < 128 → IsUtf8 (xs ++ b ∷ ys)
    → IsUtf8 (xs ++ c ∷ d ∷ ys)
two_ascii xs ys b c d small one other u =
    let around = around_ascii xs ys b small u in
    IsUtf8-append xs (c ∷ d ∷ ys) around.0 (first_ascii c (d ∷ ys) one (first_ascii d ys other around.1))

escaped_more : (e : Escapes) → AreAscii e → (front text : List ℕ) → IsUtf8 (front ++ text)
    → IsUtf8 (front ++ escaped e text)
unfolding escaped
escaped_more e low front [] u = u
escaped_more e low front (b ∷ bs) u =
    elim (e.is_mark b) as (λ t. e.is_mark b ≡ t → IsUtf8 (front
    ++ (cond t (92 ∷ e.written b ∷ []) (b ∷ []) ++ escaped e bs))) [
      | true ↦ λ is.
          let small = low.marks b is in
          let more = two_ascii front bs b 92 (e.written b) small (omega arith) (low.written b small) u in
          subst IsUtf8 (append_assoc front (92 ∷ e.written b ∷ []) (escaped e bs))
          (escaped_more e low (front ++ 92 ∷ e.written b ∷ []) bs
          (subst IsUtf8 (sym (append_assoc front (92 ∷ e.written b ∷ []) bs)) more))
      | false ↦ λ is.
          subst IsUtf8 (append_assoc front (b ∷ []) (escaped e bs))
          (escaped_more e low (front ++ b ∷ []) bs (subst IsUtf8 (sym (append_assoc front (b ∷ []) bs)) u))
    ] refl

pub escaped_utf8 : (e : Escapes) → AreAscii e → (text : List ℕ) → IsUtf8 text → IsUtf8 (escaped e text)
escaped_utf8 e low text u = escaped_more e low [] text u
