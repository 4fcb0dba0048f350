-- A loop that appends a text for each of some elements.
use Rattle.std.proofs.Common.{◌≡◌, ◌<◌, ◌≤◌, ◌+◌, ℕ, List, [], ◌∷◌, ◌++◌, length, get_or, take, sym, ap, ◌∙◌}
use Rattle.std.proofs.Common.{append_assoc, append-nil}
use Rattle.std.specs.List.{flat_map}
use Rattle.std.proofs.lemmas.Grind.{flat_map-append}
use Rattle.std.proofs.lemmas.List.{take_more, take_all}
use Rattle.text_parts.specs.Adds.{Extends}
use Rattle.text_parts.proofs.Adding.{extends_after}

-- the texts of all elements but those that are left stand behind the old text
pub record Sweeps {A : Type 0} (old out : List ℕ) (all left : List A) (f : A → List ℕ) : Type 0 where
  pub done : List A
  pub split : all ≡ done ++ left
  pub is : out ≡ old ++ flat_map f done

pub sweeps_none : {A : Type 0} (old out : List ℕ) (all left : List A) (f : A → List ℕ) → out ≡ old → left ≡ all
    → Sweeps old out all left f
sweeps_none old out all left f e l = record { done = []; split = sym l; is = e ∙ sym (append-nil old) }

pub sweeps_more : {A : Type 0} (old out new : List ℕ) (all left rest : List A) (x : A) (f : A → List ℕ)
    → Sweeps old out all left f → left ≡ x ∷ rest → new ≡ out ++ f x → Sweeps old new all rest f
sweeps_more {A = A} old out new all left rest x f s l e = record {
  done = s.done ++ x ∷ [];
  split = s.split ∙ ap (λ (xs : List A). s.done ++ xs) l ∙ sym (append_assoc s.done (x ∷ []) rest);
  is = e ∙ ap (λ (text : List ℕ). text ++ f x) s.is ∙ append_assoc old (flat_map f s.done) (f x)
      ∙ ap (λ (text : List ℕ). old ++ text) (ap (λ (text : List ℕ). flat_map f s.done ++ text) (sym (append-nil (f x)))
      ∙ sym (flat_map-append f s.done (x ∷ [])));
}

pub sweeps_all : {A : Type 0} (old out : List ℕ) (all left : List A) (f : A → List ℕ) → Sweeps old out all left f
    → left ≡ [] → out ≡ old ++ flat_map f all
sweeps_all {A = A} old out all left f s l = s.is ∙ ap (λ (xs : List A). old ++ flat_map f xs)
    (sym (s.split ∙ ap (λ (xs : List A). s.done ++ xs) l ∙ append-nil s.done))

pub sweeps_failed : {A : Type 0} (old out new : List ℕ) (all left : List A) (f : A → List ℕ) → Sweeps old out all left f
    → Extends out new → Extends old new
sweeps_failed old out new all left f s h = extends_after old out new (flat_map f s.done) s.is h

-- the same over a slice, up to an index
module _ {A : Type 0} (f : A → List ℕ) (xs : List A) (old : List ℕ) where
  pub swept_none : old ≡ old ++ flat_map f (take 0 xs)
  swept_none = sym (append-nil old)

  pub swept_more : (out new : List ℕ) (i : ℕ) (x : A) → i < length xs → x ≡ get_or xs i x
      → out ≡ old ++ flat_map f (take i xs) → new ≡ out ++ f x → new ≡ old ++ flat_map f (take (i + 1) xs)
  swept_more out new i x lt is before put =
      let more : take (i + 1) xs ≡ take i xs ++ x ∷ [] = take_more xs i x lt
      ∙ ap (λ (y : A). take i xs ++ y ∷ []) (sym is) in
      put ∙ ap (λ (text : List ℕ). text ++ f x) before ∙ append_assoc old (flat_map f (take i xs)) (f x)
      ∙ ap (λ (text : List ℕ). old ++ text) (ap (λ (text : List ℕ). flat_map f (take i xs) ++ text)
      (sym (append-nil (f x))) ∙ sym (flat_map-append f (take i xs) (x ∷ [])) ∙ ap (flat_map f) (sym more))

  pub swept_all : (out : List ℕ) (i : ℕ) → length xs ≤ i → out ≡ old ++ flat_map f (take i xs)
      → out ≡ old ++ flat_map f xs
  swept_all out i le is = is ∙ ap (λ (ys : List A). old ++ flat_map f ys) (take_all i xs le)
