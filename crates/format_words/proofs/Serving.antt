-- Which paths a template serves.
use Rattle.std.proofs.Common.{◌≡◌, ℕ, ◌+◌, ◌<◌, ◌≤◌, Bool, true, false, List, [], ◌∷◌, length, get_or, drop, map, refl}
use Rattle.std.proofs.Common.{arith}
use Rattle.std.specs.Prelude.{◌&&◌}
use Rattle.std.specs.Borrow.{Bor}
use Rattle.std.proofs.lemmas.List.{drop_all}
use Rattle.format_words.specs.Serving.{admits, begins_with}
use Rattle.format_words.specs.Views.{now_of}
use Rattle.format_words.proofs.Texts.{map_length, from, texts_from}

too_short : (filter segments : List (List ℕ)) → length segments < length filter → begins_with filter segments ≡ false
unfolding begins_with
too_short [] segments lt = absurd (omega arith)
too_short (wanted ∷ filter) [] lt = refl
too_short (wanted ∷ filter) (text ∷ segments) lt = elim (admits wanted text) as
    (λ t. (t && begins_with filter segments) ≡ false) [
      | true ↦ too_short filter segments (omega arith)
      | false ↦ refl
    ]

pub filter_longer : (filter : List (List ℕ)) (xs : List (Bor (List ℕ))) → length xs < length filter
    → begins_with filter (map now_of xs) ≡ false
filter_longer filter xs lt = too_short filter (map now_of xs) (omega (arith, map_length now_of xs))

pub begins_at : (filter : List (List ℕ)) (xs : List (Bor (List ℕ))) (d : Bor (List ℕ)) (i : ℕ) (wanted : List ℕ)
    (t : Bool) → i < length filter → i < length xs → wanted ≡ get_or filter i wanted
    → admits wanted (now_of (get_or xs i d)) ≡ t
    → begins_with (drop i filter) (drop i (map now_of xs)) ≡ (t
    && begins_with (drop (i + 1) filter) (drop (i + 1) (map now_of xs)))
unfolding begins_with
begins_at filter xs d i wanted t lt within is e = rw (from filter i wanted lt is, texts_from xs i d within, e) refl

pub begins_end : (filter segments : List (List ℕ)) (i : ℕ) → length filter ≤ i
    → begins_with (drop i filter) (drop i segments) ≡ true
unfolding begins_with
begins_end filter segments i le = rw (drop_all i filter le) refl
