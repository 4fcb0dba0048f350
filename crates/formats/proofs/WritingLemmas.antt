-- One metric more of those that are written.
use Rattle.std.proofs.Common.{◌≡◌, ℕ, suc, ◌+◌, List, [], ◌∷◌, ◌++◌, take, ap, ◌∙◌, append-nil, arith}
use Rattle.std.proofs.Math.Seq.{take-suc}
use Rattle.std.proofs.lemmas.Grind.{flat_map-append}
use Rattle.std.proofs.lemmas.Option.{get_or_from_slice_get, slice_get_within}
use Rattle.std.specs.List.{flat_map}
use Rattle.std.specs.Prelude.{slice_get}
use Rattle.std.specs.declared.option.Option.TheVariants.{Some}
use Rattle.metric.specs.declared.metric.Content.{Content}

-- those so far, and the one that is lent
pub taken : (all : List Content) (i : ℕ) (one : Content) → slice_get all i ≡ Some one
    → take (i + 1) all ≡ take i all ++ one ∷ []
taken all i one e =
    let next : i + 1 ≡ suc i = omega arith in
    ap (λ (n : ℕ). take n all) next ∙ take-suc all i one (slice_get_within all i one e)
    ∙ ap (λ (m : Content). take i all ++ m ∷ []) (get_or_from_slice_get all i one one e)

-- their text, with that of the one
pub written : (text : Content → List ℕ) (all : List Content) (i : ℕ) (one : Content) → slice_get all i ≡ Some one
    → flat_map text (take (i + 1) all) ≡ flat_map text (take i all) ++ text one
written text all i one e =
    ap (flat_map text) (taken all i one e) ∙ flat_map-append text (take i all) (one ∷ [])
    ∙ ap (λ (xs : List ℕ). flat_map text (take i all) ++ xs) (append-nil (text one))
