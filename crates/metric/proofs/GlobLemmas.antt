-- The test of globs says of each text whether it matches.
use Rattle.std.proofs.Common.{◌≡◌, ◌++◌, ℕ, Bool, true, List, [], ◌∷◌, refl, sym, ap, subst, arith, ◌∙◌}
use Rattle.std.proofs.Common.{IsTrue, ◌↔◌, inl, inr}
use Rattle.std.specs.Prelude.{flat_map}
use Rattle.std.proofs.lemmas.Bool.{or_cases, or_left, or_right, and_parts, and_from, eqb-true}
use Rattle.metric.specs.declared.glob.Element.{Element}
use Rattle.metric.specs.declared.glob.Element.TheVariants.{Run}
use Rattle.metric.specs.Glob.{stands_for, AdmitEach, Matches, holds_behind, matches, TestsMatches}

-- ---- behind a front

pub record Behind (test : List ℕ → Bool) (text : List ℕ) : Type 0 where
  pub front : List ℕ
  pub rest : List ℕ
  pub joined : front ++ rest ≡ text
  pub holds : test rest ≡ true

pub behind : (test : List ℕ → Bool) (text : List ℕ) → holds_behind test text ≡ true → Behind test text
behind test [] h = record { front = []; rest = []; joined = refl; holds = h }
behind test (c ∷ text) h =
    elim (or_cases _ _ h) [
      | inl here ↦ record { front = []; rest = c ∷ text; joined = refl; holds = here }
      | inr there ↦ (
          let b = behind test text there in
          record { front = c ∷ b.front; rest = b.rest; joined = ap (λ cs. c ∷ cs) b.joined; holds = b.holds })
    ]

pub behind_here : (test : List ℕ → Bool) (text : List ℕ) → test text ≡ true → holds_behind test text ≡ true
behind_here test [] h = h
behind_here test (c ∷ text) h = or_left _ _ h

pub behind_from : (test : List ℕ → Bool) (front rest : List ℕ) → test rest ≡ true
    → holds_behind test (front ++ rest) ≡ true
behind_from test [] rest h = behind_here test rest h
behind_from test (c ∷ front) rest h = or_right _ _ (behind_from test front rest h)

-- ---- a text that matches, and the test

matching : (elements : List Element) (text : List ℕ) → matches elements text ≡ true → Matches elements text
unfolding matches
matching [] [] h = record { pieces = []; joined = refl; admitted = tt }
matching [] (c ∷ text) h = absurd (omega (arith, eqb-true _ _ h))
matching (Run ∷ elements) text h =
    let b = behind (matches elements) text h in
    let m = matching elements b.rest b.holds in
    record {
      pieces = b.front ∷ m.pieces;
      joined = ap (λ cs. b.front ++ cs) m.joined
          ∙ b.joined;
      admitted = (tt, m.admitted);
    }
matching (element ∷ elements) [] h = absurd (cc)
matching (element ∷ elements) (c ∷ text) h =
    let both = and_parts _ _ h in
    let m = matching elements text both.1 in
    record {
      pieces = (c ∷ []) ∷ m.pieces;
      joined = ap (λ cs. c ∷ cs) m.joined;
      admitted = ((c, refl, both.0), m.admitted);
    }

joined_matches : (elements : List Element) (pieces : List (List ℕ)) → AdmitEach elements pieces
    → matches elements (flat_map (λ piece. piece) pieces) ≡ true
unfolding matches
joined_matches [] [] h = refl
joined_matches [] (piece ∷ pieces) h = absurd h
joined_matches (Run ∷ elements) [] h = absurd h
joined_matches (Run ∷ elements) (piece ∷ pieces) h =
    behind_from (matches elements) piece (flat_map (λ piece. piece) pieces)
    (joined_matches elements pieces h.1)
joined_matches (element ∷ elements) [] h = absurd h
joined_matches (element ∷ elements) (piece ∷ pieces) h =
    let rest = flat_map (λ (piece : List ℕ). piece) pieces in
    subst (λ front. matches (element ∷ elements) (front ++ rest) ≡ true) (sym h.0.1)
    (and_from (stands_for element h.0.0) (matches elements rest) h.0.2 (joined_matches elements pieces h.1))

pub tests : TestsMatches
tests elements text = (
  matching elements text,
  λ m. subst (λ t. matches elements t ≡ true) m.joined (joined_matches elements m.pieces m.admitted),
)

pub tested : (elements : List Element) (text : List ℕ) (found : Bool) → found ≡ matches elements text
    → IsTrue found ↔ Matches elements text
tested elements text found e =
    let both = tests elements text in (λ t. both.0 (sym e ∙ t), λ m. e ∙ both.1 m)
