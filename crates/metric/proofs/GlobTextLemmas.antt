-- Reading a list from the left, a part at a time.
use Rattle.std.proofs.Common.{◌≡◌, ◌≤◌, ◌+◌, ◌++◌, ℕ, List, [], ◌∷◌, length, drop, true, false, refl, sym}
use Rattle.std.proofs.Common.{ap, ◌∙◌, append_assoc}
use Rattle.std.specs.Prelude.{Option, Some, None, option_map}
use Rattle.std.specs.Prelude.{option_and_then, take, suc, Bool, cond, not, ltb, position}
use Rattle.std.specs.List.{position_or_len}
use Rattle.std.proofs.Common.{◌≢◌, ◌⊎◌, arith, inl, inr, ne_eqb}
use Rattle.std.proofs.lemmas.Bool.{lt-ltb, le-ltb, cases_lt}
use Rattle.metric.specs.declared.glob.Element.{Element}
use Rattle.metric.specs.declared.glob_text.Mark.{Mark}
use Rattle.metric.specs.Glob.{opens, closes, elements_of, element_of, set_and_rest, with_set, with_element}
use Rattle.metric.specs.Glob.{set_of, marks_of, with_mark}
use Rattle.metric.specs.declared.glob_text.Mark.TheVariants.{Bare, Escaped}
use Rattle.std.proofs.lemmas.List.{append-nil, drop-drop, drop_all}

-- what is read, behind what was read before
abbrev pub in_front : {Y : Type 0} → List Y → Option (List Y) → Option (List Y)
in_front items read = option_map (λ others. items ++ others) read

module _ {X Y : Type 0} (read : List X → Option (List Y)) where
  more : (items : List Y) (y : Y) (others : Option (List Y))
      → in_front items (option_map (λ ys. y ∷ ys) others) ≡ in_front (items ++ y ∷ []) others
  more items y None = refl
  more items y (Some others) = ap Some (sym (append_assoc items (y ∷ []) others))

  pub goes_on : (all : List X) (at width : ℕ) (items : List Y) (y : Y)
      → in_front items (read (drop at all)) ≡ read all
      → read (drop at all) ≡ option_map (λ ys. y ∷ ys) (read (drop width (drop at all)))
      → in_front (items ++ y ∷ []) (read (drop (at + width) all)) ≡ read all
  goes_on all at width items y h first =
      ap (λ xs. in_front (items ++ y ∷ []) (read xs)) (sym (drop-drop width at all))
      ∙ sym (more items y (read (drop width (drop at all)))) ∙ ap (in_front items) (sym first) ∙ h

  pub is_none : (all : List X) (at : ℕ) (items : List Y) → in_front items (read (drop at all)) ≡ read all
      → read (drop at all) ≡ None → read all ≡ None
  is_none all at items h none = sym h ∙ ap (in_front items) none

  pub is_all : (all : List X) (at : ℕ) (items : List Y) → in_front items (read (drop at all)) ≡ read all
      → length all ≤ at → read [] ≡ Some [] → read all ≡ Some items
  is_all all at items h past none =
      sym h ∙ ap (λ xs. in_front items (read xs)) (drop_all at all past) ∙ ap (in_front items) none
      ∙ ap Some (append-nil items)

-- ---- the first mark

pub escaped : (c d : ℕ) (behind left : List ℕ) → c ≡ 92 → behind ≡ d ∷ left
    → marks_of (c ∷ behind) ≡ with_mark (Escaped d) (marks_of left)
unfolding marks_of
escaped c d behind left h e = rw (e, h) refl

pub unescaped : (c : ℕ) (behind : List ℕ) → c ≡ 92 → behind ≡ [] → marks_of (c ∷ behind) ≡ None
unfolding marks_of
unescaped c behind h e = rw (e, h) refl

pub brace : (c : ℕ) (text : List ℕ) → (c ≡ 123) ⊎ ((c ≢ 123) × (c ≡ 125)) → marks_of (c ∷ text) ≡ None
unfolding marks_of
brace c [] (inl h) = rw h refl
brace c [] (inr h) = rw h.1 refl
brace c (d ∷ text) (inl h) = rw h refl
brace c (d ∷ text) (inr h) = rw h.1 refl

pub bare : (c : ℕ) (text : List ℕ) → c ≢ 92 → c ≢ 123 → c ≢ 125
    → marks_of (c ∷ text) ≡ with_mark (Bare c) (marks_of text)
unfolding marks_of
bare c [] h a b = rw (ne_eqb c 92 h, ne_eqb c 123 a, ne_eqb c 125 b) refl
bare c (d ∷ text) h a b = rw (ne_eqb c 92 h, ne_eqb c 123 a, ne_eqb c 125 b) refl

-- none is left
pub marks_end : (text rest : List ℕ) (marks : List Mark) → in_front marks (marks_of rest) ≡ marks_of text → rest ≡ []
    → marks_of text ≡ Some marks
unfolding marks_of
marks_end text rest marks h none =
    sym h ∙ ap (λ xs. in_front marks (marks_of xs)) none ∙ ap Some (append-nil marks)

-- ---- one element

pub opened : (mark : Mark) (marks : List Mark) → opens mark ≡ true
    → elements_of (mark ∷ marks) ≡ option_and_then with_set (set_and_rest marks)
unfolding elements_of
opened mark marks h = rw h refl

pub unopened : (mark : Mark) (marks : List Mark) → opens mark ≡ false
    → elements_of (mark ∷ marks) ≡ with_element (element_of mark) (elements_of marks)
unfolding elements_of
unopened mark marks h = rw h refl

-- ---- a set up to its first end

abbrev front_of : List Mark → List Element → List Mark × List Element
front_of marks elements = (marks, elements)

abbrev front_with : Mark → List Mark × List Element → List Mark × List Element
front_with mark inside = (mark ∷ inside.0, inside.1)

-- the marks of a set up to an index, and the elements behind its end
pub behind_end : List Mark → ℕ → Option (List Mark × List Element)
behind_end inside at = option_map (front_of (take at inside)) (elements_of (drop (suc at) inside))

same : (mark : Mark) (marks : List Mark) (others : Option (List Element))
    → option_map (front_with mark)
    (option_map (front_of marks) others)
    ≡ option_map (front_of (mark ∷ marks)) others
same mark marks None = refl
same mark marks (Some elements) = refl

one_more : (mark : Mark) (marks : List Mark) (at : ℕ)
    → option_map (front_with mark) (behind_end marks at) ≡ behind_end (mark ∷ marks) (suc at)
unfolding behind_end
one_more mark marks at = same mark (take at marks) (elements_of (drop (suc at) marks))

set_is : (inside : List Mark) → set_and_rest inside
    ≡ cond (ltb (position_or_len closes inside) (length inside))
    (behind_end inside (position_or_len closes inside)) None
unfolding elements_of behind_end
set_is [] = refl
set_is (mark ∷ marks) =
    elim (closes mark) as (λ t.
    cond t (option_map (front_of []) (elements_of marks))
    (option_map (front_with mark) (set_and_rest marks))
    ≡ cond (ltb (cond (not t) (1 + position_or_len closes marks) 0) (suc (length marks)))
    (behind_end (mark ∷ marks) (cond (not t) (1 + position_or_len closes marks) 0)) None) [
      | true ↦ rw (lt-ltb 0 (suc (length marks)) (omega arith)) refl
      | false ↦ (
          let p = position_or_len closes marks in
          let one : 1 + p ≡ suc p = omega arith in
          rw (one, set_is marks) (step (ltb p (length marks)) (ltb (suc p) (suc (length marks))) p
          (same_test p (length marks))))
    ]
  where
    same_test : (p n : ℕ) → ltb (suc p) (suc n) ≡ ltb p n
    same_test p n = elim (cases_lt p n) [
      | inl below ↦ lt-ltb _ _ (omega arith) ∙ sym (lt-ltb _ _ below)
      | inr above ↦ le-ltb _ _ (omega arith) ∙ sym (le-ltb _ _ above)
    ]

    step : (b c : Bool) (p : ℕ) → c ≡ b
        → option_map (front_with mark) (cond b (behind_end marks p) None)
        ≡ cond c (behind_end (mark ∷ marks) (suc p)) None
    step true c p e = rw e (one_more mark marks p)
    step false c p e = rw e refl

found_at : {X : Type 0} (f : ℕ → Option X) (b : Bool) (p at : ℕ) → cond b (Some p) None ≡ Some at
    → cond b (f p) None ≡ f at
found_at f true p at e = let same : p ≡ at = cc in ap f same
found_at f false p at e = absurd (cc)

not_found : {X : Type 0} (f : ℕ → Option X) (b : Bool) (p : ℕ) → cond b (Some p) None ≡ None
    → cond b (f p) None ≡ None
not_found f true p e = absurd (cc)
not_found f false p e = refl

pub unended : (inside : List Mark) → position closes inside ≡ None
    → option_and_then with_set (set_and_rest inside) ≡ None
unended inside e = ap (option_and_then with_set) (set_is inside ∙ not_found (behind_end inside) _ _ e)

set_behind : (inside : List Mark) (at : ℕ) (set : Option Element) → set_of (take at inside) ≡ set
    → option_and_then with_set (behind_end inside at)
    ≡ option_and_then (λ element. with_element element (elements_of (drop (suc at) inside))) set
unfolding behind_end
set_behind inside at set e =
    elim (elements_of (drop (suc at) inside)) as (λ o.
    option_and_then with_set (option_map (front_of (take at inside)) o)
    ≡ option_and_then (λ element. with_element element o) set)
    [ None ↦ none set | Some elements ↦ rw e (some elements set) ]
  where
    none : (set : Option Element) → None ≡ option_and_then (λ element. with_element element None) set
    none None = refl
    none (Some element) = refl

    some : (elements : List Element) (set : Option Element)
        → option_map (λ element. element ∷ elements) set
        ≡ option_and_then (λ element. with_element element (Some elements)) set
    some elements None = refl
    some elements (Some element) = refl

pub ended : (inside : List Mark) (at : ℕ) (set : Option Element) → position closes inside ≡ Some at
    → set ≡ set_of (take at inside)
    → option_and_then with_set (set_and_rest inside)
    ≡ option_and_then (λ element. with_element element (elements_of (drop (at + 1) inside))) set
ended inside at set e s =
    let next : at + 1 ≡ suc at = omega arith in
    rw next (ap (option_and_then with_set) (set_is inside ∙ found_at (behind_end inside) _ _ at e)
    ∙ set_behind inside at set (sym s))
