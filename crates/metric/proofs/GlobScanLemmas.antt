-- A scan that goes back to the last run alone finds what the glob matches.
use Rattle.std.proofs.Common.{◌≡◌, ◌<◌, ◌≤◌, ◌+◌, ℕ, Bool, true, false, List, [], ◌∷◌, length, refl, sym}
use Rattle.std.proofs.Common.{ap, subst, ◌∙◌, ◌||◌, ◌&&◌, inl, inr, arith, mul-le-mul_right}
use Rattle.std.specs.Prelude.{Option, Some, None}
use Rattle.std.proofs.lemmas.Bool.{or_cases, or_right, and_parts, ne_eqb}
use Rattle.metric.specs.declared.glob.Element.{Element}
use Rattle.metric.specs.declared.glob.Element.TheVariants.{Run}
use Rattle.metric.specs.Glob.{stands_for, holds_behind, matches}
use Rattle.metric.specs.GlobScan.{holds_later, matches_again, answer, IsTried, IsScan, left, Advances}
use Rattle.metric.proofs.GlobLemmas.{behind_here}

or_false : (x : Bool) → (x || false) ≡ x
or_false true = refl
or_false false = refl

-- behind some front: here, or later
here_or_later : (test : List ℕ → Bool) (text : List ℕ)
    → (test text || holds_later test text) ≡ holds_behind test text
here_or_later test [] = or_false _
here_or_later test (c ∷ text) = refl

later_behind : (test : List ℕ → Bool) (text : List ℕ) → holds_later test text ≡ true
    → holds_behind test text ≡ true
later_behind test [] h = absurd (cc)
later_behind test (c ∷ text) h = or_right _ _ h

-- behind a front and a further one is behind a front
behind_twice : (test : List ℕ → Bool) (text : List ℕ) → holds_behind (holds_behind test) text ≡ true
    → holds_behind test text ≡ true
behind_twice test [] h = h
behind_twice test (c ∷ text) h =
    elim (or_cases _ _ h) [ inl here ↦ here | inr there ↦ or_right _ _ (behind_twice test text there) ]

later_twice : (test : List ℕ → Bool) (text : List ℕ) → holds_later (holds_behind test) text ≡ true
    → holds_behind test text ≡ true
later_twice test [] h = absurd (cc)
later_twice test (c ∷ text) h = or_right _ _ (behind_twice test text h)

-- an element that stands for a character is no run
one_more : (element : Element) (elements : List Element) (c : ℕ) (text : List ℕ) → stands_for element c ≡ true
    → matches (element ∷ elements) (c ∷ text) ≡ matches elements text
unfolding matches
one_more Run elements c text h = absurd (cc)
one_more element elements c text h = ap (λ b. b && matches elements text) h

at_end : (element : Element) (elements : List Element) (c : ℕ) → stands_for element c ≡ true
    → matches (element ∷ elements) [] ≡ false
unfolding matches
at_end Run elements c h = absurd (cc)
at_end element elements c h = refl

stands : (element : Element) (elements : List Element) (c d : ℕ) (text : List ℕ) → stands_for element c ≡ true
    → matches (element ∷ elements) (d ∷ text) ≡ true → matches elements text ≡ true
unfolding matches
stands Run elements c d text h m = absurd (cc)
stands element elements c d text h m = (and_parts (stands_for element d) (matches elements text) m).1

-- where elements match behind a front, those behind the first match later
one_later : (element : Element) (elements : List Element) (c : ℕ) (text : List ℕ)
    → stands_for element c ≡ true
    → holds_behind (matches (element ∷ elements)) text ≡ true → holds_later (matches elements) text ≡ true
one_later element elements c [] s h = absurd (let e = at_end element elements c s in cc)
one_later element elements c (d ∷ text) s h =
    elim (or_cases _ _ h) [
      | inl here ↦ behind_here (matches elements) text (stands element elements c d text s here)
      | inr there ↦ later_behind (matches elements) text (one_later element elements c text s there)
    ]

-- ---- the steps

run_same : (elements : List Element) (text : List ℕ) (b : Bool)
    → (b ≡ true → holds_later (matches (Run ∷ elements)) text ≡ true)
    → holds_behind (matches elements) text ≡ (matches (Run ∷ elements) text || b)
unfolding matches
run_same elements text true last =
    later_twice (matches elements) text (last refl) ∙ sym (or_right _ true refl)
run_same elements text false last = sym (or_false _)

run_less : (most : ℕ) (elements : List Element) (text : List ℕ) (again : Option (List Element × List ℕ))
    → IsTried most text again
    → left most (record { elements = elements; text = text; again = Some (elements, text) })
    < left most (record { elements = Run ∷ elements; text = text; again = again })
run_less most elements text None tried = omega arith
run_less most elements text (Some old) tried =
    let h : length text ≤ length old.1 = tried.0 in
    let more = mul-le-mul_right {m = length text} {n = length old.1} (most + 1) h in
    omega arith

pub past_run : (most : ℕ) (elements : List Element) (text : List ℕ) (again : Option (List Element × List ℕ))
    → IsScan most (record { elements = Run ∷ elements; text = text; again = again })
    → Advances most (record { elements = Run ∷ elements; text = text; again = again })
    (record { elements = elements; text = text; again = Some (elements, text) })
past_run most elements text again h = record {
  answer = here_or_later (matches elements) text ∙ run_same elements text (matches_again again) h.last;
  scan = record { last = λ e. e; few = omega (arith, h.few); tried = (omega arith, omega (arith, h.few)) };
  less = run_less most elements text again h.tried;
}

pub past_one : (most : ℕ) (element : Element) (elements : List Element) (c : ℕ) (text : List ℕ)
    (again : Option (List Element × List ℕ)) → stands_for element c ≡ true
    → IsScan most (record { elements = element ∷ elements; text = c ∷ text; again = again })
    → Advances most (record { elements = element ∷ elements; text = c ∷ text; again = again })
    (record { elements = elements; text = text; again = again })
past_one most element elements c text again s h = record {
  answer = ap (λ b. b || matches_again again) (sym (one_more element elements c text s));
  scan = record {
    last = λ e. one_later element elements c text s (h.last e);
    few = omega (arith, h.few);
    tried = tried again h.tried;
  };
  less = less again;
}
  where
    tried : (again : Option (List Element × List ℕ)) → IsTried most (c ∷ text) again → IsTried most text again
    tried None t = tt
    tried (Some old) t = (omega (arith, t.0), t.1)

    less : (again : Option (List Element × List ℕ))
        → left most (record { elements = elements; text = text; again = again })
        < left most (record { elements = element ∷ elements; text = c ∷ text; again = again })
    less None = omega arith
    less (Some old) = omega arith

pub back : (most : ℕ) (elements before : List Element) (text : List ℕ) (c : ℕ) (behind : List ℕ)
    → matches elements text ≡ false
    → IsScan most (record { elements = elements; text = text; again = Some (before, c ∷ behind) })
    → Advances most (record { elements = elements; text = text; again = Some (before, c ∷ behind) })
    (record { elements = before; text = behind; again = Some (before, behind) })
back most elements before text c behind miss h = record {
  answer =
      here_or_later (matches before) behind
      ∙ ap (λ b. b || holds_behind (matches before) behind) (sym miss);
  scan = record { last = λ e. e; few = h.tried.1; tried = (omega arith, h.tried.1) };
  less = omega (arith, h.tried.1);
}

pub no_run : (elements : List Element) (text : List ℕ) (again : Option (List Element × List ℕ)) → again ≡ None
    → matches elements text ≡ false
    → false ≡ answer (record { elements = elements; text = text; again = again })
no_run elements text again none miss = rw (none, miss) refl

pub no_text : (elements before : List Element) (text tried : List ℕ) → tried ≡ []
    → matches elements text ≡ false
    → false ≡ answer (record { elements = elements; text = text; again = Some (before, tried) })
no_text elements before text tried none miss = rw (none, miss) refl

-- ---- the same, where the elements and the text are seen by equations

pub run_at : (most : ℕ) (all elements : List Element) (text : List ℕ) (again : Option (List Element × List ℕ))
    → all ≡ Run ∷ elements
    → IsScan most (record { elements = all; text = text; again = again })
    → Advances most (record { elements = all; text = text; again = again })
    (record { elements = elements; text = text; again = Some (elements, text) })
run_at most all elements text again e =
    subst (λ (xs : List Element). IsScan most (record { elements = xs; text = text; again = again })
    → Advances most (record { elements = xs; text = text; again = again })
    (record { elements = elements; text = text; again = Some (elements, text) }))
    (sym e) (past_run most elements text again)

pub one_at : (most : ℕ) (all : List Element) (element : Element) (elements : List Element)
    (whole : List ℕ) (c : ℕ) (text : List ℕ) (again : Option (List Element × List ℕ))
    → all ≡ element ∷ elements → whole ≡ c ∷ text → stands_for element c ≡ true
    → IsScan most (record { elements = all; text = whole; again = again })
    → Advances most (record { elements = all; text = whole; again = again })
    (record { elements = elements; text = text; again = again })
one_at most all element elements whole c text again e t s =
    subst (λ (xs : List Element). IsScan most (record { elements = xs; text = whole; again = again })
    → Advances most (record { elements = xs; text = whole; again = again })
    (record { elements = elements; text = text; again = again })) (sym e)
    (subst (λ (cs : List ℕ). IsScan most (record { elements = element ∷ elements; text = cs; again = again })
    → Advances most (record { elements = element ∷ elements; text = cs; again = again })
    (record { elements = elements; text = text; again = again }))
    (sym t) (past_one most element elements c text again s))

pub back_at : (most : ℕ) (elements before : List Element) (text tried : List ℕ) (c : ℕ)
    (behind : List ℕ)
    → tried ≡ c ∷ behind → matches elements text ≡ false
    → IsScan most (record { elements = elements; text = text; again = Some (before, tried) })
    → Advances most (record { elements = elements; text = text; again = Some (before, tried) })
    (record { elements = before; text = behind; again = Some (before, behind) })
back_at most elements before text tried c behind t miss =
    subst (λ (cs : List ℕ).
    IsScan most (record { elements = elements; text = text; again = Some (before, cs) })
    → Advances most (record { elements = elements; text = text; again = Some (before, cs) })
    (record { elements = before; text = behind; again = Some (before, behind) }))
    (sym t) (back most elements before text c behind miss)

miss_one_here : (element : Element) (elements : List Element) (c : ℕ) (text : List ℕ) → (element ≡ Run → ⊥)
    → stands_for element c ≡ false → matches (element ∷ elements) (c ∷ text) ≡ false
unfolding matches
miss_one_here Run elements c text single s = absurd (single refl)
miss_one_here element elements c text single s = ap (λ b. b && matches elements text) s

pub misses_one : (all : List Element) (element : Element) (elements : List Element) (whole : List ℕ)
    (c : ℕ) (text : List ℕ)
    → all ≡ element ∷ elements → whole ≡ c ∷ text → (element ≡ Run → ⊥) → stands_for element c ≡ false
    → matches all whole ≡ false
misses_one all element elements whole c text e t single s =
    rw (e, t) (miss_one_here element elements c text single s)

miss_end_here : (element : Element) (elements : List Element) → (element ≡ Run → ⊥)
    → matches (element ∷ elements) [] ≡ false
unfolding matches
miss_end_here Run elements single = absurd (single refl)
miss_end_here element elements single = refl

pub misses_end : (all : List Element) (element : Element) (elements : List Element) (whole : List ℕ)
    → all ≡ element ∷ elements → whole ≡ [] → (element ≡ Run → ⊥) → matches all whole ≡ false
misses_end all element elements whole e t single = rw (e, t) (miss_end_here element elements single)

pub misses_rest : (all : List Element) (whole : List ℕ) (c : ℕ) (text : List ℕ) → all ≡ []
    → whole ≡ c ∷ text → matches all whole ≡ false
unfolding matches
misses_rest all whole c text e t = rw (e, t) (ne_eqb (length (c ∷ text)) 0 (λ h. omega arith))

pub ends_both : (all : List Element) (whole : List ℕ) (again : Option (List Element × List ℕ)) → all ≡ []
    → whole ≡ []
    → true ≡ answer (record { elements = all; text = whole; again = again })
unfolding matches
ends_both all whole again e t = rw (e, t) refl
