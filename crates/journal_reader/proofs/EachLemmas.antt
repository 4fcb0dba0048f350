-- The loop over parts, for whatever a part says.
use Rattle.std.proofs.Common.{◌≡◌, ℕ, Bool, true, false, List, [], ◌∷◌, ◌++◌, Option, Some, None, refl, sym, ap, ◌∙◌}
use Rattle.std.proofs.Common.{append_assoc}
use Rattle.std.specs.Str.{bytes_eq}
use Rattle.std.specs.Prelude.{codes}
use Rattle.std.proofs.lemmas.List.{append-nil}
use Rattle.metric.specs.declared.metric.Content.{Content}
use Rattle.journal_reader.specs.Words.{◌>>=◌, Parts, each}
use Rattle.journal_reader.specs.EntryReading.{view_of, agg_views}

-- what is read of the parts that are left, behind what was read before
abbrev pub behind : {A : Type 0} → List A → Option (List A) → Option (List A)
behind front reading = reading >>= λ xs. Some (front ++ xs)

regroup : {A : Type 0} (front : List A) (x : A) (r : Option (List A))
    → behind front (r >>= λ xs. Some (x ∷ xs)) ≡ behind (front ++ x ∷ []) r
regroup {A = A} front x (Some xs) = ap (λ (items : List A). Some items) (simp append_assoc)
regroup front x None = refl

begins : {A : Type 0} (r : Option (List A)) → behind [] r ≡ r
begins (Some xs) = refl
begins None = refl

-- where a loop over parts stands: it has read the front, and these are left of all parts
pub record HasRead {A : Type 0} (says : List ℕ → Option A) (all : Parts) (front : List A) (left : Parts) : Type 0 where
  pub total : behind front (each says left) ≡ each says all

-- at first nothing is read
pub nothing_read : {A : Type 0} (says : List ℕ → Option A) (all : Parts) → HasRead says all [] all
nothing_read says all = record { total = begins (each says all) }

-- one more part is read
pub one_more : {A : Type 0} (says : List ℕ → Option A) (all left : Parts) (front : List A) (part : List ℕ)
    (parts : Parts) (x : A)
    → HasRead says all front left → left ≡ part ∷ parts → Some x ≡ says part → HasRead says all (front ++ x ∷ []) parts
unfolding each
one_more says all left front part parts x h is one = record {
  total = sym (regroup front x (each says parts)) ∙ sym (rw (is, ← one) refl) ∙ h.total;
}

-- where a part says nothing, all say nothing
pub none_read : {A : Type 0} (says : List ℕ → Option A) (all left : Parts) (front : List A) (part : List ℕ)
    (parts : Parts)
    → HasRead says all front left → left ≡ part ∷ parts → None ≡ says part → None ≡ each says all
unfolding each
none_read {A = A} says all left front part parts h is none =
    let one : behind front (each says left) ≡ None = rw (is, ← none) refl in
    sym one ∙ h.total

-- where no part is left all are read
pub all_read : {A : Type 0} (says : List ℕ → Option A) (all left : Parts) (front : List A)
    → HasRead says all front left → left ≡ [] → Some front ≡ each says all
unfolding each
all_read {A = A} says all left front h none =
    let one : behind front (each says left) ≡ Some front = rw (none, append-nil front) refl in
    sym one ∙ h.total

-- ---- the views before `/`

abbrev pub Views : Type 0
Views = List (Option Content)

abbrev pub views_behind : Views → Option (Views × Parts) → Option (Views × Parts)
views_behind front reading = reading >>= λ xs. Some (front ++ xs.0, xs.1)

regroup_views : (front : Views) (x : Option Content) (r : Option (Views × Parts))
    → views_behind front (r >>= λ xs. Some (x ∷ xs.0, xs.1)) ≡ views_behind (front ++ x ∷ []) r
regroup_views front x (Some xs) = ap (λ (items : Views). Some (items, xs.1)) (simp append_assoc)
regroup_views front x None = refl

begin_views : (r : Option (Views × Parts)) → views_behind [] r ≡ r
begin_views (Some xs) = refl
begin_views None = refl

-- where the loop over them stands
pub record HasViews (whole : Content) (all : Parts) (front : Views) (left : Parts) : Type 0 where
  pub total : views_behind front (agg_views whole left) ≡ agg_views whole all

pub no_views : (whole : Content) (all : Parts) → HasViews whole all [] all
no_views whole all = record { total = begin_views (agg_views whole all) }

pub one_view : (whole : Content) (all left : Parts) (front : Views) (part : List ℕ) (parts : Parts) (x : Option Content)
    → HasViews whole all front left → left ≡ part ∷ parts → bytes_eq part (codes "/") ≡ false
    → Some x ≡ view_of (Some whole) part → HasViews whole all (front ++ x ∷ []) parts
unfolding agg_views
one_view whole all left front part parts x h is other one = record {
  total = sym (regroup_views front x (agg_views whole parts)) ∙ sym (rw (is, other, ← one) refl) ∙ h.total;
}

pub no_view : (whole : Content) (all left : Parts) (front : Views) (part : List ℕ) (parts : Parts)
    → HasViews whole all front left → left ≡ part ∷ parts → bytes_eq part (codes "/") ≡ false
    → None ≡ view_of (Some whole) part → agg_views whole all ≡ None
unfolding agg_views
no_view whole all left front part parts h is other none =
    let one : views_behind front (agg_views whole left) ≡ None = rw (is, other, ← none) refl in
    sym h.total ∙ one

pub views_end : (whole : Content) (all left : Parts) (front : Views) (part : List ℕ) (parts : Parts)
    → HasViews whole all front left → left ≡ part ∷ parts → bytes_eq part (codes "/") ≡ true
    → agg_views whole all ≡ Some (front, parts)
unfolding agg_views
views_end whole all left front part parts h is slash =
    let one : views_behind front (agg_views whole left) ≡ Some (front, parts) =
    rw (is, slash, append-nil front) refl in
    sym h.total ∙ one

pub views_torn : (whole : Content) (all left : Parts) (front : Views) → HasViews whole all front left → left ≡ []
    → agg_views whole all ≡ None
unfolding agg_views
views_torn whole all left front h none =
    let one : views_behind front (agg_views whole left) ≡ None = rw none refl in
    sym h.total ∙ one
