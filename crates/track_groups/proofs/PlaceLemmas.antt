-- Groups whose numbers rise: where one stands, and what a change of it, or its removal, leaves.
use Rattle.std.proofs.Common.{◌≡◌, ℕ, ◌<◌, ◌≤◌, ◌≢◌, true, false, List, [], ◌∷◌, length, get_or, set}
use Rattle.std.proofs.Common.{Some, None, IsSome, Result, Ok, Err, zero, suc, refl, sym, ap, inl, inr, arith}
use Rattle.std.specs.Prelude.{find, All, IsOkAnd, remove}
use Rattle.std.specs.List.Sorted.{IsBinarySearchResult, IsNonDecreasingBy}
use Rattle.std.specs.Ordering.{nat_cmp, ordering_index}
use Rattle.std.proofs.lemmas.Bool.{cases_eq, cases_lt}
use Rattle.std.proofs.lemmas.Bool.Decides.{nat_tests}
use Rattle.std.proofs.lemmas.Cmp.{ranked}
use Rattle.track_groups.specs.declared.group.LiveGroup.{LiveGroup}
use Rattle.track_groups.specs.Tracker.{has_number, changed, without, Rises}

-- no group has this number
abbrev pub NoneHas : ℕ → List LiveGroup → Type 0
NoneHas g groups = All (λ group. group.number ≢ g) groups

pub has-true : (g : ℕ) (group : LiveGroup) → group.number ≡ g → has_number g group ≡ true
has-true g group e = grind (arith, nat_tests)

pub has-false : (g : ℕ) (group : LiveGroup) → group.number ≢ g → has_number g group ≡ false
has-false g group n = grind (arith, nat_tests, n)

pub find_none : (g : ℕ) (groups : List LiveGroup) → NoneHas g groups → find (has_number g) groups ≡ None
find_none g [] none = refl
find_none g (x ∷ xs) none =
    let f : has_number g x ≡ false = has-false g x (none 0 x (omega arith)) in
    rw f (find_none g xs (λ k d l. none (suc k) d (omega arith)))

pub rises-tail : (x : LiveGroup) (xs : List LiveGroup) → Rises (x ∷ xs) → Rises xs
rises-tail x xs rises i j d l m = rises (suc i) (suc j) d (omega arith) (omega arith)

-- the groups behind the first have other numbers
pub none_behind : (x : LiveGroup) (xs : List LiveGroup) → Rises (x ∷ xs) → NoneHas x.number xs
none_behind x xs rises k d l e = let up = rises 0 (suc k) d (omega arith) (omega arith) in omega arith

-- the group at a place is the one with its number
pub find_at : (groups : List LiveGroup) (at : ℕ) (d : LiveGroup) → Rises groups → at < length groups →
    find (has_number (get_or groups at d).number) groups ≡ Some (get_or groups at d)
find_at [] at d rises l = absurd (omega arith)
find_at (x ∷ xs) zero d rises l = let f : has_number x.number x ≡ true = has-true x.number x refl in rw f refl
find_at (x ∷ xs) (suc at) d rises l =
    let up : x.number < (get_or xs at d).number = rises 0 (suc at) d (omega arith) l in
    let f : has_number (get_or xs at d).number x ≡ false = has-false _ x (λ e. omega arith) in
    rw f (find_at xs at d (rises-tail x xs rises) (omega arith))

pub changed_none : (g : ℕ) (change : LiveGroup → LiveGroup) (groups : List LiveGroup) → NoneHas g groups →
    changed g change groups ≡ groups
changed_none g change [] none = refl
changed_none g change (x ∷ xs) none =
    let f : has_number g x ≡ false = has-false g x (none 0 x (omega arith)) in
    rw f (ap (λ (ys : List LiveGroup). x ∷ ys) (changed_none g change xs (λ k d l. none (suc k) d (omega arith))))

pub changed_at : (change : LiveGroup → LiveGroup) (groups : List LiveGroup) (at : ℕ) (d : LiveGroup) → Rises groups →
    at < length groups →
    changed (get_or groups at d).number change groups ≡ set groups at (change (get_or groups at d))
changed_at change [] at d rises l = absurd (omega arith)
changed_at change (x ∷ xs) zero d rises l =
    let f : has_number x.number x ≡ true = has-true x.number x refl in
    rw f (ap (λ (ys : List LiveGroup). change x ∷ ys) (changed_none x.number change xs (none_behind x xs rises)))
changed_at change (x ∷ xs) (suc at) d rises l =
    let up : x.number < (get_or xs at d).number = rises 0 (suc at) d (omega arith) l in
    let f : has_number (get_or xs at d).number x ≡ false = has-false _ x (λ e. omega arith) in
    rw f (ap (λ (ys : List LiveGroup). x ∷ ys) (changed_at change xs at d (rises-tail x xs rises) (omega arith)))

pub without_none : (g : ℕ) (groups : List LiveGroup) → NoneHas g groups → without g groups ≡ groups
without_none g [] none = refl
without_none g (x ∷ xs) none =
    let f : has_number g x ≡ false = has-false g x (none 0 x (omega arith)) in
    rw f (ap (λ (ys : List LiveGroup). x ∷ ys) (without_none g xs (λ k d l. none (suc k) d (omega arith))))

pub without_at : (groups : List LiveGroup) (at : ℕ) (d : LiveGroup) → Rises groups → at < length groups →
    without (get_or groups at d).number groups ≡ remove groups at
without_at [] at d rises l = absurd (omega arith)
without_at (x ∷ xs) zero d rises l =
    let f : has_number x.number x ≡ true = has-true x.number x refl in
    rw f (without_none x.number xs (none_behind x xs rises))
without_at (x ∷ xs) (suc at) d rises l =
    let up : x.number < (get_or xs at d).number = rises 0 (suc at) d (omega arith) l in
    let f : has_number (get_or xs at d).number x ≡ false = has-false _ x (λ e. omega arith) in
    rw f (ap (λ (ys : List LiveGroup). x ∷ ys) (without_at xs at d (rises-tail x xs rises) (omega arith)))

-- what a search asks: the comparisons with a number rise
index_up : (a b g : ℕ) → a ≤ b → ordering_index (nat_cmp a g) ≤ ordering_index (nat_cmp b g)
index_up a b g l = grind (arith, nat_tests)

numbers_up : (groups : List LiveGroup) → Rises groups → (i j : ℕ) (d : LiveGroup) → i ≤ j → j < length groups →
    (get_or groups i d).number ≤ (get_or groups j d).number
numbers_up groups rises i j d l m =
    elim (cases_eq i j) [
      | inl e ↦ (let same : (get_or groups i d).number ≡ (get_or groups j d).number =
          ap (λ k. (get_or groups k d).number) e in omega arith)
      | inr n ↦ (let up = rises i j d (omega (arith, n)) m in omega arith)
    ]

comparisons_rise : (g : ℕ) (groups : List LiveGroup) → Rises groups →
    IsNonDecreasingBy (λ group. ordering_index (nat_cmp group.number g)) groups
comparisons_rise g groups rises i j d l m = index_up _ _ g (numbers_up groups rises i j d l m)

none_found : (g : ℕ) (groups : List LiveGroup) → NoneHas g groups → IsSome (find (has_number g) groups) → ⊥
none_found g groups none live = grind (arith, find_none g groups none)

-- A search for the number of a live group finds it.
pub searched : (g : ℕ) (groups : List LiveGroup) → Rises groups → IsSome (find (has_number g) groups) →
    (r : Result ℕ ℕ) → IsBinarySearchResult (λ group. nat_cmp group.number g) groups r →
    IsOkAnd r (λ at. (d : LiveGroup) → (get_or groups at d).number ≡ g)
searched g groups rises live (Ok at) equal = λ d. ranked _ g _ (sym (equal d))
searched g groups rises live (Err at) parted =
    let parts = parted (comparisons_rise g groups rises) in
    let none : NoneHas g groups = λ k d l e.
    elim (cases_lt k at) [
      | inl m ↦ (let less = ranked _ g _ (sym (parts.0 k d (omega arith) m)) in omega (arith, less))
      | inr m ↦ (let more = ranked _ g _ (sym (parts.1 k d m l)) in omega (arith, more))
    ]
    in
    absurd (none_found g groups none live)
