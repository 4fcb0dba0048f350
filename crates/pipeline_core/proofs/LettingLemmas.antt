-- Copies are let go one after the other.
use Rattle.std.proofs.Common.{◌≡◌, ℕ, ◌+◌, ◌≤◌, Bool, List, [], ◌∷◌, ◌++◌, length, sym, ap, ◌∙◌, arith}
use Rattle.std.proofs.Common.{append_assoc, append-nil, cond, get_or, take, drop, ◌<◌, take-append-drop}
use Rattle.std.proofs.lemmas.List.{take_more}
use Rattle.std.proofs.lemmas.Grind.{flat_map-append}
use Rattle.std.proofs.lemmas.List.Sums.{sum_by-append}
use Rattle.std.specs.declared.option.Option.{Option}
use Rattle.account.specs.declared.entry.Report.{Report}
use Rattle.track_groups.specs.Settling.{Copy, is_copy_of, times, after_copies, reports_with}
use Rattle.track_groups.specs.Tracker.{TrackerState, IsTracker, copies_of}
use Rattle.track_groups.proofs.SettlingLemmas.{after_none, reports_none}
use Rattle.track_groups.proofs.CopyLemmas.{copies_left}
use Rattle.pipeline_core.specs.Letting.{HasCopies, LetsGo}
use Rattle.pipeline_core.specs.Tracked.{copies_in, copy_of}

-- none
pub lets_none : (old : TrackerState) (told : List Report) → LetsGo [] old told old told
lets_none old told = record {
  tracker = λ first before t e. e ∙ ap (after_copies first) (sym (append-nil before));
  reports = λ first before t e r. r ∙ ap (reports_with first) (sym (append-nil before));
}

-- some, and then others
pub lets_more : (a b : List Copy) (old mid new : TrackerState) (told some tells : List Report) →
    LetsGo a old told mid some → LetsGo b mid some new tells → LetsGo (a ++ b) old told new tells
lets_more a b old mid new told some tells one more = record {
  tracker =
      λ first before t e. more.tracker first (before ++ a) t (one.tracker first before t e)
      ∙ ap (after_copies first) (append_assoc before a b);
  reports =
      λ first before t e r. more.reports first (before ++ a) t (one.tracker first before t e)
      (one.reports first before t e r) ∙ ap (reports_with first) (append_assoc before a b);
}

pub times-append : (g : ℕ) (a b : List Copy) → times g (a ++ b) ≡ times g a + times g b
times-append g a b = sum_by-append (λ (c : Copy). cond (is_copy_of g c) 1 0) a b

-- once some were let go, the others still wait
pub has_others : (a b : List Copy) (old mid : TrackerState) (told some : List Report) → IsTracker old →
    LetsGo a old told mid some → HasCopies (a ++ b) old → HasCopies b mid
has_others a b old mid told some t goes has g =
    let all = times-append g a b in
    let few = has g in
    let left = copies_left old a g t (omega arith) in
    let is : mid ≡ after_copies old a = goes.tracker old [] t (sym (after_none old t)) in
    let same : copies_of mid g ≡ copies_of (after_copies old a) g = ap (λ (s : TrackerState). copies_of s g) is in
    omega arith

-- there are those that are let go first
pub has_first : (a b : List Copy) (t : TrackerState) → HasCopies (a ++ b) t → HasCopies a t
has_first a b t has g =
    let all = times-append g a b in
    let few = has g in
    omega arith

-- the reports of what was let go first
pub lets_all : (a : List Copy) (old new : TrackerState) (told tells : List Report) → IsTracker old → told ≡ [] →
    LetsGo a old told new tells → (new ≡ after_copies old a) × (tells ≡ reports_with old a)
lets_all a old new told tells t none goes = (
  goes.tracker old [] t (sym (after_none old t)),
  goes.reports old [] t (sym (after_none old t)) (none ∙ sym (reports_none old t)),
)

copies_in-append : (dropped : Bool) (xs ys : List (Option ℕ)) →
    copies_in dropped (xs ++ ys) ≡ copies_in dropped xs ++ copies_in dropped ys
copies_in-append dropped xs ys = flat_map-append (copy_of dropped) xs ys

one_in : (dropped : Bool) (x : Option ℕ) → copies_in dropped (x ∷ []) ≡ copy_of dropped x
one_in dropped x = append-nil (copy_of dropped x)

-- the copies of the first ones, and of the next
pub next_in : (dropped : Bool) (all : List (Option ℕ)) (i : ℕ) (x d : Option ℕ) → i < length all →
    x ≡ get_or all i d → copies_in dropped (take (i + 1) all) ≡ copies_in dropped (take i all) ++ copy_of dropped x
next_in dropped all i x d b e =
    ap (copies_in dropped) (take_more all i d b ∙ ap (λ (y : Option ℕ). take i all ++ y ∷ []) (sym e))
    ∙ copies_in-append dropped (take i all) (x ∷ [])
    ∙ ap (λ (rest : List Copy). copies_in dropped (take i all) ++ rest) (one_in dropped x)

-- no more than all of them
times_in : (g : ℕ) (dropped : Bool) (all : List (Option ℕ)) (n : ℕ) →
    times g (copies_in dropped (take n all)) ≤ times g (copies_in dropped all)
times_in g dropped all n =
    let whole : copies_in dropped all ≡ copies_in dropped (take n all) ++ copies_in dropped (drop n all) =
    ap (copies_in dropped) (sym (take-append-drop n all)) ∙ copies_in-append dropped (take n all) (drop n all) in
    let sum = times-append g (copies_in dropped (take n all)) (copies_in dropped (drop n all)) in
    let same = ap (times g) whole in
    omega arith

pub has_next : (dropped : Bool) (all : List (Option ℕ)) (i : ℕ) (x d : Option ℕ) (old mid : TrackerState)
    (told some : List Report) → i < length all → x ≡ get_or all i d → IsTracker old →
    LetsGo (copies_in dropped (take i all)) old told mid some → HasCopies (copies_in dropped all) old →
    HasCopies (copy_of dropped x) mid
has_next dropped all i x d old mid told some b e t goes has =
    has_others (copies_in dropped (take i all)) (copy_of dropped x) old mid told some t goes
    (λ g. (let same = ap (times g) (next_in dropped all i x d b e) in
    let few = times_in g dropped all (i + 1) in
    let all_few = has g in
    omega arith))
