-- Series with a number by which most of them are told apart.
use Rattle.std.specs.Prelude.{ℕ, ◌≡◌, ◌<◌, ◌&&◌, ◌*◌, ◌+◌, ◌^◌, ◌%◌, Bool, true, false, List, length}
use Rattle.std.specs.List.{fold, AllByRecursion}
use Rattle.std.proofs.Common.{ap, refl, subst, sym, ◌∙◌}
use Rattle.std.specs.Cmp.{IsTotalOrder, both_tied, nat_cmp_total, on_total, then_total, tied_itself}
use Rattle.std.specs.Ordering.{is_eq, nat_cmp, ordering_then}
use Rattle.std.specs.declared.cmp.Ordering.{Ordering}
use Rattle.metric.specs.Draft.{Tag}
use Rattle.metric.specs.Series.{series_cmp, series_eq, series_ties, series_total, Series}
use Rattle.agg_keep.specs.Spot.{series_same}
use Rattle.statsd_text.specs.TagMap.{HasValue, IsKeyed}

-- a number, with a byte more
unfoldable pub mixed : ℕ → ℕ → ℕ
mixed mark byte = ((mark * 31) % 2 ^ 64 + byte) % 2 ^ 64

-- with a text more
abbrev pub text_mark : ℕ → List ℕ → ℕ
text_mark mark text = fold mixed mark text

-- with the value of a tag more
abbrev pub tag_mark : ℕ → Tag → ℕ
tag_mark mark tag = text_mark mark tag.1

-- with the values of tags more
abbrev pub tags_mark : ℕ → List Tag → ℕ
tags_mark mark tags = fold tag_mark mark tags

-- that of a series: of its name and the values of its tags
abbrev pub mark_of : Series → ℕ
mark_of s = tags_mark (text_mark 0 s.0) s.1

-- its name is filled, its tags are in the order of their keys, and they and their keys are filled
pub record IsSound (s : Series) : Type 0 where
  pub named : 0 < length s.0
  pub keyed : IsKeyed s.1
  pub valued : AllByRecursion HasValue s.1

-- series are ordered by their numbers, and those of one number by themselves
abbrev pub marked_cmp : Series → Series → Ordering
marked_cmp a b = ordering_then (nat_cmp (mark_of a) (mark_of b)) (series_cmp a b)

pub marked_total : IsTotalOrder marked_cmp
marked_total = then_total (on_total mark_of nat_cmp_total) series_total

and_false : (t : Bool) → (t && false) ≡ false
and_false true = refl
and_false false = refl

pub marked_ties : (a b : Series) → series_eq a b ≡ is_eq (marked_cmp a b)
marked_ties a b =
    elim (series_eq a b) as (λ t. series_eq a b ≡ t → t ≡ is_eq (marked_cmp a b)) [
      | true ↦ λ e. subst (λ (s : Series). true ≡ is_eq (marked_cmp a s)) ((series_same a b).0 e)
          (sym (ap is_eq (tied_itself marked_total a)))
      | false ↦ λ e. sym (and_false (is_eq (nat_cmp (mark_of a) (mark_of b))))
          ∙ both_tied _ false (nat_cmp (mark_of a) (mark_of b)) (series_cmp a b) refl (sym e ∙ series_ties a b)
    ] refl
