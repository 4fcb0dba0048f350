-- The series of a metric: its name and its tags.
use Rattle.std.specs.Prelude.{◌≡◌, ℕ, ◌&&◌, ◌++◌, Bool, List}
use Rattle.std.proofs.Common.{sym}
use Rattle.std.specs.Str.{bytes_eq}
use Rattle.std.specs.Cmp.{IsEquivalence, IsTotalOrder, and_equiv, both_tied, on_equiv, on_total, then_total}
use Rattle.std.specs.Cmp.Lexicographic.{pointwise, lists_equiv, lists_ties, lists_total, slice_cmp, nat_list_cmp_total}
use Rattle.std.specs.Cmp.Lexicographic.{nat_list_eq_equiv}
use Rattle.std.specs.Hash as fed
use Rattle.std.specs.Hash.{HashWrites, Alike, and-Alike, items_Alike, on_Alike, same_Alike}
use Rattle.std.specs.Ordering.{is_eq, nat_cmp, ordering_then}
use Rattle.std.specs.declared.cmp.Ordering.{Ordering}
use Rattle.std.proofs.lemmas.Map.Text.{is_eq-slice_cmp}
use Rattle.std.proofs.lemmas.Slice.Eq.{bytes_eq-Decides}

abbrev pub Tag : Type 0
Tag = List ℕ × List ℕ

abbrev pub Series : Type 0
Series = List ℕ × List Tag

abbrev pub tag_eq : Tag → Tag → Bool
tag_eq a b = bytes_eq a.0 b.0 && bytes_eq a.1 b.1

-- two series are equal where their names and their tags are
abbrev pub series_eq : Series → Series → Bool
series_eq a b = bytes_eq a.0 b.0 && pointwise tag_eq a.1 b.1

abbrev pub tag_cmp : Tag → Tag → Ordering
tag_cmp a b = ordering_then (slice_cmp nat_cmp a.0 b.0) (slice_cmp nat_cmp a.1 b.1)

-- they are ordered by name, and those of one name by their tags, from the first one on
abbrev pub series_cmp : Series → Series → Ordering
series_cmp a b = ordering_then (slice_cmp nat_cmp a.0 b.0) (slice_cmp tag_cmp a.1 b.1)

abbrev pub tag_writes : Tag → HashWrites
tag_writes tag = fed.str tag.0 ++ fed.str tag.1

-- what is hashed of one is its name, and then its tags
abbrev pub series_writes : Series → HashWrites
series_writes s = fed.str s.0 ++ fed.slice tag_writes s.1

tag_equiv : IsEquivalence tag_eq
tag_equiv = and_equiv (on_equiv (λ (t : Tag). t.0) nat_list_eq_equiv) (on_equiv (λ (t : Tag). t.1) nat_list_eq_equiv)

pub series_equiv : IsEquivalence series_eq
series_equiv = and_equiv (on_equiv (λ (s : Series). s.0) nat_list_eq_equiv)
    (on_equiv (λ (s : Series). s.1) (lists_equiv tag_equiv))

text_alike : Alike bytes_eq fed.str
text_alike = same_Alike fed.str bytes_eq-Decides

tag_alike : Alike tag_eq tag_writes
tag_alike = and-Alike (on_Alike (λ (t : Tag). t.0) text_alike) (on_Alike (λ (t : Tag). t.1) text_alike)

pub series_alike : Alike series_eq series_writes
series_alike = and-Alike (on_Alike (λ (s : Series). s.0) text_alike)
    (on_Alike (λ (s : Series). s.1) (items_Alike tag_alike))

tag_total : IsTotalOrder tag_cmp
tag_total = then_total (on_total (λ (t : Tag). t.0) nat_list_cmp_total) (on_total (λ (t : Tag). t.1) nat_list_cmp_total)

pub series_total : IsTotalOrder series_cmp
series_total = then_total (on_total (λ (s : Series). s.0) nat_list_cmp_total)
    (on_total (λ (s : Series). s.1) (lists_total tag_total))

text_ties : (a b : List ℕ) → bytes_eq a b ≡ is_eq (slice_cmp nat_cmp a b)
text_ties a b = sym (is_eq-slice_cmp a b)

tag_ties : (a b : Tag) → tag_eq a b ≡ is_eq (tag_cmp a b)
tag_ties a b = both_tied _ _ (slice_cmp nat_cmp a.0 b.0) (slice_cmp nat_cmp a.1 b.1) (text_ties a.0 b.0)
    (text_ties a.1 b.1)

pub series_ties : (a b : Series) → series_eq a b ≡ is_eq (series_cmp a b)
series_ties a b = both_tied _ _ (slice_cmp nat_cmp a.0 b.0) (slice_cmp tag_cmp a.1 b.1) (text_ties a.0 b.0)
    (lists_ties tag_cmp tag_ties a.1 b.1)
