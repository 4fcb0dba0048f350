-- A member of a set, with the set's series.
use Rattle.std.specs.Prelude.{◌≡◌, ◌&&◌, Bool, Option, Some, None}
use Rattle.std.proofs.Common.{ap, sym}
use Rattle.std.proofs.lemmas.Bool.Decides.{Decides-and}
use Rattle.std.proofs.lemmas.Map.Text.{is_eq-slice_cmp}
use Rattle.std.proofs.lemmas.Slice.Eq.{bytes_eq-Decides}
use Rattle.std.specs.Bool.{Decides}
use Rattle.std.specs.Str.{bytes_eq}
use Rattle.std.specs.Cmp.{both_tied}
use Rattle.std.specs.Cmp.Lexicographic.{slice_cmp}
use Rattle.std.specs.Ordering.{is_eq, nat_cmp, ordering_then}
use Rattle.std.specs.declared.cmp.Ordering.{Ordering}
use Rattle.metric.specs.Series.{series_eq, Series}
use Rattle.agg_keep.specs.Spot.{series_same}
use Rattle.statsd_server.specs.Marked.{marked_cmp, marked_ties}
use Rattle.statsd_server.specs.declared.member.Member.{Member}
use Rattle.statsd_server.specs.declared.change.Change.{Change}
use Rattle.statsd_server.specs.declared.change.Change.TheVariants.{Names}

abbrev pub member_eq : Member → Member → Bool
member_eq a b = bytes_eq a.text b.text && series_eq a.series b.series

-- they are ordered by their texts, and those of one text by series
abbrev pub member_cmp : Member → Member → Ordering
member_cmp a b = ordering_then (slice_cmp nat_cmp a.text b.text) (marked_cmp a.series b.series)

pub member_ties : (a b : Member) → member_eq a b ≡ is_eq (member_cmp a b)
member_ties a b =
    both_tied _ _ (slice_cmp nat_cmp a.text b.text) (marked_cmp a.series b.series)
    (sym (is_eq-slice_cmp a.text b.text)) (marked_ties a.series b.series)

-- equal ones are the same
pub member_same : (a b : Member) → Decides (member_eq a b) (a ≡ b)
member_same a b =
    let both = Decides-and _ _ (bytes_eq-Decides a.text b.text) (series_same a.series b.series) in (
      λ e. let h = both.0 e in λ i. record { text = h.0 i; series = h.1 i },
      λ e. both.1 (ap (λ (m : Member). m.text) e, ap (λ (m : Member). m.series) e),
    )

-- the member that a change of a series names
abbrev pub member_named : Series → Change → Option Member
member_named series (Names member) = Some (record { text = member; series = series })
member_named series change = None
