-- A series and a time.
use Rattle.std.specs.Prelude.{◌≡◌, ◌&&◌, Bool, List}
use Rattle.std.specs.Bool.{Decides}
use Rattle.std.proofs.Common.{ap, refl}
use Rattle.std.proofs.lemmas.Bool.Decides.{Decides-and, Decides-int_eq}
use Rattle.std.specs.Cmp.Lexicographic.{pointwise}
use Rattle.std.specs.Str.{bytes_eq}
use Rattle.std.proofs.lemmas.Slice.Eq.{bytes_eq-Decides, slice_eq-Decides}
use Rattle.std.specs.Ordering.{int_cmp, int_eq, ordering_then}
use Rattle.std.specs.declared.cmp.Ordering.{Ordering}
use Rattle.metric.specs.Series.{series_cmp, series_eq}
use Rattle.metric.specs.Series.{tag_eq, Series, Tag}
use Rattle.metric.specs.declared.metric.Content.{Content}
use Rattle.agg_keep.specs.declared.spot.Spot.{Spot}

-- the series of a metric: its name and its tags
abbrev pub series_of : Content → Series
series_of m = (m.name, m.tags)

-- the series and the time of a metric
abbrev pub spot_of : Content → Spot
spot_of m = record { series = series_of m; time = m.time }

abbrev pub spot_eq : Spot → Spot → Bool
spot_eq a b = series_eq a.series b.series && int_eq a.time b.time

-- they are ordered by series, and those of one series by time
abbrev pub spot_cmp : Spot → Spot → Ordering
spot_cmp a b = ordering_then (series_cmp a.series b.series) (int_cmp a.time b.time)

-- ---- equal ones are the same

pairs_same : {A B : Type 0} (eq_a : A → A → Bool) (eq_b : B → B → Bool) → ((a b : A) → Decides (eq_a a b) (a ≡ b))
    → ((a b : B) → Decides (eq_b a b) (a ≡ b))
    → (x y : A × B) → Decides (eq_a x.0 y.0 && eq_b x.1 y.1) (x ≡ y)
pairs_same {A = A} {B = B} eq_a eq_b a_same b_same x y =
    let both = Decides-and _ _ (a_same x.0 y.0) (b_same x.1 y.1) in
    (λ e. let h = both.0 e in λ i. (h.0 i, h.1 i), λ e. both.1 (ap (λ (p : A × B). p.0) e, ap (λ (p : A × B). p.1) e))

tags_same : (a b : List Tag) → Decides (pointwise tag_eq a b) (a ≡ b)
tags_same a b = slice_eq-Decides (pairs_same bytes_eq bytes_eq bytes_eq-Decides bytes_eq-Decides) a b _ refl

pub series_same : (a b : Series) → Decides (series_eq a b) (a ≡ b)
series_same = pairs_same bytes_eq (pointwise tag_eq) bytes_eq-Decides tags_same

pub spot_same : (a b : Spot) → Decides (spot_eq a b) (a ≡ b)
spot_same a b =
    let both = Decides-and _ _ (series_same a.series b.series) (Decides-int_eq a.time b.time) in (
      λ e. let h = both.0 e in λ i. record { series = h.0 i; time = h.1 i },
      λ e. both.1 (ap (λ (s : Spot). s.series) e, ap (λ (s : Spot). s.time) e),
    )
