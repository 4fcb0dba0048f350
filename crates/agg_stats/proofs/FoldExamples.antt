-- What minmax and basicstats make of lists of metrics that are written out.
use Rattle.std.proofs.Common.{◌≡◌, ℕ, ℤ, pos, negsuc, true, false, List, [], ◌∷◌, refl}
use Rattle.std.specs.Prelude.{codes}
use Rattle.metric.specs.Draft.{Field}
use Rattle.metric.specs.declared.metric.Content.{Content}
use Rattle.metric.specs.declared.value.Value.{Value}
use Rattle.metric.specs.declared.value.Value.TheVariants.{Int, Uint, Fixed, «Bool» as Truth, Text}
use Rattle.metric.specs.Pairs.{first_of_each}
use Rattle.agg_stats.specs.Asked.{given_of, named}
use Rattle.agg_stats.specs.Folds.{metric_at, series_in, stats_of}
use Rattle.agg_stats.specs.Summary.{sum_of, value_in}
use Rattle.agg_stats.specs.declared.kind.StatsKind.{StatsKind}
use Rattle.agg_stats.specs.declared.kind.StatsKind.TheVariants.{MinMax, Basic}

abbrev metric : List ℕ → List Field → ℤ → Content
metric name fields time = record { name = name; tags = []; fields = fields; time = time }

abbrev at : ℕ → Value → Field
at key value = (key ∷ [], value)

abbrev all : StatsKind
all = Basic true true true true

abbrev sums : StatsKind
sums = Basic true false false false

-- `m`, `n`, `a` and `b`
abbrev m : List ℕ
m = 109 ∷ []

abbrev n : List ℕ
n = 110 ∷ []

abbrev a : List ℕ
a = 97 ∷ []

abbrev b : List ℕ
b = 98 ∷ []

-- numbers of two types, texts and truth values, and a series without a number
pub statistics : stats_of all (pos 10)
    (metric m (at 97 (Int (pos 1)) ∷ at 98 (Text (codes "x")) ∷ at 99 (Truth true) ∷ []) (pos 1)
    ∷ metric m (at 97 (Fixed (pos 2500000000)) ∷ at 100 (Uint 3) ∷ []) (pos 2)
    ∷ metric n (at 115 (Text (codes "y")) ∷ []) (pos 3)
    ∷ metric m (at 100 (Uint 4) ∷ []) (pos 4) ∷ [])
    ≡ metric m ((codes "a_sum", Fixed (pos 3500000000)) ∷ (codes "a_count", Int (pos 2))
    ∷ (codes "a_min", Fixed (pos 1000000000)) ∷ (codes "a_max", Fixed (pos 2500000000))
    ∷ (codes "d_sum", Uint 7) ∷ (codes "d_count", Int (pos 2)) ∷ (codes "d_min", Uint 3) ∷ (codes "d_max", Uint 4) ∷ [])
    (pos 10) ∷ []
unfolding series_in sum_of value_in named given_of metric_at first_of_each
statistics = refl

-- a sum that is too large for its type, and one that comes back into it
pub large_sum : stats_of sums (pos 10) (metric m (at 102 (Int (pos 9223372036854775807)) ∷ []) (pos 1)
    ∷ metric m (at 102 (Int (pos 1)) ∷ []) (pos 2) ∷ [])
    ≡ metric m ((codes "f_sum", Fixed (pos 9223372036854775808000000000)) ∷ []) (pos 10) ∷ []
unfolding series_in sum_of value_in named given_of metric_at first_of_each
large_sum = refl

pub sum_within : stats_of sums (pos 10) (metric m (at 102 (Int (pos 9223372036854775807)) ∷ []) (pos 1)
    ∷ metric m (at 102 (Int (pos 1)) ∷ []) (pos 2) ∷ metric m (at 102 (Int (negsuc 4)) ∷ []) (pos 3) ∷ [])
    ≡ metric m ((codes "f_sum", Int (pos 9223372036854775803)) ∷ []) (pos 10) ∷ []
unfolding series_in sum_of value_in named given_of metric_at first_of_each
sum_within = refl

-- a sum that fits no type
pub no_sum : stats_of sums (pos 10) (metric m (at 102 (Uint 18446744073709551615) ∷ []) (pos 1)
    ∷ metric m (at 102 (Uint 1) ∷ []) (pos 2) ∷ []) ≡ []
unfolding series_in sum_of value_in named given_of metric_at first_of_each
no_sum = refl

pub fixed_sum : stats_of sums (pos 10) (metric m (at 102 (Fixed (pos 18446744073709551615500000000)) ∷ []) (pos 1)
    ∷ metric m (at 102 (Fixed (pos 1000000000)) ∷ []) (pos 2)
    ∷ metric m (at 102 (Fixed (negsuc 1999999999)) ∷ []) (pos 3) ∷ [])
    ≡ metric m ((codes "f_sum", Fixed (pos 18446744073709551614500000000)) ∷ []) (pos 10) ∷ []
unfolding series_in sum_of value_in named given_of metric_at first_of_each
fixed_sum = refl

pub mixed_sum : stats_of sums (pos 10) (metric m (at 102 (Int (pos 1)) ∷ []) (pos 1)
    ∷ metric m (at 102 (Uint 2) ∷ []) (pos 2) ∷ [])
    ≡ metric m ((codes "f_sum", Fixed (pos 3000000000)) ∷ []) (pos 10) ∷ []
unfolding series_in sum_of value_in named given_of metric_at first_of_each
mixed_sum = refl

-- series by their first member, fields by their first number
pub orders : stats_of MinMax (pos 10)
    (metric a (at 115 (Text (codes "x")) ∷ at 119 (Int (pos 1)) ∷ []) (pos 1)
    ∷ metric b (at 118 (Int (pos 1)) ∷ []) (pos 1)
    ∷ metric a (at 118 (Int (pos 1)) ∷ at 115 (Int (pos 2)) ∷ []) (pos 2) ∷ [])
    ≡ metric a ((codes "w_min", Int (pos 1)) ∷ (codes "w_max", Int (pos 1)) ∷ (codes "v_min", Int (pos 1))
    ∷ (codes "v_max", Int (pos 1)) ∷ (codes "s_min", Int (pos 2)) ∷ (codes "s_max", Int (pos 2)) ∷ []) (pos 10)
    ∷ metric b ((codes "v_min", Int (pos 1)) ∷ (codes "v_max", Int (pos 1)) ∷ []) (pos 10) ∷ []
unfolding series_in sum_of value_in named given_of metric_at first_of_each
orders = refl
