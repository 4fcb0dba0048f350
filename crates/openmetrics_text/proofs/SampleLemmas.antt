-- Samples as the code has them, in groups and alone.
use Rattle.std.proofs.Common.{◌≡◌, ◌<◌, ◌+◌, ℕ, List, [], ◌∷◌, ◌++◌, length, get_or, set, map, take, refl, sym, ap, ◌∙◌}
use Rattle.std.proofs.Common.{arith, append-nil}
use Rattle.std.proofs.lemmas.List.{map-set, map-append, map_more, get_or-map}
use Rattle.metric.specs.Pairs.{first_of_each}
use Rattle.openmetrics_text.specs.Groups.{Grouped, Lines, Written, with_last, put_line, grouped, by_time_on, lines_text}
use Rattle.openmetrics_text.specs.Groups.{series_text, samples_text}
use Rattle.openmetrics_text.specs.WriteViews.{line_view, group_view, HasMore}
use Rattle.openmetrics_text.specs.declared.groups.Group.{Group}
use Rattle.openmetrics_text.specs.declared.groups.SampleLine.{SampleLine}
use Rattle.openmetrics_text.proofs.GatherLemmas.{by_time-push}
use Rattle.metric.proofs.GroupLemmas.{same_texts}

-- ---- one sample more

pub more_at : (groups : List Group) (index : ℕ) (group : Group) (samples : List SampleLine) (line : SampleLine)
    → index < length groups → group ≡ get_or groups index group → samples ≡ group.samples ++ line ∷ []
    → HasMore (map group_view groups) index (line_view line)
    (map group_view (set groups index (record { key = group.key; samples = samples })))
more_at groups index group samples line lt is made = λ d.
    map-set group_view groups index (record { key = group.key; samples = samples })
    ∙ ap (λ (g : Grouped). set (map group_view groups) index g)
    ((λ j. (group.key.now, map line_view (made j)))
    ∙ (λ j. (group.key.now, map-append line_view group.samples (line ∷ []) j))
    ∙ ap (λ (g : Grouped). (g.0, with_last (line_view line) g.1))
    (ap group_view is ∙ sym (get_or-map group_view groups index group d lt)))

pub lines_more : (samples : List SampleLine) (i : ℕ) (d : SampleLine) (now new : Lines) → i < length samples
    → now ≡ by_time_on [] (map line_view (take i samples))
    → new ≡ put_line (get_or samples i d).time (get_or samples i d).text.now now
    → new ≡ by_time_on [] (map line_view (take (i + 1) samples))
lines_more samples i d now new lt before put =
    put ∙ ap (put_line (get_or samples i d).time (get_or samples i d).text.now) before
    ∙ sym (by_time-push [] (map line_view (take i samples)) (line_view (get_or samples i d)))
    ∙ ap (by_time_on []) (sym (map_more line_view samples i d lt))

-- ---- a sample alone

alone_in_series : (sample : Written) → sample.text ≡ series_text (sample ∷ [])
unfolding series_text lines_text by_time_on
alone_in_series sample = sym (append-nil sample.text)

alone_in_family : (sample : Written) → sample.text ≡ samples_text (sample ∷ [])
unfolding samples_text grouped first_of_each
alone_in_family sample = rw (same_texts sample.series sample.series refl)
    (alone_in_series sample ∙ sym (append-nil (series_text (sample ∷ []))))

pub only_in_series : (samples : List SampleLine) (d : SampleLine) → length samples ≡ 1
    → (get_or samples 0 d).text.now ≡ series_text (map line_view samples)
only_in_series [] d one = absurd (omega (arith, one))
only_in_series (sample ∷ []) d one = alone_in_series (line_view sample)
only_in_series (sample ∷ other ∷ samples) d one = absurd (omega (arith, one))

pub only_in_family : (samples : List SampleLine) (d : SampleLine) → length samples ≡ 1
    → (get_or samples 0 d).text.now ≡ samples_text (map line_view samples)
only_in_family [] d one = absurd (omega (arith, one))
only_in_family (sample ∷ []) d one = alone_in_family (line_view sample)
only_in_family (sample ∷ other ∷ samples) d one = absurd (omega (arith, one))
