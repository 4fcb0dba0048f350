use Rattle.std.proofs.Common.{◌≡◌, ◌++◌, ◌∙◌, List, length, map, ap, subst, arith}
use Rattle.std.specs.List.{flat_map}
use Rattle.text_parts.specs.Adds.{Adds}
use Rattle.openmetrics_text.specs.declared.groups.SampleLine.{SampleLine}
use Rattle.openmetrics_text.specs.Groups.{Grouped, by_series, series_group, samples_text}
use Rattle.openmetrics_text.specs.WriteViews.{line_view}
use Rattle.openmetrics_text.proofs.SampleLemmas.{only_in_family}
use Rattle.openmetrics_text.proofs.families.append_samples.Goals as goal

pub returns-in-len1 : goal.returns-in-len1
returns-in-len1 c =
    let samples = c.as_slice-samples.result.now in
    let one : length c.as_slice-samples.result.now ≡ 1 = omega (arith, c.in-len1.len_at_least, c.in-len1.len_below) in
    subst (Adds c.append_bytes.result c.args.out.now.items c.append_bytes.new.out.items)
    (only_in_family samples _ one ∙ ap (λ (all : List SampleLine). samples_text (map line_view all))
    c.as_slice-samples.ensures) c.append_bytes.ensures

pub returns : goal.returns
unfolding samples_text
returns c =
    c.in_ok-append_each_series.ensures
    ∙ ap (λ (groups : List Grouped). c.args.out.now.items ++ flat_map series_group groups)
    (c.as_slice.ensures ∙ c.in_ok-groups.ensures ∙ ap (λ (all : List SampleLine). by_series (map line_view all))
    c.as_slice-samples.ensures)
