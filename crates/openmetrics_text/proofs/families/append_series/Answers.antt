use Rattle.std.proofs.Common.{◌≡◌, ◌++◌, ◌∙◌, length, ap, subst, arith}
use Rattle.text_parts.specs.Adds.{Adds}
use Rattle.openmetrics_text.specs.Groups.{Lines, lines_text, series_text}
use Rattle.openmetrics_text.proofs.SampleLemmas.{only_in_series}
use Rattle.openmetrics_text.proofs.families.append_series.Goals as goal

pub returns-in-len1 : goal.returns-in-len1
returns-in-len1 c =
    let one : length c.args.samples.now ≡ 1 = omega (arith, c.in-len1.len_at_least, c.in-len1.len_below) in
    subst (Adds c.append_bytes.result c.args.out.now.items c.append_bytes.new.out.items)
    (only_in_series c.args.samples.now _ one) c.append_bytes.ensures

pub returns : goal.returns
unfolding series_text
returns c = c.in_ok-append_all.ensures ∙ ap (λ (lines : Lines). c.args.out.now.items ++ lines_text lines)
    c.in_ok-lines.ensures
