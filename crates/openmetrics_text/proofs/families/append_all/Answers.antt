use Rattle.std.proofs.Common.{ℕ, ℤ, List, ap, sym, ◌∙◌, ◌++◌, rules, refl}
use Rattle.std.proofs.lemmas.List.Folds.{flat_map-map}
use Rattle.text_parts.proofs.Adding.{fails}
use Rattle.openmetrics_text.specs.Groups.{lines_text}
use Rattle.openmetrics_text.specs.WriteViews.{line_entry}
use Rattle.openmetrics_text.proofs.Sweeping.{sweeps_none, sweeps_more, sweeps_all, sweeps_failed}
use Rattle.openmetrics_text.proofs.families.append_all.Goals as goal

pub loop-time-init : goal.loop-time-init
loop-time-init c = sweeps_none _ _ _ _ _ refl (search rules)

pub loop-time-preserved : goal.loop-time-preserved
loop-time-preserved c = sweeps_more _ _ _ _ _ _ (c.in-Some._time.now, c.in-Some.line.now) _ c.loop-time.invariant
    c.in-Some.ensures.steps (search rules)

pub returns-in_err-append_bytes : goal.returns-in_err-append_bytes
returns-in_err-append_bytes c = fails _ _ _ _ c.from_residual.ensures.0
    (sweeps_failed _ _ _ _ _ _ c.loop-time.invariant c.in_err-append_bytes.ensures)

pub returns : goal.returns
unfolding lines_text
returns c =
    sweeps_all _ _ _ _ _ c.loop-time.invariant c.in-None.ensures.steps.0
    ∙ ap (λ (text : List ℕ). c.args.out.now.items ++ text) (sym
    (flat_map-map (λ (line : ℤ × List ℕ). line.1) line_entry c.args.lines.now.entries))
