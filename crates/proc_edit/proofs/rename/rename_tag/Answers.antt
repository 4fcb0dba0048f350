use Rattle.std.proofs.Common.{◌∙◌, sym, ap, subst}
use Rattle.std.specs.Option.{option_copied}
use Rattle.metric.specs.Metric.{IsFilled}
use Rattle.proc_edit.proofs.RenameLemmas.{value_filled}
use Rattle.proc_edit.proofs.rename.rename_tag.Goals as goal

pub set_tag-requires-clause-value : goal.set_tag-requires-clause-value
set_tag-requires-clause-value c =
    subst IsFilled (sym (c.as_str.ensures ∙ c.in_ok-value.ensures))
    (value_filled _ c.args.from.now _ c.shows_metric.ensures.tags (sym c.tag.ensures ∙ ap option_copied c.in-Some.is))
