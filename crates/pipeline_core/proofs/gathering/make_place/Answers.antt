use Rattle.std.proofs.Common.{◌∙◌, ap, sym}
use Rattle.std.proofs.lemmas.List.{get_or_default}
use Rattle.pipeline_core.specs.ToldView.{no_reports, reports_in}
use Rattle.pipeline_core.proofs.TellingLemmas.{same_told}
use Rattle.pipeline_core.proofs.gathering.make_place.Goals as goal

pub returns-clause-reports : goal.returns-clause-reports
returns-clause-reports c =
    same_told c.args.told.now.items c.args.input c.reserve.new.self c.requires
    (c.reserve.ensures.same ∙ ap reports_in (c.index_mut.ensures.value
    ∙ sym (get_or_default c.args.told.now.items c.args.input no_reports c.index_mut.result.now c.requires)))
