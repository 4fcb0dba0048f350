use Rattle.std.proofs.Common.{◌≡◌, ◌∙◌, false, subst}
use Rattle.metric.specs.declared.metric.Content.{Content}
use Rattle.proc_dedup.specs.Dedup.{is_removed}
use Rattle.proc_dedup.proofs.DedupLemmas.{seen_fresh, seen_repeated}
use Rattle.std.specs.Prelude.{Some}
use Rattle.proc_chain.specs.Seen.{WorkSees}
use Rattle.proc_chain.specs.declared.stage.Seen.TheVariants.{Removed}
use Rattle.proc_chain.specs.declared.step.StepWork.TheVariants as said
use Rattle.proc_chain.proofs.GoingLemmas.{stays}
use Rattle.proc_chain.proofs.SeenLemmas.{kept_later, removed_now}
use Rattle.proc_chain.proofs.stage.look_back.Goals as goal

pub returns-in-Repeated-clause-sees : goal.returns-in-Repeated-clause-sees
returns-in-Repeated-clause-sees c = λ interval list stands.
    let m = c.metric.result.now in
    subst (λ (n : Content). WorkSees (said.Dedup interval) list n Removed (Some c.look.new.self)) c.metric.ensures
    (removed_now interval list m c.look.new.self
    (seen_repeated (is_removed interval list m) m _ (c.in_ok-look.ensures.sight interval list stands) c.in-Repeated.is)
    (c.in_ok-look.ensures.repeated interval list stands c.in-Repeated.is))

pub returns-in-Fresh-clause-sees : goal.returns-in-Fresh-clause-sees
returns-in-Fresh-clause-sees c = λ interval list stands.
    let m = c.metric.result.now in
    let is = seen_fresh (is_removed interval list m) m c.in-Fresh.fresh _
    (c.in_ok-look.ensures.sight interval list stands) c.in-Fresh.is in
    kept_later interval list c.args.m c.in-Fresh.fresh c.look.new.self
    (subst (λ (n : Content). is_removed interval list n ≡ false) c.metric.ensures is.0) (is.1 ∙ c.metric.ensures)
    (c.look.ensures.stands interval list stands)

pub returns-in-Fresh-clause-goes_on : goal.returns-in-Fresh-clause-goes_on
returns-in-Fresh-clause-goes_on c = stays c.args.m
