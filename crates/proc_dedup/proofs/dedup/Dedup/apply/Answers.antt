use Rattle.std.proofs.Common.{◌≡◌, ◌++◌, ◌∷◌, [], false, sym, subst}
use Rattle.metric.specs.declared.metric.Content.{Content}
use Rattle.proc_dedup.specs.Dedup.{is_removed, StandsFor}
use Rattle.proc_dedup.proofs.DedupLemmas.{none_kept, on_err, seen_fresh, seen_repeated}
use Rattle.proc_dedup.proofs.dedup.Dedup.apply.Goals as goal

pub returns-in_err-look-clause-err : goal.returns-in_err-look-clause-err
returns-in_err-look-clause-err c = λ interval list stands. on_err _ (c.look.ensures.stands interval list stands)

pub returns-in-Repeated-clause-stands : goal.returns-in-Repeated-clause-stands
returns-in-Repeated-clause-stands c = λ interval list stands.
    none_kept interval list c.look.new.self c.args.m (c.look.ensures.stands interval list stands)
    (seen_repeated (is_removed interval list c.args.m) c.args.m _ (c.in_ok-look.ensures.sight interval list stands)
    c.in-Repeated.is)

pub returns-in-Fresh-clause-stands : goal.returns-in-Fresh-clause-stands
returns-in-Fresh-clause-stands c = λ interval list stands.
    let is = seen_fresh (is_removed interval list c.args.m) c.args.m c.in-Fresh.fresh _
    (c.in_ok-look.ensures.sight interval list stands) c.in-Fresh.is in
    subst (λ (m : Content). StandsFor interval (list ++ m ∷ []) c.keep.new.self) is.1
    (c.keep.ensures interval list (c.look.ensures.stands interval list stands)
    (subst (λ (m : Content). is_removed interval list m ≡ false) (sym is.1) is.0))
