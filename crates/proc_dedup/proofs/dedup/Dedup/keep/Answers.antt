use Rattle.std.proofs.Common.{sym, subst}
use Rattle.proc_dedup.specs.Dedup.{StandsFor}
use Rattle.proc_dedup.proofs.DedupLemmas.{one_kept}
use Rattle.proc_dedup.proofs.dedup.Dedup.keep.Goals as goal

pub returns : goal.returns
returns c = λ interval list stands fresh.
    one_kept interval list (record { interval = c.self.inside.interval; kept = c.self.inside.kept.entries })
    c.put.new.kept.entries c.args.fresh
    (subst (StandsFor interval list) (sym c.self.view_is) stands) fresh c.put.ensures
