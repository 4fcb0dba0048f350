use Rattle.std.proofs.Common.{sym, ap, subst}
use Rattle.metric.specs.Series.{Series}
use Rattle.metric.specs.declared.metric.Content.{Content}
use Rattle.proc_dedup.specs.Dedup.{entry_of, HasRoom}
use Rattle.proc_dedup.proofs.DedupLemmas.{parts_put, succeeds}
use Rattle.proc_dedup.proofs.map.put.Goals as goal

pub returns : goal.returns
returns c =
    let old = c.args.kept.now.entries in
    let parts = c.into_parts-series.result in
    let here = subst (HasRoom old) (sym (ap (λ (p : Series × Content). p.0) c.into_parts-series.ensures)) c.requires in
    let done = succeeds c.insert.result (entry_of old parts.0) c.insert.ensures.updates c.insert.ensures.absent here in
    parts_put old c.insert.new.self.entries parts c.args.fresh c.into_parts-series.ensures done.0
