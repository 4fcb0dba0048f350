use Rattle.std.proofs.Common.{◌∙◌, ℤ, sym, ap, subst, rules}
use Rattle.std.specs.Int.{w64}
use Rattle.std.proofs.lemmas.Int.{to_z-of_z}
use Rattle.proc_dedup.specs.Dedup.{held, Memory, StandsFor}
use Rattle.proc_dedup.specs.Repeats.{repeats, series_of}
use Rattle.proc_dedup.proofs.DedupLemmas.{none_kept, same_held, seen, seen_repeated}
use Rattle.proc_dedup.proofs.dedup.Dedup.look.Goals as goal

pub returns-clause-repeated : goal.returns-clause-repeated
returns-clause-repeated c = λ interval list stands is.
    let memory : Memory = record { interval = c.self.inside.interval; kept = c.self.inside.kept.entries } in
    let before = subst (StandsFor interval list) (sym c.self.view_is) stands in
    let after = same_held interval list memory c.look.new.kept.entries before c.look.ensures.same in
    let read = to_z-of_z w64 c.self.inside.interval (search rules) in
    let gone = seen interval list memory c.args.m.now c.in_ok-repeated.repeated before
    (c.in_ok-repeated.ensures.answer ∙ ap
    (λ (i : ℤ). repeats i (held memory.kept (series_of c.args.m.now)) c.args.m.now) read) in
    none_kept interval list _ c.args.m.now after (sym gone ∙ seen_repeated c.in_ok-repeated.repeated c.in_ok-fresh.fresh
    _ c.sight.ensures is)
