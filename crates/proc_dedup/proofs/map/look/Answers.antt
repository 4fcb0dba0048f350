use Rattle.std.proofs.Common.{◌∙◌, ℤ, ap, sym, rules}
use Rattle.std.specs.Int.{w64}
use Rattle.std.proofs.lemmas.Int.{to_z-of_z}
use Rattle.proc_dedup.specs.Repeats.{repeats_one}
use Rattle.proc_dedup.proofs.DedupLemmas.{answers_held, room_made}
use Rattle.proc_dedup.proofs.map.look.Goals as goal

pub returns-in-Some-Some-clause-answer : goal.returns-in-Some-Some-clause-answer
returns-in-Some-Some-clause-answer c =
    answers_held c.args.interval c.args.kept.now.entries c.in_ok-series.series _ c.args.m.now c.in-Some-Some.last
    c.in-Some-Some.field-0.now c.repeats_one.result
    (c.repeats_one.ensures ∙ ap (λ (i : ℤ). repeats_one i c.in-Some-Some.last c.args.m.now)
    (to_z-of_z w64 c.args.interval c.ranges.interval))
    (search rules) c.in-Some-Some.ensures.value c.in_ok-series.ensures

pub returns-clause-same : goal.returns-clause-same
returns-clause-same c = room_made c.args.kept.now.entries c.insert.new.self.entries c.in_ok-series.series
    (sym c.in-None.ensures.value) (c.in_ok-insert-in-None.ensures.updates).0
