use Rattle.std.proofs.Common.{◌∙◌, ◌<◌, [], map, length, false, refl, arith}
use Rattle.std.proofs.lemmas.List.{get_or-map, length-map}
use Rattle.openmetrics_text.proofs.TypeLemmas.{last_with_more, none_last}
use Rattle.openmetrics_text.proofs.types.Types.last_with.Goals as goal

pub loop-suffix-init : goal.loop-suffix-init
loop-suffix-init c = λ pairs h. none_last (λ name. false) pairs (λ name. refl)

pub loop-suffix-preserved : goal.loop-suffix-preserved
loop-suffix-preserved c = λ pairs h.
    let i = c.loop-suffix.suffix-index in
    let suffixes = map (λ suffix. suffix.now) c.args.suffixes.now in
    let below : i < length (map (λ suffix. suffix.now) c.args.suffixes.now) =
    omega (arith, length-map c.args.suffixes.now (λ suffix. suffix.now)) in
    c.later-last.ensures
    ∙ last_with_more c.args.name.now suffixes i _ pairs c.loop-suffix.last c.last_without.result below
    (get_or-map (λ suffix. suffix.now) c.args.suffixes.now i (record { ref_ptr = (0, 0); now = [] }) []
    c.loop-suffix-test.true) (c.loop-suffix.invariant pairs h) (c.last_without.ensures pairs h)
