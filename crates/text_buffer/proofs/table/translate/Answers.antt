use Rattle.std.proofs.Common.{◌≡◌, ◌<◌, ◌+◌, ◌++◌, ℕ, length, get_or, set, map, take, drop, subst, sym, arith}
use Rattle.std.proofs.lemmas.Grind.{get_or_default_zero}
use Rattle.std.proofs.lemmas.List.Edits.{map_over_more}
use Rattle.text_buffer.proofs.table.translate.Goals as goal

pub loop-byte-preserved : goal.loop-byte-preserved
loop-byte-preserved c = λ f table.
    let i = c.loop-byte.byte-index in
    let old = c.args.bytes.now in
    let now = c.loop-byte.bytes in
    let fits : get_or c.loop-byte.bytes c.loop-byte.byte-index 0 < 256 = omega arith in
    let below : c.loop-byte.byte-index < length c.args.bytes.now =
    omega (arith, c.loop-byte-test.true, c.loop-byte.auto.byte-index-end) in
    let within : c.loop-byte.byte-index < length c.loop-byte.bytes = omega (arith, below, c.loop-byte.auto.bytes) in
    subst (λ (y : ℕ). set now i y ≡ map f (take (i + 1) old) ++ drop (i + 1) old) (sym (table.at (get_or now i 0) fits))
    (map_over_more f old now i (get_or now i 0) below (c.loop-byte.invariant f table)
    (sym (get_or_default_zero now i (get_or now i 0) within)))
