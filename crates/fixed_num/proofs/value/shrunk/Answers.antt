use Rattle.std.proofs.Common.{arith, ◌∙◌, sym, ◌≤◌, ◌-◌, ◌+◌, ◌*◌, ◌≡◌, min, ℕ, List, ◌++◌, length, take, drop, lit≤}
use Rattle.std.proofs.Common.{refl}
use Rattle.std.specs.Str.Parse.{digits_value}
use Rattle.std.proofs.lemmas.List.{length-append}
use Rattle.fixed_num.specs.declared.value.TheConstants.{CAP}
use Rattle.fixed_num.specs.declared.fixed.TheConstants.{LIMIT}
use Rattle.fixed_num.specs.Rounded.{rounded}
use Rattle.fixed_num.proofs.Values.{AllDigits-append}
use Rattle.fixed_num.proofs.Magnitude.{vanishes, same_agrees, cut_off, capped_agrees, mark_at}
use Rattle.fixed_num.proofs.Rounding.{mark}
use Rattle.fixed_num.proofs.value.shrunk.Goals as goal

pub returns-then-len-cut : goal.returns-then-len-cut
returns-then-len-cut c =
    let ds : List ℕ = c.args.whole.now ++ c.args.fraction.now in
    let all = AllDigits-append c.args.whole.now c.args.fraction.now c.requires.digits.0 c.requires.digits.1 in
    let len = length-append c.args.whole.now c.args.fraction.now in
    same_agrees _ _ _ (sym (vanishes ds c.args.cut all (omega arith)))

pub returns : goal.returns
returns c =
    let ds : List ℕ = c.args.whole.now ++ c.args.fraction.now in
    let all = AllDigits-append c.args.whole.now c.args.fraction.now c.requires.digits.0 c.requires.digits.1 in
    let len = length-append c.args.whole.now c.args.fraction.now in
    let kept : ℕ = length c.args.whole.now + length c.args.fraction.now - c.args.cut + 1 in
    let value = c.kept_of-value.ensures.value in
    let left = mark_at c.kept_of-value.result.1 (digits_value 10 (drop kept ds)) c.kept_of-value.ensures.rest in
    let real = cut_off ds kept c.args.cut all (omega arith) c.requires.some in
    let got : c.nearest.result ≡ rounded (2 * min (digits_value 10 (take kept ds)) CAP + mark
    (digits_value 10 (drop kept ds))) 20 = c.nearest.ensures ∙ rw (value, left) refl in
    let low : 10 * LIMIT ≤ CAP = lit≤ tt in
    rw (real, got) (capped_agrees LIMIT CAP (digits_value 10 (take kept ds))
    (mark (digits_value 10 (drop kept ds))) low)
