use Rattle.std.proofs.Common.{arith, ◌∙◌, ap, ◌≤◌, ◌≡◌, min, ℕ, ◌*◌, ◌^◌, lit≤}
use Rattle.fixed_num.specs.declared.value.TheConstants.{CAP}
use Rattle.fixed_num.proofs.Values.{grown_cap, grown_more}
use Rattle.fixed_num.proofs.value.grown.Goals as goal

pub loop-zero-preserved : goal.loop-zero-preserved
loop-zero-preserved c = (
  omega (arith, c.min-value-in-loop-zero.ensures),
  λ n h. c.min-value-in-loop-zero.ensures
      ∙ grown_more n c.loop-zero._zero CAP c.loop-zero.value (c.loop-zero.invariant.1 n h),
)

pub returns : goal.returns
returns c = λ n h.
    let count : c.loop-zero._zero ≡ min c.args.zeros 31 = omega (arith, c.min-zero-end.ensures) in
    let small : CAP ≤ 10 ^ 31 = lit≤ tt in
    c.loop-zero.invariant.1 n h ∙ ap (λ (k : ℕ). min (n * 10 ^ k) CAP) count ∙ grown_cap n c.args.zeros CAP small
