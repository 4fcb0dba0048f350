use Rattle.std.proofs.Common.{◌≡◌, ◌+◌, ◌&&◌, ◌∙◌, ℤ, ◌+ℤ◌, ◌==◌, cond, ap, refl, rules}
use Rattle.std.specs.Prelude.{FitsSigned}
use Rattle.std.specs.Int.{w128, int_max, int_min}
use Rattle.agg_stats.specs.Kept.{with_number}
use Rattle.agg_stats.specs.Summary.{is_int, is_uint, Summary}
use Rattle.agg_stats.proofs.SummaryLemmas.{and_else, and_then, bound_read, read, sum_fits, sum_read, with_is}
use Rattle.agg_stats.proofs.summary.Summary.with.Goals.{then-self, else-self, then-self-2, else-self-2}
use Rattle.agg_stats.proofs.summary.Summary.with.Goals as goal

pub returns : goal.returns
returns c =
    let i = c.self.inside in
    let s : Summary = record {
      count = i.count;
      sum = i.sum;
      least = i.least;
      greatest = i.greatest;
      ints = i.ints;
      uints = i.uints;
    } in
    let v = c.args.number.now in
    let n = c.billionths-n.result in
    let is = c.billionths-n.ensures.value in
    let fits_sum : FitsSigned w128 i.sum = search rules in
    let fits_least : FitsSigned w128 i.least = search rules in
    let fits_greatest : FitsSigned w128 i.greatest = search rules in
    let fits_n : FitsSigned w128 n = search rules in
    let fits_low : FitsSigned w128 c.lower.result = search rules in
    let fits_high : FitsSigned w128 c.higher.result = search rules in
    let fits_all = sum_fits i.count i.sum n c.self.invariant.few c.self.invariant.sum_within
    c.billionths-n.ensures.within in
    let sum = sum_read i.sum n fits_sum fits_n fits_all ∙ ap (λ (z : ℤ). i.sum +ℤ z) is in
    let least = bound_read i.count int_min i.least n c.lower.result fits_least fits_n fits_low c.lower.ensures
    ∙ ap (λ (z : ℤ). cond (i.count == 0) z (int_min i.least z)) is in
    let greatest = bound_read i.count int_max i.greatest n c.higher.result fits_greatest fits_n fits_high
    c.higher.ensures ∙ ap (λ (z : ℤ). cond (i.count == 0) z (int_max i.greatest z)) is in
    let ints : c.if-self.result ≡ (i.ints && is_int v) = elim c.if-self.branch [
      | then-self w ↦ and_then _ i.ints (is_int v) _ w.if-self.true w.result-is w.is_int.ensures
      | else-self w ↦ and_else _ i.ints (is_int v) w.if-self.false (w.result-is ∙ w.if-self.false)
    ] in
    let uints : c.if-self-2.result ≡ (i.uints && is_uint v) = elim c.if-self-2.branch [
      | then-self-2 w ↦ and_then _ i.uints (is_uint v) _ w.if-self-2.true w.result-is w.is_uint.ensures
      | else-self-2 w ↦ and_else _ i.uints (is_uint v) w.if-self-2.false (w.result-is ∙ w.if-self-2.false)
    ] in
    let new : Summary = record {
      count = i.count + 1;
      sum = read (read i.sum +ℤ read n);
      least = read c.lower.result;
      greatest = read c.higher.result;
      ints = c.if-self.result;
      uints = c.if-self-2.result;
    } in
    with_is v s new c.if-self-ge-MOST.false refl sum least greatest ints uints ∙ ap (with_number v) c.self.view_is
