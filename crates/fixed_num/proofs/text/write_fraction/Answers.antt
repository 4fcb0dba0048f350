use Rattle.std.proofs.Common.{◌≡◌, ◌∙◌, refl, arith, length, length-set, ◌^◌, ◌-◌, ◌+◌}
use Rattle.std.proofs.Math.Nat.{mod-lt}
use Rattle.fixed_num.proofs.Writing.{one_more, begun, all_written, none_left, nothing_left, scale_less, ten_pos}
use Rattle.fixed_num.proofs.text.write_fraction.Goals as goal

pub loop-end-init : goal.loop-end-init
loop-end-init c = record {
  low = omega arith;
  scale = refl;
  written = begun c.args.buffer.now c.args.billionths
      (omega arith);
}

pub nonzero_div-buffer : goal.nonzero_div-buffer
nonzero_div-buffer c = rw (scale_less c.loop-end.scale c.loop-end.end c.loop-end-test.true c.loop-end.invariant.scale)
    (ten_pos _)

pub nonzero_rem-left : goal.nonzero_rem-left
nonzero_rem-left c = rw (scale_less c.loop-end.scale c.loop-end.end c.loop-end-test.true c.loop-end.invariant.scale)
    (ten_pos _)

pub loop-end-preserved : goal.loop-end-preserved
loop-end-preserved c =
    let s = scale_less c.loop-end.scale c.loop-end.end c.loop-end-test.true c.loop-end.invariant.scale in
    let room : length c.loop-end.buffer ≡ 31 = c.loop-end.auto.buffer ∙ length-set c.args.buffer.now 21 46
    ∙ c.requires.room in
    rw s (record {
      low = mod-lt c.loop-end.left {m = 10 ^ (31 - (c.loop-end.end + 1))} (ten_pos _);
      scale = refl;
      written = one_more c.loop-end.buffer c.loop-end.end c.loop-end.left _ c.loop-end-test.true (omega (arith, room))
          (omega arith) c.loop-end.invariant.written;
    })

pub returns-then-left-eq0-clause-text : goal.returns-then-left-eq0-clause-text
returns-then-left-eq0-clause-text c =
    all_written c.loop-end.buffer c.args.buffer.now c.loop-end.end c.args.billionths (omega arith)
    (rw (c.if-left-eq0.true, none_left (31 - c.loop-end.end)) at c.loop-end.invariant.written)

pub returns-clause-text : goal.returns-clause-text
returns-clause-text c =
    let end : c.loop-end.end ≡ 31 = omega arith in
    all_written c.loop-end.buffer c.args.buffer.now 31 c.args.billionths (omega arith)
    (rw (end, nothing_left c.loop-end.left) at c.loop-end.invariant.written)
