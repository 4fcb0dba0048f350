use Rattle.std.proofs.Common.{◌-◌, length, arith}
use Rattle.metric.proofs.WordLemmas.{fits, grown, one_more}
use Rattle.metric.proofs.words.word_of_few.Goals as goal

pub overflow_mul-word : goal.overflow_mul-word
overflow_mul-word c =
    omega (
      arith,
      fits (length c.args.bytes.now - c.loop-at.at) c.loop-at.word 0 (omega (arith, c.requires))
          c.loop-at.invariant.1 (omega arith),
    )

pub overflow_add-word : goal.overflow_add-word
overflow_add-word c =
    omega (
      arith,
      fits (length c.args.bytes.now - c.loop-at.at) c.loop-at.word c.from.result (omega (arith, c.requires))
          c.loop-at.invariant.1 (omega (arith, c.from.ensures, c.type_inv.bytes (c.loop-at.at - 1))),
    )

pub loop-at-preserved : goal.loop-at-preserved
loop-at-preserved c =
    let byte = c.type_inv.bytes (c.loop-at.at - 1) in
    let within = c.loop-at.invariant.2 in (
      one_more c.args.bytes.now c.loop-at.at c.loop-at.word c.from.result (omega arith) within
          (omega (arith, c.from.ensures, byte)) c.from.ensures c.loop-at.invariant.0,
      grown (length c.args.bytes.now) c.loop-at.at c.loop-at.word c.from.result (omega arith) within
          c.loop-at.invariant.1 (omega (arith, c.from.ensures, byte)),
      omega (arith, within),
    )
