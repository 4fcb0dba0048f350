use Rattle.std.proofs.Common.{◌≡◌, Ok, Err, arith}
use Rattle.agent_run.proofs.NumberWords.{word_is, word_reads, word_fails}
use Rattle.fixed_num.specs.Whole.{uint_read_as}
use Rattle.agent_run.proofs.command.number_of.Goals as goal

pub returns-then-n-from : goal.returns-then-n-from
returns-then-n-from c =
    let read : uint_read_as c.args.word.now ≡ Ok c.in-Ok.n = cc in
    (word_is c.args.word.now c.in-Ok.n (rw (← c.as_bytes-bytes.ensures.value) (cc)) read, omega arith)

pub returns-else-n-from : goal.returns-else-n-from
returns-else-n-from c = λ m h.
    let read : uint_read_as c.args.word.now ≡ Ok c.in-Ok.n = cc in
    let same = word_reads c.args.word.now c.in-Ok.n m read h in omega (arith, same)

pub returns-in-Err : goal.returns-in-Err
returns-in-Err c = λ m h.
    let failed : uint_read_as c.args.word.now ≡ Err c.in-Err.field-0 = cc in
    let big = word_fails c.args.word.now c.in-Err.field-0 m failed h in omega (arith, big)
