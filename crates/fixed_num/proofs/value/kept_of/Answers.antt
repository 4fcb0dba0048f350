use Rattle.std.proofs.Common.{arith, ◌∙◌, sym, ap, refl, ◌≤◌, length, take, ◌++◌, ℕ, ◌≡◌, min}
use Rattle.std.specs.Str.Parse.{digits_value}
use Rattle.fixed_num.specs.declared.value.TheConstants.{CAP}
use Rattle.fixed_num.proofs.Values.{AllDigits-take, AllDigits-drop, value_append, same_answer, rest_is_rest}
use Rattle.fixed_num.proofs.Values.{rest_is_some, take-append-ge, drop-append-ge}
use Rattle.fixed_num.proofs.value.kept_of.Goals as goal

pub capped-value-requires : goal.capped-value-requires
capped-value-requires c = rw c.split_at.ensures.front (AllDigits-take c.args.kept c.args.whole.now c.requires.digits.0)

pub is_zero-requires : goal.is_zero-requires
is_zero-requires c = rw c.split_at.ensures.back (AllDigits-drop c.args.kept c.args.whole.now c.requires.digits.0)

pub capped-value-requires-else-kept-whole_len : goal.capped-value-requires-else-kept-whole_len
capped-value-requires-else-kept-whole_len c = rw c.split_at-else-kept-whole_len.ensures.front
    (AllDigits-take _ c.args.fraction.now c.requires.digits.1)

pub is_zero-requires-else-kept-whole_len : goal.is_zero-requires-else-kept-whole_len
is_zero-requires-else-kept-whole_len c = rw c.split_at-else-kept-whole_len.ensures.back
    (AllDigits-drop _ c.args.fraction.now c.requires.digits.1)

pub returns-then-is_zero-clause-rest : goal.returns-then-is_zero-clause-rest
returns-then-is_zero-clause-rest c = rest_is_rest c.args.whole.now c.args.fraction.now c.split_at.result.1.now
    c.args.kept _ c.if-kept-whole_len.true c.split_at.ensures.back c.if-is_zero.ensures c.is_zero-exact.ensures

pub returns-else-is_zero-clause-rest : goal.returns-else-is_zero-clause-rest
returns-else-is_zero-clause-rest c = rw c.if-is_zero.false (rest_is_some c.args.whole.now c.args.fraction.now
    c.split_at.result.1.now c.args.kept c.if-kept-whole_len.true c.split_at.ensures.back c.if-is_zero.ensures)

pub returns-else-kept-whole_len-clause-value : goal.returns-else-kept-whole_len-clause-value
returns-else-kept-whole_len-clause-value c =
    let le : length c.args.whole.now ≤ c.args.kept = omega arith in
    let e : take c.args.kept (c.args.whole.now ++ c.args.fraction.now) ≡ c.args.whole.now
    ++ c.split_at-else-kept-whole_len.result.0.now = take-append-ge c.args.whole.now c.args.fraction.now c.args.kept le
    ∙ rw (← c.split_at-else-kept-whole_len.ensures.front) refl in
    let v = c.capped-value-else-kept-whole_len.ensures.value (digits_value 10 c.args.whole.now)
    (c.capped.ensures.value 0 (omega arith)) in
    v ∙ ap (λ (n : ℕ). min n CAP) (sym (ap (digits_value 10) e
    ∙ value_append 0 c.args.whole.now c.split_at-else-kept-whole_len.result.0.now))

pub returns-else-kept-whole_len-clause-rest : goal.returns-else-kept-whole_len-clause-rest
returns-else-kept-whole_len-clause-rest c =
    let le : length c.args.whole.now ≤ c.args.kept = omega arith in
    same_answer _ _ (digits_value 10 c.split_at-else-kept-whole_len.result.1.now)
    (ap (digits_value 10) (drop-append-ge c.args.whole.now c.args.fraction.now c.args.kept le
    ∙ sym c.split_at-else-kept-whole_len.ensures.back)) c.is_zero-else-kept-whole_len.ensures
