-- The time that the pairs of a text give, pair by pair.
use Rattle.std.proofs.Common.{◌≡◌, ◌+◌, ◌*◌, ◌/◌, ◌%◌, ◌^◌, ◌<◌, ◌≤◌, ℕ, suc, zero, List, length, refl, sym}
use Rattle.std.proofs.Common.{ap, ◌∙◌, arith}
use Rattle.std.proofs.Common.{Bool, true, false, Option, Some, None, option_map, add-zero, subst, zero-add}
use Rattle.std.proofs.lemmas.Bool.{eq-eqb, eqb-false, eqb-true, ne_eqb, lt-leb}
use Rattle.std.proofs.Math.Nat.{le-div_iff_mul-le, one-le-pow}
use Rattle.std.specs.Prelude.{◌==◌, if◌then◌else◌, option_and_then}
use Rattle.agent_config.specs.Durations.{Pair, fitting, longest, pair_of, scaled, sum_of, time_of_pairs}
use Rattle.agent_config.specs.Durations.{whole_of}

-- the time of a value and of the pairs that are left
abbrev pub AnswerOf : ℕ → ℕ → ℕ → List ℕ → Option ℕ
AnswerOf n value most rest =
    option_and_then (whole_of n) (option_map (λ others. value + others) (sum_of most n rest))

-- a value and what is left of a text give its time
pub record SoFar (text rest : List ℕ) (value : ℕ) : Type 0 where
  pub most : ℕ
  pub enough : length rest ≤ most
  pub same : AnswerOf (length text) value most rest ≡ time_of_pairs text

zero_more : (sum : Option ℕ) → option_map (λ x. 0 + x) sum ≡ sum
zero_more None = refl
zero_more (Some x) = ap Some (zero-add x)

pub begin : (text rest : List ℕ) (value : ℕ) → rest ≡ text → value ≡ 0 → SoFar text rest value
unfolding time_of_pairs
begin text rest value whole none = record {
  most = length text;
  enough = omega (arith, ap length whole);
  same = ap (λ v. AnswerOf (length text) v (length text) rest) none
      ∙ ap (λ r. AnswerOf (length text) 0 (length text) r) whole
      ∙ ap (option_and_then (whole_of (length text))) (zero_more (sum_of (length text) (length text) text));
}

sum_next : (most n : ℕ) (rest : List ℕ) (pair : Pair) → 0 < length rest → pair_of rest ≡ Some pair
    → sum_of (suc most) n rest ≡ option_map (λ others. scaled n pair + others) (sum_of most n pair.behind)
unfolding sum_of
sum_next most n rest pair some e =
    let test : (length rest == 0) ≡ false = ne_eqb (length rest) 0 (λ z. omega arith) in
    rw (test, e) refl

sum_none : (most n : ℕ) (rest : List ℕ) → 0 < length rest → pair_of rest ≡ None → sum_of most n rest ≡ None
unfolding sum_of
sum_none zero n rest some e =
    let test : (length rest == 0) ≡ false = ne_eqb (length rest) 0 (λ z. omega arith) in
    rw test refl
sum_none (suc most) n rest some e =
    let test : (length rest == 0) ≡ false = ne_eqb (length rest) 0 (λ z. omega arith) in
    rw (test, e) refl

sum_end : (most n : ℕ) (rest : List ℕ) → length rest ≡ 0 → sum_of most n rest ≡ Some 0
unfolding sum_of
sum_end zero n rest e = rw (eq-eqb (length rest) 0 e) refl
sum_end (suc most) n rest e = rw (eq-eqb (length rest) 0 e) refl

shift : (n value amount after : ℕ) (sum : Option ℕ) → after ≡ value + amount
    → option_and_then (whole_of n) (option_map (λ x. after + x) sum)
    ≡ option_and_then (whole_of n) (option_map (λ x. value + x) (option_map (λ x. amount + x) sum))
shift n value amount after None e = refl
shift n value amount after (Some x) e =
    let same : after + x ≡ value + (amount + x) = omega arith in
    ap (whole_of n) same

next_of : (text rest : List ℕ) (value after most : ℕ) (pair : Pair) → length rest ≤ most
    → AnswerOf (length text) value most rest ≡ time_of_pairs text → 0 < length rest → pair_of rest ≡ Some pair
    → after ≡ value + scaled (length text) pair → length pair.behind < length rest
    → SoFar text pair.behind after
next_of text rest value after zero pair enough same some e is less = absurd (omega arith)
next_of text rest value after (suc most) pair enough same some e is less = record {
  most = most;
  enough = omega arith;
  same = shift (length text) value (scaled (length text) pair) after (sum_of most
      (length text) pair.behind) is
      ∙ ap (λ s. option_and_then (whole_of (length text)) (option_map (λ x. value + x) s))
      (sym (sum_next most (length text) rest pair some e))
      ∙ same;
}

pub next : (text rest : List ℕ) (value after n : ℕ) (pair : Pair) → SoFar text rest value → 0 < length rest
    → Some pair ≡ pair_of rest → n ≡ length text → after ≡ value + scaled n pair
    → length pair.behind < length rest → SoFar text pair.behind after
next text rest value after n pair so_far some e same is less =
    next_of text rest value after so_far.most pair so_far.enough so_far.same some (sym e)
    (is ∙ ap (λ k. value + scaled k pair) same) less

pub ends_at : (text rest : List ℕ) (value : ℕ) → SoFar text rest value → length rest ≡ 0
    → whole_of (length text) value ≡ time_of_pairs text
ends_at text rest value so_far e =
    ap (whole_of (length text)) (sym (add-zero value))
    ∙ ap (λ s. option_and_then (whole_of (length text)) (option_map (λ x. value + x) s))
    (sym (sum_end so_far.most (length text) rest e))
    ∙ so_far.same

pub stops_at : (text rest : List ℕ) (value : ℕ) → SoFar text rest value → 0 < length rest
    → None ≡ pair_of rest → None ≡ time_of_pairs text
stops_at text rest value so_far some e =
    ap (λ s. option_and_then (whole_of (length text)) (option_map (λ x. value + x) s))
    (sym (sum_none so_far.most (length text) rest some (sym e)))
    ∙ so_far.same

either_none : (b : Bool) (o : Option ℕ) → o ≡ None → (if b then o else None) ≡ None
either_none true o e = e
either_none false o e = refl

no_fitting : (q : ℕ) → longest < q → fitting q ≡ None
no_fitting q h = rw (lt-leb q longest h) refl

never_whole : (n value : ℕ) → (longest + 1) * 10 ^ n ≤ value → whole_of n value ≡ None
unfolding whole_of
never_whole n value long =
    let some : 0 < 10 ^ n = omega (arith, one-le-pow n 10 (omega arith)) in
    let above : longest + 1 ≤ value / 10 ^ n = (le-div_iff_mul-le some).1 long in
    either_none (value % 10 ^ n == 0) (fitting (value / 10 ^ n)) (no_fitting (value / 10 ^ n) (omega arith))

never : (n value amount : ℕ) (sum : Option ℕ) → (longest + 1) * 10 ^ n ≤ value + amount
    → option_and_then (whole_of n) (option_map (λ x. value + x) (option_map (λ x. amount + x) sum)) ≡ None
never n value amount None long = refl
never n value amount (Some x) long = never_whole n (value + (amount + x)) (omega arith)

long_of : (text rest : List ℕ) (value most : ℕ) (pair : Pair) → length rest ≤ most
    → AnswerOf (length text) value most rest ≡ time_of_pairs text → 0 < length rest → pair_of rest ≡ Some pair
    → (longest + 1) * 10 ^ length text ≤ value + scaled (length text) pair → None ≡ time_of_pairs text
long_of text rest value zero pair enough same some e long = absurd (omega arith)
long_of text rest value (suc most) pair enough same some e long =
    sym (never (length text) value (scaled (length text) pair) (sum_of most (length text) pair.behind) long)
    ∙ ap (λ s. option_and_then (whole_of (length text)) (option_map (λ x. value + x) s))
    (sym (sum_next most (length text) rest pair some e))
    ∙ same

pub too_long_at : (text rest : List ℕ) (value n : ℕ) (pair : Pair) → SoFar text rest value → 0 < length rest
    → Some pair ≡ pair_of rest → n ≡ length text → (longest + 1) * 10 ^ n ≤ value + scaled n pair
    → None ≡ time_of_pairs text
too_long_at text rest value n pair so_far some e same long =
    let P : ℕ → Type 0 = λ k. (longest + 1) * 10 ^ k ≤ value + scaled k pair in
    long_of text rest value so_far.most pair so_far.enough so_far.same some (sym e) (subst P same long)

pub some_left : (empty : Bool) (rest : List ℕ) → empty ≡ (length rest == 0) → empty ≡ false → 0 < length rest
some_left empty rest e not_so =
    let filled : length rest ≡ 0 → ⊥ = eqb-false (length rest) 0 (sym e ∙ not_so) in
    omega arith

pub none_left : (empty : Bool) (rest : List ℕ) → empty ≡ (length rest == 0) → empty ≡ true → length rest ≡ 0
none_left empty rest e so = eqb-true (length rest) 0 (sym e ∙ so)
