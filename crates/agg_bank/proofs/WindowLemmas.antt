-- Windows by where they begin.
use Rattle.std.proofs.Common.{◌≡◌, ◌+◌, ◌*◌, ◌-◌, ◌/◌, ◌≤◌, ℕ, ℤ, pos, negsuc, ◌+ℤ◌, ◌-ℤ◌, Bool, true, false, cond}
use Rattle.std.proofs.Common.{refl, sym, ap, ◌∙◌, subst, suc, arith}
use Rattle.std.proofs.Math.Nat.{add-mul, mul_comm, suc-mul}
use Rattle.std.proofs.lemmas.Int.{by_lt_z, ints}
use Rattle.std.specs.Int.{int_div_euclid, int_max, int_rem_euclid}
use Rattle.std.specs.Prelude.{◌*ℤ◌, ◌<ℤ◌, ◌≤ℤ◌, ◌&&◌, int_le, int_lt}
use Rattle.account.specs.declared.setup.AggLine.{AggLine}
use Rattle.agg_bank.specs.Open.{begin_after, begin_at, is_open_to, IsBegin}
use Rattle.agg_bank.specs.Windows.{last_moment}

-- ---- multiples of a period

-- the last multiple that isn't behind a moment
pub div_times : (n p : ℤ) → pos 1 ≤ℤ p → int_div_euclid n p *ℤ p ≡ n -ℤ int_rem_euclid n p
div_times (pos a) (pos b) h = omega (arith, ints, mul_comm (a / b) b)
div_times (negsuc a) (pos b) h = omega (arith, ints, suc-mul (a / b) b, mul_comm (a / b) b)
div_times (pos a) (negsuc b) h = absurd (omega (arith, ints))
div_times (negsuc a) (negsuc b) h = absurd (omega (arith, ints))

is_lt : (a b : ℤ) → a <ℤ b → int_lt a b ≡ true
is_lt a b h = grind (arith, ints)

not_lt : (a b : ℤ) → b ≤ℤ a → int_lt a b ≡ false
not_lt a b h = grind (arith, ints)

-- a number is behind another one, and so are their multiples
grows : (x y k : ℕ) → x + 1 ≤ y → x * k + k ≤ y * k
grows x y k h =
    let is : y ≡ (x + 1) + (y - (x + 1)) = omega arith in
    omega (arith, ap (λ n. n * k) is, add-mul (x + 1) (y - (x + 1)) k, add-mul x 1 k)

below : (a b : ℤ) (k : ℕ) → 1 ≤ k → a <ℤ b → (a *ℤ pos k) <ℤ (b *ℤ pos k)
below (pos x) (pos y) k one h = omega (arith, ints, grows x y k (omega (arith, ints)))
below (pos x) (negsuc y) k one h = absurd (omega (arith, ints))
below (negsuc x) (pos y) k one h = omega (arith, ints, suc-mul x k)
below (negsuc x) (negsuc y) k one h = omega (arith, ints, grows (suc y) (suc x) k (omega (arith, ints)))

not_below : (a b : ℤ) (k : ℕ) → 1 ≤ k → b ≤ℤ a → (b *ℤ pos k) ≤ℤ (a *ℤ pos k)
not_below a b k one h =
    by_lt_z b a (λ l. omega (arith, ints, below b a k one l))
    (λ l. let same : a ≡ b = omega (arith, ints) in omega (arith, ints, ap (λ n. n *ℤ pos k) same))

pub lt_times : (a b p : ℤ) → pos 1 ≤ℤ p → int_lt (a *ℤ p) (b *ℤ p) ≡ int_lt a b
lt_times a b (negsuc k) h = absurd (omega (arith, ints))
lt_times a b (pos k) h =
    let one : 1 ≤ k = omega (arith, ints) in
    by_lt_z a b (λ l. is_lt (a *ℤ pos k) (b *ℤ pos k) (below a b k one l) ∙ sym (is_lt a b l))
    (λ l. not_lt (a *ℤ pos k) (b *ℤ pos k) (not_below a b k one l) ∙ sym (not_lt a b l))

-- ---- the greater of two

cond_times : (t : Bool) (x y p : ℤ) → cond t x y *ℤ p ≡ cond t (x *ℤ p) (y *ℤ p)
cond_times true x y p = refl
cond_times false x y p = refl

pub max_times : (a b p : ℤ) → pos 1 ≤ℤ p → int_max a b *ℤ p ≡ int_max (a *ℤ p) (b *ℤ p)
max_times a b p h =
    cond_times (int_lt b a) a b p ∙ ap (λ t. cond t (a *ℤ p) (b *ℤ p)) (sym (lt_times b a p h))

pub lt_max : (n w : ℤ) → int_lt n (int_max n w) ≡ int_lt n w
lt_max n w =
    by_lt_z w n
    (λ l. ap (λ t. int_lt n (cond t n w)) (is_lt w n l) ∙ not_lt n n (omega (arith, ints))
    ∙ sym (not_lt n w (omega (arith, ints))))
    (λ l. ap (λ t. int_lt n (cond t n w)) (not_lt w n l))

-- ---- the window that is open

is_le : (a b : ℤ) → a ≤ℤ b → int_le a b ≡ true
is_le a b h = grind (arith, ints)

not_le : (a b : ℤ) → b <ℤ a → int_le a b ≡ false
not_le a b h = grind (arith, ints)

pub open_then : (line : AggLine) (begin time : ℤ) → (begin -ℤ line.grace) ≤ℤ time
    → int_lt time (begin +ℤ line.period +ℤ line.delay) ≡ is_open_to line begin time
open_then line begin time h =
    sym (ap (λ t. t && int_lt time (begin +ℤ line.period +ℤ line.delay)) (is_le (begin -ℤ line.grace) time h))

pub open_else : (line : AggLine) (begin time : ℤ) → time <ℤ (begin -ℤ line.grace)
    → int_le (begin -ℤ line.grace) time ≡ is_open_to line begin time
open_else line begin time h =
    let none = not_le (begin -ℤ line.grace) time h in
    none ∙ sym (ap (λ t. t && int_lt time (begin +ℤ line.period +ℤ line.delay)) none)

pub after_tick : (line : AggLine) (begin moment : ℤ) (all : Bool) → all ≡ false
    → int_max begin (begin_at line (moment -ℤ line.delay)) ≡ begin_after line begin moment all
after_tick line begin moment true e = absurd cc
after_tick line begin moment false e = refl

pub max_begin : (line : AggLine) (begin opened : ℤ) → IsBegin line begin → opened ≤ℤ last_moment
    → IsBegin line (int_max begin opened)
max_begin line begin opened b h =
    let low = b.low in
    by_lt_z opened begin
    (λ l. subst (IsBegin line) (sym (ap (λ t. cond t begin opened) (is_lt opened begin l))) b)
    (λ l. subst (IsBegin line) (sym (ap (λ t. cond t begin opened) (not_lt opened begin l)))
    (record { low = omega (arith, ints, low); high = h }))
