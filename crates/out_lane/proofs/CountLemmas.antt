-- How many positions have each fate, before and after an event.
use Rattle.std.proofs.Common.{◌≡◌, ℕ, ◌+◌, ◌-◌, ◌*◌, ◌<◌, ◌≤◌, Bool, inl, inr, List, length, zero, suc, refl}
use Rattle.std.proofs.Common.{◌∙◌, ap, arith}
use Rattle.out_lane.specs.LaneEvents.{LaneEvent, LaneFate, Buffered, fate_at}
use Rattle.out_lane.specs.LaneCounts.{ones, positions_counted, fates_counted}
use Rattle.out_lane.specs.LaneLaws.{KeepsFates, Becomes}
use Rattle.out_lane.proofs.ItemLemmas.{length-items_between}

pub positions_counted-add : (test : ℕ → Bool) (from a b : ℕ) →
    positions_counted test from (a + b) ≡ positions_counted test from a + positions_counted test (from + a) b
positions_counted-add test from zero b =
    let e : zero + b ≡ b = omega arith in
    let f : from ≡ from + zero = omega arith in
    let g : positions_counted test from (zero + b) ≡ positions_counted test (from + zero) b =
    ap (λ k. positions_counted test from k) e ∙ ap (λ k. positions_counted test k b) f in
    omega arith
positions_counted-add test from (suc a) b =
    let e : suc a + b ≡ suc (a + b) = omega arith in
    let f : from + 1 + a ≡ from + suc a = omega arith in
    let more : positions_counted test (from + 1) (a + b) ≡ positions_counted test (from + 1) a + positions_counted test
    (from + 1 + a) b = positions_counted-add test (from + 1) a b in
    let g : positions_counted test from (suc a + b) ≡ ones (test from) + positions_counted test (from + 1) (a + b) =
    ap (λ k. positions_counted test from k) e in
    let h : positions_counted test (from + 1 + a) b ≡ positions_counted test (from + suc a) b =
    ap (λ k. positions_counted test k b) f in
    omega arith

pub positions_counted-same : (test other : ℕ → Bool) (from n : ℕ) →
    ((p : ℕ) → from ≤ p → p < from + n → test p ≡ other p) →
    positions_counted test from n ≡ positions_counted other from n
positions_counted-same test other from zero h = refl
positions_counted-same test other from (suc n) h =
    let first : ones (test from) ≡ ones (other from) = ap ones (h from (omega arith) (omega arith)) in
    let more : positions_counted test (from + 1) n ≡ positions_counted other (from + 1) n =
    positions_counted-same test other (from + 1) n (λ p l m. h p (omega arith) (omega arith)) in
    omega arith

pub positions_counted-all : (test : ℕ → Bool) (b : Bool) (from n : ℕ) →
    ((p : ℕ) → from ≤ p → p < from + n → test p ≡ b) → positions_counted test from n ≡ ones b * n
positions_counted-all test b from zero h = omega arith
positions_counted-all test b from (suc n) h =
    let first : ones (test from) ≡ ones b = ap ones (h from (omega arith) (omega arith)) in
    let more : positions_counted test (from + 1) n ≡ ones b * n =
    positions_counted-all test b (from + 1) n (λ p l m. h p (omega arith) (omega arith)) in
    omega arith

-- in three parts, the second one from a position to before another
parts : (test : ℕ → Bool) (from to n : ℕ) → from ≤ to → to ≤ n →
    positions_counted test 0 n ≡ positions_counted test 0 from + positions_counted test from
    (to - from) + positions_counted test to (n - to)
parts test from to n f t =
    let e : n ≡ from + ((to - from) + (n - to)) = omega arith in
    let z : 0 + from ≡ from = omega arith in
    let y : from + (to - from) ≡ to = omega arith in
    let one = positions_counted-add test 0 from ((to - from) + (n - to)) in
    let two = positions_counted-add test from (to - from) (n - to) in
    let a : positions_counted test 0 n ≡ positions_counted test 0 (from + ((to - from) + (n - to))) =
    ap (λ k. positions_counted test 0 k) e in
    let b : positions_counted test (0 + from) ((to - from) + (n - to)) ≡ positions_counted test from
    ((to - from) + (n - to)) = ap (λ k. positions_counted test k ((to - from) + (n - to))) z in
    let c : positions_counted test (from + (to - from)) (n - to) ≡ positions_counted test to (n - to) =
    ap (λ k. positions_counted test k (n - to)) y in
    omega arith

pub keeps_counted : {X : Type 0} (test : LaneFate → Bool) (limit : ℕ) (before after : List LaneEvent) (offers : List X)
    → KeepsFates limit before after offers → fates_counted test limit after (length offers) ≡ fates_counted test limit
    before (length offers)
keeps_counted test limit before after offers k =
    positions_counted-same (λ p. test (fate_at limit after p)) (λ p. test (fate_at limit before p)) 0 (length offers)
    (λ p l m. ap test (k p (omega arith)))

-- as many as the items leave Buffered, and have the fate
pub becomes_counted : {X : Type 0} (test : LaneFate → Bool) (limit : ℕ) (before after : List LaneEvent)
    (offers : List X) (fate : LaneFate) (items : List X) → Becomes limit before after offers fate items
    → fates_counted test limit after (length offers) + ones (test Buffered) * length items ≡ fates_counted test limit
    before (length offers) + ones (test fate) * length items
becomes_counted {X} test limit before after offers fate items b =
    let n : ℕ = length offers in
    let new : ℕ → Bool = λ p. test (fate_at limit after p) in
    let old : ℕ → Bool = λ p. test (fate_at limit before p) in
    let ordered : b.from ≤ b.to = b.ordered in
    let within : b.to ≤ n = b.within in
    let long : length items ≡ b.to - b.from = ap length b.are ∙ length-items_between b.from b.to offers b.within in
    let first : positions_counted new 0 b.from ≡ positions_counted old 0 b.from =
    positions_counted-same new old 0 b.from (λ p l m. ap test (b.others p (omega arith) (inl (omega arith)))) in
    let last : positions_counted new b.to (n - b.to) ≡ positions_counted old b.to (n - b.to) =
    positions_counted-same new old b.to (n - b.to) (λ p l m. ap test (b.others p (omega arith) (inr l))) in
    let were : positions_counted old b.from (b.to - b.from) ≡ ones (test Buffered) * (b.to - b.from) =
    positions_counted-all old (test Buffered) b.from (b.to - b.from) (λ p l m. ap test (b.were p l (omega arith))) in
    let become : positions_counted new b.from (b.to - b.from) ≡ ones (test fate) * (b.to - b.from) =
    positions_counted-all new (test fate) b.from (b.to - b.from) (λ p l m. ap test (b.become p l (omega arith))) in
    let x : ones (test Buffered) * length items ≡ ones (test Buffered) * (b.to - b.from) =
    ap (λ k. ones (test Buffered) * k) long in
    let y : ones (test fate) * length items ≡ ones (test fate) * (b.to - b.from) =
    ap (λ k. ones (test fate) * k) long in
    let u = parts new b.from b.to n ordered within in
    let v = parts old b.from b.to n ordered within in
    omega arith
