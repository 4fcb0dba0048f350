-- What the loop over the digits of a fraction writes.
use Rattle.std.proofs.Common.{◌≡◌, ℕ, zero, suc, ◌+◌, ◌-◌, ◌*◌, ◌/◌, ◌%◌, ◌^◌, ◌<◌, ◌≤◌, true, false, eqb, List, []}
use Rattle.std.proofs.Common.{◌∷◌, ◌++◌, length, take, drop, set, length-append, length-drop, length-take, refl, sym}
use Rattle.std.proofs.Common.{ap, ◌∙◌, append_assoc, arith}
use Rattle.std.proofs.Math.Nat.{pow-suc, one-le-pow}
use Rattle.std.proofs.lemmas.Bool.{ne_eqb}
use Rattle.std.proofs.lemmas.List.{drop-set, drop-take, drop-append-le, take_at, take_more_set, append-nil}
use Rattle.std.specs.Fmt.{decimal}
use Rattle.std.proofs.lemmas.Fmt.{length-decimal-le, decimal_nonempty}
use Rattle.fixed_num.specs.Canonical.{places_of, fraction_text, front_text}

places_more : (k n : ℕ) → 0 < n → places_of (suc k) n ≡ (48 + n / 10 ^ k) ∷ places_of k (n % 10 ^ k)
unfolding places_of
places_more k n h = let t : eqb n 0 ≡ false = ne_eqb n 0 (λ e. absurd (omega arith)) in rw t refl

pub none_left : (k : ℕ) → places_of k 0 ≡ []
unfolding places_of
none_left zero = refl
none_left (suc k) = refl

pub nothing_left : (n : ℕ) → places_of 0 n ≡ []
unfolding places_of
nothing_left n = refl

pub one_more : (b : List ℕ) (end left : ℕ) (text : List ℕ) → end < 31 → end < length b → 0 < left
    → take end b ++ places_of (31 - end) left ≡ text
    → take (end + 1) (set b end (48 + left / 10 ^ (31 - (end + 1))))
    ++ places_of (31 - (end + 1)) (left % 10 ^ (31 - (end + 1))) ≡ text
one_more b end left text h room some so_far =
    let k : ℕ = 31 - (end + 1) in
    let e : 31 - end ≡ suc k = omega arith in
    let d : ℕ = 48 + left / 10 ^ k in
    rw (take_more_set b end d room) (append_assoc (take end b) (d ∷ []) (places_of k (left % 10 ^ k))
    ∙ ap (λ (r : List ℕ). take end b ++ r) (sym (ap (λ (j : ℕ). places_of j left) e ∙ places_more k left some))
    ∙ so_far)

pub begun : (b : List ℕ) (n : ℕ) → 21 < length b → take 22 (set b 21 46) ++ places_of 9 n ≡ take 21 b
    ++ 46 ∷ places_of 9 n
begun b n room = rw (take_more_set b 21 46 room) (append_assoc (take 21 b) (46 ∷ []) (places_of 9 n))

pub all_written : (b old : List ℕ) (end n : ℕ) → 0 < n → take end b ++ [] ≡ take 21 old ++ 46 ∷ places_of 9 n
    → take end b ≡ take 21 old ++ fraction_text n
all_written b old end n some e = let t : eqb n 0 ≡ false = ne_eqb n 0 (λ i. absurd (omega arith)) in
    sym (append-nil (take end b)) ∙ e ∙ rw t refl

pub ten_pos : (k : ℕ) → 0 < 10 ^ k
ten_pos k = one-le-pow k 10 (omega arith)

pub scale_less : (scale end : ℕ) → end < 31 → scale ≡ 10 ^ (31 - end) → scale / 10 ≡ 10 ^ (31 - (end + 1))
scale_less scale end h e =
    let k : ℕ = 31 - (end + 1) in
    let p : scale ≡ 10 * 10 ^ k = e ∙ ap (λ (j : ℕ). 10 ^ j) (let s : 31 - end ≡ suc k = omega arith in s)
    ∙ pow-suc 10 k ∙ omega arith in
    omega (arith, p)

-- ---- the sign and the whole digits before the point

pub room_for : (n : ℕ) → n < 2 ^ 64 → (length (decimal n) ≤ 20) × (0 < length (decimal n))
room_for n h = (length-decimal-le 20 n (omega arith) (omega arith) h, decimal_nonempty n h)

pub signed_front : (b old : List ℕ) (at whole : ℕ) → at ≤ length b → drop at b ≡ decimal whole ++ drop 21 old → 0 < at
    → drop (at - 1) (set b (at - 1) 45) ≡ front_text true whole ++ drop 21 old
signed_front b old at whole room e some =
    let next : at - 1 + 1 ≡ at = omega arith in
    drop-set b (at - 1) 45 (omega arith) ∙ ap (λ (i : ℕ). 45 ∷ drop i b) next ∙ ap (λ (r : List ℕ). 45 ∷ r) e

-- the front and the fraction, read between their ends
pub whole_text : (old b c front fraction : List ℕ) (start end : ℕ) → length old ≡ 31 → length b ≡ 31 → start ≤ 21
    → 21 ≤ end
    → drop start b ≡ front ++ drop 21 old → take end c ≡ take 21 b ++ fraction
    → take (end - start) (drop start c) ≡ front ++ fraction
whole_text old b c front fraction start end h k low high left right =
    let to_point : start + (21 - start) ≡ 21 = omega arith in
    let to_end : start + (end - start) ≡ end = omega arith in
    let len : length front ≡ 21 - start = omega (
      arith,
      length-drop start b,
      length-drop 21 old,
      length-append front (drop 21 old),
      ap (λ (r : List ℕ). length r) left,
    ) in
    let first : drop start (take 21 b) ≡ front = ap (λ (n : ℕ). drop start (take n b)) (sym to_point)
    ∙ drop-take start (21 - start) b ∙ ap (take (21 - start)) left ∙ take_at front (drop 21 old) (21 - start) len in
    sym (drop-take start (end - start) c) ∙ ap (λ (n : ℕ). drop start (take n c)) to_end ∙ ap (drop start) right
    ∙ drop-append-le start (take 21 b) fraction (omega (arith, length-take 21 b))
    ∙ ap (λ (r : List ℕ). r ++ fraction) first
