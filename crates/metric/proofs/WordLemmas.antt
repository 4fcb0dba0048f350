-- The bytes of a number, the lowest first.
use Rattle.std.proofs.Common.{◌≡◌, ◌+◌, ◌-◌, ◌*◌, ◌/◌, ◌%◌, ◌^◌, ◌<◌, ◌≤◌, ℕ, zero, suc, List, ◌∷◌, ◌++◌}
use Rattle.std.proofs.Common.{length, take, drop, get_or, refl, ap, sym, ◌∙◌, arith, lit<}
use Rattle.std.proofs.Common.{take-add, take_at, drop_at, take_all, drop-cons, drop-drop}
use Rattle.std.proofs.Common.{length-drop}
use Rattle.std.specs.Int.{w64, byte_at, bytes_low_first, to_le_bytes}
use Rattle.std.proofs.Math.Nat.{pow-suc, div-div-eq-div-mul, pow-le-pow_right}
use Rattle.std.proofs.lemmas.Nat.{pow-add, mod-mul-add}
use Rattle.std.proofs.lemmas.List.{take-append-drop, take-append-le}

-- a byte of a number, by its place
pub byte_is : (i n : ℕ) → byte_at i n ≡ n / 256 ^ i % 256
byte_is zero n = omega arith
byte_is (suc i) n = refl

-- the lowest bytes of all
pub lowest : (i k n x : ℕ) → n ≤ k → take n (bytes_low_first i k x) ≡ bytes_low_first i n x
lowest i k zero x h = refl
lowest i zero (suc n) x h = absurd (omega arith)
lowest i (suc k) (suc n) x h = ap (λ (r : List ℕ). byte_at i x ∷ r) (lowest (suc i) k n x (omega arith))

-- and those behind them
pub others : (i k n x : ℕ) → n ≤ k → drop n (bytes_low_first i k x) ≡ bytes_low_first (i + n) (k - n) x
others i k zero x h =
    let from : i ≡ i + zero = omega arith in
    let count : k ≡ k - zero = omega arith in
    (λ j. bytes_low_first (from j) (count j) x)
others i zero (suc n) x h = absurd (omega arith)
others i (suc k) (suc n) x h =
    let from : suc i + n ≡ i + suc n = omega arith in
    let count : k - n ≡ suc k - suc n = omega arith in
    others (suc i) k n x (omega arith) ∙ (λ j. bytes_low_first (from j) (count j) x)

-- how many there are
pub count_of : (i k x : ℕ) → length (bytes_low_first i k x) ≡ k
count_of i zero x = refl
count_of i (suc k) x = omega (arith, count_of (suc i) k x)

-- of a number whose lowest bytes are cut off
pub moved : (j i k x : ℕ) → bytes_low_first i k (x / 256 ^ j) ≡ bytes_low_first (i + j) k x
moved j i zero x = refl
moved j i (suc k) x =
    let turned : j + i ≡ i + j = omega arith in
    let here : byte_at i (x / 256 ^ j) ≡ byte_at (i + j) x =
    byte_is i (x / 256 ^ j) ∙ ap (λ (y : ℕ). y % 256) (div-div-eq-div-mul x (256 ^ j) (256 ^ i)
    ∙ ap (λ (p : ℕ). x / p) (sym (pow-add 256 j i) ∙ ap (λ (m : ℕ). 256 ^ m) turned))
    ∙ sym (byte_is (i + j) x) in
    let next : suc i + j ≡ suc (i + j) = omega arith in
    (λ m. here m ∷ moved j (suc i) k x m) ∙ ap (λ (m : ℕ). byte_at (i + j) x ∷ bytes_low_first m k x) next

-- of a number behind whose bytes another byte is put as the lowest
pub pushed : (i k x b : ℕ) → b < 256 → bytes_low_first (suc i) k (x * 256 + b) ≡ bytes_low_first i k x
pushed i k x b small =
    let whole : (x * 256 + b) / 256 ≡ x = omega arith in
    let one : 256 ^ 1 ≡ 256 = refl in
    sym (ap (λ (m : ℕ). bytes_low_first m k (x * 256 + b)) (let e : i + 1 ≡ suc i = omega arith in e))
    ∙ sym (moved 1 i k (x * 256 + b)) ∙ ap (λ (y : ℕ). bytes_low_first i k y) whole

-- a power of 2, of whole bytes
pub of_bytes : (n : ℕ) → 2 ^ (8 * n) ≡ 256 ^ n
of_bytes zero = refl
of_bytes (suc n) =
    ap (λ (k : ℕ). 2 ^ k) (let e : 8 * suc n ≡ 8 * n + 8 = omega arith in e) ∙ pow-add 2 (8 * n) 8
    ∙ ap (λ (p : ℕ). p * 256) (of_bytes n) ∙ sym (pow-suc 256 n)

-- a word is multiplied by 256 without loss
pub fits : (n word b : ℕ) → n ≤ 6 → word < 256 ^ n → b < 256 → word * 256 + b < 2 ^ 64
fits n word b few below small = omega (arith, pow-le-pow_right {n = 256} (lit< tt) few)

-- and has a byte more
pub grown : (len at word b : ℕ) → 0 < at → at ≤ len → word < 256 ^ (len - at) → b < 256
    → word * 256 + b < 256 ^ (len - (at - 1))
grown len at word b some within below small =
    let more : 256 ^ (len - (at - 1)) ≡ 256 ^ (len - at) * 256 =
    ap (λ (k : ℕ). 256 ^ k) (let e : len - (at - 1) ≡ suc (len - at) = omega arith in e) ∙ pow-suc 256 (len - at) in
    omega (arith, more)

-- the byte before an index goes before those from it on
pub one_more : (bytes : List ℕ) (at word b : ℕ) → 0 < at → at ≤ length bytes → b < 256 → b ≡ get_or bytes (at - 1) 0
    → bytes_low_first 0 (length bytes - at) word ≡ drop at bytes
    → bytes_low_first 0 (length bytes - (at - 1)) (word * 256 + b) ≡ drop (at - 1) bytes
one_more bytes at word b some within small is so_far =
    let many : length bytes - (at - 1) ≡ suc (length bytes - at) = omega arith in
    let next : suc (at - 1) ≡ at = omega arith in
    let low : (word * 256 + b) % 256 ≡ b = mod-mul-add word 256 b small in
    ap (λ (k : ℕ). bytes_low_first 0 k (word * 256 + b)) many
    ∙ (λ i. low i ∷ pushed 0 (length bytes - at) word b small i) ∙ (λ i. is i ∷ so_far i)
    ∙ sym (drop-cons bytes (at - 1) 0 (omega arith)
    ∙ ap (λ (n : ℕ). get_or bytes (at - 1) 0 ∷ drop n bytes) next)

-- a word's highest bytes
pub cut : (count word : ℕ) → count ≤ 8
    → bytes_low_first 0 count (word / 2 ^ (8 * (8 - count))) ≡ drop (8 - count) (to_le_bytes w64 word)
cut count word few =
    let left : 8 - (8 - count) ≡ count = omega arith in
    ap (λ (p : ℕ). bytes_low_first 0 count (word / p)) (of_bytes (8 - count)) ∙ moved (8 - count) 0 count word
    ∙ ap (λ (k : ℕ). bytes_low_first (0 + (8 - count)) k word) (sym left)
    ∙ sym (others 0 8 (8 - count) word (omega arith))

-- ---- a row of words

-- a word and what follows
pub joined : (bytes a rest : List ℕ) (k : ℕ) → length a ≡ 8 → a ≡ take 8 bytes → take k rest ≡ drop 8 bytes
    → take (8 + k) (a ++ rest) ≡ bytes
joined bytes a rest k long front back =
    take-add 8 k (a ++ rest) ∙ (λ i. take_at a rest 8 long i ++ take k (drop_at a rest 8 long i))
    ∙ (λ i. front i ++ back i) ∙ take-append-drop 8 bytes

-- the last word has the bytes that are left
pub left_over : (bytes : List ℕ) (word last count from : ℕ) → 8 ≤ length bytes → count ≤ 8
    → from + count ≡ length bytes
    → bytes_low_first 0 count word ≡ drop (8 - count) (to_le_bytes w64 last)
    → to_le_bytes w64 last ≡ take 8 (drop (length bytes - 8) bytes)
    → (rest : List ℕ) → take count (to_le_bytes w64 word ++ rest) ≡ drop from bytes
left_over bytes word last count from long few sum high is rest =
    let len : length (drop (length bytes - 8) bytes) ≡ 8 = omega (arith, length-drop (length bytes - 8) bytes) in
    take-append-le count (to_le_bytes w64 word) rest (omega (arith, count_of 0 8 word)) ∙ lowest 0 8 count word few
    ∙ high ∙ ap (drop (8 - count)) (is ∙ take_all 8 (drop (length bytes - 8) bytes) (omega (arith, len)))
    ∙ drop-drop (8 - count) (length bytes - 8) bytes
    ∙ ap (λ (k : ℕ). drop k bytes) (let e : length bytes - 8 + (8 - count) ≡ from = omega arith in e)
