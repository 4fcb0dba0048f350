use Rattle.std.proofs.Common.{◌≡◌, ◌+◌, ◌-◌, ℕ, [], ◌++◌, length, take, drop, refl, ap, sym, ◌∙◌, arith}
use Rattle.std.proofs.Common.{take_at, take_all, drop-drop}
use Rattle.std.proofs.lemmas.List.{append-nil, take-append-le}
use Rattle.std.specs.Int.{w64, to_le_bytes}
use Rattle.metric.proofs.WordLemmas.{count_of, lowest, joined, left_over}
use Rattle.metric.proofs.words.words_of.Goals as goal

pub returns-then-len-lt-WORD : goal.returns-then-len-lt-WORD
returns-then-len-lt-WORD c =
    let len = length c.args.bytes.now in
    let word = c.word_of_few.result in
    take-append-le len (to_le_bytes w64 word) _ (omega (arith, count_of 0 8 word))
    ∙ lowest 0 8 len word (omega arith) ∙ c.word_of_few.ensures

pub returns-then-len-eq-WORD : goal.returns-then-len-eq-WORD
returns-then-len-eq-WORD c =
    let bytes = c.args.bytes.now in
    let eight : length bytes ≡ 8 = omega arith in
    ap (λ (k : ℕ). take k (to_le_bytes w64 c.word_at-first.result ++ (to_le_bytes w64 0 ++ to_le_bytes w64 0))) eight
    ∙ take_at (to_le_bytes w64 c.word_at-first.result) (to_le_bytes w64 0 ++ to_le_bytes w64 0) 8 refl
    ∙ c.word_at-first.ensures ∙ take_all 8 bytes (omega (arith, eight))

pub returns-then-len : goal.returns-then-len
returns-then-len c =
    let bytes = c.args.bytes.now in
    let split : length bytes ≡ 8 + (length bytes - 8) = omega arith in
    ap (λ (k : ℕ). take k (to_le_bytes w64 c.word_at-first.result ++ (to_le_bytes w64 c.highest.result
    ++ to_le_bytes w64 0))) split
    ∙ joined bytes (to_le_bytes w64 c.word_at-first.result) (to_le_bytes w64 c.highest.result ++ to_le_bytes w64 0)
    (length bytes - 8) refl c.word_at-first.ensures
    (left_over bytes c.highest.result c.word_at-last.result (length bytes - 8) 8 (omega arith) (omega arith)
    (omega arith) c.highest.ensures c.word_at-last.ensures (to_le_bytes w64 0))

pub returns : goal.returns
returns c =
    let bytes = c.args.bytes.now in
    let split : length bytes ≡ 8 + (length bytes - 8) = omega arith in
    let rest : length bytes - 8 ≡ 8 + (length bytes - 16) = omega arith in
    let a = to_le_bytes w64 c.word_at-first.result in
    let b = to_le_bytes w64 c.word_at.result in
    let last = to_le_bytes w64 c.highest-2.result in
    ap (λ (k : ℕ). take k (a ++ (b ++ last))) split
    ∙ joined bytes a (b ++ last) (length bytes - 8) refl c.word_at-first.ensures
    (ap (λ (k : ℕ). take k (b ++ last)) rest
    ∙ joined (drop 8 bytes) b last (length bytes - 16) refl c.word_at.ensures
    (ap (take (length bytes - 16)) (sym (append-nil last))
    ∙ left_over bytes c.highest-2.result c.word_at-last.result (length bytes - 16) 16 (omega arith) (omega arith)
    (omega arith) c.highest-2.ensures c.word_at-last.ensures []
    ∙ sym (drop-drop 8 8 bytes)))
