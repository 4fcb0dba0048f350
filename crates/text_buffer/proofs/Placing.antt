-- Writes over cells, one behind the other.
use Rattle.std.proofs.Common.{◌≡◌, ℕ, ◌+◌, ◌-◌, ◌≤◌, List, ◌++◌, length, take, drop, map, ap, sym, ◌∙◌, arith}
use Rattle.std.proofs.Common.{append_assoc, length-append, length-drop, length-take-le, take-add, take-take}
use Rattle.std.proofs.Common.{take_at, drop_at}
use Rattle.std.proofs.Math.Seq.{take-append_seam}
use Rattle.std.proofs.lemmas.List.{drop-take, length-map}
use Rattle.text_buffer.specs.Placed.{Placed}

-- where one write ends the next one begins
pub placed_then : {a b c s t : List ℕ} {at mid end : ℕ} → Placed a b at s mid → Placed b c mid t end
    → Placed a c at (s ++ t) end
placed_then {a} {b} {c} {s} {t} {at} first next = record {
  bytes = next.bytes ∙ ap (λ (front : List ℕ). front ++ t) first.bytes ∙ append_assoc (take at a) s t;
  end_at = omega (arith, first.end_at, next.end_at, length-append s t);
  cells = next.cells ∙ first.cells;
}

-- of what was written the first bytes alone count
pub placed_less : {a b s : List ℕ} {at end : ℕ} (count : ℕ) → at ≤ length a → count ≤ length s → Placed a b at s end
    → take (at + count) b ≡ take at a ++ take count s
placed_less {a} {b} {s} {at} {end} count within few placed =
    let front : length (take at a) ≡ at = length-take-le at a within in
    sym (take-take (at + count) end b (omega (arith, placed.end_at))) ∙ ap (take (at + count)) placed.bytes
    ∙ take-add at count (take at a ++ s)
    ∙ (λ k. take_at (take at a) s at front k ++ take count (drop_at (take at a) s at front k))

-- what stands behind the text and the cells behind it doesn't count
pub front_alone : (front b post rest : List ℕ) (len cells : ℕ) → len ≤ cells → length (front ++ b) ≡ len
    → take len (take cells ((front ++ (b ++ post)) ++ rest)) ≡ front ++ b
front_alone front b post rest len cells within long =
    take-take len cells ((front ++ (b ++ post)) ++ rest) within
    ∙ ap (take len) (append_assoc front (b ++ post) rest
    ∙ ap (λ (row : List ℕ). front ++ row) (append_assoc b post rest) ∙ sym (append_assoc front b (post ++ rest)))
    ∙ ap (λ (k : ℕ). take k ((front ++ b) ++ (post ++ rest))) (sym long) ∙ take-append_seam (front ++ b) (post ++ rest)

-- of cells that are changed from an index on up to the end of a text, the text has what stood before the index, and
-- what was changed
pub changed : (f : ℕ → ℕ) (cells b post rest : List ℕ) (start len n : ℕ) → start ≤ len → len ≤ length cells
    → length cells ≡ n
    → b ≡ map f (take (len - start) (drop start cells))
    → take len (take n ((take start cells ++ (b ++ post)) ++ rest))
    ≡ take start (take len cells) ++ map f (drop start (take len cells))
changed f cells b post rest start len n below within all made =
    let sum : start + (len - start) ≡ len = omega arith in
    let back : drop start (take len cells) ≡ take (len - start) (drop start cells) =
    ap (λ (k : ℕ). drop start (take k cells)) (sym sum) ∙ drop-take start (len - start) cells in
    let part : length b ≡ len - start =
    ap length made ∙ length-map (take (len - start) (drop start cells)) f
    ∙ length-take-le (len - start) (drop start cells) (omega (arith, length-drop start cells)) in
    let long : length (take start cells ++ b) ≡ len =
    omega (arith, length-append (take start cells) b, length-take-le start cells (omega arith), part) in
    front_alone (take start cells) b post rest len n (omega (arith, all)) long
    ∙ (λ k. sym (take-take start len cells below) k ++ (made ∙ ap (map f) (sym back)) k)
