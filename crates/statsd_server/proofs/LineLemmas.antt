-- The lines of a packet that are left at a byte, where a line has begun at another.
use Rattle.std.proofs.Common.{◌≡◌, ◌<◌, ◌≤◌, ◌+◌, ◌-◌, ◌==◌, ℕ, true, false, cond, List, [], ◌∷◌, ◌++◌, length, map}
use Rattle.std.proofs.Common.{take, drop, get_or, refl, sym, ap, ◌∙◌, arith, append_assoc, length-drop}
use Rattle.std.specs.Prelude.{is_err}
use Rattle.std.proofs.lemmas.Bool.{eq-eqb, ne_eqb}
use Rattle.std.proofs.lemmas.List.{at_drop_all, at_drop_more, get_or-drop, take_all, take_more}
use Rattle.std.proofs.lemmas.List.Sums.{sum_by-append}
use Rattle.std.proofs.lemmas.List.{map-append}
use Rattle.statsd_server.specs.declared.part.Part.{Part}
use Rattle.statsd_server.specs.Kept.{said_by}
use Rattle.statsd_server.specs.Packets.{line_read, lines_from, parts_of_lines, parts_read, refused_lines, rest_lines}
use Rattle.statsd_server.specs.Packets.{without_return}

abbrev pub left_at : List ℕ → ℕ → ℕ → List (List ℕ)
left_at packet start i = lines_from (take (i - start) (drop start packet)) (drop i packet)

step_at : (begun bytes : List ℕ) (b : ℕ) → lines_from begun (b ∷ bytes)
    ≡ cond (b == 10) (without_return begun ∷ lines_from [] bytes) (lines_from (begun ++ b ∷ []) bytes)
unfolding lines_from
step_at begun bytes b = refl

-- a newline ends a line
pub line_ends : (packet : List ℕ) (start i : ℕ) → i < length packet → get_or packet i 0 ≡ 10
    → left_at packet start i ≡ without_return (take (i - start) (drop start packet)) ∷ left_at packet (i + 1) (i + 1)
line_ends packet start i below is =
    let begun = take (i - start) (drop start packet) in
    let none : i + 1 - (i + 1) ≡ 0 = omega arith in
    let test : (get_or packet i 0 == 10) ≡ true = eq-eqb (get_or packet i 0) 10 is in
    at_drop_more (lines_from begun) packet i 0 below ∙ step_at begun (drop (i + 1) packet) (get_or packet i 0)
    ∙ rw (test, none) refl

-- another byte goes on with it
pub line_goes_on : (packet : List ℕ) (start i : ℕ) → i < length packet → start ≤ i → (get_or packet i 0 ≡ 10 → ⊥)
    → left_at packet start i ≡ left_at packet start (i + 1)
line_goes_on packet start i below begun_at isnt =
    let begun = take (i - start) (drop start packet) in
    let test : (get_or packet i 0 == 10) ≡ false = ne_eqb (get_or packet i 0) 10 isnt in
    let within : i - start < length (drop start packet) = omega (arith, length-drop start packet) in
    let next : i + 1 - start ≡ i - start + 1 = omega arith in
    let there : start + (i - start) ≡ i = omega arith in
    let byte : get_or (drop start packet) (i - start) 0 ≡ get_or packet i 0 =
    get_or-drop start packet (i - start) 0 ∙ ap (λ (k : ℕ). get_or packet k 0) there in
    at_drop_more (lines_from begun) packet i 0 below ∙ step_at begun (drop (i + 1) packet) (get_or packet i 0)
    ∙ rw (test, next) (ap (λ (line : List ℕ). lines_from line (drop (i + 1) packet))
    (sym (take_more (drop start packet) (i - start) 0 within
    ∙ ap (λ (b : ℕ). begun ++ b ∷ []) byte)))

-- behind the last byte
pub line_rests : (packet : List ℕ) (start i : ℕ) → length packet ≤ i → i ≤ length packet
    → left_at packet start i ≡ rest_lines (drop start packet)
unfolding lines_from
line_rests packet start i past within =
    let all : length (drop start packet) ≤ i - start = omega (arith, length-drop start packet) in
    at_drop_all (lines_from (take (i - start) (drop start packet))) packet i past
    ∙ ap rest_lines (take_all (i - start) (drop start packet) all)

-- ---- what is read

-- what the parts of lines say
abbrev pub said_of_lines : List (List ℕ) → List Part
said_of_lines lines = map said_by (parts_of_lines lines)

pub parts_step : (old new : List Part) (line is : List ℕ) (lines rest : List (List ℕ)) (all : List Part)
    → new ≡ old ++ map said_by (parts_read (line_read line)) → line ≡ is → lines ≡ is ∷ rest
    → old ++ said_of_lines lines ≡ all → new ++ said_of_lines rest ≡ all
parts_step old new line is lines rest all read e step before =
    ap (λ (parts : List Part). parts ++ said_of_lines rest) read
    ∙ append_assoc old (map said_by (parts_read (line_read line))) (said_of_lines rest)
    ∙ ap (λ (text : List ℕ). old ++ (map said_by (parts_read (line_read text)) ++ said_of_lines rest)) e
    ∙ ap (λ (list : List Part). old ++ list)
    (sym (map-append said_by (parts_read (line_read is)) (parts_of_lines rest)))
    ∙ ap (λ (list : List (List ℕ)). old ++ said_of_lines list) (sym step) ∙ before

pub refused_step : (old new : ℕ) (line is : List ℕ) (lines rest : List (List ℕ)) (all : ℕ)
    → new ≡ old + cond (is_err (line_read line)) 1 0 → line ≡ is → lines ≡ is ∷ rest → old + refused_lines lines ≡ all
    → new + refused_lines rest ≡ all
refused_step old new line is lines rest all read e step before =
    let here : cond {A = ℕ} (is_err (line_read line)) 1 0 ≡ cond {A = ℕ} (is_err (line_read is)) 1 0 =
    ap (λ (text : List ℕ). cond {A = ℕ} (is_err (line_read text)) 1 0) e in
    let first : refused_lines lines ≡ 0 + cond {A = ℕ} (is_err (line_read is)) 1 0 + refused_lines rest =
    ap refused_lines step
    ∙ sum_by-append (λ (text : List ℕ). cond {A = ℕ} (is_err (line_read text)) 1 0) (is ∷ []) rest in
    omega (arith, here, first, before, read)

pub refused_few : (old new i : ℕ) (line : List ℕ) → new ≡ old + cond (is_err (line_read line)) 1 0 → old ≤ i
    → new ≤ i + 1
refused_few old new i line read few =
    let one : cond (is_err (line_read line)) 1 0 ≤ 1 =
    elim (is_err (line_read line)) as (λ t. cond t 1 0 ≤ 1) [ true ↦ omega arith | false ↦ omega arith ] in
    omega (arith, one, read, few)

-- a last line
pub rest_some : (rest : List ℕ) → 0 < length rest → rest_lines rest ≡ rest ∷ []
rest_some rest some =
    let test : (length rest == 0) ≡ false = ne_eqb (length rest) 0 (λ e. absurd (omega arith)) in
    rw test refl

pub rest_none : (rest : List ℕ) → length rest ≡ 0 → rest_lines rest ≡ []
rest_none rest none = rw (eq-eqb (length rest) 0 none) refl

-- the bytes of a slice up to the end
pub all_behind : (packet : List ℕ) (start : ℕ) → take (length packet - start) (drop start packet) ≡ drop start packet
all_behind packet start =
    take_all (length packet - start) (drop start packet) (omega (arith, length-drop start packet))
