-- Chains of calls that append.
use Rattle.std.proofs.Common.{◌≡◌, ◌≤◌, ℕ, List, ◌++◌, length, take, sym, ap, ◌∙◌}
use Rattle.std.proofs.Common.{arith, append_assoc, length-append, rules}
use Rattle.std.proofs.lemmas.Grind.{common_steps}
use Rattle.std.proofs.Math.Seq.{take-append_seam, take-length}
use Rattle.std.specs.Prelude.{Result, Ok, Err, IsErr, OnErr, OnOk}
use Rattle.text_parts.specs.Adds.{Adds, Extends}

-- what stood at the front of what stands at the front
pub extends_after : (old mid new more : List ℕ) → mid ≡ old ++ more → Extends mid new → Extends old new
extends_after old mid new more e h =
    let longer : length old ≤ length mid = omega (arith, ap length e, length-append old more) in
    let front : take (length old) mid ≡ old = rw e (take-append_seam old more) in
    let within : take (length old) (take (length mid) new) ≡ take (length old) new = grind (arith, common_steps) in
    sym within ∙ ap (take (length old)) h ∙ front

-- a call that failed
pub fails : {E : Type 0} (result : Result (Unit {0}) E) (old new text : List ℕ)
    → IsErr result → Extends old new → Adds result old new text
fails (Ok done) old new text e h = search rules
fails (Err fault) old new text e h = h

-- a text was appended, or nothing
pub appended : {E : Type 0} (result : Result (Unit {0}) E) (old new text : List ℕ) → OnOk result (new ≡ old ++ text)
    → OnErr result (new ≡ old) → Adds result old new text
appended (Ok done) old new text ok err = ok
appended (Err fault) old new text ok err = ap (take (length old)) err ∙ take-length old

-- one text after another
pub after : (old mid new front back : List ℕ)
    → mid ≡ old ++ front → new ≡ mid ++ back → new ≡ old ++ (front ++ back)
after old mid new front back first second =
    second ∙ ap (λ text. text ++ back) first ∙ append_assoc old front back

-- a text, and then what a last call appends
pub adds_after : {E : Type 0} (result : Result (Unit {0}) E) (old mid new front text : List ℕ)
    → mid ≡ old ++ front → Adds result mid new text → Adds result old new (front ++ text)
adds_after (Ok done) old mid new front text first last = after old mid new front text first last
adds_after (Err fault) old mid new front text first last = extends_after old mid new front first last
