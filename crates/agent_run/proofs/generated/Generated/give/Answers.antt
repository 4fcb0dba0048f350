use Rattle.std.proofs.Common.{◌≡◌, ◌≤◌, ◌<◌, ◌+◌, ◌-◌, ◌++◌, ◌⊎◌, ◌∙◌, ℕ, suc, List, [], length, take, drop, min}
use Rattle.std.proofs.Common.{inl, inr, refl, sym, ap, arith, length-append, length-drop}
use Rattle.std.proofs.lemmas.List.{take-append-le, drop-append-le, drop-drop, drop_all, take_all}
use Rattle.std.proofs.lemmas.List.Concat.{flat_map-cons}
use Rattle.std.specs.List.{flat_map, range_with_len}
use Rattle.agent_run.specs.Generated.{generated_line, generated_from}
use Rattle.agent_run.proofs.generated.Generated.give.Goals as goal
use Rattle.agent_run.proofs.generated.Generated.give.Goals.{After-copy_front-count}
use Rattle.agent_run.proofs.generated.Generated.give.Goals.{then-self-len+then-self, else-self-len}
use Rattle.agent_run.proofs.generated.Generated.give.Goals.{else-self-len-via-then-self-len+else-self}
use Rattle.agent_run.proofs.generated.Generated.give.Goals.{else-self-len-via-else-self-len}

-- what is left: the rest of a line, and the lines behind it
abbrev left_of : List ℕ → ℕ → ℕ → ℕ → List ℕ
left_of line at next lines = drop at line ++ generated_from next (lines - next)

-- bytes are what is left; the line isn't at its end, or nothing is left
record IsReady (left line : List ℕ) (at next lines : ℕ) : Type 0 where
  pub is : left ≡ left_of line at next lines
  pub within : at ≤ length line
  pub some : (at < length line) ⊎ (left ≡ [])

-- the first line and those behind it
one_more : (next lines : ℕ) → next < lines
    → generated_from next (lines - next) ≡ generated_line next ++ generated_from (next + 1) (lines - (next + 1))
unfolding generated_from
one_more next lines lt =
    let more : lines - next ≡ suc (lines - (next + 1)) = omega arith in
    ap (λ (count : ℕ). flat_map generated_line (range_with_len next count)) more
    ∙ flat_map-cons generated_line next (range_with_len (next + 1) (lines - (next + 1)))

-- no line is left
none_left : (next lines : ℕ) → lines ≤ next → generated_from next (lines - next) ≡ []
unfolding generated_from
none_left next lines le = let none : lines - next ≡ 0 = omega arith in rw none refl

-- the line is at its end: the lines behind it are all that is left
over : (left line : List ℕ) (at next lines : ℕ) → left ≡ left_of line at next lines → at ≡ length line
    → left ≡ generated_from next (lines - next)
over left line at next lines is end =
    is ∙ ap (λ (l : List ℕ). l ++ generated_from next (lines - next)) (drop_all at line (omega arith))

-- the next line was made, as the one before was at its end
made : (left line new : List ℕ) (at next lines : ℕ) → left ≡ left_of line at next lines → at ≡ length line
    → next < lines → new ≡ generated_line next → 1 ≤ length new → IsReady left new 0 (next + 1) lines
made left line new at next lines is end lt e some = record {
  is = over left line at next lines is end ∙ one_more next lines lt
      ∙ ap (λ (l : List ℕ). l ++ generated_from (next + 1) (lines - (next + 1))) (sym e);
  within = omega arith;
  some = inl some;
}

-- the line is at its end, and it was the last one
ended : (left line : List ℕ) (at next lines : ℕ) → left ≡ left_of line at next lines → at ≡ length line → lines ≤ next
    → IsReady left line at next lines
ended left line at next lines is end le =
    record { is = is; within = omega arith; some = inr (over left line at next lines is end ∙ none_left next lines le) }

-- the line goes on
goes_on : (left line : List ℕ) (at next lines : ℕ) → left ≡ left_of line at next lines → at < length line
    → IsReady left line at next lines
goes_on left line at next lines is lt = record { is = is; within = omega arith; some = inl lt }

ready : (c : After-copy_front-count) → (let s = c.if-self-len.self-inside in
    IsReady c.args.self.now s.line.items s.at s.next s.lines)
ready c =
    let s = c.self.inside in
    let left = c.args.self.now in
    let line = s.line.items in
    let is = sym c.self.view_is in
    elim c.if-self-len.branch [
      | then-self-len+then-self w ↦ rw w.self-inside-is (made left line w.write_line.new.line.items
          s.at s.next s.lines is (omega (arith, w.if-self-len.true, c.len.ensures)) w.if-self.true
          w.write_line.ensures.is (omega (arith, w.write_line.ensures.some)))
      | else-self-len w ↦ elim w.else-self-len.branch [
        | else-self-len-via-then-self-len+else-self w' ↦ rw w.self-inside-is (ended left line
            s.at s.next s.lines is (omega (arith, w'.if-self-len.true, c.len.ensures)) w'.if-self.false)
        | else-self-len-via-else-self-len w' ↦ rw w.self-inside-is (goes_on left line s.at s.next s.lines is
            (omega (arith, c.self.invariant)))
      ]
    ]

-- what was given of bytes, and what is left of them
record HasGiven (left buf new after : List ℕ) (count : ℕ) : Type 0 where
  pub within : count ≤ length left
  pub room : count ≤ length buf
  pub given : new ≡ take count left ++ drop count buf
  pub left_is : after ≡ drop count left
  pub some : count ≡ 0 → (left ≡ []) ⊎ (length buf ≡ 0)

-- of the line's rest as many bytes are given as there are and have room
gives : (left line piece buf new : List ℕ) (at next lines count : ℕ) → IsReady left line at next lines → piece ≡ line
    → count ≡ min (length (take (length piece - at) (drop at piece))) (length buf)
    → new ≡ take count (take (length piece - at) (drop at piece)) ++ drop count buf
    → HasGiven left buf new (left_of line (at + count) next lines) count
gives left line piece buf new at next lines count r e counted h =
    let rest : List ℕ = drop at line in
    let more : List ℕ = generated_from next (lines - next) in
    let whole : take (length piece - at) (drop at piece) ≡ rest =
    rw e (take_all (length line - at) (drop at line) (omega (arith, length-drop at line))) in
    let most : count ≡ min (length rest) (length buf) =
    counted ∙ ap (λ (l : List ℕ). min (length l) (length buf)) whole in
    let fits : count ≤ length rest = omega arith in
    let all : length left ≡ length rest + length more = ap length r.is ∙ length-append rest more in
    let front : take count left ≡ take count rest = ap (take count) r.is ∙ take-append-le count rest more fits in
    record {
      within = omega arith;
      room = omega arith;
      given = h ∙ ap (λ (l : List ℕ). take count l ++ drop count buf) whole
          ∙ ap (λ (l : List ℕ). l ++ drop count buf) (sym front);
      left_is = ap (λ (l : List ℕ). l ++ more) (sym (drop-drop count at line))
          ∙ sym (ap (drop count) r.is ∙ drop-append-le count rest more fits);
      some = λ none. elim r.some [ inl lt ↦ inr (omega (arith, length-drop at line)) | inr gone ↦ inl gone ];
    }

given : (c : After-copy_front-count) → (let s = c.if-self-len.self-inside in
    HasGiven c.args.self.now c.args.buf.now c.copy_front-count.new.buf
    (left_of s.line.items (s.at + c.copy_front-count.result) s.next s.lines) c.copy_front-count.result)
given c =
    let s = c.if-self-len.self-inside in
    let copy = c.copy_front-count in
    gives c.args.self.now s.line.items c.deref.result.now c.args.buf.now copy.new.buf s.at s.next s.lines copy.result
    (ready c) c.deref.ensures.value copy.ensures.count copy.ensures.given

pub returns-clause-within : goal.returns-clause-within
returns-clause-within c = (given (goal.at.returns-clause-within c).After-copy_front-count).within

pub returns-clause-room : goal.returns-clause-room
returns-clause-room c = (given (goal.at.returns-clause-room c).After-copy_front-count).room

pub returns-clause-given : goal.returns-clause-given
returns-clause-given c = (given (goal.at.returns-clause-given c).After-copy_front-count).given

pub returns-clause-left : goal.returns-clause-left
returns-clause-left c = (given (goal.at.returns-clause-left c).After-copy_front-count).left_is

pub returns-clause-some : goal.returns-clause-some
returns-clause-some c = (given (goal.at.returns-clause-some c).After-copy_front-count).some
