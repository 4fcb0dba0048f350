use Rattle.std.proofs.Common.{◌≡◌, true, false, refl, ◌∷◌, List, length, ap, sym, ◌∙◌, arith}
use Rattle.std.specs.Prelude.{◌==◌, filter}
use Rattle.text_parts.specs.Split.{PartAt}
use Rattle.text_parts.specs.Words.{is_filled}
use Rattle.text_parts.proofs.words.Words.next.Goals as goal

-- the next part, where it isn't empty, and where it is
filled_next : (left rest : List PartAt) (part : PartAt) → left ≡ part ∷ rest → (length part.1 == 0) ≡ false
    → filter is_filled left ≡ part ∷ filter is_filled rest
filled_next left rest part is some = rw (is, some) refl

empty_next : (left rest : List PartAt) (part : PartAt) → left ≡ part ∷ rest → (length part.1 == 0) ≡ true
    → filter is_filled left ≡ filter is_filled rest
empty_next left rest part is none = rw (is, none) refl

pub loop-part-init : goal.loop-part-init
loop-part-init c = c.self.view_is

pub returns-then-not-is_empty-clause-next : goal.returns-then-not-is_empty-clause-next
returns-then-not-is_empty-clause-next c =
    sym c.loop-part.invariant
    ∙ filled_next c.loop-part.self-inside.parts c.next.new.self (c.in-Some.part.offset, c.in-Some.part.text.now)
    c.in-Some.ensures.next (sym c.is_empty.ensures ∙ c.if-not-is_empty.true)

pub returns-then-not-is_empty-clause-end : goal.returns-then-not-is_empty-clause-end
returns-then-not-is_empty-clause-end c =
    let next =
    sym c.loop-part.invariant
    ∙ filled_next c.loop-part.self-inside.parts c.next.new.self (c.in-Some.part.offset, c.in-Some.part.text.now)
    c.in-Some.ensures.next (sym c.is_empty.ensures ∙ c.if-not-is_empty.true) in
    omega (arith, ap length next)

pub loop-part-smaller : goal.loop-part-smaller
loop-part-smaller c = c.in-Some.ensures.end

pub loop-part-preserved : goal.loop-part-preserved
loop-part-preserved c =
    sym (empty_next c.loop-part.self-inside.parts c.next.new.self (c.in-Some.part.offset, c.in-Some.part.text.now)
    c.in-Some.ensures.next (sym c.is_empty.ensures ∙ c.if-not-is_empty.false))
    ∙ c.loop-part.invariant

pub returns-clause-next : goal.returns-clause-next
returns-clause-next c = sym c.loop-part.invariant ∙ ap (filter is_filled) c.in_default.ensures.next
