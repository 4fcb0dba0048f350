use Rattle.std.proofs.Common.{arith, ◌∙◌, sym, ap, refl, ◌++◌, List, ℕ}
use Rattle.std.proofs.lemmas.List.{append-nil}
use Rattle.text_parts.specs.Kinds.{kind_of}
use Rattle.text_parts.proofs.Parts.{escape_at, plain_escape_at, plain_more_at, all_plain, pushed_plain}
use Rattle.text_parts.proofs.part.plain_bytes.Goals as goal

pub loop-i-preserved-then-escape_at : goal.loop-i-preserved-then-escape_at
loop-i-preserved-then-escape_at c =
    let is = sym c.escape_at.ensures ∙ c.if-escape_at.true in (
      (escape_at (kind_of c.args.part.now) c.args.bytes.now c.loop-i.i is).0,
      pushed_plain (kind_of c.args.part.now) _ _ _ _ _ _ (c.in_ok-push.ensures.items ∙ rw c.meaning.ensures refl)
          (plain_escape_at (kind_of c.args.part.now) c.args.bytes.now c.loop-i.i is) c.loop-i.invariant.1,
    )

pub loop-i-preserved : goal.loop-i-preserved
loop-i-preserved c =
    let is = sym c.escape_at.ensures ∙ c.if-escape_at.false in (
      omega arith,
      pushed_plain (kind_of c.args.part.now) _ _ _ _ _ _ c.in_ok-push-2.ensures.items
          (plain_more_at (kind_of c.args.part.now) c.args.bytes.now c.loop-i.i is c.loop-i-test.true)
          c.loop-i.invariant.1,
    )

pub returns : goal.returns
returns c = sym (append-nil c.loop-i.text.items) ∙ ap (λ (r : List ℕ). c.loop-i.text.items ++ r)
    (sym (all_plain (kind_of c.args.part.now) c.args.bytes.now c.loop-i.i c.loop-i-test.false)) ∙ c.loop-i.invariant.1
