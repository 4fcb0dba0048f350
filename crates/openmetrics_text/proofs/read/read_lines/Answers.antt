use Rattle.std.proofs.Common.{◌≡◌, ◌∙◌, ◌++◌, ◌∷◌, [], List, ℕ, Some, None, Option, ap}
use Rattle.std.proofs.lemmas.Int.{to_z-of_z}
use mir.Syntax.{w64}
use Rattle.std.specs.Prelude.{Ok, option_map}
use Rattle.std.specs.Borrow.{Bor}
use Rattle.std.proofs.lemmas.Result.{err_from_is_err_and}
use Rattle.text_parts.proofs.Each.{nothing_read, one_more}
use Rattle.openmetrics_text.specs.declared.exposition.Exposition.{Exposition}
use Rattle.openmetrics_text.specs.Reading.{line_at}
use Rattle.openmetrics_text.specs.Views.{part_at, line_view}
use Rattle.openmetrics_text.proofs.SaidLemmas.{said_is}
use Rattle.openmetrics_text.proofs.Chains.{lines_are, none_read, next_fails, all_said}
use Rattle.openmetrics_text.proofs.read.read_lines.Goals as goal

text_is : (given : Option (Bor (List ℕ))) (text : Bor (List ℕ)) → given ≡ Some text
    → option_map (λ (t : Bor (List ℕ)). t.now) given ≡ Some text.now
text_is given text e = ap (option_map (λ (t : Bor (List ℕ)). t.now)) e

pub returns-in_default : goal.returns-in_default
returns-in_default c = rw c.in_default.is (lines_are c.args.moment c.args.typed c.args.passing None []
    (none_read c.args.passing) ∙ ap (λ (e : Exposition). Ok e)
    (said_is c.args.moment c.args.typed c.new-collected.result []
    (rw (to_z-of_z w64 c.args.moment c.ranges.moment) at c.new-collected.ensures)))

pub loop-line-init : goal.loop-line-init
loop-line-init c = ([], nothing_read (line_at c.args.passing) c.of-lines.result, c.new-collected.ensures)

pub returns-in_err-says : goal.returns-in_err-says
returns-in_err-says c =
    let p = err_from_is_err_and c.from_residual.result c.from_residual.ensures.1 in
    let so_far = c.loop-line.invariant in
    rw (p.1, p.2) (next_fails c.args.moment c.args.typed c.args.passing _ c.in-Some.text.now c.of-lines.result
    (text_is c.args.text c.in-Some.text c.in-Some.is) c.of-lines.ensures c.loop-line.lines c.next.new.self so_far.0
    (part_at c.in-Some-next.line) c.in_err-says.field-0.0 so_far.1 c.in-Some-next.ensures.next
    c.in_err-says.ensures.gives)

pub loop-line-preserved : goal.loop-line-preserved
loop-line-preserved c =
    let so_far = c.loop-line.invariant in (
      so_far.0 ++ line_view c.in_ok-says.says ∷ [],
      one_more (line_at c.args.passing) c.of-lines.result c.loop-line.lines so_far.0
          (part_at c.in-Some-next.line) c.next.new.self (line_view c.in_ok-says.says) so_far.1
          c.in-Some-next.ensures.next c.in_ok-says.ensures.gives,
      c.in_ok-add.ensures so_far.0 _ _ so_far.2,
    )

pub returns : goal.returns
returns c =
    let so_far = c.loop-line.invariant in
    all_said c.args.moment c.args.typed c.args.passing _ c.in-Some.text.now c.of-lines.result
    (text_is c.args.text c.in-Some.text c.in-Some.is) c.of-lines.ensures c.loop-line.lines so_far.0 so_far.1
    c.in_default-next.ensures.next
    ∙ ap (λ (e : Exposition). Ok e) (said_is c.args.moment c.args.typed c.loop-line.collected so_far.0
    (rw (to_z-of_z w64 c.args.moment c.ranges.moment) at so_far.2))
