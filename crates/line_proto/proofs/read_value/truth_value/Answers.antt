use Rattle.std.proofs.Common.{◌≡◌, ◌∙◌, false, sym, ap, List, ℕ, length, get_or}
use Rattle.std.proofs.lemmas.Bool.{eqb-true}
use Rattle.line_proto.specs.Values.{begins_truth}
use Rattle.line_proto.proofs.Words.{no_truth, empty_no_truth}
use Rattle.line_proto.proofs.read_value.truth_value.Goals as goal
use Rattle.line_proto.proofs.read_value.truth_value.Goals.{then-is_empty-via-then-is_empty}
use Rattle.line_proto.proofs.read_value.truth_value.Goals.{then-is_empty-via-else-is_empty+then-not-begins_truth}

pub returns-then-is_empty : goal.returns-then-is_empty
returns-then-is_empty c = elim c.then-is_empty.branch [
  | then-is_empty-via-then-is_empty w ↦
      let none : length c.args.text.now ≡ 0 = sym (ap length c.as_bytes-bytes.ensures.value)
      ∙ eqb-true (length c.as_bytes-bytes.result.now) 0 (sym c.is_empty.ensures ∙ w.if-is_empty.true) in
      sym (empty_no_truth c.args.text.now none)
  | then-is_empty-via-else-is_empty+then-not-begins_truth w ↦
      let is : begins_truth (get_or c.args.text.now 0 0) ≡ false =
      sym (ap (λ (l : List ℕ). begins_truth (get_or l 0 0)) c.as_bytes-bytes.ensures.value)
      ∙ (sym w.begins_truth.ensures ∙ w.if-not-begins_truth.true) in
      sym (no_truth c.args.text.now is)
]
