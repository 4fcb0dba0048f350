use Rattle.std.proofs.Common.{◌≡◌, ◌≤◌, ◌<◌, ◌+◌, ◌^◌, length}
use Rattle.std.specs.Prelude.{◌⊎◌}
use Rattle.agent_base.specs.Told.{Told}
use Rattle.formats.specs.Groups.{Reads}
use Rattle.formats.specs.Reader.{rule_view}
use Rattle.formats.proofs.pieces.read_group.Given as goal

abbrev pub invariant-loop-piece : goal.invariant-loop-piece
invariant-loop-piece g l = record {
  reads : Reads (rule_view l.rule) l.fn.moment l.group l.fn.pieces l.pieces (g.S.Source.told l.fn.source).bytes
      (g.S.Source.told l.source).bytes;
  count : l.group.pieces ≡ l._piece;
  counted : Told (g.S.Source.told l.fn.source).bytes (g.S.Source.told l.source).bytes
      (λ xs ys. l.fn.pieces.taken + length xs ≡ l.pieces.taken + length ys);
  below : (l._piece ≡ 0) ⊎ (l.pieces.taken < 2 ^ 40);
  faults : (g.S.Source.told l.fn.source).faults ≤ (g.S.Source.told l.source).faults;
  kind : l.pieces.kind ≡ l.fn.pieces.kind;
}
