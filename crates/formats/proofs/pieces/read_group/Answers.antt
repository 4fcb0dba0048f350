use Rattle.std.proofs.Common.{rules, arith, ◌≡◌, ◌∙◌, refl, inl, inr}
use Rattle.formats.specs.declared.pieces.InState.TheVariants as states
use Rattle.formats.proofs.GroupLemmas.{reads_nothing, reads_next, next_pieces, group_ends, group_full, at_moment}
use Rattle.formats.proofs.GroupLemmas.{reading_on}
use Rattle.formats.proofs.pieces.read_group.Goals as goal

pub loop-piece-init : goal.loop-piece-init
loop-piece-init g c = record {
  reads = reads_nothing _ _ _ _ _ (search rules) (search rules) (search rules)
      (search rules) (search rules);
  count = search rules;
  counted = search rules;
  below = inl refl;
  faults = search rules;
  kind = refl;
}

pub returns-then-ne-clause-reads : goal.returns-then-ne-clause-reads
returns-then-ne-clause-reads g c =
    let other : c.in_ok-state.state ≡ states.Reading → ⊥ = search rules in
    at_moment _ _ _ _ _ _ _ _ c.ranges.moment (group_ends _ _ _ _ _ _ _ _ _ _ _ c.loop-piece.invariant.reads
    c.in_ok-state.ensures.next other (omega (arith, c.loop-piece.invariant.count, c.loop-piece-test.true))
    c.in_ok-state.ensures.all)

pub loop-piece-preserved : goal.loop-piece-preserved
loop-piece-preserved g c =
    let same : c.in_ok-state.state ≡ states.Reading = search rules in
    record {
      reads = reads_next _ _ _ _ _ _ _ _ _ _ _ c.loop-piece.invariant.reads c.in_ok-state.ensures.next;
      count = next_pieces _ _ _ _ _ _ _ _ _ c.in_ok-state.ensures.next same
          ∙ omega (arith, c.loop-piece.invariant.count);
      counted = search rules;
      below = inr (c.in_ok-state.ensures.known.below (reading_on c.in_ok-state.state same));
      faults = search rules;
      kind = c.read_next.ensures.kind ∙ c.loop-piece.invariant.kind;
    }

pub returns-clause-reads : goal.returns-clause-reads
returns-clause-reads g c = at_moment _ _ _ _ _ _ _ _ c.ranges.moment
    (group_full _ _ _ _ _ _ _ c.loop-piece.invariant.reads (omega (arith, c.loop-piece.invariant.count)))

pub returns-clause-below : goal.returns-clause-below
returns-clause-below g c = λ ne. elim c.loop-piece.invariant.below
    [ inl none ↦ absurd (omega (arith, none, c.loop-piece-test.false, c.requires.some)) | inr few ↦ few ]
