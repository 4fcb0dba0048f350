use Rattle.std.proofs.Common.{◌≡◌, ◌<◌, ◌∙◌, ap, sym, length, slice_set, ◌+◌, min, subst, arith, List, [], ◌∷◌}
use Rattle.std.proofs.Common.{◌++◌}
use Rattle.std.proofs.lemmas.List.{length-set}
use Rattle.pipeline_core.specs.declared.output.Offer.{Offer}
use Rattle.out_lane.specs.Lane.{LaneState, after_begin, waiting_from}
use Rattle.pipeline_core.specs.CoreState.{CoreState, GroupsAgree, IsCore, lane_at}
use Rattle.pipeline_core.specs.CoreView.{core_state}
use Rattle.account.specs.declared.entry.Entry.{Entry}
use Rattle.account.specs.declared.entry.Entry.TheVariants.{Begin}
use Rattle.pipeline_core.specs.Steps as steps
use Rattle.pipeline_core.specs.Steps.{IsBatchOf}
use Rattle.pipeline_core.specs.Stands.{HasJournal}
use Rattle.pipeline_core.proofs.JournalKept.{has_next, kept_as_before}
use Rattle.pipeline_core.proofs.StandsLanes.{begin_stands}
use Rattle.pipeline_core.proofs.InStep.{begun_is, marked_in_step, not_begun}
use Rattle.pipeline_core.proofs.Keeping.{kept_begin, kept_groups, flights-le, some_begun}
use Rattle.pipeline_core.proofs.Offering.{placed}
use Rattle.pipeline_core.proofs.state.Core.begin.Goals.{After-begin}
use Rattle.pipeline_core.proofs.state.Core.begin.Goals as goal

-- the output's lane
known : (c : After-begin) → c.args.output < length (core_state c.self.inside).setup.outputs
known c = omega (arith, ap (λ (s : CoreState). length s.setup.outputs) c.self.view_is, c.requires)

within : (c : After-begin) → c.args.output < length c.self.inside.outputs.items
within c = omega (arith, known c, c.self.invariant.core.outputs.lane_count)

first : (c : After-begin) → lane_at c.self.inside.outputs.items c.args.output ≡ c.index-chosen.result.now
first c = placed c.self.inside.outputs.items c.args.output c.index-chosen.result.now (within c) c.index-chosen.ensures

place : (c : After-begin) → lane_at c.self.inside.outputs.items c.args.output ≡ c.index_mut-chosen.result.now
place c =
    placed c.self.inside.outputs.items c.args.output c.index_mut-chosen.result.now (within c)
    c.index_mut-chosen.ensures.value

pub begin_marks-requires-clause-none : goal.begin_marks-requires-clause-none
begin_marks-requires-clause-none c b =
    let at = (goal.at.begin_marks-requires-clause-none c).After-begin in
    (marked_in_step (core_state c.self.inside) c.self.invariant.told c.args.output b).lands
    (ap (λ (x : LaneState Offer). x.flight) (first at) ∙ c.in_ok-ready.ensures.ok.0)

pub begin_marks-requires-clause-some : goal.begin_marks-requires-clause-some
begin_marks-requires-clause-some c b =
    let at = (goal.at.begin_marks-requires-clause-some c).After-begin in
    omega (
      arith,
      (marked_in_step (core_state c.self.inside) c.self.invariant.told c.args.output b).waiting,
      ap (λ (x : LaneState Offer). length x.waiting) (first at),
      c.in_ok-ready.ensures.ok.1,
    )

pub invariant_of-self-in_default-begin : goal.invariant_of-self-in_default-begin
invariant_of-self-in_default-begin c =
    let at = (goal.at.invariant_of-self-in_default-begin c).After-begin in
    let same = not_begun (core_state c.self.inside) c.args.output c.begin.new.self c.make_room.new.stored.items
    (c.in_default-begin.ensures.err ∙ sym (place at)) c.in-Ok.ensures.items in
    kept_as_before c.self.inside _ same
    (omega (
      arith,
      flights-le (slice_set c.self.inside.outputs.items c.args.output c.begin.new.self),
      length-set c.self.inside.outputs.items c.args.output c.begin.new.self,
      c.self.invariant.core.outputs.lane_count,
      c.in-Ok.ensures.room,
    ))
    c.self.invariant.places c.self.invariant

pub returns-clause-some : goal.returns-clause-some
returns-clause-some c =
    let at = (goal.at.returns-clause-some c).After-begin in
    some_begun (core_state c.self.inside) c.args.output c.in-Ok-begin.batch c.self.invariant.core (known at)
    (subst (λ (x : LaneState Offer). IsBatchOf x c.in-Ok-begin.batch) (sym (place at)) c.in-Ok-begin.ensures.batch)
    (omega (arith, ap (λ (x : LaneState Offer). length x.waiting) (first at), c.in_ok-ready.ensures.ok.1))

pub returns-clause-ok : goal.returns-clause-ok
returns-clause-ok c =
    let at = (goal.at.returns-clause-ok c).After-begin in
    begun_is (core_state c.self.inside) c.args.output c.in-Ok-begin.batch.from c.in-Ok-begin.batch.to c.begin.new.self
    c.begin_marks.new.marked.items c.push_reserved.new.self.items
    (c.in-Ok-begin.ensures.ok ∙ ap after_begin (sym (place at))) c.begin_marks.ensures
    (c.push_reserved.ensures.items
    ∙ ap (λ (xs : List Entry). xs ++ Begin c.args.output c.in-Ok-begin.batch.from c.in-Ok-begin.batch.to ∷ [])
    c.in-Ok.ensures.items)
    ∙ ap (λ (s : CoreState). steps.after_begin s c.args.output c.in-Ok-begin.batch.from c.in-Ok-begin.batch.to)
    c.self.view_is

pub returns-clause-stands : goal.returns-clause-stands
returns-clause-stands c =
    let at = (goal.at.returns-clause-stands c).After-begin in
    let view : lane_at c.args.self.now.lanes c.args.output ≡ lane_at c.self.inside.outputs.items c.args.output =
    ap (λ (s : CoreState). lane_at s.lanes c.args.output) (sym c.self.view_is) in
    begin_stands c.args.self.now _ c.args.output c.in-Ok-begin.batch.from c.in-Ok-begin.batch.to (returns-clause-ok c)
    (subst IsCore c.self.view_is c.self.invariant.core) (subst GroupsAgree c.self.view_is c.self.invariant.groups)
    c.requires (ap (λ (x : LaneState Offer). x.flight) (view ∙ first at) ∙ c.in_ok-ready.ensures.ok.0)
    (omega (arith, ap (λ (x : LaneState Offer). length x.waiting) (view ∙ first at), c.in_ok-ready.ensures.ok.1))
    (c.in-Ok-begin.ensures.batch.from ∙ ap waiting_from (sym (view ∙ place at)))
    (c.in-Ok-begin.ensures.batch.to ∙ ap (λ (x : LaneState Offer). waiting_from x + min x.batch (length x.waiting))
    (sym (view ∙ place at)))

pub invariant_of-self-3 : goal.invariant_of-self-3
invariant_of-self-3 c =
    let at = (goal.at.invariant_of-self-3 c).After-begin in
    let groups = c.self.invariant.groups in
    record {
      core = kept_groups _ c.self.inside.unrouted.groups c.self.inside.tracker c.begin_marks.new.marked.items
          (core_state c.self.inside).told
          (kept_begin (core_state c.self.inside) c.args.output c.begin.new.self _ (known at)
          (ap (λ (x : LaneState Offer). x.flight) (first at) ∙ c.in_ok-ready.ensures.ok.0)
          (c.in-Ok-begin.ensures.ok ∙ ap after_begin (sym (place at))) c.self.invariant.core);
      groups = record {
        known = groups.known;
        tracks = groups.tracks;
        limits = groups.limits;
        few = groups.few;
        told_count = groups.told_count;
      };
      told = has_next c.args.self.now _ (Begin c.args.output c.in-Ok-begin.batch.from c.in-Ok-begin.batch.to)
          (returns-clause-stands c) (subst HasJournal c.self.view_is c.self.invariant.told);
      spare = omega (
        arith,
        flights-le (slice_set c.self.inside.outputs.items c.args.output c.begin.new.self),
        length-set c.self.inside.outputs.items c.args.output c.begin.new.self,
        c.in-Ok.ensures.room,
      );
      places = c.self.invariant.places;
    }
