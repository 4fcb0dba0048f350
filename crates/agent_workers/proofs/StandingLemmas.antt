-- Cores that stand for a journal, and the entries that they keep.
use Rattle.std.proofs.Common.{◌≡◌, ◌≤◌, ◌<◌, ℕ, zero, suc, Bool, true, false, List, [], ◌∷◌, ◌++◌, length, take, set}
use Rattle.std.proofs.Common.{refl, sym, ap, ◌∙◌, arith, subst}
use Rattle.std.specs.Prelude.{All, ◌↔◌, not, slice_set}
use Rattle.std.specs.List.{AllByRecursion}
use Rattle.std.specs.declared.option.Option.{Option}
use Rattle.std.specs.declared.option.Option.TheVariants.{Some, None}
use Rattle.std.proofs.lemmas.List.{length-drop, length-take, get_or-set_same}
use Rattle.metric.specs.declared.metric.Content.{Content}
use Rattle.account.specs.Setup.{Setup}
use Rattle.account.specs.Views.{HasViews}
use Rattle.account.specs.declared.entry.Entry.{Entry}
use Rattle.account.specs.declared.entry.Entry.TheVariants.{Gather, Ended, Take, Route, Tick, Stop, Begin, Done}
use Rattle.account.specs.declared.entry.Verdict.{Verdict}
use Rattle.account.specs.declared.entry.Verdict.TheVariants as verdicts
use Rattle.out_lane.specs.Lane.{LaneState, empty_lane}
use Rattle.out_lane.specs.Lane as lane
use Rattle.agent_workers.proofs.OutLemmas.{lanes_done}
use Rattle.pipeline_core.specs.CoreState.{CoreState, lane_at}
use Rattle.pipeline_core.specs.Steps.{after_begin, after_done, lane_done}
use Rattle.pipeline_core.specs.Legal.{AreLegal, Meets}
use Rattle.pipeline_core.specs.Windows.{judged}
use Rattle.pipeline_core.specs.declared.output.Offer.{Offer}
use Rattle.pipeline_core.proofs.ShapeLemmas.{removed-has-no-whole}
use Rattle.pipeline_core.specs.Stands.{HasJournal, Stands}
use Rattle.journal_text.specs.JournalText.{IsWholeOrRemoved}
use Rattle.agent_workers.specs.Running.{waiting_at}

pub has : {core : CoreState} {journal : List Entry} → Stands core journal → HasJournal core
has {core} {journal} s = record { journal = journal; stands = s }

-- one entry more
pub continues : {old new : CoreState} {e : Entry} → ((journal : List Entry) → Stands old journal
    → Stands new (journal ++ e ∷ [])) → HasJournal old → HasJournal new
continues {old} {new} {e} more h = record { journal = h.journal ++ e ∷ []; stands = more h.journal h.stands }

-- a verdict that is judged is Removed exactly where there is no whole
whole_or_none : (setup : Setup) (before : List Entry) (whole : Option Content) (aggs : List (Option Content))
    (verdict : Verdict) → verdict ≡ judged setup before whole aggs → (verdict ≡ verdicts.Removed) ↔ (whole ≡ None)
whole_or_none setup before whole aggs verdict e = subst (λ (v : Verdict). (v ≡ verdicts.Removed) ↔ (whole ≡ None))
    (sym e) (removed-has-no-whole setup before whole aggs)

none_split : (aggs outs : List (Option Content)) → AllByRecursion (λ (view : Option Content). view ≡ None)
    (aggs ++ outs) → AllByRecursion (λ (view : Option Content). view ≡ None) aggs
    × AllByRecursion (λ (view : Option Content). view ≡ None) outs
none_split [] outs h = (tt, h)
none_split (x ∷ aggs) outs h = ((h.0, (none_split aggs outs h.1).0), (none_split aggs outs h.1).1)

views_split : (whole : Option Content) (aggs outs : List (Option Content)) → HasViews whole (aggs ++ outs)
    → HasViews whole aggs × HasViews whole outs
views_split None aggs outs h = none_split aggs outs h
views_split (Some whole) aggs outs h = (tt, tt)

meets_whole : (setup : Setup) (before : List Entry) (e : Entry) → Meets setup before e → IsWholeOrRemoved e
meets_whole setup before (Gather input moment pieces refused passed filtered metrics group reports) h = tt
meets_whole setup before (Ended input) h = tt
meets_whole setup before (Take item) h = tt
meets_whole setup before (Route item whole verdict aggs outs reports) h = (
  whole_or_none setup before whole aggs verdict h.line.verdict_is,
  (views_split whole aggs outs h.line.views).0,
  (views_split whole aggs outs h.line.views).1,
)
meets_whole setup before (Tick moment made) h = tt
meets_whole setup before (Stop moment made) h = tt
meets_whole setup before (Begin output from to) h = tt
meets_whole setup before (Done output ok reports) h = tt

legal_whole : (setup : Setup) (before es : List Entry) → AreLegal setup before es → AllByRecursion IsWholeOrRemoved es
unfolding AreLegal
legal_whole setup before [] h = tt
legal_whole setup before (e ∷ es) h = (meets_whole setup before e h.0, legal_whole setup (before ++ e ∷ []) es h.1)

all_behind : (P : Entry → Type 0) (front es : List Entry) → AllByRecursion P (front ++ es) → AllByRecursion P es
all_behind P [] es h = h
all_behind P (e ∷ front) es h = all_behind P front es h.1

-- the entries that a core stores can be spelled
pub stored_whole : (core : CoreState) → HasJournal core → AllByRecursion IsWholeOrRemoved core.stored
stored_whole core h =
    all_behind IsWholeOrRemoved h.stands.front core.stored (subst (AllByRecursion IsWholeOrRemoved) h.stands.stored
    (legal_whole core.setup [] h.journal h.stands.legal))

-- a batch has an item, where one waits
pub takes_some : {X : Type 0} (batch : ℕ) (xs : List X) → 1 ≤ batch → (length xs ≡ 0 → ⊥) → 0 < length (take batch xs)
takes_some batch [] some ne = absurd (ne refl)
takes_some batch (x ∷ xs) some ne = omega (arith, length-take batch (x ∷ xs))

all_at : (P : Entry → Type 0) (es : List Entry) → AllByRecursion P es → All P es
all_at P [] h zero d lt = absurd (omega arith)
all_at P [] h (suc k) d lt = absurd (omega arith)
all_at P (e ∷ es) h zero d lt = h.0
all_at P (e ∷ es) h (suc k) d lt = all_at P es h.1 k d (omega arith)

-- the entries that a cut gives can be spelled
pub cut_whole : (core : CoreState) (es : List Entry) → es ≡ core.stored → HasJournal core → All IsWholeOrRemoved es
cut_whole core es same h = all_at IsWholeOrRemoved es (rw same (stored_whole core h))

some_wait : (xs : List Offer) → (length xs ≡ 0 → ⊥) → 0 < length xs
some_wait [] ne = absurd (ne refl)
some_wait (x ∷ xs) ne = omega arith

-- a batch that was begun and accepted: fewer items wait
pub fewer_wait : (lanes : List (LaneState Offer)) (o : ℕ) → o < length lanes → 1 ≤ (lane_at lanes o).batch
    → (length (lane_at lanes o).waiting ≡ 0 → ⊥) →
    (let begun : List (LaneState Offer) = slice_set lanes o (lane.after_begin (lane_at lanes o)) in
    length (lane_at (slice_set begun o (lane_done true (lane_at begun o))) o).waiting < length
    (lane_at lanes o).waiting)
fewer_wait lanes o b some ne =
    let x : LaneState Offer = lane_at lanes o in
    let is : lane_at (set (set lanes o (lane.after_begin x)) o
    (lane_done true (lane_at (set lanes o (lane.after_begin x)) o))) o ≡ lane_done true (lane.after_begin x) =
    ap (λ (xs : List (LaneState Offer)). lane_at xs o) (lanes_done lanes o true b)
    ∙ get_or-set_same lanes o (lane_done true (lane.after_begin x)) (empty_lane 0 0) b in
    let fewer : length (lane_done true (lane.after_begin x)).waiting < length x.waiting =
    omega (arith, length-drop x.batch x.waiting, some, some_wait x.waiting ne) in
    subst (λ (y : LaneState Offer). length y.waiting < length x.waiting) (sym is) fewer

-- the same of the cores
pub fewer_sent : (core mid next : CoreState) (o from to : ℕ) (failed : Bool) → o < length core.lanes
    → 1 ≤ (lane_at core.lanes o).batch → (waiting_at core o ≡ 0 → ⊥) → mid ≡ after_begin core o from to
    → next ≡ after_done mid o (not failed) → failed ≡ false → waiting_at next o < waiting_at core o
fewer_sent core mid next o from to failed b some ne began done accepted =
    let lanes_are =
    ap (λ (s : CoreState). s.lanes) done
    ∙ ap (λ (f : Bool). slice_set mid.lanes o (lane_done (not f) (lane_at mid.lanes o))) accepted
    ∙ ap (λ (s : CoreState). slice_set s.lanes o (lane_done true (lane_at s.lanes o))) began in
    subst (λ (xs : List (LaneState Offer)). length (lane_at xs o).waiting < waiting_at core o) (sym lanes_are)
    (fewer_wait core.lanes o b some ne)
