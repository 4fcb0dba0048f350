-- That a journal which is written out is legal: what each of its entries needs stands on the two sides of an equation
-- that computes.
use Rattle.std.proofs.Common.{◌≡◌, ◌<◌, ◌≤◌, ◌≤ℤ◌, ℕ, ℤ, ◌+◌, ◌^◌, Bool, true, false, List, [], ◌∷◌, ◌++◌, length}
use Rattle.std.proofs.Common.{refl, ap, sym, ◌∙◌, inr, arith, get_or}
use Rattle.std.proofs.lemmas.Bool.{false≢true}
use Rattle.std.proofs.lemmas.Bool.Decides.{nat_tests, when_true}
use Rattle.std.proofs.lemmas.Option.{slice_get-get_or, get_or_from_slice_get}
use Rattle.std.specs.Bool.{MatchBool}
use Rattle.std.specs.Prelude.{nat_le, nat_lt, slice_index_or, IfSome}
use Rattle.std.specs.List.{AllByRecursion}
use Rattle.std.specs.declared.option.Option.{Option}
use Rattle.std.specs.declared.option.Option.TheVariants.{Some, None}
use Rattle.metric.specs.declared.metric.Content.{Content}
use Rattle.account.specs.Setup.{Setup}
use Rattle.account.specs.Items.{items, taken, raw_items, in_hand}
use Rattle.account.specs.Origins.{is_made}
use Rattle.account.specs.Says.{GatherSays, gather_of, reports_of}
use Rattle.account.specs.Views.{HasViews}
use Rattle.account.specs.declared.entry.Entry.{Entry}
use Rattle.account.specs.declared.entry.Entry.TheVariants.{Gather, Ended, Take, Route, Tick, Stop, Begin, Done}
use Rattle.account.specs.declared.entry.Verdict.{Verdict}
use Rattle.out_lane.specs.LaneEvents.{Ranges, ranges_of, next_from, next_to, IsOpen}
use Rattle.pipeline_core.specs.Offers.{lane_events}
use Rattle.pipeline_core.specs.Groups.{live_count, next_group, reports_at}
use Rattle.pipeline_core.specs.Legal.{AreLegal, IsLegal, Meets, MeetsLine, MeetsGather, has_stop, has_ended}
use Rattle.pipeline_core.specs.Legal.{gathered_count, counted_from}
use Rattle.pipeline_core.specs.Windows.{judged, made_by_tick, made_by_stop}
use Rattle.pipeline_core.proofs.JournalPush.{IsLegal-push}

pub none_legal : (setup : Setup) → IsLegal setup []
unfolding AreLegal
none_legal _ = tt

below_is : (a b : ℕ) → nat_lt a b ≡ true → a < b
below_is a b h = grind (arith, nat_tests)

at_most_is : (a b : ℕ) → nat_le a b ≡ true → a ≤ b
at_most_is a b h = grind (arith, nat_tests)

-- one group more of an input may be live
abbrev pub has_place : Option ℕ → ℕ → Bool
has_place None live = true
has_place (Some most) live = nat_lt live most

place_is : (most : Option ℕ) (live : ℕ) → has_place most live ≡ true → IfSome most (λ (m : ℕ). live < m)
place_is None live h = tt
place_is (Some most) live h = below_is live most h

place_so : (most : Option ℕ) (live : ℕ) → IfSome most (λ (m : ℕ). live < m) → has_place most live ≡ true
place_so None live h = refl
place_so (Some most) live h = grind (arith, nat_tests)

-- how many groups of an input may be live, where it is tracked
abbrev pub most_at : Setup → ℕ → Option ℕ
most_at setup input = slice_index_or setup.inputs input None

-- of a Gather: whether the input is known, the run is stopped and the input has ended; whether so many metrics more may
-- be gathered and may be raw, and one group more may be live; and the next group
abbrev pub GatherFacts : Type 0
GatherFacts = Bool × Bool × Bool × Bool × Bool × Bool × Option ℕ

abbrev pub gather_facts : Setup → List Entry → GatherSays → GatherFacts
gather_facts setup before says = (
  nat_lt says.input (length setup.inputs),
  has_stop before,
  has_ended says.input before,
  nat_lt (gathered_count before + length says.metrics) (2 ^ 32),
  nat_le (length (raw_items before) + length says.metrics) 10000,
  has_place (most_at setup says.input) (live_count setup before says.input),
  next_group (most_at setup says.input) before,
)

abbrev pub GatherComputes : Setup → List Entry → Option GatherSays → Type 0
GatherComputes setup before None = ⊥
GatherComputes setup before (Some says) =
    gather_facts setup before says ≡ (true, false, false, true, true, true, says.group)

-- of an Ended: whether the input is known, the run is stopped and the input has ended
abbrev pub ended_facts : Setup → List Entry → ℕ → Bool × Bool × Bool
ended_facts setup before input = (nat_lt input (length setup.inputs), has_stop before, has_ended input before)

-- of a Take: the item in hand, the next one, and whether there is one
abbrev pub take_facts : List Entry → ℕ → Option ℕ × ℕ × Bool
take_facts before item = (in_hand before, taken before, nat_lt item (length (items before)))

-- of a Route: the item in hand, how many views there are, and the verdict of the windows
abbrev pub route_facts : Setup → List Entry → Option Content → List (Option Content) → List (Option Content) →
    Option ℕ × ℕ × ℕ × Verdict
route_facts setup before whole aggs outs = (in_hand before, length aggs, length outs, judged setup before whole aggs)

abbrev pub RouteComputes : Setup → List Entry → ℕ → Option Content → Verdict → List (Option Content) →
    List (Option Content) → Type 0
RouteComputes setup before item whole verdict aggs outs =
    (route_facts setup before whole aggs outs ≡ (Some item, length setup.aggs, length setup.outputs, verdict))
    × HasViews whole (aggs ++ outs)
    × MatchBool (is_made before item) (AllByRecursion (λ (view : Option Content). view ≡ None) aggs) (Unit {0})

-- of a Tick and a Stop: the run isn't stopped, the windows make what is named, and time doesn't go back
abbrev pub MomentComputes : Setup → List Entry → ℤ → List Content → List Content → Type 0
MomentComputes setup before moment made all =
    (has_stop before ≡ false) × (made ≡ all) × (counted_from setup.start before ≤ℤ moment)

-- of a Begin: whether the output is known, the range in flight, the next range's ends, and whether it has a position
abbrev pub begin_facts : List (ℕ × ℕ) → ℕ → ℕ → Ranges → Bool × Option (ℕ × ℕ) × ℕ × ℕ × Bool
begin_facts outputs output from ranges = (
  nat_lt output (length outputs),
  ranges.begun,
  next_from (get_or outputs output (0, 0)).1 ranges,
  next_to (get_or outputs output (0, 0)).0 (get_or outputs output (0, 0)).1 ranges,
  nat_lt from ranges.pushed,
)

-- what an entry needs but for its reports
abbrev pub LineComputes : Setup → List Entry → Entry → Type 0
LineComputes setup before (Ended input) = ended_facts setup before input ≡ (true, false, false)
LineComputes setup before (Take item) = take_facts before item ≡ (None, item, true)
LineComputes setup before (Route item whole verdict aggs outs reports) =
    RouteComputes setup before item whole verdict aggs outs
LineComputes setup before (Tick moment made) =
    MomentComputes setup before moment made (made_by_tick setup before moment)
LineComputes setup before (Stop moment made) =
    MomentComputes setup before moment made (made_by_stop setup before moment)
LineComputes setup before (Begin output from to) =
    begin_facts setup.outputs output from (ranges_of (lane_events output before)) ≡ (true, None, from, to, true)
LineComputes setup before (Done output ok reports) =
    (nat_lt output (length setup.outputs) ≡ true) × IsOpen (ranges_of (lane_events output before)).begun
LineComputes setup before e = GatherComputes setup before (gather_of e)

-- so an entry may come
gathers : (setup : Setup) (before : List Entry) (says : GatherSays) → GatherComputes setup before (Some says) →
    MeetsGather setup before says
gathers setup before says h = record {
  most = most_at setup says.input;
  known = slice_get-get_or setup.inputs says.input None (below_is _ _ (ap (λ (f : GatherFacts). f.0) h));
  going = ap (λ (f : GatherFacts). f.1) h;
  reading = ap (λ (f : GatherFacts). f.2) h;
  fits = below_is _ _ (ap (λ (f : GatherFacts). f.3) h);
  room = inr (at_most_is _ _ (ap (λ (f : GatherFacts). f.4) h));
  few = place_is _ _ (ap (λ (f : GatherFacts). f.5) h);
  group = sym (ap (λ (f : GatherFacts). f.6) h);
}

line_meets : (setup : Setup) (before : List Entry) (e : Entry) → LineComputes setup before e → MeetsLine setup before e
line_meets setup before (Gather input moment pieces refused passed filtered metrics group reports) h =
    gathers setup before _ h
line_meets setup before (Ended input) h = record {
  known = below_is _ _ (ap (λ (f : Bool × Bool × Bool). f.0) h);
  going = ap (λ (f : Bool × Bool × Bool). f.1) h;
  reading = ap (λ (f : Bool × Bool × Bool). f.2) h;
}
line_meets setup before (Take item) h = record {
  empty_handed = ap (λ (f : Option ℕ × ℕ × Bool). f.0) h;
  first = sym (ap (λ (f : Option ℕ × ℕ × Bool). f.1) h);
  raw = below_is _ _ (ap (λ (f : Option ℕ × ℕ × Bool). f.2) h);
}
line_meets setup before (Route item whole verdict aggs outs reports) h = record {
  held = ap (λ (f : Option ℕ × ℕ × ℕ × Verdict). f.0) h.0;
  aggregators = ap (λ (f : Option ℕ × ℕ × ℕ × Verdict). f.1) h.0;
  outputs = ap (λ (f : Option ℕ × ℕ × ℕ × Verdict). f.2) h.0;
  views = h.1;
  made = λ made. when_true _ _ made h.2;
  verdict_is = sym (ap (λ (f : Option ℕ × ℕ × ℕ × Verdict). f.3) h.0);
}
line_meets setup before (Tick moment made) h = record { going = h.0; all_made = h.1; later = h.2 }
line_meets setup before (Stop moment made) h = record { going = h.0; all_made = h.1; later = h.2 }
line_meets setup before (Begin output from to) h = record {
  batch = (get_or setup.outputs output (0, 0)).0;
  limit = (get_or setup.outputs output (0, 0)).1;
  known = slice_get-get_or setup.outputs output (0, 0)
      (below_is _ _ (ap (λ (f : Bool × Option (ℕ × ℕ) × ℕ × ℕ × Bool). f.0) h));
  next = record {
    closed = ap (λ (f : Bool × Option (ℕ × ℕ) × ℕ × ℕ × Bool). f.1) h;
    first = sym (ap (λ (f : Bool × Option (ℕ × ℕ) × ℕ × ℕ × Bool). f.2) h);
    end = sym (ap (λ (f : Bool × Option (ℕ × ℕ) × ℕ × ℕ × Bool). f.3) h);
    some = below_is _ _ (ap (λ (f : Bool × Option (ℕ × ℕ) × ℕ × ℕ × Bool). f.4) h);
  };
}
line_meets setup before (Done output ok reports) h = record { known = below_is _ _ h.0; begun = h.1 }

-- and it may with the reports that the definition gives it
pub meets : (setup : Setup) (before : List Entry) (e : Entry) → LineComputes setup before e →
    reports_of e ≡ reports_at setup before e → Meets setup before e
meets setup before e line reports = record { line = line_meets setup before e line; reports = reports }

-- then a legal journal with it is legal
pub next : (setup : Setup) (before : List Entry) → IsLegal setup before → (e : Entry) → LineComputes setup before e →
    reports_of e ≡ reports_at setup before e → IsLegal setup (before ++ e ∷ [])
next setup before legal e line reports = IsLegal-push setup before e legal (meets setup before e line reports)

-- pieces of an input of which as many groups are live as may be are held
pub held : (setup : Setup) (before : List Entry) (says : GatherSays) →
    has_place (most_at setup says.input) (live_count setup before says.input) ≡ false → ¬ MeetsGather setup before says
held setup before says full h =
    let most : most_at setup says.input ≡ h.most =
    get_or_from_slice_get setup.inputs says.input h.most None h.known in
    false≢true (sym full ∙ ap (λ (m : Option ℕ). has_place m (live_count setup before says.input)) most
    ∙ place_so h.most (live_count setup before says.input) h.few)
