-- How many of the routed metrics have each fate.
use Rattle.std.proofs.Common.{◌≡◌, ℕ, ◌+◌, cond, if◌then◌else◌, Bool, true, false, List, [], ◌∷◌, ◌++◌}
use Rattle.std.proofs.Common.{length, map, refl, ap, ◌∙◌, arith, length-append}
use Rattle.std.specs.List.{count_by}
use Rattle.std.proofs.lemmas.List.{length-map}
use Rattle.std.proofs.lemmas.List.Sums.{sum_by-cons}
use Rattle.std.specs.declared.option.Option.{Option}
use Rattle.std.specs.declared.option.Option.TheVariants.{Some, None}
use Rattle.metric.specs.declared.metric.Content.{Content}
use Rattle.account.specs.declared.entry.Entry.{Entry}
use Rattle.account.specs.declared.entry.Entry.TheVariants.{Gather, Ended, Take, Route, Tick, Stop, Begin}
use Rattle.account.specs.declared.entry.Entry.TheVariants.{Done}
use Rattle.account.specs.declared.entry.Verdict.{Verdict}
use Rattle.account.specs.declared.entry.Verdict.TheVariants as verdicts
use Rattle.out_lane.specs.LaneEvents.{LaneEvent, fate_at}
use Rattle.out_lane.specs.LaneCounts.{ones, positions_counted, fates_counted}
use Rattle.out_lane.proofs.CountLemmas.{positions_counted-add}
use Rattle.pipeline_core.specs.Offers.{offers, lane_events, offer_of, offered, offered_by, view_at}
use Rattle.pipeline_core.specs.Fates.{Fate, ItemFate, fate_of, fate_of_view, fates_by_verdict, fates_by}
use Rattle.pipeline_core.specs.Fates.{fates_from, item_fates, fates, is_filtered, is_late, is_consumed}
use Rattle.pipeline_core.specs.Fates.{is_written, is_buffered, is_dropped}
use Rattle.pipeline_core.specs.Fates as fate
use Rattle.pipeline_core.specs.Sums.{FatesAddUp}
use Rattle.pipeline_core.specs.Totals.{total_by, is_removed, routed_by}

count_by-more : (t : Fate → Bool) (x : Fate) (xs : List Fate) →
    count_by t (x ∷ xs) ≡ cond (t x) 1 0 + count_by t xs
count_by-more t x xs = sum_by-cons (λ (y : Fate). cond (t y) 1 0) x xs

one : (b : Bool) → cond b 1 0 ≡ ones b
one true = refl
one false = refl

-- whether a metric that came to no output's lane passes a test of fates
abbrev pub kept_out_by : (Fate → Bool) → Verdict → Option Content → ℕ
kept_out_by t verdicts.Passes None = ones (t fate.Filtered)
kept_out_by t verdicts.Passes (Some view) = 0
kept_out_by t verdicts.Consumed view = ones (t fate.Consumed)
kept_out_by t verdicts.Late view = ones (t fate.Late)
kept_out_by t verdicts.Removed view = 0

abbrev pub kept_out : (Fate → Bool) → ℕ → Entry → ℕ
kept_out t o (Route item whole verdict aggs outs reports) = kept_out_by t verdict (view_at o outs)
kept_out t o _ = 0

-- whether the fate of a position passes a test
abbrev pub test_at : (Fate → Bool) → ℕ → List LaneEvent → ℕ → Bool
test_at t limit events p = t (fate_of (fate_at limit events p))

by_view : (t : Fate → Bool) (limit : ℕ) (events : List LaneEvent) (position item : ℕ) (view : Option Content) →
    count_by t (fate_of_view limit events position view ∷ []) ≡ kept_out_by t verdicts.Passes view + positions_counted
    (test_at t limit events) position (length (offer_of item view))
by_view t limit events position item None = omega (arith, one (t fate.Filtered))
by_view t limit events position item (Some view) = omega (arith, one (t (fate_of (fate_at limit events position))))

-- the fates of items
abbrev fates_in : List ItemFate → List Fate
fates_in xs = map (λ (x : ItemFate). x.fate) xs

-- an item's fates, where these are they
abbrev of_item : ℕ → List Fate → List ItemFate
of_item item all = map (λ (fate : Fate). record { item = item; fate = fate }) all

by_verdict : (t : Fate → Bool) (limit : ℕ) (events : List LaneEvent) (position item : ℕ) (verdict : Verdict)
    (view : Option Content) → count_by t (fates_in (of_item item (fates_by_verdict limit events position verdict view)))
    ≡ kept_out_by t verdict view + positions_counted (test_at t limit events) position
    (length (offered item verdict view))
by_verdict t limit events position item verdicts.Passes view = by_view t limit events position item view
by_verdict t limit events position item verdicts.Consumed view = omega (arith, one (t fate.Consumed))
by_verdict t limit events position item verdicts.Late view = omega (arith, one (t fate.Late))
by_verdict t limit events position item verdicts.Removed view = omega arith

by_entry : (t : Fate → Bool) (limit o : ℕ) (events : List LaneEvent) (position : ℕ) (e : Entry) →
    count_by t (fates_in (fates_by limit o events position e)) ≡ kept_out t o e + positions_counted
    (test_at t limit events) position (length (offered_by o e))
by_entry t limit o events position (Gather input moment pieces refused passed filtered metrics group reports) =
    omega arith
by_entry t limit o events position (Ended input) = omega arith
by_entry t limit o events position (Take item) = omega arith
by_entry t limit o events position (Route item whole verdict aggs outs reports) =
    by_verdict t limit events position item verdict (view_at o outs)
by_entry t limit o events position (Tick moment made) = omega arith
by_entry t limit o events position (Stop moment made) = omega arith
by_entry t limit o events position (Begin number from to) = omega arith
by_entry t limit o events position (Done number ok reports) = omega arith

count_by-in : (t : Fate → Bool) (xs ys : List ItemFate) →
    count_by t (fates_in (xs ++ ys)) ≡ count_by t (fates_in xs) + count_by t (fates_in ys)
count_by-in t [] ys = omega arith
count_by-in t (x ∷ xs) ys =
    omega (
      arith,
      count_by-in t xs ys,
      count_by-more t x.fate (fates_in (xs ++ ys)),
      count_by-more t x.fate (fates_in xs),
    )

-- of the fates, those of metrics that came to no lane, and those of positions
fates_from-counted : (t : Fate → Bool) (limit o : ℕ) (events : List LaneEvent) (position : ℕ) (es : List Entry) →
    count_by t (fates_in (fates_from limit o events position es)) ≡ total_by (kept_out t o) es + positions_counted
    (test_at t limit events) position (length (offers o es))
unfolding fates_from total_by offers
fates_from-counted t limit o events position [] = omega arith
fates_from-counted t limit o events position (e ∷ es) =
    let n : ℕ = length (offered_by o e) in
    let m : ℕ = length (offers o es) in
    let all : length (offered_by o e ++ offers o es) ≡ n + m = length-append (offered_by o e) (offers o es) in
    let both : positions_counted (test_at t limit events) position (length (offered_by o e ++ offers o es))
    ≡ positions_counted (test_at t limit events) position n + positions_counted (test_at t limit events)
    (position + n) m =
    ap (positions_counted (test_at t limit events) position) all
    ∙ positions_counted-add (test_at t limit events) position n m in
    let front : count_by t (fates_in (fates_by limit o events position e)) ≡ kept_out t o e + positions_counted
    (test_at t limit events) position n = by_entry t limit o events position e in
    let back : count_by t (fates_in (fates_from limit o events (position + n) es)) ≡ total_by
    (kept_out t o) es + positions_counted (test_at t limit events) (position + n) m =
    fates_from-counted t limit o events (position + n) es in
    omega (arith, count_by-in t (fates_by limit o events position e) (fates_from limit o events (position + n) es))

-- how many of the routed metrics have a fate that passes a test
pub fates-counted : (t : Fate → Bool) (limit o : ℕ) (es : List Entry) →
    count_by t (fates limit o es) ≡ total_by (kept_out t o) es + fates_counted (λ f. t (fate_of f)) limit
    (lane_events o es) (length (offers o es))
fates-counted t limit o es = fates_from-counted t limit o (lane_events o es) 0 es

pub total_by-push : (count : Entry → ℕ) (es : List Entry) (e : Entry) →
    total_by count (es ++ e ∷ []) ≡ total_by count es + count e
unfolding total_by
total_by-push count [] e = omega arith
total_by-push count (x ∷ es) e = omega (arith, total_by-push count es e)

-- each fate is exactly one of the six
six : (f : Fate) →
    cond (is_filtered f) 1 0 + cond (is_late f) 1 0 + cond (is_consumed f) 1 0 + cond (is_written f) 1 0 + cond
    (is_buffered f) 1 0 + cond (is_dropped f) 1 0 ≡ 1
six fate.Filtered = refl
six fate.Late = refl
six fate.Consumed = refl
six fate.Written = refl
six fate.Buffered = refl
six fate.Dropped = refl

all_six : (xs : List Fate) →
    count_by is_filtered xs + count_by is_late xs + count_by is_consumed xs + count_by is_written xs + count_by
    is_buffered xs + count_by is_dropped xs ≡ length xs
all_six [] = refl
all_six (x ∷ xs) =
    omega (
      arith,
      all_six xs,
      six x,
      count_by-more is_filtered x xs,
      count_by-more is_late x xs,
      count_by-more is_consumed x xs,
      count_by-more is_written x xs,
      count_by-more is_buffered x xs,
      count_by-more is_dropped x xs,
    )

by_verdict-length : (limit : ℕ) (events : List LaneEvent) (position item : ℕ) (verdict : Verdict)
    (view : Option Content) → length (of_item item (fates_by_verdict limit events position verdict view))
    ≡ (if is_removed verdict then 0 else 1)
by_verdict-length limit events position item verdicts.Passes view = refl
by_verdict-length limit events position item verdicts.Consumed view = refl
by_verdict-length limit events position item verdicts.Late view = refl
by_verdict-length limit events position item verdicts.Removed view = refl

by_entry-length : (limit o : ℕ) (events : List LaneEvent) (position : ℕ) (e : Entry) →
    length (fates_by limit o events position e) ≡ routed_by e
by_entry-length limit o events position (Gather input moment pieces refused passed filtered metrics group reports) =
    refl
by_entry-length limit o events position (Ended input) = refl
by_entry-length limit o events position (Take item) = refl
by_entry-length limit o events position (Route item whole verdict aggs outs reports) =
    by_verdict-length limit events position item verdict (view_at o outs)
by_entry-length limit o events position (Tick moment made) = refl
by_entry-length limit o events position (Stop moment made) = refl
by_entry-length limit o events position (Begin number from to) = refl
by_entry-length limit o events position (Done number ok reports) = refl

fates_from-length : (limit o : ℕ) (events : List LaneEvent) (position : ℕ) (es : List Entry) →
    length (fates_from limit o events position es) ≡ total_by routed_by es
unfolding fates_from total_by
fates_from-length limit o events position [] = refl
fates_from-length limit o events position (e ∷ es) =
    let n : ℕ = length (offered_by o e) in
    omega (
      arith,
      length-append (fates_by limit o events position e) (fates_from limit o events (position + n) es),
      by_entry-length limit o events position e,
      fates_from-length limit o events (position + n) es,
    )

-- the six fates add up to the routed metrics
pub fates_add_up : FatesAddUp
fates_add_up limit output journal =
    all_six (fates limit output journal)
    ∙ length-map (item_fates limit output journal) (λ (x : ItemFate). x.fate)
    ∙ fates_from-length limit output (lane_events output journal) 0 journal
