-- What the marks at an output and the items of a group are with one entry more.
use Rattle.std.proofs.Common.{◌≡◌, ◌<◌, ◌≤◌, ℕ, ◌+◌, ◌&&◌, cond, Bool, false, List, [], ◌∷◌, ◌++◌, length, map}
use Rattle.std.proofs.Common.{refl, ap, sym, ◌∙◌, arith, subst, append-nil, get_or, length-append}
use Rattle.std.specs.List.{count_by, AllByRecursion}
use Rattle.std.proofs.lemmas.List.{get_or_append_left, map-append}
use Rattle.std.specs.declared.option.Option.{Option}
use Rattle.std.specs.declared.option.Option.TheVariants.{Some, None}
use Rattle.metric.specs.declared.metric.Content.{Content}
use Rattle.account.specs.Setup.{Setup}
use Rattle.account.specs.Items.{in_hand, items, named_by, routes, routes_by, taken}
use Rattle.account.specs.Origins.{made, origins, origins_by, origin_at, is_of_group, is_number, Origin}
use Rattle.account.specs.Routes.{IsNextRoute, RoutesInOrder}
use Rattle.account.proofs.OriginLemmas.{origins-match, origins-push}
use Rattle.account.specs.declared.entry.Entry.{Entry}
use Rattle.account.specs.declared.entry.Entry.TheVariants.{Gather, Ended, Take, Route, Tick, Stop, Begin}
use Rattle.account.specs.declared.entry.Entry.TheVariants.{Done}
use Rattle.account.specs.declared.entry.Report.{Report}
use Rattle.account.specs.declared.entry.Verdict.{Verdict}
use Rattle.account.specs.declared.entry.Verdict.TheVariants as verdicts
use Rattle.out_lane.specs.LaneCounts.{ones}
use Rattle.out_lane.specs.Lane.{LaneState}
use Rattle.out_lane.specs.LaneEvents.{LaneEvent, LaneFate, fate_at}
use Rattle.out_lane.specs.LaneEvents as lane
use Rattle.out_lane.specs.LaneLaws.{Becomes, IsLaneOf, KeepsFates}
use Rattle.pipeline_core.specs.declared.output.Offer.{Offer}
use Rattle.pipeline_core.specs.Offers.{offers, lane_events, lane_events_by, offered, offered_by, view_at}
use Rattle.pipeline_core.specs.Fates.{Fate, ItemFate, fates_by_verdict, fates_by, fates_from, item_fates}
use Rattle.pipeline_core.specs.Fates.{is_buffered, is_dropped}
use Rattle.pipeline_core.specs.Fates as fate
use Rattle.pipeline_core.specs.Groups.{is_of_fate}
use Rattle.pipeline_core.specs.Legal.{IsLegal, MeetsLine}
use Rattle.pipeline_core.specs.Totals.{total_by}
use Rattle.pipeline_core.specs.Tracked.{mark_of, marks}
use Rattle.pipeline_core.proofs.CopyCounts.{count-cons, is_offer_of, item_fates-marked, kept_of, marked, weighed}
use Rattle.pipeline_core.proofs.CopyCounts.{becomes_weighed, keeps_weighed, none_or, weighed-append, weighed-map}
use Rattle.pipeline_core.proofs.FateCounts.{kept_out_by, test_at, total_by-push}
use Rattle.pipeline_core.proofs.JournalPush.{few_taken, offers-push, lane_events-push}
use Rattle.pipeline_core.proofs.TotalPush.{tested}
use Rattle.pipeline_core.proofs.RouteLemmas.{hand_fits, HandFits, legal_in_order}

-- the items that entries route are below a number
abbrev pub IsBelow : ℕ → Entry → Type 0
IsBelow n (Route item whole verdict aggs outs reports) = item < n
IsBelow n _ = Unit {0}

abbrev pub AreBelow : ℕ → List Entry → Type 0
AreBelow n [] = Unit {0}
AreBelow n (e ∷ es) = IsBelow n e × AreBelow n es

one_below : (n routed known : ℕ) (e : Entry) → IsNextRoute routed known e → known ≤ n → IsBelow n e
one_below n routed known (Gather input moment pieces refused passed filtered metrics group reports) h l = tt
one_below n routed known (Ended input) h l = tt
one_below n routed known (Take item) h l = tt
one_below n routed known (Route item whole verdict aggs outs reports) h l = omega (arith, h.0, h.1)
one_below n routed known (Tick moment all) h l = tt
one_below n routed known (Stop moment all) h l = tt
one_below n routed known (Begin output from to) h l = tt
one_below n routed known (Done output ok reports) h l = tt

all_below : (n routed known : ℕ) (es : List Entry) → RoutesInOrder routed known es → known + length (items es) ≤ n
    → AreBelow n es
unfolding RoutesInOrder items
all_below n routed known [] h l = tt
all_below n routed known (e ∷ es) h l =
    let k : known + length (named_by e) + length (items es) ≤ n =
    omega (arith, length-append (named_by e) (items es)) in (
      one_below n routed known e h.0 (omega arith),
      all_below n (routed + routes_by e) (known + length (named_by e)) es h.1 k,
    )

-- the items that a legal journal routes have an origin
pub routes_below : (setup : Setup) (es : List Entry) → IsLegal setup es → AreBelow (length (origins es)) es
routes_below setup es h =
    all_below (length (origins es)) 0 0 es (legal_in_order setup es h) (omega (arith, origins-match es))

pub all_append : {X : Type 0} (P : X → Type 0) (xs ys : List X) → AllByRecursion P xs → AllByRecursion P ys
    → AllByRecursion P (xs ++ ys)
all_append P [] ys h k = k
all_append P (x ∷ xs) ys h k = (h.0, all_append P xs ys h.1 k)

-- ---- items of fates and of offers

abbrev pub IsFateBelow : ℕ → ItemFate → Type 0
IsFateBelow n x = x.item < n

abbrev pub IsOfferBelow : ℕ → Offer → Type 0
IsOfferBelow n x = x.item < n

fates_all : (n item : ℕ) (all : List Fate) → item < n
    → AllByRecursion (IsFateBelow n) (map (λ (fate : Fate). record { item = item; fate = fate }) all)
fates_all n item [] l = tt
fates_all n item (x ∷ all) l = (l, fates_all n item all l)

fates_one : (n limit o : ℕ) (events : List LaneEvent) (position : ℕ) (e : Entry) → IsBelow n e
    → AllByRecursion (IsFateBelow n) (fates_by limit o events position e)
fates_one n limit o events position (Gather input moment pieces refused passed filtered metrics group reports) h = tt
fates_one n limit o events position (Ended input) h = tt
fates_one n limit o events position (Take item) h = tt
fates_one n limit o events position (Route item whole verdict aggs outs reports) h =
    fates_all n item (fates_by_verdict limit events position verdict (view_at o outs)) h
fates_one n limit o events position (Tick moment all) h = tt
fates_one n limit o events position (Stop moment all) h = tt
fates_one n limit o events position (Begin output from to) h = tt
fates_one n limit o events position (Done output ok reports) h = tt

fates_from-below : (n limit o : ℕ) (events : List LaneEvent) (position : ℕ) (es : List Entry) → AreBelow n es
    → AllByRecursion (IsFateBelow n) (fates_from limit o events position es)
unfolding fates_from
fates_from-below n limit o events position [] h = tt
fates_from-below n limit o events position (e ∷ es) h =
    all_append (IsFateBelow n) (fates_by limit o events position e)
    (fates_from limit o events (position + length (offered_by o e)) es) (fates_one n limit o events position e h.0)
    (fates_from-below n limit o events (position + length (offered_by o e)) es h.1)

offer_all : (n item : ℕ) (verdict : Verdict) (view : Option Content) → item < n
    → AllByRecursion (IsOfferBelow n) (offered item verdict view)
offer_all n item verdicts.Passes None l = tt
offer_all n item verdicts.Passes (Some view) l = (l, tt)
offer_all n item verdicts.Consumed view l = tt
offer_all n item verdicts.Late view l = tt
offer_all n item verdicts.Removed view l = tt

offer_one : (n o : ℕ) (e : Entry) → IsBelow n e → AllByRecursion (IsOfferBelow n) (offered_by o e)
offer_one n o (Gather input moment pieces refused passed filtered metrics group reports) h = tt
offer_one n o (Ended input) h = tt
offer_one n o (Take item) h = tt
offer_one n o (Route item whole verdict aggs outs reports) h = offer_all n item verdict (view_at o outs) h
offer_one n o (Tick moment all) h = tt
offer_one n o (Stop moment all) h = tt
offer_one n o (Begin output from to) h = tt
offer_one n o (Done output ok reports) h = tt

offers-below : (n o : ℕ) (es : List Entry) → AreBelow n es → AllByRecursion (IsOfferBelow n) (offers o es)
unfolding offers
offers-below n o [] h = tt
offers-below n o (e ∷ es) h =
    all_append (IsOfferBelow n) (offered_by o e) (offers o es) (offer_one n o e h.0) (offers-below n o es h.1)

-- what has a fate at an output has an origin
pub fates_below : (setup : Setup) (limit o : ℕ) (es : List Entry) → IsLegal setup es
    → AllByRecursion (IsFateBelow (length (origins es))) (item_fates limit o es)
fates_below setup limit o es h =
    fates_from-below (length (origins es)) limit o (lane_events o es) 0 es (routes_below setup es h)

-- what was offered has one
pub offers_below : (setup : Setup) (o : ℕ) (es : List Entry) → IsLegal setup es
    → AllByRecursion (IsOfferBelow (length (origins es))) (offers o es)
offers_below setup o es h = offers-below (length (origins es)) o es (routes_below setup es h)

-- ---- origins stay

pub origin_stays : (es : List Entry) (e : Entry) (item : ℕ) → item < length (origins es)
    → origin_at (es ++ e ∷ []) item ≡ origin_at es item
origin_stays es e item l =
    ap (λ (all : List Origin). get_or all item made) (origins-push es e)
    ∙ get_or_append_left (origins es) (origins_by e) made item l

-- whether an item of a journal is of a group
abbrev pub is_item_of : List Entry → ℕ → ℕ → Bool
is_item_of es g item = is_of_group g (origin_at es item)

-- 1 where it is so
abbrev pub one_if : Bool → ℕ
one_if b = cond b 1 0

count_agrees : (n : ℕ) (t : Fate → Bool) (p q : ℕ → Bool) (xs : List ItemFate)
    → ((item : ℕ) → item < n → p item ≡ q item) → AllByRecursion (IsFateBelow n) xs
    → count_by (marked t p) xs ≡ count_by (marked t q) xs
count_agrees n t p q [] agree h = refl
count_agrees n t p q (x ∷ xs) agree h =
    let first : one_if (marked t p x) ≡ one_if (marked t q x) =
    ap (λ (b : Bool). one_if (t x.fate && b)) (agree x.item h.0) in
    omega (
      arith,
      count-cons (marked t p) x xs,
      count-cons (marked t q) x xs,
      count_agrees n t p q xs agree h.1,
    )

-- how many items of a group have a fate at an output that passes a test
abbrev pub fate_count : (Fate → Bool) → ℕ → ℕ → List Entry → ℕ → ℕ
fate_count t limit o es g = count_by (is_of_fate t es g) (item_fates limit o es)

-- the items that have a fate are of their groups with one entry more too
pub count_stays : (setup : Setup) (t : Fate → Bool) (limit o : ℕ) (es : List Entry) (e : Entry) (g : ℕ)
    → IsLegal setup es
    → count_by (is_of_fate t (es ++ e ∷ []) g) (item_fates limit o es) ≡ fate_count t limit o es g
count_stays setup t limit o es e g h =
    count_agrees (length (origins es)) t (is_item_of (es ++ e ∷ []) g) (is_item_of es g) (item_fates limit o es)
    (λ item l. ap (is_of_group g) (origin_stays es e item l)) (fates_below setup limit o es h)

marks_agree : (es : List Entry) (e : Entry) (xs : List Offer) → AllByRecursion (IsOfferBelow (length (origins es))) xs
    → map (mark_of (es ++ e ∷ [])) xs ≡ map (mark_of es) xs
marks_agree es e [] h = refl
marks_agree es e (x ∷ xs) h =
    ap (λ (mark : Option ℕ). mark ∷ map (mark_of (es ++ e ∷ [])) xs)
    (ap (λ (origin : Origin). origin.group) (origin_stays es e x.item h.0))
    ∙ ap (λ (all : List (Option ℕ)). mark_of es x ∷ all) (marks_agree es e xs h.1)

-- the item in hand has an origin
pub hand_below : (setup : Setup) (es : List Entry) (item : ℕ) → IsLegal setup es → in_hand es ≡ Some item
    → (item ≡ routes es) × (item < length (origins es))
hand_below setup es item h held =
    let last : (item ≡ routes es) × (taken es ≡ item + 1) =
    subst (λ (x : Option ℕ). HandFits x (routes es) (taken es)) held (hand_fits setup es h) in
    (last.0, omega (arith, last.1, few_taken setup es h, origins-match es))

offered_below : (setup : Setup) (o : ℕ) (es : List Entry) (e : Entry) → IsLegal setup es → MeetsLine setup es e
    → IsBelow (length (origins es)) e
offered_below setup o es (Gather input moment pieces refused passed filtered metrics group reports) h m = tt
offered_below setup o es (Ended input) h m = tt
offered_below setup o es (Take item) h m = tt
offered_below setup o es (Route item whole verdict aggs outs reports) h m =
    (hand_below setup es item h m.held).1
offered_below setup o es (Tick moment all) h m = tt
offered_below setup o es (Stop moment all) h m = tt
offered_below setup o es (Begin output from to) h m = tt
offered_below setup o es (Done output ok reports) h m = tt

-- the marks at an output with one entry more
pub tracked_marks-push : (setup : Setup) (o : ℕ) (es : List Entry) (e : Entry) → IsLegal setup es → MeetsLine setup es e
    → marks o (es ++ e ∷ []) ≡ marks o es ++ map (mark_of es) (offered_by o e)
tracked_marks-push setup o es e h m =
    let n : ℕ = length (origins es) in
    ap (map (mark_of (es ++ e ∷ []))) (offers-push o es e)
    ∙ marks_agree es e (offers o es ++ offered_by o e) (all_append (IsOfferBelow n) (offers o es) (offered_by o e)
    (offers_below setup o es h) (offer_one n o e (offered_below setup o es e h m)))
    ∙ map-append (mark_of es) (offers o es) (offered_by o e)

-- by marks
pub fate_count-marked : (t : Fate → Bool) (limit o : ℕ) (es : List Entry) (g : ℕ)
    → fate_count t limit o es g ≡ total_by (kept_of t (is_item_of es g) o) es + weighed
    (test_at t limit (lane_events o es)) (is_number g) 0 (marks o es)
fate_count-marked t limit o es g =
    let test : ℕ → Bool = test_at t limit (lane_events o es) in
    let same : weighed test (is_number g) 0 (marks o es) ≡ weighed test (is_offer_of (is_item_of es g)) 0
    (offers o es) = weighed-map test (is_number g) (mark_of es) 0 (offers o es) in
    omega (arith, item_fates-marked t (is_item_of es g) limit o es)

-- whether each item that came to no lane passes no test: so it is for Buffered and Dropped
pub record IsLaneTest (t : Fate → Bool) : Type 0 where
  pub filtered : t fate.Filtered ≡ false
  pub late : t fate.Late ≡ false
  pub consumed : t fate.Consumed ≡ false

pub buffered-of_lane : IsLaneTest is_buffered
buffered-of_lane = record { filtered = refl; late = refl; consumed = refl }

pub dropped-of_lane : IsLaneTest is_dropped
dropped-of_lane = record { filtered = refl; late = refl; consumed = refl }

none_kept : (t : Fate → Bool) (verdict : Verdict) (view : Option Content) → IsLaneTest t
    → kept_out_by t verdict view ≡ 0
none_kept t verdicts.Passes None is = ap ones is.filtered
none_kept t verdicts.Passes (Some view) is = refl
none_kept t verdicts.Consumed view is = ap ones is.consumed
none_kept t verdicts.Late view is = ap ones is.late
none_kept t verdicts.Removed view is = refl

-- an entry that keeps no item out of lanes with such a fate
pub no_route_kept : (t : Fate → Bool) (q : ℕ → Bool) (o item : ℕ) (whole : Option Content) (verdict : Verdict)
    (aggs outs : List (Option Content)) (reports : List Report) → IsLaneTest t
    → kept_of t q o (Route item whole verdict aggs outs reports) ≡ 0
no_route_kept t q o item whole verdict aggs outs reports is =
    ap (λ (n : ℕ). cond (q item) n 0) (none_kept t verdict (view_at o outs) is) ∙ none_or (q item) 0

-- with one entry more: what came to no lane, and what has a mark
pub fate_count-push : (setup : Setup) (t : Fate → Bool) (limit o : ℕ) (es : List Entry) (e : Entry) (g : ℕ)
    (events : List LaneEvent) (more : List (Option ℕ)) → IsLegal setup es → MeetsLine setup es e
    → lane_events_by o e ≡ events → map (mark_of es) (offered_by o e) ≡ more
    → kept_of t (is_item_of (es ++ e ∷ []) g) o e ≡ 0
    → fate_count t limit o (es ++ e ∷ []) g + weighed (test_at t limit (lane_events o es)) (is_number g) 0 (marks o es)
    ≡ fate_count t limit o es g + weighed (test_at t limit (lane_events o es ++ events)) (is_number g) 0
    (marks o es ++ more)
fate_count-push setup t limit o es e g events more h m l v z =
    let next : List Entry = es ++ e ∷ [] in
    let q : ℕ → Bool = is_item_of next g in
    let a : lane_events o next ≡ lane_events o es ++ events =
    lane_events-push o es e ∙ ap (λ (x : List LaneEvent). lane_events o es ++ x) l in
    let b : marks o next ≡ marks o es ++ more =
    tracked_marks-push setup o es e h m ∙ ap (λ (x : List (Option ℕ)). marks o es ++ x) v in
    let c : weighed (test_at t limit (lane_events o next)) (is_number g) 0 (marks o next) ≡ weighed
    (test_at t limit (lane_events o es ++ events)) (is_number g) 0 (marks o es ++ more) =
    ap (λ (x : List LaneEvent). weighed (test_at t limit x) (is_number g) 0 (marks o next)) a
    ∙ ap (λ (x : List (Option ℕ)). weighed (test_at t limit (lane_events o es ++ events)) (is_number g) 0 x) b in
    let test : ℕ → Bool = test_at t limit (lane_events o es) in
    let d : weighed test (is_offer_of q) 0 (offers o es) ≡ weighed test (is_number g) 0 (marks o es) =
    sym (weighed-map test (is_number g) (mark_of next) 0 (offers o es))
    ∙ ap (weighed test (is_number g) 0) (marks_agree es e (offers o es) (offers_below setup o es h)) in
    let old : count_by (marked t q) (item_fates limit o es) ≡ fate_count t limit o es g =
    count_stays setup t limit o es e g h in
    omega (
      arith,
      fate_count-marked t limit o next g,
      item_fates-marked t q limit o es,
      total_by-push (kept_of t q o) es e,
    )

-- ---- one entry more, at an output's lane

-- an entry that is nothing to the lane
pub count-still : (setup : Setup) (t : Fate → Bool) (limit o : ℕ) (es : List Entry) (e : Entry) (g : ℕ)
    → IsLegal setup es → MeetsLine setup es e → lane_events_by o e ≡ [] → offered_by o e ≡ []
    → kept_of t (is_item_of (es ++ e ∷ []) g) o e ≡ 0
    → fate_count t limit o (es ++ e ∷ []) g ≡ fate_count t limit o es g
count-still setup t limit o es e g h m l v z =
    let a : weighed (test_at t limit (lane_events o es ++ [])) (is_number g) 0 (marks o es ++ []) ≡ weighed
    (test_at t limit (lane_events o es)) (is_number g) 0 (marks o es) =
    ap (λ (x : List LaneEvent). weighed (test_at t limit x) (is_number g) 0 (marks o es ++ []))
    (append-nil (lane_events o es))
    ∙ ap (λ (x : List (Option ℕ)). weighed (test_at t limit (lane_events o es)) (is_number g) 0 x)
    (append-nil (marks o es)) in
    omega (arith, fate_count-push setup t limit o es e g [] [] h m l (ap (map (mark_of es)) v) z)

-- one by which the marks stay
pub marks-still : (setup : Setup) (o : ℕ) (es : List Entry) (e : Entry) → IsLegal setup es → MeetsLine setup es e
    → offered_by o e ≡ [] → marks o (es ++ e ∷ []) ≡ marks o es
marks-still setup o es e h m v =
    tracked_marks-push setup o es e h m ∙ ap (λ (x : List Offer). marks o es ++ map (mark_of es) x) v
    ∙ append-nil (marks o es)

-- and the lane
pub lane-still : (setup : Setup) (b l o : ℕ) (es : List Entry) (e : Entry) (x : LaneState (Option ℕ))
    → IsLegal setup es → MeetsLine setup es e → lane_events_by o e ≡ [] → offered_by o e ≡ []
    → IsLaneOf b l (lane_events o es) (marks o es) x
    → IsLaneOf b l (lane_events o (es ++ e ∷ [])) (marks o (es ++ e ∷ [])) x
lane-still setup b l o es e x h m none v is =
    let a : lane_events o es ≡ lane_events o (es ++ e ∷ []) =
    sym (append-nil (lane_events o es)) ∙ ap (λ (x : List LaneEvent). lane_events o es ++ x) (sym none)
    ∙ sym (lane_events-push o es e) in
    subst (λ (events : List LaneEvent). IsLaneOf b l events (marks o (es ++ e ∷ [])) x) a
    (subst (λ (all : List (Option ℕ)). IsLaneOf b l (lane_events o es) all x) (sym (marks-still setup o es e h m v)) is)

-- the lane with an event more
pub lane-event : (setup : Setup) (b l o : ℕ) (es : List Entry) (e : Entry) (event : LaneEvent)
    (more : List (Option ℕ)) (x : LaneState (Option ℕ)) → IsLegal setup es → MeetsLine setup es e
    → lane_events_by o e ≡ event ∷ [] → map (mark_of es) (offered_by o e) ≡ more
    → IsLaneOf b l (lane_events o es ++ event ∷ []) (marks o es ++ more) x
    → IsLaneOf b l (lane_events o (es ++ e ∷ [])) (marks o (es ++ e ∷ [])) x
lane-event setup b l o es e event more x h m one v is =
    let a : lane_events o es ++ event ∷ [] ≡ lane_events o (es ++ e ∷ []) =
    ap (λ (x : List LaneEvent). lane_events o es ++ x) (sym one) ∙ sym (lane_events-push o es e) in
    let c : marks o es ++ more ≡ marks o (es ++ e ∷ []) =
    ap (λ (x : List (Option ℕ)). marks o es ++ x) (sym v) ∙ sym (tracked_marks-push setup o es e h m) in
    subst (λ (events : List LaneEvent). IsLaneOf b l events (marks o (es ++ e ∷ [])) x) a
    (subst (λ (all : List (Option ℕ)). IsLaneOf b l (lane_events o es ++ event ∷ []) all x) c is)

-- an entry that begins a batch
pub count-kept : (setup : Setup) (t : Fate → Bool) (limit o : ℕ) (es : List Entry) (e : Entry) (g : ℕ)
    (event : LaneEvent) → IsLegal setup es → MeetsLine setup es e → lane_events_by o e ≡ event ∷ []
    → offered_by o e ≡ [] → kept_of t (is_item_of (es ++ e ∷ []) g) o e ≡ 0
    → KeepsFates limit (lane_events o es) (lane_events o es ++ event ∷ []) (marks o es)
    → fate_count t limit o (es ++ e ∷ []) g ≡ fate_count t limit o es g
count-kept setup t limit o es e g event h m l v z k =
    let after : List LaneEvent = lane_events o es ++ event ∷ [] in
    let a : weighed (test_at t limit after) (is_number g) 0 (marks o es ++ []) ≡ weighed (test_at t limit after)
    (is_number g) 0 (marks o es) = ap (weighed (test_at t limit after) (is_number g) 0) (append-nil (marks o es)) in
    let b : weighed (test_at t limit after) (is_number g) 0 (marks o es) ≡ weighed (test_at t limit (lane_events o es))
    (is_number g) 0 (marks o es) =
    keeps_weighed (tested t) (is_number g) limit (lane_events o es) after (marks o es) k in
    omega (arith, fate_count-push setup t limit o es e g (event ∷ []) [] h m l (ap (map (mark_of es)) v) z)

-- an entry by which some items are no longer buffered
pub count-leave : (setup : Setup) (t : Fate → Bool) (limit o : ℕ) (es : List Entry) (e : Entry) (g : ℕ)
    (event : LaneEvent) (fate : LaneFate) (gone : List (Option ℕ)) → IsLegal setup es → MeetsLine setup es e
    → lane_events_by o e ≡ event ∷ [] → offered_by o e ≡ [] → kept_of t (is_item_of (es ++ e ∷ []) g) o e ≡ 0
    → Becomes limit (lane_events o es) (lane_events o es ++ event ∷ []) (marks o es) fate gone
    → fate_count t limit o (es ++ e ∷ []) g + cond (tested t lane.Buffered) (count_by (is_number g) gone) 0
    ≡ fate_count t limit o es g + cond (tested t fate) (count_by (is_number g) gone) 0
count-leave setup t limit o es e g event fate gone h m l v z k =
    let after : List LaneEvent = lane_events o es ++ event ∷ [] in
    let a : weighed (test_at t limit after) (is_number g) 0 (marks o es ++ []) ≡ weighed (test_at t limit after)
    (is_number g) 0 (marks o es) = ap (weighed (test_at t limit after) (is_number g) 0) (append-nil (marks o es)) in
    let b : weighed (test_at t limit after) (is_number g) 0 (marks o es) + cond (tested t lane.Buffered)
    (count_by (is_number g) gone) 0 ≡ weighed (test_at t limit (lane_events o es)) (is_number g) 0
    (marks o es) + cond (tested t fate) (count_by (is_number g) gone) 0 =
    becomes_weighed (tested t) (is_number g) limit (lane_events o es) after (marks o es) fate gone k in
    omega (arith, fate_count-push setup t limit o es e g (event ∷ []) [] h m l (ap (map (mark_of es)) v) z)

-- an entry by which an item comes, and others are no longer buffered
pub count-come : (setup : Setup) (t : Fate → Bool) (limit o : ℕ) (es : List Entry) (e : Entry) (g : ℕ)
    (mark : Option ℕ) (gone : List (Option ℕ)) → IsLegal setup es → MeetsLine setup es e
    → lane_events_by o e ≡ lane.Push ∷ [] → map (mark_of es) (offered_by o e) ≡ mark ∷ []
    → kept_of t (is_item_of (es ++ e ∷ []) g) o e ≡ 0
    → fate_at limit (lane_events o es ++ lane.Push ∷ []) (length (marks o es)) ≡ lane.Buffered
    → Becomes limit (lane_events o es) (lane_events o es ++ lane.Push ∷ []) (marks o es) lane.Dropped gone
    → fate_count t limit o (es ++ e ∷ []) g + cond (tested t lane.Buffered) (count_by (is_number g) gone) 0
    ≡ fate_count t limit o es g + cond (tested t lane.Dropped) (count_by (is_number g) gone) 0 + ones
    (tested t lane.Buffered && is_number g mark)
count-come setup t limit o es e g mark gone h m l v z new k =
    let after : List LaneEvent = lane_events o es ++ lane.Push ∷ [] in
    let test : ℕ → Bool = test_at t limit after in
    let n : ℕ = length (marks o es) in
    let a = weighed-append test (is_number g) 0 (marks o es) (mark ∷ []) in
    let zero_n : 0 + n ≡ n = omega arith in
    let c : ones (test (0 + n) && is_number g mark) ≡ ones (tested t lane.Buffered && is_number g mark) =
    ap (λ (p : ℕ). ones (test p && is_number g mark)) zero_n
    ∙ ap (λ (f : LaneFate). ones (tested t f && is_number g mark)) new in
    let d : weighed test (is_number g) (0 + n) (mark ∷ []) ≡ ones (test (0 + n) && is_number g mark) = omega arith in
    let b : weighed test (is_number g) 0 (marks o es) + cond (tested t lane.Buffered)
    (count_by (is_number g) gone) 0 ≡ weighed (test_at t limit (lane_events o es)) (is_number g) 0
    (marks o es) + cond (tested t lane.Dropped) (count_by (is_number g) gone) 0 =
    becomes_weighed (tested t) (is_number g) limit (lane_events o es) after (marks o es) lane.Dropped gone k in
    omega (arith, fate_count-push setup t limit o es e g (lane.Push ∷ []) (mark ∷ []) h m l v z)
