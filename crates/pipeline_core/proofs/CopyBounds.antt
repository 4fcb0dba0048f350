-- How many copies there are at most.
use Rattle.std.proofs.Common.{◌≡◌, ◌<◌, ◌≤◌, ℕ, zero, suc, ◌+◌, ◌*◌, ◌&&◌, cond, if◌then◌else◌, Bool, true, false}
use Rattle.std.proofs.Common.{List, [], ◌∷◌, ◌++◌, length, map, take, drop, get_or, refl, ap, sym, ◌∙◌, arith, subst}
use Rattle.std.proofs.Common.{append-nil, append_assoc, drop-cons, length-append}
use Rattle.std.specs.Prelude.{replicate}
use Rattle.std.specs.List.{AllByRecursion, count_by, enumerate_from, sum_by}
use Rattle.std.proofs.lemmas.List.FromFn.{length-enumerate_from}
use Rattle.std.proofs.lemmas.List.Sums.{sum_by-cons, sum_by-le, sum_by-take-drop}
use Rattle.std.specs.declared.option.Option.{Option}
use Rattle.std.specs.declared.option.Option.TheVariants.{Some, None}
use Rattle.metric.specs.declared.metric.Content.{Content}
use Rattle.account.specs.Setup.{Setup}
use Rattle.account.specs.Items.{named_by, routes, routes_by}
use Rattle.account.specs.Origins.{group_inputs, group_inputs_said, groups, input_among, is_number, is_of_group, made}
use Rattle.account.specs.Origins.{Origin, origins, origins_by}
use Rattle.account.specs.Routes.{IsNextRoute, RoutesInOrder}
use Rattle.account.proofs.OriginLemmas.{group_inputs-push, origins-match, origins-push}
use Rattle.account.specs.Says.{gather_of}
use Rattle.account.specs.declared.entry.Entry.{Entry}
use Rattle.account.specs.declared.entry.Entry.TheVariants.{Gather, Ended, Take, Route, Tick, Stop, Begin}
use Rattle.account.specs.declared.entry.Entry.TheVariants.{Done}
use Rattle.account.specs.declared.entry.Verdict.{Verdict}
use Rattle.account.specs.declared.entry.Verdict.TheVariants as verdicts
use Rattle.out_lane.specs.LaneCounts.{ones, positions_counted}
use Rattle.out_lane.specs.LaneEvents.{LaneEvent}
use Rattle.out_lane.proofs.CountLemmas.{positions_counted-add}
use Rattle.pipeline_core.specs.Offers.{lane_events, offered_by, view_at}
use Rattle.pipeline_core.specs.Fates.{Fate, ItemFate, fates_by, fates_by_verdict, fates_from, item_fates, is_buffered}
use Rattle.pipeline_core.specs.Groups.{copies, count_of_fate, next_group}
use Rattle.pipeline_core.specs.Legal.{AreLegal, gathered_by, gathered_count, IsLegal, Meets}
use Rattle.pipeline_core.proofs.CopyCounts.{count-append, count-cons, marked}
use Rattle.pipeline_core.proofs.CopyGroups.{count_same, waiting}
use Rattle.pipeline_core.proofs.CopySteps.{all_append, fate_count, is_item_of, one_if}
use Rattle.pipeline_core.proofs.JournalPush.{few_taken}
use Rattle.pipeline_core.proofs.RouteLemmas.{few_routed, legal_in_order}
use Rattle.pipeline_core.proofs.Keeping.{differs}

-- ---- groups that aren't there have no copies

-- the group, where there is one, is below a number
abbrev pub IsGroupBelow : ℕ → Option ℕ → Type 0
IsGroupBelow n None = Unit {0}
IsGroupBelow n (Some group) = group < n

abbrev pub IsOriginBelow : ℕ → Origin → Type 0
IsOriginBelow n origin = IsGroupBelow n origin.group

below_more : (n m : ℕ) (group : Option ℕ) → n ≤ m → IsGroupBelow n group → IsGroupBelow m group
below_more n m None l h = tt
below_more n m (Some group) l h = omega (arith, l, h)

all_more : (n m : ℕ) (xs : List Origin) → n ≤ m → AllByRecursion (IsOriginBelow n) xs
    → AllByRecursion (IsOriginBelow m) xs
all_more n m [] l h = tt
all_more n m (x ∷ xs) l h = (below_more n m x.group l h.0, all_more n m xs l h.1)

all_same : (n k : ℕ) (x : Origin) → IsOriginBelow n x → AllByRecursion (IsOriginBelow n) (replicate k x)
all_same n zero x h = tt
all_same n (suc k) x h = (h, all_same n k x h)

-- the group of a Gather is the next one
group_new : (before : List Entry) (input : ℕ) (most group : Option ℕ) → group ≡ next_group most before
    → IsGroupBelow (groups before + length (input_among input group)) group
group_new before input most None is = tt
group_new before input None (Some n) is = absurd (let x : Some n ≡ None = is in cc)
group_new before input (Some m) (Some n) is =
    let x : Some n ≡ Some (groups before) = is in
    let y : n ≡ groups before = cc in
    omega (arith, y)

origins_new : (setup : Setup) (before : List Entry) (e : Entry) → Meets setup before e
    → AllByRecursion (IsOriginBelow (groups before + length (group_inputs_said (gather_of e)))) (origins_by e)
origins_new setup before (Gather input moment pieces refused passed filtered metrics group reports) m =
    all_same (groups before + length (input_among input group)) (length metrics)
    (record { input = Some input; group = group }) (group_new before input m.line.most group m.line.group)
origins_new setup before (Ended input) m = tt
origins_new setup before (Take item) m = tt
origins_new setup before (Route item whole verdict aggs outs reports) m = tt
origins_new setup before (Tick moment all) m = all_same (groups before + 0) (length all) made tt
origins_new setup before (Stop moment all) m = all_same (groups before + 0) (length all) made tt
origins_new setup before (Begin output from to) m = tt
origins_new setup before (Done output ok reports) m = tt

abbrev AreGrouped : List Entry → Type 0
AreGrouped es = AllByRecursion (IsOriginBelow (groups es)) (origins es)

grouped_more : (setup : Setup) (before : List Entry) (e : Entry) → Meets setup before e → AreGrouped before
    → AreGrouped (before ++ e ∷ [])
grouped_more setup before e m h =
    let n : ℕ = groups before in
    let more : ℕ = length (group_inputs_said (gather_of e)) in
    let all : groups (before ++ e ∷ []) ≡ n + more =
    ap length (group_inputs-push before e) ∙ length-append (group_inputs before) (group_inputs_said (gather_of e)) in
    subst (λ (xs : List Origin). AllByRecursion (IsOriginBelow (groups (before ++ e ∷ []))) xs)
    (sym (origins-push before e))
    (subst (λ (k : ℕ). AllByRecursion (IsOriginBelow k) (origins before ++ origins_by e)) (sym all)
    (all_append (IsOriginBelow (n + more)) (origins before) (origins_by e)
    (all_more n (n + more) (origins before) (omega arith) h) (origins_new setup before e m)))

grouped_from : (setup : Setup) (before es : List Entry) → AreLegal setup before es → AreGrouped before
    → AreGrouped (before ++ es)
unfolding AreLegal
grouped_from setup before [] h l = subst AreGrouped (sym (append-nil before)) l
grouped_from setup before (e ∷ es) h l =
    subst AreGrouped (append_assoc before (e ∷ []) es)
    (grouped_from setup (before ++ e ∷ []) es h.1 (grouped_more setup before e h.0 l))

-- the groups of all items are there
pub groups_below : (setup : Setup) (es : List Entry) → IsLegal setup es
    → AllByRecursion (IsOriginBelow (groups es)) (origins es)
unfolding origins
groups_below setup es h = grouped_from setup [] es h tt

no_number : (n g : ℕ) (group : Option ℕ) → n ≤ g → IsGroupBelow n group → is_number g group ≡ false
no_number n g None l h = refl
no_number n g (Some group) l h = differs group g (omega (arith, l, h))

none_at : (n g : ℕ) (xs : List Origin) (i : ℕ) → n ≤ g → AllByRecursion (IsOriginBelow n) xs
    → is_of_group g (get_or xs i made) ≡ false
none_at n g [] i l h = refl
none_at n g (x ∷ xs) zero l h = no_number n g x.group l h.0
none_at n g (x ∷ xs) (suc i) l h = none_at n g xs i l h.1

none_behind : (n g : ℕ) (k : ℕ) (xs : List Origin) → n ≤ g → AllByRecursion (IsOriginBelow n) xs
    → count_by (is_of_group g) (drop k xs) ≡ 0
none_behind n g zero [] l h = refl
none_behind n g (suc k) [] l h = refl
none_behind n g zero (x ∷ xs) l h =
    omega (
      arith,
      count-cons (is_of_group g) x xs,
      ap one_if (no_number n g x.group l h.0),
      none_behind n g 0 xs l h.1,
    )
none_behind n g (suc k) (x ∷ xs) l h = none_behind n g k xs l h.1

none_marked : (t : Fate → Bool) (q : ℕ → Bool) (xs : List ItemFate) → ((item : ℕ) → q item ≡ false)
    → count_by (marked t q) xs ≡ 0
none_marked t q [] h = refl
none_marked t q (x ∷ xs) h =
    omega (
      arith,
      count-cons (marked t q) x xs,
      ap (λ (b : Bool). one_if (t x.fate && b)) (h x.item),
      and_none (t x.fate),
      none_marked t q xs h,
    )
  where
    and_none : (b : Bool) → one_if (b && false) ≡ 0
    and_none true = refl
    and_none false = refl

sum_none : (f : ℕ × (ℕ × ℕ) → ℕ) (xs : List (ℕ × (ℕ × ℕ))) → ((x : ℕ × (ℕ × ℕ)) → f x ≡ 0) → sum_by f xs ≡ 0
sum_none f [] h = refl
sum_none f (x ∷ xs) h = omega (arith, sum_by-cons f x xs, h x, sum_none f xs h)

-- no item of a group that isn't there has a fate
pub no_fates : (setup : Setup) (t : Fate → Bool) (es : List Entry) (g : ℕ) → IsLegal setup es → groups es ≤ g
    → count_of_fate t setup es g ≡ 0
no_fates setup t es g h l =
    sum_none (λ (output : ℕ × (ℕ × ℕ)). fate_count t output.1.1 output.0 es g) (enumerate_from 0 setup.outputs)
    (λ x. none_marked t (is_item_of es g) (item_fates x.1.1 x.0 es)
    (λ item. none_at (groups es) g (origins es) item l (groups_below setup es h)))

-- and none is a copy
pub no_copies : (setup : Setup) (es : List Entry) (g : ℕ) → IsLegal setup es → groups es ≤ g
    → copies setup es g ≡ 0
no_copies setup es g h l =
    omega (
      arith,
      no_fates setup is_buffered es g h l,
      none_behind (groups es) g (routes es) (origins es) l (groups_below setup es h),
    )

-- ---- few copies

by_number : (w : Origin → Bool) (xs : List Origin) (k n : ℕ) → k + n ≤ length xs
    → positions_counted (λ (i : ℕ). w (get_or xs i made)) k n ≡ count_by w (take n (drop k xs))
by_number w xs k zero l = refl
by_number w xs k (suc n) l =
    let x : Origin = get_or xs k made in
    let first : drop k xs ≡ x ∷ drop (suc k) xs = drop-cons xs k made (omega arith) in
    let a : take (suc n) (drop k xs) ≡ x ∷ take n (drop (suc k) xs) = ap (take (suc n)) first in
    let b : k + 1 ≡ suc k = omega arith in
    let c : count_by w (take n (drop (k + 1) xs)) ≡ count_by w (take n (drop (suc k) xs)) =
    ap (λ (m : ℕ). count_by w (take n (drop m xs))) b in
    omega (
      arith,
      by_number w xs (k + 1) n (omega arith),
      ap (count_by w) a,
      count-cons w x (take n (drop (suc k) xs)),
      one_is (w x),
    )
  where
    one_is : (b : Bool) → ones b ≡ one_if b
    one_is true = refl
    one_is false = refl

one_both : (a b : Bool) → one_if (a && b) ≤ ones b
one_both true true = omega arith
one_both true false = omega arith
one_both false true = omega arith
one_both false false = omega arith

one_fate : (t : Fate → Bool) (q : ℕ → Bool) (item : ℕ) (f : Fate)
    → count_by (marked t q) (record { item = item; fate = f } ∷ []) ≤ ones (q item)
one_fate t q item f = omega (arith, one_both (t f) (q item))

fates_few : (t : Fate → Bool) (q : ℕ → Bool) (limit : ℕ) (events : List LaneEvent) (position item : ℕ)
    (verdict : Verdict) (view : Option Content)
    → count_by (marked t q) (map (λ (fate : Fate). record { item = item; fate = fate })
    (fates_by_verdict limit events position verdict view)) ≤ ones (q item)
fates_few t q limit events position item verdicts.Passes view = one_fate t q item _
fates_few t q limit events position item verdicts.Consumed view = one_fate t q item _
fates_few t q limit events position item verdicts.Late view = one_fate t q item _
fates_few t q limit events position item verdicts.Removed view = omega arith

entry_few : (t : Fate → Bool) (q : ℕ → Bool) (limit o : ℕ) (events : List LaneEvent) (position routed known : ℕ)
    (e : Entry) → IsNextRoute routed known e
    → count_by (marked t q) (fates_by limit o events position e) ≤ positions_counted q routed (routes_by e)
entry_few t q limit o events position routed known
    (Gather input moment pieces refused passed filtered metrics group reports) h = omega arith
entry_few t q limit o events position routed known (Ended input) h = omega arith
entry_few t q limit o events position routed known (Take item) h = omega arith
entry_few t q limit o events position routed known (Route item whole verdict aggs outs reports) h =
    let a : ones (q item) ≡ ones (q routed) = ap (λ (n : ℕ). ones (q n)) h.0 in
    omega (arith, fates_few t q limit events position item verdict (view_at o outs))
entry_few t q limit o events position routed known (Tick moment all) h = omega arith
entry_few t q limit o events position routed known (Stop moment all) h = omega arith
entry_few t q limit o events position routed known (Begin output from to) h = omega arith
entry_few t q limit o events position routed known (Done output ok reports) h = omega arith

few_from : (t : Fate → Bool) (q : ℕ → Bool) (limit o : ℕ) (events : List LaneEvent) (position routed known : ℕ)
    (es : List Entry) → RoutesInOrder routed known es
    → count_by (marked t q) (fates_from limit o events position es) ≤ positions_counted q routed (routes es)
unfolding fates_from RoutesInOrder routes
few_from t q limit o events position routed known [] h = omega arith
few_from t q limit o events position routed known (e ∷ es) h =
    let n : ℕ = length (offered_by o e) in
    omega (
      arith,
      count-append (marked t q) (fates_by limit o events position e) (fates_from limit o events (position + n) es),
      entry_few t q limit o events position routed known e h.0,
      few_from t q limit o events (position + n) (routed + routes_by e) (known + length (named_by e)) es h.1,
      positions_counted-add q routed (routes_by e) (routes es),
    )

few_origins_by : (e : Entry) (g : ℕ) → count_by (is_of_group g) (origins_by e) ≤ gathered_by e
few_origins_by (Gather input moment pieces refused passed filtered metrics group reports) g =
    omega (
      arith,
      count_same (is_of_group g) (length metrics) (record { input = Some input; group = group }),
      some_of (is_number g group) (length metrics),
    )
  where
    some_of : (b : Bool) (n : ℕ) → (if b then n else 0) ≤ n
    some_of true n = omega arith
    some_of false n = omega arith
few_origins_by (Ended input) g = omega arith
few_origins_by (Take item) g = omega arith
few_origins_by (Route item whole verdict aggs outs reports) g = omega arith
few_origins_by (Tick moment all) g = omega (arith, count_same (is_of_group g) (length all) made)
few_origins_by (Stop moment all) g = omega (arith, count_same (is_of_group g) (length all) made)
few_origins_by (Begin output from to) g = omega arith
few_origins_by (Done output ok reports) g = omega arith

-- the items of a group were gathered
pub few_of_group : (es : List Entry) (g : ℕ) → count_by (is_of_group g) (origins es) ≤ gathered_count es
unfolding origins gathered_count
few_of_group [] g = omega arith
few_of_group (e ∷ es) g =
    omega (
      arith,
      count-append (is_of_group g) (origins_by e) (origins es),
      few_origins_by e g,
      few_of_group es g,
    )

-- each has at most one fate at an output, and those without a Route have none
pub few_fates : (setup : Setup) (t : Fate → Bool) (limit o : ℕ) (es : List Entry) (g : ℕ) → IsLegal setup es
    → fate_count t limit o es g + waiting es g ≤ count_by (is_of_group g) (origins es)
few_fates setup t limit o es g h =
    let w : Origin → Bool = is_of_group g in
    let a : fate_count t limit o es g ≤ positions_counted (is_item_of es g) 0 (routes es) =
    few_from t (is_item_of es g) limit o (lane_events o es) 0 0 0 es (legal_in_order setup es h) in
    let b : positions_counted (is_item_of es g) 0 (routes es) ≡ count_by w (take (routes es) (origins es)) =
    by_number w (origins es) 0 (routes es)
    (omega (arith, few_routed setup es h, few_taken setup es h, origins-match es)) in
    let c : count_by w (take (routes es) (origins es)) + count_by w (drop (routes es) (origins es))
    ≡ count_by w (origins es) = sum_by-take-drop (λ (x : Origin). cond (w x) 1 0) (origins es) (routes es) in
    omega arith

few_in_sum : (n m a b : ℕ) → a ≤ m → b ≤ n * m → a + b ≤ (1 + n) * m
few_in_sum n m a b h k = omega (arith, h, k)

-- so there are few copies of a group
pub few_copies : (setup : Setup) (es : List Entry) (g : ℕ) → IsLegal setup es
    → copies setup es g ≤ (1 + length setup.outputs) * gathered_count es
few_copies setup es g h =
    let m : ℕ = gathered_count es in
    let f : ℕ × (ℕ × ℕ) → ℕ = λ (output : ℕ × (ℕ × ℕ)). fate_count is_buffered output.1.1 output.0 es g in
    let each : (x : ℕ × (ℕ × ℕ)) → f x ≤ m =
    λ x. omega (arith, few_fates setup is_buffered x.1.1 x.0 es g h, few_of_group es g) in
    let all : sum_by f (enumerate_from 0 setup.outputs) ≤ length (enumerate_from 0 setup.outputs) * m =
    sum_by-le f m (enumerate_from 0 setup.outputs) (λ i d l. each (get_or (enumerate_from 0 setup.outputs) i d)) in
    let long : sum_by f (enumerate_from 0 setup.outputs) ≤ length setup.outputs * m =
    subst (λ (n : ℕ). sum_by f (enumerate_from 0 setup.outputs) ≤ n * m) (length-enumerate_from 0 setup.outputs) all in
    few_in_sum (length setup.outputs) m (waiting es g) (count_of_fate is_buffered setup es g)
    (omega (arith, few_fates setup is_buffered 0 0 es g h, few_of_group es g)) long
