-- What each entry does to the copies of a group: those that wait for their Route, and those that are buffered.
use Rattle.std.proofs.Common.{◌≡◌, ◌<◌, ℕ, ℤ, zero, suc, ◌+◌, cond, if◌then◌else◌, Bool, true, false, List}
use Rattle.std.proofs.Common.{[], ◌∷◌, ◌++◌, length, map, drop, get_or, refl, ap, sym, ◌∙◌, arith, append-nil}
use Rattle.std.proofs.Common.{drop-cons}
use Rattle.std.specs.Prelude.{◌≤◌, not, replicate, slice_get}
use Rattle.std.specs.List.{count_by}
use Rattle.std.proofs.lemmas.List.{drop-append-le, drop-drop, map-append}
use Rattle.std.specs.declared.option.Option.{Option}
use Rattle.std.specs.declared.option.Option.TheVariants.{Some, None}
use Rattle.metric.specs.declared.metric.Content.{Content}
use Rattle.account.specs.Setup.{Setup}
use Rattle.account.specs.Items.{in_hand, routes, routes_by}
use Rattle.account.specs.Origins.{is_number, is_of_group, made, Origin, origin_at, origins, origins_by, unrouted}
use Rattle.account.proofs.OriginLemmas.{origins-match, origins-push}
use Rattle.account.proofs.RouteLemmas.{routes-push}
use Rattle.account.specs.declared.entry.Entry.{Entry}
use Rattle.account.specs.declared.entry.Entry.TheVariants.{Gather, Ended, Take, Route, Tick, Stop, Begin}
use Rattle.account.specs.declared.entry.Entry.TheVariants.{Done}
use Rattle.account.specs.declared.entry.Report.{Report}
use Rattle.account.specs.declared.entry.Verdict.{Verdict}
use Rattle.out_lane.specs.Lane.{LaneState}
use Rattle.track_groups.specs.Settling.{is_copy_of, times}
use Rattle.pipeline_core.specs.Fates.{Fate, is_buffered}
use Rattle.pipeline_core.specs.Groups.{copies, count_of_fate, is_live}
use Rattle.pipeline_core.specs.Legal.{IsLegal, MeetsLine}
use Rattle.pipeline_core.specs.Tracked.{copy_of, done_copies, routed_copies}
use Rattle.pipeline_core.specs.CoreState.{marked_at}
use Rattle.pipeline_core.proofs.CopyCounts.{count-append, count-cons, none_or}
use Rattle.pipeline_core.proofs.CopyLanes.{IsPlain}
use Rattle.pipeline_core.proofs.CopySteps.{hand_below, one_if}
use Rattle.pipeline_core.proofs.CopySums.{AreMarked, begin_all, comers, done_buffered_all, plain_all}
use Rattle.pipeline_core.proofs.CopySums.{route_all}
use Rattle.pipeline_core.proofs.JournalPush.{few_taken}
use Rattle.pipeline_core.proofs.RouteLemmas.{few_routed}
use Rattle.pipeline_core.proofs.Keeping.{differs, same_number}

-- what has no Route with one entry more
pub waiting-push : (setup : Setup) (es : List Entry) (e : Entry) → IsLegal setup es
    → unrouted (es ++ e ∷ []) ≡ drop (routes_by e) (unrouted es ++ origins_by e)
waiting-push setup es e h =
    ap (drop (routes (es ++ e ∷ []))) (origins-push es e) ∙ ap (λ (n : ℕ). drop n (origins es ++ origins_by e))
    (routes-push es e ∙ omega arith) ∙ sym (drop-drop (routes_by e) (routes es) (origins es ++ origins_by e))
    ∙ ap (drop (routes_by e)) (drop-append-le (routes es) (origins es) (origins_by e)
    (omega (arith, few_routed setup es h, few_taken setup es h, origins-match es)))

-- what is kept of the origins of what has no Route, as the group
pub kept-push : {X : Type 0} (f : Origin → X) (setup : Setup) (es : List Entry) (e : Entry) → IsLegal setup es
    → map f (unrouted (es ++ e ∷ [])) ≡ drop (routes_by e) (map f (unrouted es) ++ map f (origins_by e))
kept-push f setup es e h =
    ap (map f) (waiting-push setup es e h) ∙ map_drop f (routes_by e) (unrouted es ++ origins_by e)
    ∙ ap (drop (routes_by e)) (map-append f (unrouted es) (origins_by e))
  where
    map_drop : {X Y : Type 0} (f : X → Y) (n : ℕ) (xs : List X) → map f (drop n xs) ≡ drop n (map f xs)
    map_drop f zero xs = refl
    map_drop f (suc n) [] = refl
    map_drop f (suc n) (x ∷ xs) = map_drop f n xs

-- that of the item in hand stands first
pub kept_in_hand : {X : Type 0} (f : Origin → X) (setup : Setup) (es : List Entry) (item : ℕ) → IsLegal setup es
    → in_hand es ≡ Some item → slice_get (map f (unrouted es)) 0 ≡ Some (f (origin_at es item))
kept_in_hand f setup es item h held =
    let next : (item ≡ routes es) × (item < length (origins es)) = hand_below setup es item h held in
    ap (λ (xs : List Origin). slice_get (map f xs) 0)
    (drop-cons (origins es) (routes es) made (omega (arith, next.0, next.1)))
    ∙ ap (λ (n : ℕ). Some (f (origin_at es n))) (sym next.0)

-- the items of a group that have no Route
abbrev pub waiting : List Entry → ℕ → ℕ
waiting es g = count_by (is_of_group g) (unrouted es)

-- where an entry routes nothing
waits_more : (setup : Setup) (es : List Entry) (e : Entry) (g : ℕ) → IsLegal setup es → routes_by e ≡ 0
    → waiting (es ++ e ∷ []) g ≡ waiting es g + count_by (is_of_group g) (origins_by e)
waits_more setup es e g h none =
    let a : unrouted (es ++ e ∷ []) ≡ unrouted es ++ origins_by e =
    waiting-push setup es e h ∙ ap (λ (n : ℕ). drop n (unrouted es ++ origins_by e)) none in
    ap (count_by (is_of_group g)) a ∙ count-append (is_of_group g) (unrouted es) (origins_by e)

pub count_same : (w : Origin → Bool) (n : ℕ) (x : Origin) →
    count_by w (replicate n x) ≡ (if w x then n else 0)
count_same w zero x = sym (none_or (w x) 0)
count_same w (suc n) x =
    omega (arith, count-cons w x (replicate n x), count_same w n x, more_same (w x) n)
  where
    more_same : (b : Bool) (n : ℕ) → cond b 1 0 + (if b then n else 0) ≡ (if b then suc n else 0)
    more_same true n = omega arith
    more_same false n = omega arith

-- the first that has no Route is the item in hand
waits_less : (setup : Setup) (es : List Entry) (item : ℕ) (whole : Option Content) (verdict : Verdict)
    (aggs outs : List (Option Content)) (reports : List Report) (g : ℕ) →
    let e : Entry = Route item whole verdict aggs outs reports in
    IsLegal setup es → MeetsLine setup es e
    → waiting (es ++ e ∷ []) g + one_if (is_number g (origin_at es item).group) ≡ waiting es g
waits_less setup es item whole verdict aggs outs reports g h m =
    let e : Entry = Route item whole verdict aggs outs reports in
    let next : (item ≡ routes es) × (item < length (origins es)) = hand_below setup es item h m.held in
    let x : Origin = get_or (origins es) (routes es) made in
    let rest : List Origin = drop (suc (routes es)) (origins es) in
    let first : unrouted es ≡ x ∷ rest =
    drop-cons (origins es) (routes es) made (omega (arith, next.0, next.1)) in
    let after : unrouted (es ++ e ∷ []) ≡ rest =
    waiting-push setup es e h ∙ ap (λ (xs : List Origin). drop 1 (xs ++ [])) first ∙ append-nil rest in
    let is : one_if (is_number g (origin_at es item).group) ≡ one_if (is_of_group g x) =
    ap (λ (n : ℕ). one_if (is_number g (origin_at es n).group)) next.0 in
    omega (
      arith,
      ap (count_by (is_of_group g)) after,
      ap (count_by (is_of_group g)) first,
      count-cons (is_of_group g) x rest,
    )

-- the group of the item in hand is live
pub hand_copies : (setup : Setup) (es : List Entry) (item g : ℕ) → IsLegal setup es → in_hand es ≡ Some item
    → (origin_at es item).group ≡ Some g → 1 ≤ copies setup es g
hand_copies setup es item g h held of =
    let next : (item ≡ routes es) × (item < length (origins es)) = hand_below setup es item h held in
    let x : Origin = get_or (origins es) (routes es) made in
    let rest : List Origin = drop (suc (routes es)) (origins es) in
    let first : unrouted es ≡ x ∷ rest =
    drop-cons (origins es) (routes es) made (omega (arith, next.0, next.1)) in
    let is : one_if (is_of_group g x) ≡ 1 =
    ap (λ (n : ℕ). one_if (is_number g (origin_at es n).group)) (sym next.0)
    ∙ ap (λ (group : Option ℕ). one_if (is_number g group)) of ∙ ap one_if (same_number g) in
    omega (arith, ap (count_by (is_of_group g)) first, count-cons (is_of_group g) x rest)

pub hand_live : (setup : Setup) (es : List Entry) (item g : ℕ) → IsLegal setup es → in_hand es ≡ Some item
    → (origin_at es item).group ≡ Some g → is_live setup es g ≡ true
hand_live setup es item g h held of =
    ap not (differs (copies setup es g) 0 (omega (arith, hand_copies setup es item g h held of)))

-- the copy of an item that is routed
pub times_one : (g : ℕ) (dropped : Bool) (grp : Option ℕ) → times g (copy_of dropped grp) ≡ one_if (is_number g grp)
times_one g dropped None = refl
times_one g dropped (Some n) =
    omega (arith, count-cons (is_copy_of g) (record { group = n; dropped = dropped }) [])

-- ---- copies

-- an item that is routed: its copy in hand goes, and it gets one where it comes; others are pushed out
pub route_copies : (verdict : Verdict) (setup : Setup) (es : List Entry) (item : ℕ) (whole : Option Content)
    (aggs outs : List (Option Content)) (reports : List Report) (g : ℕ) (all : List (LaneState (Option ℕ))) →
    let e : Entry = Route item whole verdict aggs outs reports in
    IsLegal setup es → MeetsLine setup es e → AreMarked setup es all
    → copies setup (es ++ e ∷ []) g
    + times g (routed_copies verdict outs all ++ copy_of false (origin_at es item).group)
    ≡ copies setup es g + (if is_number g (origin_at es item).group then comers verdict outs else 0)
route_copies verdict setup es item whole aggs outs reports g all h m are =
    let grp : Option ℕ = (origin_at es item).group in
    omega (
      arith,
      (route_all verdict setup es item whole aggs outs reports g all h m are).0,
      waits_less setup es item whole verdict aggs outs reports g h m,
      count-append (is_copy_of g) (routed_copies verdict outs all) (copy_of false grp),
      times_one g false grp,
    )

-- a batch that is done: what leaves its output is gone
pub done_copies_all : (setup : Setup) (es : List Entry) (o : ℕ) (ok : Bool) (reports : List Report) (g : ℕ)
    (all : List (LaneState (Option ℕ))) → IsLegal setup es → MeetsLine setup es (Done o ok reports)
    → AreMarked setup es all
    → copies setup (es ++ Done o ok reports ∷ []) g + times g (done_copies ok (marked_at all o)) ≡ copies setup es g
done_copies_all setup es o ok reports g all h m are =
    omega (
      arith,
      done_buffered_all setup es o ok reports g all h m are,
      waits_more setup es (Done o ok reports) g h refl,
    )

-- a Gather: its metrics wait
pub gather_copies : (setup : Setup) (es : List Entry) (input : ℕ) (moment : ℤ) (pieces refused passed filtered : ℕ)
    (metrics : List Content) (group : Option ℕ) (reports : List Report) (g : ℕ) →
    let e : Entry = Gather input moment pieces refused passed filtered metrics group reports in
    IsLegal setup es → MeetsLine setup es e
    → copies setup (es ++ e ∷ []) g ≡ copies setup es g + (if is_number g group then length metrics else 0)
gather_copies setup es input moment pieces refused passed filtered metrics group reports g h m =
    let e : Entry = Gather input moment pieces refused passed filtered metrics group reports in
    omega (
      arith,
      plain_all setup is_buffered es e g h m tt,
      waits_more setup es e g h refl,
      count_same (is_of_group g) (length metrics) (record { input = Some input; group = group }),
    )

-- an entry that says nothing of groups
abbrev pub IsQuiet : Entry → Type 0
IsQuiet (Ended input) = Unit {0}
IsQuiet (Take item) = Unit {0}
IsQuiet (Tick moment all) = Unit {0}
IsQuiet (Stop moment all) = Unit {0}
IsQuiet _ = ⊥

pub quiet_plain : (e : Entry) → IsQuiet e → IsPlain e
quiet_plain (Gather input moment pieces refused passed filtered metrics group reports) is = absurd is
quiet_plain (Ended input) is = tt
quiet_plain (Take item) is = tt
quiet_plain (Route item whole verdict aggs outs reports) is = absurd is
quiet_plain (Tick moment all) is = tt
quiet_plain (Stop moment all) is = tt
quiet_plain (Begin output from to) is = absurd is
quiet_plain (Done output ok reports) is = absurd is

quiet_waits : (setup : Setup) (es : List Entry) (e : Entry) (g : ℕ) → IsLegal setup es → IsQuiet e
    → waiting (es ++ e ∷ []) g ≡ waiting es g
quiet_waits setup es (Gather input moment pieces refused passed filtered metrics group reports) g h is = absurd is
quiet_waits setup es (Ended input) g h is = omega (arith, waits_more setup es (Ended input) g h refl)
quiet_waits setup es (Take item) g h is = omega (arith, waits_more setup es (Take item) g h refl)
quiet_waits setup es (Route item whole verdict aggs outs reports) g h is = absurd is
quiet_waits setup es (Tick moment all) g h is =
    omega (arith, waits_more setup es (Tick moment all) g h refl, count_same (is_of_group g) (length all) made)
quiet_waits setup es (Stop moment all) g h is =
    omega (arith, waits_more setup es (Stop moment all) g h refl, count_same (is_of_group g) (length all) made)
quiet_waits setup es (Begin output from to) g h is = absurd is
quiet_waits setup es (Done output ok reports) g h is = absurd is

pub quiet_copies : (setup : Setup) (es : List Entry) (e : Entry) (g : ℕ) → IsLegal setup es → MeetsLine setup es e
    → IsQuiet e → copies setup (es ++ e ∷ []) g ≡ copies setup es g
quiet_copies setup es e g h m is =
    omega (arith, plain_all setup is_buffered es e g h m (quiet_plain e is), quiet_waits setup es e g h is)

pub quiet_fates : (setup : Setup) (t : Fate → Bool) (es : List Entry) (e : Entry) (g : ℕ) → IsLegal setup es
    → MeetsLine setup es e → IsQuiet e → count_of_fate t setup (es ++ e ∷ []) g ≡ count_of_fate t setup es g
quiet_fates setup t es e g h m is = plain_all setup t es e g h m (quiet_plain e is)

pub begin_copies : (setup : Setup) (es : List Entry) (o from to g : ℕ) (all : List (LaneState (Option ℕ)))
    → IsLegal setup es → MeetsLine setup es (Begin o from to) → AreMarked setup es all
    → copies setup (es ++ Begin o from to ∷ []) g ≡ copies setup es g
begin_copies setup es o from to g all h m are =
    omega (
      arith,
      begin_all setup is_buffered es o from to g all h m are,
      waits_more setup es (Begin o from to) g h refl,
    )
