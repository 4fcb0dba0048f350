-- What a journal is to its aggregators, with one entry more.
use Rattle.std.proofs.Common.{◌≡◌, ◌<◌, ◌≤◌, ◌+◌, ℕ, zero, suc, Bool, true, false, List, [], ◌∷◌, ◌++◌, length}
use Rattle.std.proofs.Common.{drop}
use Rattle.std.proofs.Common.{map, get_or, refl, sym, ap, ◌∙◌, subst, arith, append_assoc, append-nil}
use Rattle.std.specs.Prelude.{cond, count_by, is_some, not, replicate, slice_get}
use Rattle.std.specs.List.{list_any, AllByRecursion}
use Rattle.std.proofs.lemmas.List.{drop-append-le, drop-drop}
use Rattle.std.proofs.lemmas.List.Sums.{sum_by-append, sum_by-cons}
use Rattle.std.specs.declared.option.Option.{Option}
use Rattle.std.specs.declared.option.Option.TheVariants.{Some, None}
use Rattle.account.specs.Setup.{Setup}
use Rattle.account.specs.Items.{in_hand, routes, routes_by, taken}
use Rattle.account.specs.Origins.{is_made, made, origins, origins_by, unrouted, Origin}
use Rattle.account.specs.declared.entry.Entry.{Entry}
use Rattle.account.specs.declared.entry.Entry.TheVariants.{Gather, Ended, Take, Route, Tick, Stop, Begin, Done}
use Rattle.metric.specs.declared.metric.Content.{Content}
use Rattle.account.proofs.OriginLemmas.{origins-match, origins-push}
use Rattle.account.proofs.RouteLemmas.{routes-push}
use Rattle.agg_bank.specs.Events.{has_view, offered, BankEvent}
use Rattle.agg_bank.specs.Events as events
use Rattle.pipeline_core.specs.Legal.{gathered_by, gathered_count, AreLegal, IsLegal, Meets}
use Rattle.pipeline_core.specs.Stands.{was_made}
use Rattle.pipeline_core.specs.Windows.{bank_events, bank_events_by, offered_to}
use Rattle.pipeline_core.proofs.JournalPush.{few_taken, gathered_count-push, IsLegal-push}
use Rattle.pipeline_core.proofs.RouteLemmas.{few_routed, hand_fits, HandFits}

pub bank_events-push : (es : List Entry) (e : Entry) → bank_events (es ++ e ∷ []) ≡ bank_events es ++ bank_events_by e
bank_events-push [] e = append-nil (bank_events_by e)
bank_events-push (x ∷ es) e =
    ap (λ (more : List BankEvent). bank_events_by x ++ more) (bank_events-push es e)
    ∙ sym (append_assoc (bank_events_by x) (bank_events es) (bank_events_by e))

some_same : (a b : ℕ) → Some a ≡ Some b → a ≡ b
some_same a b h = cc

some_mark : (a b : Bool) → Some a ≡ Some b → a ≡ b
some_mark a b h = cc

map_append : (xs ys : List Origin) → map was_made (xs ++ ys) ≡ map was_made xs ++ map was_made ys
map_append [] ys = refl
map_append (x ∷ xs) ys = ap (λ (all : List Bool). was_made x ∷ all) (map_append xs ys)

map_drop : (n : ℕ) (xs : List Origin) → map was_made (drop n xs) ≡ drop n (map was_made xs)
map_drop zero xs = refl
map_drop (suc n) [] = refl
map_drop (suc n) (x ∷ xs) = map_drop n xs

unrouted-push : (setup : Setup) (es : List Entry) (e : Entry) → IsLegal setup es
    → unrouted (es ++ e ∷ []) ≡ drop (routes_by e) (unrouted es ++ origins_by e)
unrouted-push setup es e h =
    ap (drop (routes (es ++ e ∷ []))) (origins-push es e) ∙ ap (λ (n : ℕ). drop n (origins es ++ origins_by e))
    (routes-push es e ∙ omega arith) ∙ sym (drop-drop (routes_by e) (routes es) (origins es ++ origins_by e))
    ∙ ap (drop (routes_by e)) (drop-append-le (routes es) (origins es) (origins_by e)
    (omega (arith, few_routed setup es h, few_taken setup es h, origins-match es)))

-- which of the items without a Route were made
pub marks-push : (setup : Setup) (es : List Entry) (e : Entry) → IsLegal setup es
    → map was_made (unrouted (es ++ e ∷ []))
    ≡ drop (routes_by e) (map was_made (unrouted es) ++ map was_made (origins_by e))
marks-push setup es e h =
    ap (map was_made) (unrouted-push setup es e h) ∙ map_drop (routes_by e) (unrouted es ++ origins_by e)
    ∙ ap (drop (routes_by e)) (map_append (unrouted es) (origins_by e))

-- what stands first behind so many of a list
first_behind : (n : ℕ) (xs : List Origin) → n < length xs
    → slice_get (map was_made (drop n xs)) 0 ≡ Some (was_made (get_or xs n made))
first_behind n [] l = absurd (omega (arith, l))
first_behind zero (x ∷ xs) l = refl
first_behind (suc n) (x ∷ xs) l = first_behind n xs (omega (arith, l))

held_is_next : (held : Option ℕ) (routed fetched item : ℕ) → HandFits held routed fetched → held ≡ Some item
    → (item ≡ routed) × (fetched ≡ item + 1)
held_is_next None routed fetched item h is = absurd (let x : None ≡ Some item = is in cc)
held_is_next (Some other) routed fetched item h is =
    let same : other ≡ item = some_same other item is in
    (omega (arith, h.0, same), omega (arith, h.1, same))

-- the mark of the item in hand stands first
pub mark_in_hand : (setup : Setup) (es : List Entry) (item : ℕ) → IsLegal setup es → in_hand es ≡ Some item
    → slice_get (map was_made (unrouted es)) 0 ≡ Some (is_made es item)
mark_in_hand setup es item h is =
    let next : (item ≡ routes es) × (taken es ≡ item + 1) =
    held_is_next (in_hand es) (routes es) (taken es) item (hand_fits setup es h) is in
    first_behind (routes es) (origins es) (omega (arith, next.0, next.1, few_taken setup es h, origins-match es))
    ∙ ap (λ (n : ℕ). Some (is_made es n)) (sym next.0)

-- ---- few items are offered

-- the marks of the items without a Route
abbrev marks : List Entry → List Bool
marks es = map was_made (unrouted es)

gathered_first : (xs : List Bool) → count_by not (false ∷ xs) ≡ 1 + count_by not xs
gathered_first xs = sum_by-cons (λ (x : Bool). cond (not x) 1 0) false xs

made_first : (xs : List Bool) → count_by not (true ∷ xs) ≡ 0 + count_by not xs
made_first xs = sum_by-cons (λ (x : Bool). cond (not x) 1 0) true xs

count-append : (xs ys : List Bool) → count_by not (xs ++ ys) ≡ count_by not xs + count_by not ys
count-append xs ys = sum_by-append (λ (x : Bool). cond (not x) 1 0) xs ys

count_gathered : (n input : ℕ) (group : Option ℕ)
    → count_by not (map was_made (replicate n (record { input = Some input; group = group }))) ≡ n
count_gathered zero input group = refl
count_gathered (suc n) input group = omega (
  arith,
  gathered_first (map was_made (replicate n (record { input = Some input; group = group }))),
  count_gathered n input group,
)

count_made : (n : ℕ) → count_by not (map was_made (replicate n made)) ≡ 0
count_made zero = refl
count_made (suc n) = omega (arith, made_first (map was_made (replicate n made)), count_made n)

none_seen : (views : List (Option Content)) → AllByRecursion (λ (view : Option Content). view ≡ None) views
    → list_any is_some views ≡ false
none_seen [] h = refl
none_seen (None ∷ views) h = none_seen views h.1
none_seen (Some m ∷ views) h = absurd (let x : Some m ≡ None = h.0 in cc)

offered-append : (xs ys : List BankEvent) → offered (xs ++ ys) ≡ offered xs + offered ys
offered-append xs ys = sum_by-append (λ (x : BankEvent). cond (has_view x) 1 0) xs ys

offered_one : (aggs : List (Option Content)) → offered (events.Offer aggs ∷ []) ≡ cond (list_any is_some aggs) 1 0
offered_one aggs = sum_by-cons (λ (x : BankEvent). cond (has_view x) 1 0) (events.Offer aggs) [] ∙ omega arith

at_most_one : (b : Bool) → cond b 1 0 ≤ 1
at_most_one true = omega arith
at_most_one false = omega arith

one_offer : (whole : Option Content) (aggs : List (Option Content)) → offered (offered_to whole aggs) ≤ 1
one_offer None aggs = omega arith
one_offer (Some whole) aggs = rw (offered_one aggs) (at_most_one (list_any is_some aggs))

no_offer : (whole : Option Content) (aggs : List (Option Content))
    → AllByRecursion (λ (view : Option Content). view ≡ None) aggs → offered (offered_to whole aggs) ≡ 0
no_offer None aggs h = refl
no_offer (Some whole) aggs h = offered_one aggs ∙ ap (λ (b : Bool). cond b 1 0) (none_seen aggs h)

-- an item that is routed is gone from the marks: a made one is offered with no view
offers_routed : (all : List Bool) (mark : Bool) (offers : ℕ) → slice_get all 0 ≡ Some mark → offers ≤ 1
    → (mark ≡ true → offers ≡ 0) → offers + count_by not (drop 1 (all ++ [])) ≤ count_by not all
offers_routed [] mark offers first few none = absurd (let x : None ≡ Some mark = first in cc)
offers_routed (true ∷ all) mark offers first few none =
    let is : true ≡ mark = some_mark true mark first in
    omega (arith, none (sym is), made_first all, ap (count_by not) (append-nil all))
offers_routed (false ∷ all) mark offers first few none =
    omega (arith, few, gathered_first all, ap (count_by not) (append-nil all))

-- so many were offered at most, with one entry more
offers_with : (setup : Setup) (before : List Entry) (e : Entry) → IsLegal setup before → Meets setup before e
    → offered (bank_events_by e) + count_by not (drop (routes_by e) (marks before ++ map was_made (origins_by e)))
    ≤ count_by not (marks before) + gathered_by e
offers_with setup before (Gather input moment pieces refused passed filtered metrics group reports) h m =
    omega (
      arith,
      count-append (marks before) (map was_made (replicate (length metrics)
          (record { input = Some input; group = group }))),
      count_gathered (length metrics) input group,
    )
offers_with setup before (Ended input) h m = omega (arith, ap (count_by not) (append-nil (marks before)))
offers_with setup before (Take item) h m = omega (arith, ap (count_by not) (append-nil (marks before)))
offers_with setup before (Route item whole verdict aggs outs reports) h m =
    omega (
      arith,
      offers_routed (marks before) (is_made before item) (offered (offered_to whole aggs))
          (mark_in_hand setup before item h m.line.held) (one_offer whole aggs)
          (λ is. no_offer whole aggs (m.line.made is)),
    )
offers_with setup before (Tick moment metrics) h m =
    omega (
      arith,
      count-append (marks before) (map was_made (replicate (length metrics) made)),
      count_made (length metrics),
    )
offers_with setup before (Stop moment metrics) h m =
    omega (
      arith,
      count-append (marks before) (map was_made (replicate (length metrics) made)),
      count_made (length metrics),
    )
offers_with setup before (Begin output from to) h m = omega (arith, ap (count_by not) (append-nil (marks before)))
offers_with setup before (Done output ok reports) h m = omega (arith, ap (count_by not) (append-nil (marks before)))

abbrev FewOffered : List Entry → Type 0
FewOffered es = offered (bank_events es) + count_by not (marks es) ≤ gathered_count es

few_with : (setup : Setup) (before : List Entry) (e : Entry) → IsLegal setup before → Meets setup before e
    → FewOffered before → FewOffered (before ++ e ∷ [])
few_with setup before e h m few =
    omega (
      arith,
      ap offered (bank_events-push before e),
      offered-append (bank_events before) (bank_events_by e),
      ap (count_by not) (marks-push setup before e h),
      gathered_count-push before e,
      offers_with setup before e h m,
      few,
    )

few_after : (setup : Setup) (before es : List Entry) → IsLegal setup before → AreLegal setup before es
    → FewOffered before → FewOffered (before ++ es)
unfolding AreLegal
few_after setup before [] h more few = rw append-nil few
few_after setup before (e ∷ es) h more few =
    subst FewOffered (append_assoc before (e ∷ []) es)
    (few_after setup (before ++ e ∷ []) es (IsLegal-push setup before e h more.0) more.1
    (few_with setup before e h more.0 few))

-- no more items were offered with a view than were gathered
pub few_offered : (setup : Setup) (es : List Entry) → IsLegal setup es → offered (bank_events es) ≤ gathered_count es
unfolding AreLegal origins routes gathered_count
few_offered setup es h = omega (arith, few_after setup [] es tt h (omega arith))
