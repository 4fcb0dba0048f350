-- One event more.
use Rattle.std.proofs.Common.{◌≡◌, ◌≤◌, ◌+◌, ◌++◌, ◌||◌, ℕ, ℤ, Bool, true, false, cond, List, [], ◌∷◌, length, map}
use Rattle.std.proofs.Common.{Some, None, Option, refl, sym, ap, ◌∙◌, zero, suc, arith, append_assoc, length-append}
use Rattle.std.proofs.lemmas.List.{append-nil, map-append}
use Rattle.std.proofs.lemmas.List.Concat.{flat_map-append}
use Rattle.std.proofs.lemmas.List.Folds.{list_any-append}
use Rattle.std.proofs.lemmas.List.Sums.{count_by-le-length, fold_push, length-filter, sum_by-cons}
use Rattle.std.specs.Int.{int_max}
use Rattle.std.specs.List.{fold, list_any}
use Rattle.std.specs.Prelude.{◌-ℤ◌, if◌then◌else◌, is_some, option_and_then, slice_get}
use Rattle.account.specs.declared.setup.AggLine.{AggLine}
use Rattle.account.specs.declared.setup.AggWord.{AggWord}
use Rattle.account.specs.declared.setup.AggWord.TheVariants.{MinMax, Basic, Merge, Final}
use Rattle.metric.specs.declared.metric.Content.{Content}
use Rattle.agg_keep.specs.declared.closing.Closing.{Closing}
use Rattle.agg_bank.specs.Events.{closing_event, has_stopped, has_view, is_stop, offered, tick_in, ticks_of, view_at}
use Rattle.agg_bank.specs.Events.{BankEvent, Offer, Stop, Tick}
use Rattle.agg_bank.specs.Members.{left, members, members_from, members_with, taken_of}
use Rattle.agg_bank.specs.Windows.{closing_at, takes, window_at, window_number}

-- ---- the window and the stop

pub number-tick : (line : AggLine) (start : ℤ) (events : List BankEvent) (moment : ℤ)
    → window_number line start (events ++ Tick moment ∷ [])
    ≡ int_max (window_number line start events) (window_at line (moment -ℤ line.delay))
number-tick line start events moment =
    let at = λ (moment : ℤ). window_at line (moment -ℤ line.delay) in
    ap (λ moments. fold int_max (window_at line start) (map at moments))
    (flat_map-append tick_in events (Tick moment ∷ []))
    ∙ ap (fold int_max (window_at line start)) (map-append at (ticks_of events) (moment ∷ []))
    ∙ fold_push int_max (window_at line start) (map at (ticks_of events)) (at moment)

pub number-same : (line : AggLine) (start : ℤ) (events : List BankEvent) (e : BankEvent) → tick_in e ≡ []
    → window_number line start (events ++ e ∷ []) ≡ window_number line start events
number-same line start events e none =
    let at = λ (moment : ℤ). window_at line (moment -ℤ line.delay) in
    ap (λ moments. fold int_max (window_at line start) (map at moments))
    (flat_map-append tick_in events (e ∷ []) ∙ ap (λ moments. ticks_of events ++ (moments ++ [])) none
    ∙ append-nil (ticks_of events))

or_false : (t : Bool) → (t || false) ≡ t
or_false true = refl
or_false false = refl

pub stopped-same : (events : List BankEvent) (e : BankEvent) → is_stop e ≡ false
    → has_stopped (events ++ e ∷ []) ≡ has_stopped events
stopped-same events e goes =
    list_any-append is_stop events (e ∷ []) ∙ ap (λ t. has_stopped events || (t || false)) goes
    ∙ or_false (has_stopped events)

pub stopped-closing : (events : List BankEvent) (all : Bool) (moment : ℤ)
    → has_stopped (events ++ closing_event all moment ∷ []) ≡ (has_stopped events || all)
stopped-closing events true moment = list_any-append is_stop events (Stop moment ∷ [])
stopped-closing events false moment = list_any-append is_stop events (Tick moment ∷ [])

-- ---- the members

module _ (aggregator : ℕ) (line : AggLine) (start : ℤ) where
  from-push : (before : List BankEvent) (ms : List Content) (es : List BankEvent) (e : BankEvent)
      → members_from aggregator line start before ms (es ++ e ∷ [])
      ≡ members_with aggregator line start (before ++ es) (members_from aggregator line start before ms es) e
  unfolding members_from
  from-push before ms [] e = ap (λ b. members_with aggregator line start b ms e) (sym (append-nil before))
  from-push before ms (x ∷ es) e =
      let next = members_with aggregator line start before ms x in
      let rest = members_from aggregator line start (before ++ x ∷ []) next es in
      from-push (before ++ x ∷ []) next es e
      ∙ ap (λ b. members_with aggregator line start b rest e) (append_assoc before (x ∷ []) es)

  pub members-push : (events : List BankEvent) (e : BankEvent) → members aggregator line start (events ++ e ∷ [])
      ≡ members_with aggregator line start events (members aggregator line start events) e
  members-push events e = from-push [] [] events e

  pub members-offer : (events : List BankEvent) (views : List (Option Content)) (view : Option Content)
      → slice_get views aggregator ≡ Some view → members aggregator line start (events ++ Offer views ∷ [])
      ≡ members aggregator line start events ++ taken_of line start events view
  members-offer events views view is =
      members-push events (Offer views)
      ∙ ap (λ (seen : Option (Option Content)). members aggregator line start events
      ++ taken_of line start events (option_and_then (λ v. v) seen)) is

  pub members-close : (events : List BankEvent) (e : BankEvent) → view_at aggregator e ≡ None
      → members aggregator line start (events ++ e ∷ [])
      ≡ left line.kind (closing_at line start events e) (members aggregator line start events)
  members-close events e none =
      let kept = left line.kind (closing_at line start events e) (members aggregator line start events) in
      members-push events e ∙ ap (λ (seen : Option Content). kept ++ taken_of line start events seen) none
      ∙ append-nil kept

-- ---- how many they are

left_few : (kind : AggWord) (closing : Option Closing) (ms : List Content)
    → length (left kind closing ms) ≤ length ms
left_few kind None ms = omega arith
left_few MinMax (Some closing) ms = omega arith
left_few (Basic sum count min max) (Some closing) ms = omega arith
left_few Merge (Some closing) ms = omega arith
left_few (Final timeout) (Some closing) ms =
    omega (arith, length-filter {X = Content}, count_by-le-length {X = Content})

one_if : (t : Bool) (m : Content) → length (if t then m ∷ [] else []) ≤ 1
one_if true m = omega arith
one_if false m = omega arith

taken_few : (line : AggLine) (start : ℤ) (before : List BankEvent) (view : Option Content)
    → length (taken_of line start before view) ≤ cond (is_some view) 1 0
taken_few line start before None = omega arith
taken_few line start before (Some m) = one_if (takes line start before m) m

at_most_one : (t : Bool) → cond t 1 0 ≤ 1
at_most_one true = omega arith
at_most_one false = omega arith

seen_among : (aggregator : ℕ) (views : List (Option Content))
    → cond (is_some (option_and_then (λ v. v) (slice_get views aggregator))) 1 0 ≤ cond (list_any is_some views) 1 0
seen_among aggregator [] = omega arith
seen_among zero (None ∷ views) = omega arith
seen_among zero (Some m ∷ views) = omega arith
seen_among (suc aggregator) (None ∷ views) = seen_among aggregator views
seen_among (suc aggregator) (Some m ∷ views) =
    at_most_one (is_some (option_and_then (λ v. v) (slice_get views aggregator)))

seen_offered : (aggregator : ℕ) (e : BankEvent) → cond (is_some (view_at aggregator e)) 1 0 ≤ cond (has_view e) 1 0
seen_offered aggregator (Offer views) = seen_among aggregator views
seen_offered aggregator (Tick moment) = omega arith
seen_offered aggregator (Stop moment) = omega arith

module _ (aggregator : ℕ) (line : AggLine) (start : ℤ) where
  with_few : (before : List BankEvent) (ms : List Content) (e : BankEvent)
      → length (members_with aggregator line start before ms e) ≤ length ms + cond (has_view e) 1 0
  with_few before ms e =
      let closing = closing_at line start before e in
      let view = view_at aggregator e in
      omega (
        arith,
        length-append (left line.kind closing ms) (taken_of line start before view),
        left_few line.kind closing ms,
        taken_few line start before view,
        seen_offered aggregator e,
      )

  from_few : (before : List BankEvent) (ms : List Content) (es : List BankEvent)
      → length (members_from aggregator line start before ms es) ≤ length ms + offered es
  unfolding members_from
  from_few before ms [] = omega arith
  from_few before ms (e ∷ es) =
      omega (
        arith,
        with_few before ms e,
        sum_by-cons (λ x. cond (has_view x) 1 0) e es,
        from_few (before ++ e ∷ []) (members_with aggregator line start before ms e) es,
      )

  pub members_few : (events : List BankEvent) → length (members aggregator line start events) ≤ offered events
  members_few events = omega (arith, from_few [] [] events)
