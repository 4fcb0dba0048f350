-- The Routes of a legal journal come in order.
use Rattle.std.proofs.Common.{◌≡◌, ◌≤◌, ◌+◌, ℕ, List, [], ◌∷◌, ◌++◌, length, refl, sym, arith, subst, zero-add}
use Rattle.std.proofs.Common.{append-nil, append_assoc}
use Rattle.std.specs.declared.option.Option.{Option}
use Rattle.std.specs.declared.option.Option.TheVariants.{Some, None}
use Rattle.account.specs.Setup.{Setup}
use Rattle.account.specs.declared.entry.Entry.{Entry}
use Rattle.account.specs.declared.entry.Entry.TheVariants.{Gather, Ended, Take, Route, Tick, Stop, Begin, Done}
use Rattle.account.specs.Items.{named_by, items, takes_by, taken, held_after, in_hand_from, in_hand, routes_by, routes}
use Rattle.pipeline_core.specs.Legal.{Meets, AreLegal, IsLegal}
use Rattle.pipeline_core.proofs.JournalPush.{taken-push, in_hand-push, few_taken, IsLegal-push}
use Rattle.account.specs.Routes.{IsNextRoute, RoutesInOrder, RouteOnInOrder}
use Rattle.account.proofs.RouteLemmas.{routes-push, known-push, order_split}

-- what is in hand, by how many items were routed and how many taken: nothing where all taken ones were routed, else the
-- last one taken, which is the next to be routed
abbrev pub HandFits : Option ℕ → ℕ → ℕ → Type 0
HandFits None routed fetched = routed ≡ fetched
HandFits (Some item) routed fetched = (item ≡ routed) × (fetched ≡ item + 1)

hand_stays : (held : Option ℕ) (routed fetched : ℕ) → HandFits held routed fetched
    → HandFits held (routed + 0) (fetched + 0)
hand_stays None routed fetched h = omega (arith, h)
hand_stays (Some item) routed fetched h = (omega (arith, h.0), omega (arith, h.1))

hand_after : (setup : Setup) (before : List Entry) (e : Entry) → Meets setup before e
    → HandFits (in_hand before) (routes before) (taken before)
    → HandFits (held_after (in_hand before) e) (routes before + routes_by e) (taken before + takes_by e)
hand_after setup before (Gather input moment pieces refused passed filtered metrics group reports) m h =
    hand_stays (in_hand before) (routes before) (taken before) h
hand_after setup before (Ended input) m h = hand_stays (in_hand before) (routes before) (taken before) h
hand_after setup before (Take item) m h =
    let all : routes before ≡ taken before = subst (λ (held : Option ℕ). HandFits held (routes before) (taken before))
    m.line.empty_handed h in
    (omega (arith, m.line.first, all), omega (arith, m.line.first))
hand_after setup before (Route item whole verdict aggs outs reports) m h =
    let last : (item ≡ routes before) × (taken before ≡ item + 1) =
    subst (λ (held : Option ℕ). HandFits held (routes before) (taken before)) m.line.held h in
    omega (arith, last.0, last.1)
hand_after setup before (Tick moment made) m h = hand_stays (in_hand before) (routes before) (taken before) h
hand_after setup before (Stop moment made) m h = hand_stays (in_hand before) (routes before) (taken before) h
hand_after setup before (Begin output from to) m h = hand_stays (in_hand before) (routes before) (taken before) h
hand_after setup before (Done output ok reports) m h = hand_stays (in_hand before) (routes before) (taken before) h

hand_more : (setup : Setup) (before : List Entry) (e : Entry) → Meets setup before e
    → HandFits (in_hand before) (routes before) (taken before)
    → HandFits (in_hand (before ++ e ∷ [])) (routes (before ++ e ∷ [])) (taken (before ++ e ∷ []))
hand_more setup before e m h = rw (in_hand-push before e, routes-push before e, taken-push before e)
    (hand_after setup before e m h)

is_next : (setup : Setup) (before : List Entry) (e : Entry) → Meets setup before e
    → taken before ≤ length (items before) → HandFits (in_hand before) (routes before) (taken before)
    → IsNextRoute (routes before) (length (items before)) e
is_next setup before (Gather input moment pieces refused passed filtered metrics group reports) m l h = tt
is_next setup before (Ended input) m l h = tt
is_next setup before (Take item) m l h = tt
is_next setup before (Route item whole verdict aggs outs reports) m l h =
    let last : (item ≡ routes before) × (taken before ≡ item + 1) =
    subst (λ (held : Option ℕ). HandFits held (routes before) (taken before)) m.line.held h in
    (last.0, omega (arith, last.0, last.1, l))
is_next setup before (Tick moment made) m l h = tt
is_next setup before (Stop moment made) m l h = tt
is_next setup before (Begin output from to) m l h = tt
is_next setup before (Done output ok reports) m l h = tt

order_before : (before : List Entry) (e : Entry) (es : List Entry) → RouteOnInOrder (before ++ e ∷ []) es
    → RoutesInOrder (routes before + routes_by e) (length (items before) + length (named_by e)) es
order_before before e es h = rw (sym (routes-push before e), sym (known-push before e)) h

order_from : (setup : Setup) (before es : List Entry) → IsLegal setup before → AreLegal setup before es
    → HandFits (in_hand before) (routes before) (taken before) → RouteOnInOrder before es
unfolding AreLegal RoutesInOrder
order_from setup before [] legal more h = tt
order_from setup before (e ∷ es) legal more h = (
  is_next setup before e more.0 (few_taken setup before legal) h,
  order_before before e es (order_from setup (before ++ e ∷ []) es (IsLegal-push setup before e legal more.0) more.1
      (hand_more setup before e more.0 h)),
)

-- the Routes of a legal journal come in order
pub legal_in_order : (setup : Setup) (journal : List Entry) → IsLegal setup journal → RoutesInOrder 0 0 journal
unfolding AreLegal in_hand_from taken routes items
legal_in_order setup journal legal = order_from setup [] journal tt legal refl

-- so do those of its entries behind a front of it
pub legal_rest_in_order : (setup : Setup) (front stored : List Entry) → IsLegal setup (front ++ stored)
    → RouteOnInOrder front stored
legal_rest_in_order setup front stored legal =
    subst (λ (n : ℕ). RoutesInOrder n (length (items front)) stored) (zero-add (routes front))
    (subst (λ (n : ℕ). RoutesInOrder (0 + routes front) n stored) (zero-add (length (items front)))
    (order_split 0 0 front stored (legal_in_order setup (front ++ stored) legal)))

fits_after : (setup : Setup) (before es : List Entry) → AreLegal setup before es
    → HandFits (in_hand before) (routes before) (taken before)
    → HandFits (in_hand (before ++ es)) (routes (before ++ es)) (taken (before ++ es))
unfolding AreLegal
fits_after setup before [] h l = rw append-nil l
fits_after setup before (e ∷ es) h l =
    subst (λ (p : List Entry). HandFits (in_hand p) (routes p) (taken p)) (append_assoc before (e ∷ []) es)
    (fits_after setup (before ++ e ∷ []) es h.1 (hand_more setup before e h.0 l))

fits_few : (held : Option ℕ) (routed fetched : ℕ) → HandFits held routed fetched → routed ≤ fetched
fits_few None routed fetched h = omega (arith, h)
fits_few (Some item) routed fetched h = omega (arith, h.0, h.1)

-- what is in hand, routed and taken fit in a legal journal
pub hand_fits : (setup : Setup) (es : List Entry) → IsLegal setup es → HandFits (in_hand es) (routes es) (taken es)
unfolding in_hand_from taken routes
hand_fits setup es h = fits_after setup [] es h refl

-- no more items are routed than were taken
pub few_routed : (setup : Setup) (es : List Entry) → IsLegal setup es → routes es ≤ taken es
few_routed setup es h = fits_few (in_hand es) (routes es) (taken es) (hand_fits setup es h)
