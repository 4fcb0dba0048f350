-- What a journal says with one entry more.
use Rattle.std.proofs.Common.{◌≡◌, ◌≤◌, ℕ, ℤ, ◌+◌, Bool, true, false, ◌||◌, List, [], ◌∷◌, ◌++◌, length, drop}
use Rattle.std.proofs.Common.{refl, sym, ap, ◌∙◌, subst, arith, append_assoc, append-nil, length-append}
use Rattle.std.proofs.lemmas.List.{drop-append-le, drop-drop}
use Rattle.std.proofs.Math.Bool.{or-false}
use Rattle.std.specs.declared.option.Option.{Option}
use Rattle.std.specs.declared.option.Option.TheVariants.{None}
use Rattle.account.specs.Setup.{Setup}
use Rattle.account.specs.Items.{named_by, items, takes_by, taken, raw_items, held_after, in_hand_from}
use Rattle.account.specs.Items.{in_hand}
use Rattle.account.proofs.ItemLemmas.{items-push}
use Rattle.account.specs.declared.entry.Entry.{Entry}
use Rattle.account.specs.declared.entry.Entry.TheVariants.{Gather, Ended, Take, Route, Tick, Stop, Begin}
use Rattle.account.specs.declared.entry.Entry.TheVariants.{Done}
use Rattle.out_lane.specs.LaneEvents.{LaneEvent}
use Rattle.pipeline_core.specs.declared.output.Offer.{Offer}
use Rattle.pipeline_core.specs.Offers.{offers, offered_by, lane_events, lane_events_by}
use Rattle.pipeline_core.specs.Legal.{has_stop, is_stop, has_ended, is_ended_of, gathered_count, gathered_by}
use Rattle.pipeline_core.specs.Legal.{counted_from, moment_after, Meets, AreLegal, IsLegal}

pub taken-push : (es : List Entry) (e : Entry) → taken (es ++ e ∷ []) ≡ taken es + takes_by e
unfolding taken
taken-push [] e = omega arith
taken-push (x ∷ es) e = omega (arith, taken-push es e)

in_hand_from-push : (held : Option ℕ) (es : List Entry) (e : Entry) →
    in_hand_from held (es ++ e ∷ []) ≡ held_after (in_hand_from held es) e
unfolding in_hand_from
in_hand_from-push held [] e = refl
in_hand_from-push held (x ∷ es) e = in_hand_from-push (held_after held x) es e

pub in_hand-push : (es : List Entry) (e : Entry) → in_hand (es ++ e ∷ []) ≡ held_after (in_hand es) e
in_hand-push es e = in_hand_from-push None es e

pub offers-push : (o : ℕ) (es : List Entry) (e : Entry) →
    offers o (es ++ e ∷ []) ≡ offers o es ++ offered_by o e
unfolding offers
offers-push o [] e = append-nil (offered_by o e)
offers-push o (x ∷ es) e =
    ap (λ (ms : List Offer). offered_by o x ++ ms) (offers-push o es e)
    ∙ sym (append_assoc (offered_by o x) (offers o es) (offered_by o e))

pub lane_events-push : (o : ℕ) (es : List Entry) (e : Entry) →
    lane_events o (es ++ e ∷ []) ≡ lane_events o es ++ lane_events_by o e
unfolding lane_events
lane_events-push o [] e = append-nil (lane_events_by o e)
lane_events-push o (x ∷ es) e =
    ap (λ (ls : List LaneEvent). lane_events_by o x ++ ls) (lane_events-push o es e)
    ∙ sym (append_assoc (lane_events_by o x) (lane_events o es) (lane_events_by o e))

or_assoc : (a b c : Bool) → (a || (b || c)) ≡ ((a || b) || c)
or_assoc true b c = refl
or_assoc false b c = refl

pub has_stop-push : (es : List Entry) (e : Entry) → has_stop (es ++ e ∷ []) ≡ (has_stop es || is_stop e)
unfolding has_stop
has_stop-push [] e = or-false (is_stop e)
has_stop-push (x ∷ es) e =
    ap (λ (b : Bool). is_stop x || b) (has_stop-push es e) ∙ or_assoc (is_stop x) (has_stop es) (is_stop e)

pub has_ended-push : (input : ℕ) (es : List Entry) (e : Entry) →
    has_ended input (es ++ e ∷ []) ≡ (has_ended input es || is_ended_of input e)
unfolding has_ended
has_ended-push input [] e = or-false (is_ended_of input e)
has_ended-push input (x ∷ es) e =
    ap (λ (b : Bool). is_ended_of input x || b) (has_ended-push input es e)
    ∙ or_assoc (is_ended_of input x) (has_ended input es) (is_ended_of input e)

pub gathered_count-push : (es : List Entry) (e : Entry) →
    gathered_count (es ++ e ∷ []) ≡ gathered_count es + gathered_by e
unfolding gathered_count
gathered_count-push [] e = omega arith
gathered_count-push (x ∷ es) e = omega (arith, gathered_count-push es e)

pub counted_from-push : (counted : ℤ) (es : List Entry) (e : Entry) →
    counted_from counted (es ++ e ∷ []) ≡ moment_after (counted_from counted es) e
unfolding counted_from
counted_from-push counted [] e = refl
counted_from-push counted (x ∷ es) e = counted_from-push (moment_after counted x) es e

legal-push : (setup : Setup) (before es : List Entry) (e : Entry) → AreLegal setup before es →
    Meets setup (before ++ es) e → AreLegal setup before (es ++ e ∷ [])
unfolding AreLegal
legal-push setup before [] e h m = (subst (λ (p : List Entry). Meets setup p e) (append-nil before) m, tt)
legal-push setup before (x ∷ es) e h m = (
  h.0,
  legal-push setup (before ++ x ∷ []) es e h.1 (subst (λ (p : List Entry). Meets setup p e)
      (sym (append_assoc before (x ∷ []) es)) m),
)

-- a legal journal with an entry that may come
pub IsLegal-push : (setup : Setup) (es : List Entry) (e : Entry) → IsLegal setup es → Meets setup es e →
    IsLegal setup (es ++ e ∷ [])
IsLegal-push setup es e h m = legal-push setup [] es e h m

-- no more items are taken than there are
within_by : (setup : Setup) (before : List Entry) (e : Entry) → Meets setup before e →
    taken before ≤ length (items before) →
    taken before + takes_by e ≤ length (items before) + length (named_by e)
within_by setup before (Gather input moment pieces refused passed filtered metrics group reports) m h =
    omega arith
within_by setup before (Ended input) m h = omega arith
within_by setup before (Take item) m h = omega (arith, m.line.first, m.line.raw)
within_by setup before (Route item whole verdict aggs outs reports) m h = omega arith
within_by setup before (Tick moment made) m h = omega arith
within_by setup before (Stop moment made) m h = omega arith
within_by setup before (Begin number from to) m h = omega arith
within_by setup before (Done number ok reports) m h = omega arith

taken_within : (setup : Setup) (before es : List Entry) → AreLegal setup before es →
    taken before ≤ length (items before) → taken (before ++ es) ≤ length (items (before ++ es))
unfolding AreLegal
taken_within setup before [] h l = rw append-nil l
taken_within setup before (e ∷ es) h l =
    subst (λ (p : List Entry). taken p ≤ length (items p)) (append_assoc before (e ∷ []) es)
    (taken_within setup (before ++ e ∷ []) es h.1 (rw (taken-push before e, items-push before e)
    (omega (arith, length-append (items before) (named_by e), within_by setup before e h.0 l))))

pub few_taken : (setup : Setup) (es : List Entry) → IsLegal setup es → taken es ≤ length (items es)
unfolding items taken
few_taken setup es h = taken_within setup [] es h (omega arith)

-- what is raw with one entry more
pub raw_items-push : (setup : Setup) (es : List Entry) (e : Entry) → IsLegal setup es →
    raw_items (es ++ e ∷ []) ≡ drop (takes_by e) (raw_items es ++ named_by e)
raw_items-push setup es e h =
    ap (drop (taken (es ++ e ∷ []))) (items-push es e) ∙ ap (λ (n : ℕ). drop n (items es ++ named_by e))
    (taken-push es e ∙ omega arith) ∙ sym (drop-drop (takes_by e) (taken es) (items es ++ named_by e))
    ∙ ap (drop (takes_by e)) (drop-append-le (taken es) (items es) (named_by e) (few_taken setup es h))
