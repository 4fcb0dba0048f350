-- What an output was sent, with one entry more.
use Rattle.std.proofs.Common.{◌≡◌, ℕ, ◌+◌, ◌-◌, ◌<◌, ◌==◌, min, Bool, true, false, List, [], ◌∷◌, ◌++◌, length, take}
use Rattle.std.proofs.Common.{drop, if◌then◌else◌, inl, inr, refl, sym, ap, ◌∙◌, arith, subst, append_assoc, append-nil}
use Rattle.std.proofs.lemmas.List.{length-drop, take_all}
use Rattle.std.proofs.lemmas.Bool.{cases_lt}
use Rattle.std.proofs.Math.ListN.{drop_of_length-le}
use Rattle.std.specs.declared.option.Option.{Option}
use Rattle.std.specs.declared.option.Option.TheVariants.{Some, None}
use Rattle.metric.specs.declared.metric.Content.{Content}
use Rattle.account.specs.declared.entry.Entry.{Entry}
use Rattle.account.specs.declared.entry.Entry.TheVariants.{Gather, Ended, Take, Route, Tick, Stop, Begin, Done}
use Rattle.out_lane.specs.Lane.{LaneState}
use Rattle.out_lane.specs.LaneEvents.{LaneEvent, Ranges, ranges_after, ranges_from, ranges_of}
use Rattle.out_lane.specs.LaneEvents as events
use Rattle.out_lane.specs.LaneLaws.{no_ranges, oldest_waiting}
use Rattle.pipeline_core.specs.CoreState.{CoreState, lane_at}
use Rattle.pipeline_core.specs.Offers.{offers, offered_by, lane_events, lane_events_by, pushes, offered, view_at}
use Rattle.pipeline_core.specs.Offers.{offered_views}
use Rattle.pipeline_core.specs.declared.output.Offer.{Offer}
use Rattle.account.specs.declared.entry.Report.{Report}
use Rattle.account.specs.Says.{DoneSays, done_of}
use Rattle.pipeline_core.specs.Stands.{Stands}
use Rattle.pipeline_core.specs.Steps.{batch_views, IsBatchOf}
use Rattle.pipeline_core.specs.declared.batches.Batch.{Batch}
use Rattle.pipeline_core.proofs.JournalPush.{offers-push}
use Rattle.pipeline_core.proofs.Keeping.{same_number}
use Rattle.pipeline_core.specs.Sent.{BatchSays, views_in, begun_after, batches_by, batches_from, batches, IsPart}
use Rattle.pipeline_core.specs.Sent.{AreSent, Sent}

-- the range that is begun after some entries, where this one was begun before them
unfoldable pub begun_from : ℕ → Option (ℕ × ℕ) → List Entry → Option (ℕ × ℕ)
begun_from output begun [] = begun
begun_from output begun (e ∷ es) = begun_from output (begun_after output begun e) es

pub begun_from-push : (output : ℕ) (begun : Option (ℕ × ℕ)) (es : List Entry) (e : Entry)
    → begun_from output begun (es ++ e ∷ []) ≡ begun_after output (begun_from output begun es) e
unfolding begun_from
begun_from-push output begun [] e = refl
begun_from-push output begun (d ∷ es) e = begun_from-push output (begun_after output begun d) es e

ranges_from-append : (r : Ranges) (es more : List LaneEvent)
    → ranges_from r (es ++ more) ≡ ranges_from (ranges_from r es) more
unfolding ranges_from
ranges_from-append r [] more = refl
ranges_from-append r (e ∷ es) more = ranges_from-append (ranges_after r e) es more

pushed-begun : (r : Ranges) (views : List Offer) → (ranges_from r (pushes views)).begun ≡ r.begun
unfolding ranges_from
pushed-begun r [] = refl
pushed-begun r (view ∷ views) = pushed-begun (record r { pushed = r.pushed + 1 }) views

begin-begun : (r : Ranges) (from to : ℕ) (here : Bool) → (ranges_from r
    (if here then events.Begin from to ∷ [] else [])).begun ≡ (if here then Some (from, to) else r.begun)
unfolding ranges_from
begin-begun r from to true = refl
begin-begun r from to false = refl

done-begun : (r : Ranges) (ok here : Bool) → (ranges_from r (if here then events.Done ok ∷ [] else [])).begun
    ≡ (if here then None else r.begun)
unfolding ranges_from
done-begun r ok true = refl
done-begun r ok false = refl

entry-begun : (output : ℕ) (r : Ranges) (e : Entry) → (ranges_from r (lane_events_by output e)).begun ≡ begun_after
    output r.begun e
unfolding ranges_from
entry-begun output r (Gather input moment pieces refused passed filtered metrics group reports) = refl
entry-begun output r (Ended input) = refl
entry-begun output r (Take item) = refl
entry-begun output r (Route item whole verdict aggs outs reports) =
    pushed-begun r (offered item verdict (view_at output outs))
entry-begun output r (Tick moment made) = refl
entry-begun output r (Stop moment made) = refl
entry-begun output r (Begin number from to) = begin-begun r from to (number == output)
entry-begun output r (Done number ok reports) = done-begun r ok (number == output)

begun_from-ranges : (output : ℕ) (r : Ranges) (es : List Entry)
    → begun_from output r.begun es ≡ (ranges_from r (lane_events output es)).begun
unfolding begun_from lane_events ranges_from
begun_from-ranges output r [] = refl
begun_from-ranges output r (e ∷ es) =
    ap (λ (b : Option (ℕ × ℕ)). begun_from output b es) (sym (entry-begun output r e))
    ∙ begun_from-ranges output (ranges_from r (lane_events_by output e)) es
    ∙ ap (λ (x : Ranges). x.begun) (sym (ranges_from-append r (lane_events_by output e) (lane_events output es)))

-- the range that is begun is the one of the events at the output
pub begun_is : (output : ℕ) (es : List Entry) → begun_from output None es ≡ (ranges_of (lane_events output es)).begun
begun_is output es = begun_from-ranges output no_ranges es

batches_from-push : (output : ℕ) (views : List Offer) (begun : Option (ℕ × ℕ)) (es : List Entry) (e : Entry) →
    batches_from output views begun (es ++ e ∷ []) ≡ batches_from output views begun es
    ++ batches_by output (views ++ offers output es) (begun_from output begun es) e
unfolding batches_from offers begun_from
batches_from-push output views begun [] e =
    append-nil (batches_by output views begun e) ∙ ap (λ (vs : List Offer). batches_by output vs begun e)
    (sym (append-nil views))
batches_from-push output views begun (d ∷ es) e =
    let more : List Offer = views ++ offered_by output d in
    let next : Option (ℕ × ℕ) = begun_after output begun d in
    ap (λ (bs : List BatchSays). batches_by output views begun d ++ bs)
    (batches_from-push output more next es e
    ∙ ap (λ (vs : List Offer). batches_from output more next es ++ batches_by output vs (begun_from output next es) e)
    (append_assoc views (offered_by output d) (offers output es)))
    ∙ sym (append_assoc (batches_by output views begun d) (batches_from output more next es)
    (batches_by output (views ++ (offered_by output d ++ offers output es)) (begun_from output next es) e))

-- the batches, with one entry more
pub batches-push : (output : ℕ) (es : List Entry) (e : Entry)
    → batches output (es ++ e ∷ []) ≡ batches output es ++ batches_by output (offers output es)
    (ranges_of (lane_events output es)).begun e
batches-push output es e =
    batches_from-push output [] None es e
    ∙ ap (λ (b : Option (ℕ × ℕ)). batches output es ++ batches_by output (offers output es) b e) (begun_is output es)

-- an entry that isn't the end of the output's batch
abbrev pub EndsNoneSaid : ℕ → Option DoneSays → Type 0
EndsNoneSaid output None = Unit {0}
EndsNoneSaid output (Some says) = (says.output == output) ≡ false

abbrev pub EndsNone : ℕ → Entry → Type 0
EndsNone output e = EndsNoneSaid output (done_of e)

ends_none : (output : ℕ) (views : List Offer) (begun : Option (ℕ × ℕ)) (e : Entry) → EndsNone output e
    → batches_by output views begun e ≡ []
ends_none output views begun (Gather input moment pieces refused passed filtered metrics group reports) h = refl
ends_none output views begun (Ended input) h = refl
ends_none output views begun (Take item) h = refl
ends_none output views begun (Route item whole verdict aggs outs reports) h = refl
ends_none output views begun (Tick moment made) h = refl
ends_none output views begun (Stop moment made) h = refl
ends_none output views begun (Begin number from to) h = refl
ends_none output views begun (Done number ok reports) h =
    ap (λ (here : Bool). if here then (let b : BatchSays = record { views = views_in begun views; ok = ok } in
    b) ∷ [] else []) h

-- it leaves the batches as they are
pub batches-same : (output : ℕ) (es : List Entry) (e : Entry) → EndsNone output e
    → batches output (es ++ e ∷ []) ≡ batches output es
batches-same output es e h =
    let begun : Option (ℕ × ℕ) = (ranges_of (lane_events output es)).begun in
    batches-push output es e ∙ ap (λ (bs : List BatchSays). batches output es ++ bs)
    (ends_none output (offers output es) begun e h) ∙ append-nil (batches output es)

pub Sent-same : (written : List Content → List ℕ) (output : ℕ) (es : List Entry) (e : Entry) (bytes : List ℕ)
    → EndsNone output e → Sent written es output bytes → Sent written (es ++ e ∷ []) output bytes
Sent-same written output es e bytes h s = subst (λ (bs : List BatchSays). AreSent written bs bytes)
    (sym (batches-same output es e h)) s

-- one batch more, of which a part was sent
pub AreSent-append : (written : List Content → List ℕ) (bs : List BatchSays) (bytes : List ℕ) (b : BatchSays)
    (part : List ℕ) → AreSent written bs bytes → IsPart b.ok (written b.views) part
    → AreSent written (bs ++ b ∷ []) (bytes ++ part)
unfolding AreSent
AreSent-append written [] bytes b part s p = (
  part,
  [],
  ap (λ (xs : List ℕ). xs ++ part) s
      ∙ sym (append-nil part),
  p,
  refl,
)
AreSent-append written (c ∷ bs) bytes b part s p = (
  s.0,
  s.1 ++ part,
  ap (λ (xs : List ℕ). xs ++ part) s.2 ∙ append_assoc s.0 s.1 part,
  s.3,
  AreSent-append written bs s.1 b part s.4 p,
)

-- nothing was sent
pub AreSent-none : (written : List Content → List ℕ) → AreSent written [] []
unfolding AreSent
AreSent-none written = refl

-- the items behind a place begin where as many come before the end
behind : (k : ℕ) (views waiting : List Offer) → waiting ≡ drop k views
    → drop (length views - length waiting) views ≡ waiting
behind k views waiting e =
    elim (cases_lt (length views) k) [
      | inl l ↦
          (let none : drop k views ≡ [] = drop_of_length-le views {i = k} (omega arith) in
          let empty : length waiting ≡ 0 = ap (λ (xs : List Offer). length xs) (e ∙ none) in
          ap (λ (n : ℕ). drop n views) (let n : length views - length waiting ≡ length views = omega arith in n)
          ∙ drop_of_length-le views {i = length views} (omega arith) ∙ sym (e ∙ none))
      | inr g ↦
          (let many : length waiting ≡ length views - k = ap (λ (xs : List Offer). length xs) e ∙ length-drop k views in
          ap (λ (n : ℕ). drop n views) (let n : length views - length waiting ≡ k = omega arith in n) ∙ sym e)
    ]

clipped : (n : ℕ) (xs : List Offer) → take (min n (length xs)) xs ≡ take n xs
clipped n xs =
    elim (cases_lt (length xs) n) [
      | inl l ↦
          ap (λ (k : ℕ). take k xs) (let k : min n (length xs) ≡ length xs = omega arith in k)
          ∙ take_all (length xs) xs (omega arith) ∙ sym (take_all n xs (omega arith))
      | inr g ↦ ap (λ (k : ℕ). take k xs) (let k : min n (length xs) ≡ n = omega arith in k)
    ]

-- the views of a batch are those of its range
pub views_ranged : (core : CoreState) (journal : List Entry) (output : ℕ) (batch : Batch) → Stands core journal
    → output < length core.setup.outputs → IsBatchOf (lane_at core.lanes output) batch →
    batch_views (lane_at core.lanes output) ≡ views_in (Some (batch.from, batch.to)) (offers output journal)
views_ranged core journal output batch h b is =
    let x : LaneState Offer = lane_at core.lanes output in
    let views : List Offer = offers output journal in
    let ranges : Ranges = ranges_of (lane_events output journal) in
    let state = (h.lanes output b).state in
    let all : x.pushed ≡ length views = state.pushed ∙ sym state.offered in
    let first : batch.from ≡ length views - length x.waiting = is.from ∙ ap (λ (n : ℕ). n - length x.waiting) all in
    let many : batch.to - batch.from ≡ min x.batch (length x.waiting) = omega (arith, is.from, is.to) in
    let rest : drop batch.from views ≡ x.waiting = ap (λ (n : ℕ). drop n views) first
    ∙ behind (oldest_waiting x.limit ranges) views x.waiting
    (state.waiting ∙ ap (λ (n : ℕ). drop (oldest_waiting n ranges) views) (sym state.limit)) in
    ap offered_views
    (sym (clipped x.batch x.waiting) ∙ sym (ap (λ (n : ℕ). take n x.waiting) many)
    ∙ sym (ap (λ (xs : List Offer). take (batch.to - batch.from) xs) rest))

begins-here : (begun : Option (ℕ × ℕ)) (output from to : ℕ) → begun_after output begun (Begin output from to) ≡ Some
    (from, to)
begins-here begun output from to = ap (λ (here : Bool). if here then Some (from, to) else begun) (same_number output)

ends-here : (reports : List Report) (output : ℕ) (views : List Offer) (begun : Option (ℕ × ℕ)) (ok : Bool)
    → batches_by output views begun (Done output ok reports) ≡ record { views = views_in begun views; ok = ok } ∷ []
ends-here reports output views begun ok =
    ap (λ (here : Bool). if here then (let b : BatchSays = record { views = views_in begun views; ok = ok } in
    b) ∷ [] else []) (same_number output)

-- the batches, once one more was begun and done
pub batches-more : (reports : List Report) (output : ℕ) (journal : List Entry) (from to : ℕ) (ok : Bool) →
    batches output ((journal ++ Begin output from to ∷ []) ++ Done output ok reports ∷ []) ≡ batches output journal
    ++ record { views = views_in (Some (from, to)) (offers output journal); ok = ok } ∷ []
batches-more reports output journal from to ok =
    let begin : Entry = Begin output from to in
    let before : List Entry = journal ++ begin ∷ [] in
    let end : Entry = Done output ok reports in
    let range : Option (ℕ × ℕ) = Some (from, to) in
    let begun : (ranges_of (lane_events output before)).begun ≡ range =
    sym (begun_is output before) ∙ begun_from-push output None journal begin
    ∙ begins-here (begun_from output None journal) output from to in
    let views : offers output before ≡ offers output journal =
    offers-push output journal begin ∙ append-nil (offers output journal) in
    batches-push output before end
    ∙ ap (λ (bs : List BatchSays). bs ++ batches_by output (offers output before)
    (ranges_of (lane_events output before)).begun end) (batches-same output journal begin tt)
    ∙ ap (λ (r : Option (ℕ × ℕ)). batches output journal ++ batches_by output (offers output before) r end) begun
    ∙ ap (λ (vs : List Offer). batches output journal ++ batches_by output vs range end) views
    ∙ ap (λ (bs : List BatchSays). batches output journal ++ bs)
    (ends-here reports output (offers output journal) range ok)

-- one batch more, of whose text a part was sent
pub Sent-more : (written : List Content → List ℕ) (reports : List Report) (core : CoreState) (journal : List Entry)
    (output : ℕ) (batch : Batch) (ok : Bool) (bytes part : List ℕ) → Stands core journal
    → output < length core.setup.outputs → IsBatchOf (lane_at core.lanes output) batch →
    IsPart ok (written (batch_views (lane_at core.lanes output))) part → Sent written journal output bytes
    → Sent written ((journal ++ Begin output batch.from batch.to ∷ []) ++ Done output ok reports ∷ []) output
    (bytes ++ part)
Sent-more written reports core journal output batch ok bytes part h b is p s =
    let views : List Content = views_in (Some (batch.from, batch.to)) (offers output journal) in
    let says : BatchSays = record { views = views; ok = ok } in
    let q : IsPart ok (written views) part = subst (λ (vs : List Content). IsPart ok (written vs) part)
    (views_ranged core journal output batch h b is) p in
    subst (λ (bs : List BatchSays). AreSent written bs (bytes ++ part))
    (sym (batches-more reports output journal batch.from batch.to ok))
    (AreSent-append written (batches output journal) bytes says part s q)
