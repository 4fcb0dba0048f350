-- How many items of a group have a fate at an output, by positions and their marks.
use Rattle.std.proofs.Common.{◌≡◌, ◌<◌, ◌≤◌, ℕ, ◌+◌, cond, ◌&&◌, Bool, true, false, List, [], ◌∷◌, ◌++◌}
use Rattle.std.proofs.Common.{length, map, refl, ap, sym, ◌∙◌, arith, inl, inr, take, drop, length-drop}
use Rattle.std.specs.List.{count_by}
use Rattle.std.proofs.lemmas.List.{length-take, take-append-drop}
use Rattle.std.proofs.lemmas.List.Sums.{sum_by-cons, sum_by-append}
use Rattle.std.specs.declared.option.Option.{Option}
use Rattle.std.specs.declared.option.Option.TheVariants.{Some, None}
use Rattle.metric.specs.declared.metric.Content.{Content}
use Rattle.account.specs.declared.entry.Entry.{Entry}
use Rattle.account.specs.declared.entry.Entry.TheVariants.{Gather, Ended, Take, Route, Tick, Stop, Begin}
use Rattle.account.specs.declared.entry.Entry.TheVariants.{Done}
use Rattle.account.specs.declared.entry.Verdict.{Verdict}
use Rattle.account.specs.declared.entry.Verdict.TheVariants as verdicts
use Rattle.out_lane.specs.LaneEvents.{LaneEvent, LaneFate, fate_at}
use Rattle.out_lane.specs.LaneEvents as lane
use Rattle.out_lane.specs.LaneCounts.{ones}
use Rattle.out_lane.specs.LaneLaws.{KeepsFates, Becomes, items_between}
use Rattle.out_lane.proofs.ItemLemmas.{length-items_between, joined}
use Rattle.pipeline_core.specs.declared.output.Offer.{Offer}
use Rattle.pipeline_core.specs.Offers.{offers, lane_events, offer_of, offered, offered_by, view_at}
use Rattle.pipeline_core.specs.Fates.{Fate, ItemFate, fate_of, fate_of_view, fates_by_verdict, fates_by}
use Rattle.pipeline_core.specs.Fates.{fates_from, item_fates}
use Rattle.pipeline_core.specs.Fates as fate
use Rattle.pipeline_core.specs.Totals.{total_by}
use Rattle.pipeline_core.proofs.FateCounts.{kept_out_by, test_at}

one : (b : Bool) → cond b 1 0 ≡ ones b
one true = refl
one false = refl

pub none_or : (b : Bool) (n : ℕ) → cond b n n ≡ n
none_or true n = refl
none_or false n = refl

more_or : (b c : Bool) (n : ℕ) → ones (b && c) + cond b n 0 ≡ cond b (cond c 1 0 + n) 0
more_or true c n = omega (arith, one c)
more_or false c n = omega arith

and_ones : (a b c : Bool) → a ≡ b → ones (a && c) ≡ ones (b && c)
and_ones a b c h = ap (λ (x : Bool). ones (x && c)) h

module _ {X : Type 0} where
  -- how many places, from one on, pass a test, where what stands there passes another
  abbrev pub weighed : (ℕ → Bool) → (X → Bool) → ℕ → List X → ℕ
  weighed test w from [] = 0
  weighed test w from (x ∷ xs) = ones (test from && w x) + weighed test w (from + 1) xs

  pub count-cons : (w : X → Bool) (x : X) (xs : List X) → count_by w (x ∷ xs) ≡ cond (w x) 1 0 + count_by w xs
  count-cons w x xs = sum_by-cons (λ (y : X). cond (w y) 1 0) x xs

  pub count-append : (w : X → Bool) (xs ys : List X) → count_by w (xs ++ ys) ≡ count_by w xs + count_by w ys
  count-append w xs ys = sum_by-append (λ (y : X). cond (w y) 1 0) xs ys

  pub weighed-append : (test : ℕ → Bool) (w : X → Bool) (from : ℕ) (xs ys : List X) →
      weighed test w from (xs ++ ys) ≡ weighed test w from xs + weighed test w (from + length xs) ys
  weighed-append test w from [] ys =
      let e : from ≡ from + 0 = omega arith in
      let f : weighed test w from ys ≡ weighed test w (from + 0) ys = ap (λ (k : ℕ). weighed test w k ys) e in
      omega arith
  weighed-append test w from (x ∷ xs) ys =
      let e : from + 1 + length xs ≡ from + length (x ∷ xs) = omega arith in
      let f : weighed test w (from + 1 + length xs) ys ≡ weighed test w (from + length (x ∷ xs)) ys =
      ap (λ (k : ℕ). weighed test w k ys) e in
      omega (arith, weighed-append test w (from + 1) xs ys)

  pub weighed-same : (test other : ℕ → Bool) (w : X → Bool) (from : ℕ) (xs : List X) →
      ((p : ℕ) → from ≤ p → p < from + length xs → test p ≡ other p) →
      weighed test w from xs ≡ weighed other w from xs
  weighed-same test other w from [] h = refl
  weighed-same test other w from (x ∷ xs) h =
      let first : ones (test from && w x) ≡ ones (other from && w x) =
      and_ones (test from) (other from) (w x) (h from (omega arith) (omega arith)) in
      let more : weighed test w (from + 1) xs ≡ weighed other w (from + 1) xs =
      weighed-same test other w (from + 1) xs (λ p l m. h p (omega arith) (omega arith)) in
      omega arith

  pub weighed-all : (test : ℕ → Bool) (b : Bool) (w : X → Bool) (from : ℕ) (xs : List X) →
      ((p : ℕ) → from ≤ p → p < from + length xs → test p ≡ b) →
      weighed test w from xs ≡ cond b (count_by w xs) 0
  weighed-all test b w from [] h = sym (none_or b 0)
  weighed-all test b w from (x ∷ xs) h =
      let first : ones (test from && w x) ≡ ones (b && w x) =
      and_ones (test from) b (w x) (h from (omega arith) (omega arith)) in
      let more : weighed test w (from + 1) xs ≡ cond b (count_by w xs) 0 =
      weighed-all test b w (from + 1) xs (λ p l m. h p (omega arith) (omega arith)) in
      let both : ones (b && w x) + cond b (count_by w xs) 0 ≡ cond b (cond (w x) 1 0 + count_by w xs) 0 =
      more_or b (w x) (count_by w xs) in
      let count : cond b (cond (w x) 1 0 + count_by w xs) 0 ≡ cond b (count_by w (x ∷ xs)) 0 =
      ap (λ (n : ℕ). cond b n 0) (sym (count-cons w x xs)) in
      omega arith

  -- in three parts, the second one from a position to before another
  parts : (test : ℕ → Bool) (w : X → Bool) (from to : ℕ) (xs : List X) → from ≤ to → to ≤ length xs →
      weighed test w 0 xs ≡ weighed test w 0 (take from xs) + weighed test w from (items_between from to xs)
      + weighed test w to (drop to xs)
  parts test w from to xs f t =
      let a : length (take from xs) ≡ from = omega (arith, length-take from xs) in
      let b : from + length (items_between from to xs) ≡ to = omega (arith, length-items_between from to xs t) in
      let whole : take from xs ++ (items_between from to xs ++ drop to xs) ≡ xs =
      ap (λ (ys : List X). take from xs ++ ys) (joined from to xs f) ∙ take-append-drop from xs in
      let all : weighed test w 0 xs ≡ weighed test w 0 (take from xs ++ (items_between from to xs ++ drop to xs)) =
      ap (weighed test w 0) (sym whole) in
      let one = weighed-append test w 0 (take from xs) (items_between from to xs ++ drop to xs) in
      let c : 0 + length (take from xs) ≡ from = omega arith in
      let d : weighed test w (0 + length (take from xs)) (items_between from to xs ++ drop to xs) ≡ weighed test w from
      (items_between from to xs ++ drop to xs) =
      ap (λ (k : ℕ). weighed test w k (items_between from to xs ++ drop to xs)) c in
      let two = weighed-append test w from (items_between from to xs) (drop to xs) in
      let e : weighed test w (from + length (items_between from to xs)) (drop to xs) ≡ weighed test w to (drop to xs) =
      ap (λ (k : ℕ). weighed test w k (drop to xs)) b in
      omega arith

  pub keeps_weighed : (test : LaneFate → Bool) (w : X → Bool) (limit : ℕ) (before after : List LaneEvent) (xs : List X)
      → KeepsFates limit before after xs →
      weighed (λ p. test (fate_at limit after p)) w 0 xs ≡ weighed (λ p. test (fate_at limit before p)) w 0 xs
  keeps_weighed test w limit before after xs k =
      weighed-same (λ p. test (fate_at limit after p)) (λ p. test (fate_at limit before p)) w 0 xs
      (λ p l m. ap test (k p (omega arith)))

  -- what leaves Buffered has the fate
  pub becomes_weighed : (test : LaneFate → Bool) (w : X → Bool) (limit : ℕ) (before after : List LaneEvent)
      (xs : List X) (fate : LaneFate) (gone : List X) → Becomes limit before after xs fate gone →
      weighed (λ p. test (fate_at limit after p)) w 0 xs + cond (test lane.Buffered) (count_by w gone) 0 ≡ weighed
      (λ p. test (fate_at limit before p)) w 0 xs + cond (test fate) (count_by w gone) 0
  becomes_weighed test w limit before after xs fate gone b =
      let new : ℕ → Bool = λ p. test (fate_at limit after p) in
      let old : ℕ → Bool = λ p. test (fate_at limit before p) in
      let ordered : b.from ≤ b.to = b.ordered in
      let within : b.to ≤ length xs = b.within in
      let front : length (take b.from xs) ≡ b.from = omega (arith, length-take b.from xs) in
      let mid : List X = items_between b.from b.to xs in
      let long : b.from + length mid ≡ b.to = omega (arith, length-items_between b.from b.to xs within) in
      let back : b.to + length (drop b.to xs) ≡ length xs = omega (arith, length-drop b.to xs) in
      let first : weighed new w 0 (take b.from xs) ≡ weighed old w 0 (take b.from xs) =
      weighed-same new old w 0 (take b.from xs)
      (λ p l m. ap test (b.others p (omega arith) (inl (omega arith)))) in
      let last : weighed new w b.to (drop b.to xs) ≡ weighed old w b.to (drop b.to xs) =
      weighed-same new old w b.to (drop b.to xs) (λ p l m. ap test (b.others p (omega arith) (inr l))) in
      let were : weighed old w b.from mid ≡ cond (test lane.Buffered) (count_by w mid) 0 =
      weighed-all old (test lane.Buffered) w b.from mid (λ p l m. ap test (b.were p l (omega arith))) in
      let become : weighed new w b.from mid ≡ cond (test fate) (count_by w mid) 0 =
      weighed-all new (test fate) w b.from mid (λ p l m. ap test (b.become p l (omega arith))) in
      let x : cond (test lane.Buffered) (count_by w gone) 0 ≡ cond (test lane.Buffered) (count_by w mid) 0 =
      ap (λ (ys : List X). cond (test lane.Buffered) (count_by w ys) 0) b.are in
      let y : cond (test fate) (count_by w gone) 0 ≡ cond (test fate) (count_by w mid) 0 =
      ap (λ (ys : List X). cond (test fate) (count_by w ys) 0) b.are in
      let u = parts new w b.from b.to xs ordered within in
      let v = parts old w b.from b.to xs ordered within in
      omega arith

-- what stands there may be seen through a function
pub weighed-map : {X Y : Type 0} (test : ℕ → Bool) (w : X → Bool) (f : Y → X) (from : ℕ) (ys : List Y) →
    weighed test w from (map f ys) ≡ weighed test (λ (y : Y). w (f y)) from ys
weighed-map test w f from [] = refl
weighed-map test w f from (y ∷ ys) =
    ap (λ (n : ℕ). ones (test from && w (f y)) + n) (weighed-map test w f (from + 1) ys)

-- whether an item that passes a test has a fate that passes another
abbrev pub marked : (Fate → Bool) → (ℕ → Bool) → ItemFate → Bool
marked t q x = t x.fate && q x.item

-- 1 where an entry routes an item that passes a test, and that came to no output's lane and has a fate that passes
-- another
abbrev pub kept_of : (Fate → Bool) → (ℕ → Bool) → ℕ → Entry → ℕ
kept_of t q o (Route item whole verdict aggs outs reports) = cond (q item) (kept_out_by t verdict (view_at o outs)) 0
kept_of t q o _ = 0

-- whether an offered item passes a test
abbrev pub is_offer_of : (ℕ → Bool) → Offer → Bool
is_offer_of q offer = q offer.item

-- an item's fates, where these are they
abbrev of_item : ℕ → List Fate → List ItemFate
of_item item all = map (λ (fate : Fate). record { item = item; fate = fate }) all

one_marked : (a b : Bool) → cond (a && b) 1 0 ≡ cond b (ones a) 0
one_marked true true = refl
one_marked true false = refl
one_marked false true = refl
one_marked false false = refl

by_view : (t : Fate → Bool) (q : ℕ → Bool) (limit : ℕ) (events : List LaneEvent) (position item : ℕ)
    (view : Option Content) →
    count_by (marked t q) (of_item item (fate_of_view limit events position view ∷ [])) ≡ cond (q item)
    (kept_out_by t verdicts.Passes view) 0 + weighed (test_at t limit events) (is_offer_of q) position
    (offer_of item view)
by_view t q limit events position item None = omega (arith, one_marked (t fate.Filtered) (q item))
by_view t q limit events position item (Some view) =
    omega (arith, one (t (fate_of (fate_at limit events position)) && q item), none_or (q item) 0)

by_verdict : (t : Fate → Bool) (q : ℕ → Bool) (limit : ℕ) (events : List LaneEvent) (position item : ℕ)
    (verdict : Verdict) (view : Option Content) →
    count_by (marked t q) (of_item item (fates_by_verdict limit events position verdict view)) ≡ cond (q item)
    (kept_out_by t verdict view) 0 + weighed (test_at t limit events) (is_offer_of q) position
    (offered item verdict view)
by_verdict t q limit events position item verdicts.Passes view = by_view t q limit events position item view
by_verdict t q limit events position item verdicts.Consumed view =
    omega (arith, one_marked (t fate.Consumed) (q item))
by_verdict t q limit events position item verdicts.Late view = omega (arith, one_marked (t fate.Late) (q item))
by_verdict t q limit events position item verdicts.Removed view = omega (arith, none_or (q item) 0)

by_entry : (t : Fate → Bool) (q : ℕ → Bool) (limit o : ℕ) (events : List LaneEvent) (position : ℕ) (e : Entry) →
    count_by (marked t q) (fates_by limit o events position e) ≡ kept_of t q o e + weighed (test_at t limit events)
    (is_offer_of q) position (offered_by o e)
by_entry t q limit o events position (Gather input moment pieces refused passed filtered metrics group reports) =
    omega arith
by_entry t q limit o events position (Ended input) = omega arith
by_entry t q limit o events position (Take item) = omega arith
by_entry t q limit o events position (Route item whole verdict aggs outs reports) =
    by_verdict t q limit events position item verdict (view_at o outs)
by_entry t q limit o events position (Tick moment made) = omega arith
by_entry t q limit o events position (Stop moment made) = omega arith
by_entry t q limit o events position (Begin number from to) = omega arith
by_entry t q limit o events position (Done number ok reports) = omega arith

fates_from-marked : (t : Fate → Bool) (q : ℕ → Bool) (limit o : ℕ) (events : List LaneEvent) (position : ℕ)
    (es : List Entry) →
    count_by (marked t q) (fates_from limit o events position es) ≡ total_by (kept_of t q o) es + weighed
    (test_at t limit events) (is_offer_of q) position (offers o es)
unfolding fates_from total_by offers
fates_from-marked t q limit o events position [] = omega arith
fates_from-marked t q limit o events position (e ∷ es) =
    let n : ℕ = length (offered_by o e) in
    omega (
      arith,
      count-append (marked t q) (fates_by limit o events position e) (fates_from limit o events (position + n) es),
      by_entry t q limit o events position e,
      fates_from-marked t q limit o events (position + n) es,
      weighed-append (test_at t limit events) (is_offer_of q) position (offered_by o e) (offers o es),
    )

-- how many routed items that pass a test have a fate that passes another
pub item_fates-marked : (t : Fate → Bool) (q : ℕ → Bool) (limit o : ℕ) (es : List Entry) →
    count_by (marked t q) (item_fates limit o es) ≡ total_by (kept_of t q o) es + weighed
    (test_at t limit (lane_events o es)) (is_offer_of q) 0 (offers o es)
item_fates-marked t q limit o es = fates_from-marked t q limit o (lane_events o es) 0 es
