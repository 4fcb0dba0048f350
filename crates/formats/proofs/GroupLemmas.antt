-- Groups with one piece more.
use Rattle.std.proofs.Common.{◌≡◌, ◌<◌, ◌+◌, ◌⊎◌, ℕ, suc, ℤ, cond, List, [], ◌∷◌, ◌++◌, refl, sym, ap, subst, inl, inr}
use Rattle.std.proofs.Common.{◌∙◌, arith, append_assoc, append-nil, length-append}
use Rattle.std.specs.Prelude.{count_by, ◌≤◌, ◌*◌, ◌/◌, length, IfOk, Result, Ok, Err}
use Rattle.std.specs.List.{flat_map, sum_by, cons_option, AllByRecursion}
use Rattle.std.specs.Option.{option_to_list}
use Rattle.std.proofs.Math.Nat.{suc-mul, div-mul-le_self}
use Rattle.std.specs.declared.option.Option.{Option}
use Rattle.std.specs.declared.option.Option.TheVariants.{Some, None}
use Rattle.std.proofs.lemmas.Int.{to_z-of_z}
use mir.Syntax.{w64}
use mir.Val.{SFits, of_z, to_z}
use Rattle.std.proofs.lemmas.List.Sums.{sum_by-append}
use Rattle.std.proofs.lemmas.Grind.{flat_map-append}
use Rattle.metric.specs.declared.metric.Content.{Content}
use Rattle.agent_base.specs.Cut.{Cut, TooLong, Whole, most_bytes}
use Rattle.agent_base.specs.Hand.{Hand, to_come}
use Rattle.agent_base.specs.Taken.{IsSpent}
use Rattle.agent_base.specs.Told.{Told}
use Rattle.formats.specs.declared.reading.Group.{Group}
use Rattle.formats.specs.declared.pieces.InState.{InState}
use Rattle.formats.specs.declared.pieces.InState.TheVariants as states
use Rattle.formats.specs.Reader.{InRule, is_refused, passed_over, filtered_of, kept_of, kept, keeps, capped, metrics_of}
use Rattle.formats.specs.Reader.{line_says, parts_say, exposition_says, say_in, cut_of, most_said}
use Rattle.format_words.specs.declared.format.InFormat.{InFormat}
use Rattle.format_words.specs.declared.format.InFormat.TheVariants.{Influx, Statsd, Graphite, Openmetrics}
use Rattle.openmetrics_text.specs.declared.exposition.Exposition.{Exposition}
use Rattle.line_proto.specs.Reading as influx
use Rattle.statsd_text.specs.Reading as statsd
use Rattle.graphite_text.specs.Reading as graphite
use Rattle.openmetrics_text.specs.Reading as openmetrics
use Rattle.line_proto.proofs.MostLemmas as line_most
use Rattle.statsd_text.proofs.MostLemmas as parts_most
use Rattle.graphite_text.proofs.MostLemmas as graphite_most
use Rattle.openmetrics_text.proofs.MostLemmas as exposition_most
use Rattle.std.proofs.lemmas.List.Concat.{flat_map-cons, length-flat_map}
use Rattle.formats.specs.Groups.{IsShort, TakesPieces, ReadsPiece, ReadsNone, ReadsNext, IsAllRead, Reads, ReadsGroup}

-- what is told of two steps holds of both
pub told_then : (first second third : Option (List ℕ)) (P Q R : List ℕ → List ℕ → Type 0) → Told first second P
    → Told second third Q → ((xs ys zs : List ℕ) → P xs ys → Q ys zs → R xs zs) → Told first third R
told_then None second third P Q R p q both = tt
told_then (Some xs) None third P Q R p q both = absurd p
told_then (Some xs) (Some ys) None P Q R p q both = absurd q
told_then (Some xs) (Some ys) (Some zs) P Q R p q both = both xs ys zs p q

-- what is told says more
pub told_map : (before after : Option (List ℕ)) (P Q : List ℕ → List ℕ → Type 0)
    → ((xs ys : List ℕ) → P xs ys → Q xs ys) → Told before after P → Told before after Q
told_map None after P Q f p = tt
told_map (Some xs) None P Q f p = absurd p
told_map (Some xs) (Some ys) P Q f p = f xs ys p

-- two things that are told hold together
pub told_pair : (before after : Option (List ℕ)) (P Q R : List ℕ → List ℕ → Type 0) → Told before after P
    → Told before after Q → ((xs ys : List ℕ) → P xs ys → Q xs ys → R xs ys) → Told before after R
told_pair None after P Q R p q both = tt
told_pair (Some xs) None P Q R p q both = absurd p
told_pair (Some xs) (Some ys) P Q R p q both = both xs ys p q

-- what holds of a text and itself
pub told_self : (text : Option (List ℕ)) (P : List ℕ → List ℕ → Type 0) → ((xs : List ℕ) → P xs xs) → Told text text P
told_self None P f = tt
told_self (Some xs) P f = f xs

front_none : {X : Type 0} (front back : List X) → front ++ back ≡ [] → back ≡ []
front_none [] back e = e
front_none (x ∷ front) back e = absurd (let z : x ∷ (front ++ back) ≡ [] = e in cc)

-- where nothing was left, nothing is left after more bytes were taken
pub none_left : (taken ys zs : List ℕ) → ys ≡ taken ++ zs → ys ≡ [] → zs ≡ []
none_left taken ys zs split none = front_none taken zs (sym split ∙ none)

both_none : (front back : List ℕ) → front ++ back ≡ [] → front ≡ []
both_none [] back e = refl
both_none (x ∷ front) back e = absurd (let z : x ∷ (front ++ back) ≡ [] = e in cc)

-- where nothing was left and no piece was to come, so it is after more bytes were taken
pub still_spent : (read : List Cut) (before after : Hand) (taken ys zs : List ℕ) → ys ≡ taken ++ zs → IsSpent before ys
    → IsSpent after zs ⊎ ((more : List ℕ) → to_come before (taken ++ more) ≡ read ++ to_come after more)
    → IsSpent after zs
still_spent read before after taken ys zs split spent (inl none) = none
still_spent read before after taken ys zs split spent (inr given) =
    let nothing : taken ≡ [] = both_none taken zs (sym split ∙ spent.0) in (
      none_left taken ys zs split spent.0,
      front_none read (to_come after [])
          (sym (given []) ∙ ap (λ (bs : List ℕ). to_come before (bs ++ [])) nothing ∙ spent.1),
    )

-- no piece was read, and nothing was taken
pub takes_nothing : (hand : Hand) (text : Option (List ℕ)) → Told text text (TakesPieces [] hand hand)
takes_nothing hand text = told_self text (TakesPieces [] hand hand)
    (λ xs. record { taken = []; split = refl; given = inr (λ more. refl) })

-- pieces were read of the bytes that were taken, and others of the bytes that were taken then
takes_both : (read others : List Cut) (before between after : Hand) (xs ys zs : List ℕ)
    → TakesPieces read before between xs ys → TakesPieces others between after ys zs
    → TakesPieces (read ++ others) before after xs zs
takes_both read others before between after xs ys zs h k = record {
  taken = h.taken ++ k.taken;
  split = h.split ∙ ap (λ (l : List ℕ). h.taken ++ l) k.split ∙ sym (append_assoc h.taken k.taken zs);
  given = go h.given k.given;
}
  where
    go : IsSpent between ys ⊎ ((more : List ℕ) → to_come before (h.taken ++ more) ≡ read ++ to_come between more)
        → IsSpent after zs ⊎ ((more : List ℕ) → to_come between (k.taken ++ more) ≡ others ++ to_come after more)
        → IsSpent after zs ⊎ ((more : List ℕ) → to_come before ((h.taken ++ k.taken) ++ more) ≡ (read ++ others)
        ++ to_come after more)
    go (inl none) given = inl (still_spent others between after k.taken ys zs k.split none given)
    go (inr first) (inl none) = inl none
    go (inr first) (inr second) =
        inr (λ more. ap (to_come before) (append_assoc h.taken k.taken more) ∙ first (k.taken ++ more)
        ∙ ap (λ (rest : List Cut). read ++ rest) (second more) ∙ sym (append_assoc read others (to_come after more)))

takes_then : (read others : List Cut) (before between after : Hand)
    (left_before left_between left_after : Option (List ℕ)) → Told left_before left_between
    (TakesPieces read before between) → Told left_between left_after (TakesPieces others between after)
    → Told left_before left_after (TakesPieces (read ++ others) before after)
takes_then read others before between after left_before left_between left_after h k =
    told_then left_before left_between left_after (TakesPieces read before between) (TakesPieces others between after)
    (TakesPieces (read ++ others) before after) h k (takes_both read others before between after)

counted_more : (rule : InRule) (moment : ℤ) (read : List Cut) (piece : Cut)
    → count_by (is_refused rule moment) (read ++ piece ∷ []) ≡ count_by (is_refused rule moment) read + cond
    (is_refused rule moment piece) 1 0
counted_more rule moment read piece = omega (
  arith,
  sum_by-append (λ (x : Cut). cond (is_refused rule moment x) 1 0)
      read (piece ∷ []),
)

-- a number more in a sum that stands still at its highest number
capped_more : (sum now count : ℕ) → now ≡ capped sum → capped (now + count) ≡ capped (sum + count)
capped_more sum now count e = omega (arith, e)

sum_more : (count : Cut → ℕ) (read : List Cut) (piece : Cut)
    → sum_by count (read ++ piece ∷ []) ≡ sum_by count read + count piece
sum_more count read piece = omega (arith, sum_by-append count read (piece ∷ []))

one_more : (answer : Option Content) (kept : List Content) (most : ℕ) → length kept ≤ most
    → length (cons_option answer kept) ≤ suc most
one_more None kept most few = omega (arith, few)
one_more (Some left) kept most few = omega (arith, few)

kept_fewer : (rule : InRule) (metrics : List Content) → length (kept rule metrics) ≤ length metrics
kept_fewer rule [] = omega arith
kept_fewer rule (metric ∷ metrics) = one_more (keeps rule metric) (kept rule metrics) (length metrics)
    (kept_fewer rule metrics)

-- what a reading says, of which the law of its format is known
line_few : {F : Type 0} (r : Result (Option Content) F) → IfOk r (λ metric. length (option_to_list metric) ≤ 1)
    → length (metrics_of (line_says r)) ≤ 1
line_few (Ok None) h = h
line_few (Ok (Some metric)) h = h
line_few (Err fault) h = omega arith

parts_few : {F : Type 0} (r : Result (List Content) F) (size : ℕ) → size ≤ 65536
    → IfOk r (λ metrics. length metrics ≤ size / 3) → length (metrics_of (parts_say r)) ≤ 21845
parts_few (Ok metrics) size short h = omega (arith, short, h, div-mul-le_self size 3)
parts_few (Err fault) size short h = omega arith

exposition_few : {F : Type 0} (r : Result Exposition F) (size : ℕ) → size ≤ 4194304
    → IfOk r (λ exposition. length exposition.metrics ≤ size / 4) → length (metrics_of (exposition_says r)) ≤ 1048576
exposition_few (Ok exposition) size short h = omega (arith, short, h, div-mul-le_self size 4)
exposition_few (Err fault) size short h = omega arith

-- a piece of any format
says_few : (format : InFormat) (moment : ℤ) (piece : List ℕ) → length piece ≤ most_bytes (cut_of format)
    → length (metrics_of (say_in format moment piece)) ≤ most_said format
says_few Influx moment piece short = line_few (influx.reading piece moment) (line_most.says_at_most piece moment)
says_few Statsd moment piece short = parts_few (statsd.reading piece moment) (length piece) short
    (parts_most.says_at_most piece moment)
says_few (Graphite templates separator) moment piece short =
    line_few (graphite.reading templates separator piece moment)
    (graphite_most.says_at_most templates separator piece moment)
says_few (Openmetrics type_tag passing) moment piece short =
    exposition_few (openmetrics.reading piece moment type_tag passing) (length piece) short
    (exposition_most.says_at_most piece moment type_tag passing)

few_of : (rule : InRule) (moment : ℤ) (piece : Cut) → IsShort rule piece
    → length (kept_of rule moment piece) ≤ most_said rule.format
few_of rule moment TooLong short = omega arith
few_of rule moment (Whole piece) short = omega (
  arith,
  kept_fewer rule (metrics_of (say_in rule.format moment piece)),
  says_few rule.format moment piece short,
)

-- at most as many metrics are kept of pieces as they may say
pub few_kept : (rule : InRule) (moment : ℤ) (pieces : List Cut) → AllByRecursion (IsShort rule) pieces
    → length (flat_map (kept_of rule moment) pieces) ≤ length pieces * most_said rule.format
few_kept rule moment [] short = omega (arith, length-flat_map (kept_of rule moment) [])
few_kept rule moment (piece ∷ pieces) short =
    omega (
      arith,
      ap (λ (ms : List Content). length ms) (flat_map-cons (kept_of rule moment) piece pieces),
      length-append (kept_of rule moment piece) (flat_map (kept_of rule moment) pieces),
      few_of rule moment piece short.0,
      few_kept rule moment pieces short.1,
      suc-mul (length pieces) (most_said rule.format),
    )

short_more : (rule : InRule) (read : List Cut) (piece : Cut) → AllByRecursion (IsShort rule) read → IsShort rule piece
    → AllByRecursion (IsShort rule) (read ++ piece ∷ [])
short_more rule [] piece all last = (last, tt)
short_more rule (x ∷ read) piece all last = (all.0, short_more rule read piece all.1 last)

read_more : (rule : InRule) (moment : ℤ) (read : List Cut) (piece : Cut)
    → flat_map (kept_of rule moment) (read ++ piece ∷ []) ≡ flat_map (kept_of rule moment) read
    ++ kept_of rule moment piece
read_more rule moment read piece = flat_map-append (kept_of rule moment) read (piece ∷ [])
    ∙ ap (λ (ms : List Content). flat_map (kept_of rule moment) read ++ ms) (append-nil (kept_of rule moment piece))

-- no piece was read yet
pub reads_nothing : (rule : InRule) (moment : ℤ) (group : Group) (hand : Hand) (text : Option (List ℕ))
    → group.pieces ≡ 0 → group.refused ≡ 0 → group.passed ≡ 0 → group.filtered ≡ 0 → group.metrics.items ≡ []
    → Reads rule moment group hand hand text text
reads_nothing rule moment group hand text pieces refused passed filtered metrics = record {
  read = [];
  short = tt;
  pieces = pieces;
  refused = refused;
  passed = passed;
  filtered = filtered;
  metrics = metrics;
  consecutive = told_self text (λ xs ys. to_come hand xs ≡ to_come hand ys) (λ xs. refl);
  whatever_follows = takes_nothing hand text;
}

pub reads_piece : (rule : InRule) (moment : ℤ) (old new : Group) (before between after : Hand)
    (left_before left_between left_after : Option (List ℕ)) → Reads rule moment old before between left_before
    left_between → ReadsPiece rule moment old new between after left_between left_after
    → Reads rule moment new before after left_before left_after
reads_piece rule moment old new before between after left_before left_between left_after r p = record {
  read = r.read ++ p.piece ∷ [];
  short = short_more rule r.read p.piece r.short p.short;
  pieces = omega (arith, r.pieces, p.counted.pieces, length-append r.read (p.piece ∷ []));
  refused = omega (arith, r.refused, p.counted.said.refused, counted_more rule moment r.read p.piece);
  passed = p.counted.said.passed ∙ capped_more (sum_by (passed_over rule moment) r.read) old.passed
      (passed_over rule moment p.piece) r.passed ∙ sym (ap capped (sum_more (passed_over rule moment) r.read p.piece));
  filtered = p.counted.said.filtered ∙ capped_more (sum_by (filtered_of rule moment) r.read) old.filtered
      (filtered_of rule moment p.piece) r.filtered ∙ sym (ap capped
      (sum_more (filtered_of rule moment) r.read p.piece));
  metrics = p.counted.said.metrics ∙ ap (λ (ms : List Content). ms ++ kept_of rule moment p.piece) r.metrics
      ∙ sym (read_more rule moment r.read p.piece);
  consecutive =
      told_then left_before left_between left_after
      (λ xs ys. to_come before xs ≡ r.read ++ to_come between ys)
      (λ ys zs. to_come between ys ≡ p.piece ∷ to_come after zs) (λ xs zs. to_come before xs ≡ (r.read ++ p.piece ∷ [])
      ++ to_come after zs)
      r.consecutive p.first (λ xs ys zs a b. a ∙ ap (λ (rest : List Cut). r.read ++ rest) b
      ∙ sym (append_assoc r.read (p.piece ∷ []) (to_come after zs)));
  whatever_follows = takes_then r.read (p.piece ∷ []) before between after left_before left_between left_after
      r.whatever_follows p.whatever_follows;
}

pub reads_none : (rule : InRule) (moment : ℤ) (old new : Group) (before between after : Hand)
    (left_before left_between left_after : Option (List ℕ)) → Reads rule moment old before between left_before
    left_between → ReadsNone old new between after left_between left_after
    → Reads rule moment new before after left_before left_after
reads_none rule moment old new before between after left_before left_between left_after r n = record {
  read = r.read;
  short = r.short;
  pieces = ap (λ (g : Group). g.pieces) n.same ∙ r.pieces;
  refused = ap (λ (g : Group). g.refused) n.same ∙ r.refused;
  passed = ap (λ (g : Group). g.passed) n.same ∙ r.passed;
  filtered = ap (λ (g : Group). g.filtered) n.same ∙ r.filtered;
  metrics = ap (λ (g : Group). g.metrics.items) n.same ∙ r.metrics;
  consecutive =
      told_then left_before left_between left_after
      (λ xs ys. to_come before xs ≡ r.read ++ to_come between ys) (λ ys zs. to_come between ys ≡ to_come after zs)
      (λ xs zs. to_come before xs ≡ r.read ++ to_come after zs)
      r.consecutive n.to_come_still (λ xs ys zs a b. a ∙ ap (λ (rest : List Cut). r.read ++ rest) b);
  whatever_follows =
      told_then left_before left_between left_after (TakesPieces r.read before between) (TakesPieces [] between after)
      (TakesPieces r.read before after)
      r.whatever_follows n.whatever_follows (λ xs ys zs h k. subst
      (λ (cs : List Cut). TakesPieces cs before after xs zs) (append-nil r.read)
      (takes_both r.read [] before between after xs ys zs h k));
}

pub reads_next : (rule : InRule) (state : InState) (moment : ℤ) (old new : Group) (before between after : Hand)
    (left_before left_between left_after : Option (List ℕ)) → Reads rule moment old before between left_before
    left_between → ReadsNext rule state moment old new between after left_between left_after
    → Reads rule moment new before after left_before left_after
reads_next rule states.Reading moment old new before between after left_before left_between left_after r n =
    reads_piece rule moment old new before between after left_before left_between left_after r n
reads_next rule states.Ended moment old new before between after left_before left_between left_after r n =
    reads_none rule moment old new before between after left_before left_between left_after r n
reads_next rule states.Faulted moment old new before between after left_before left_between left_after r n =
    reads_none rule moment old new before between after left_before left_between left_after r n
reads_next rule states.LimitReached moment old new before between after left_before left_between left_after r n =
    reads_none rule moment old new before between after left_before left_between left_after r n

pub reading_on : (state : InState) → state ≡ states.Reading → state ≡ states.LimitReached → ⊥
reading_on state reading limit = let x : states.Reading ≡ states.LimitReached = sym reading ∙ limit in absurd cc

pub next_pieces : (rule : InRule) (state : InState) (moment : ℤ) (old new : Group) (before after : Hand)
    (left_before left_after : Option (List ℕ)) → ReadsNext rule state moment old new before after left_before left_after
    → state ≡ states.Reading → new.pieces ≡ old.pieces + 1
next_pieces rule states.Reading moment old new before after left_before left_after n e = n.counted.pieces
next_pieces rule states.Ended moment old new before after left_before left_after n e =
    absurd (let x : states.Ended ≡ states.Reading = e in cc)
next_pieces rule states.Faulted moment old new before after left_before left_after n e =
    absurd (let x : states.Faulted ≡ states.Reading = e in cc)
next_pieces rule states.LimitReached moment old new before after left_before left_after n e =
    absurd (let x : states.LimitReached ≡ states.Reading = e in cc)

pub next_same : (rule : InRule) (state : InState) (moment : ℤ) (old new : Group) (before after : Hand)
    (left_before left_after : Option (List ℕ)) → ReadsNext rule state moment old new before after left_before left_after
    → (state ≡ states.Reading → ⊥) → new.pieces ≡ old.pieces
next_same rule states.Reading moment old new before after left_before left_after n ne = absurd (ne refl)
next_same rule states.Ended moment old new before after left_before left_after n ne =
    ap (λ (g : Group). g.pieces) n.same
next_same rule states.Faulted moment old new before after left_before left_after n ne =
    ap (λ (g : Group). g.pieces) n.same
next_same rule states.LimitReached moment old new before after left_before left_after n ne =
    ap (λ (g : Group). g.pieces) n.same

-- a group behind which nothing is read
pub group_ends : (rule : InRule) (state : InState) (moment : ℤ) (old new : Group) (before between after : Hand)
    (left_before left_between left_after : Option (List ℕ)) → Reads rule moment old before between left_before
    left_between → ReadsNext rule state moment old new between after left_between left_after
    → (state ≡ states.Reading → ⊥) → old.pieces < rule.most → (state ≡ states.Ended
    → IsAllRead left_between left_after after) → ReadsGroup rule moment new state before after left_before left_after
group_ends rule state moment old new before between after left_before left_between left_after r n ne few all =
    let reads : Reads rule moment new before after left_before left_after =
    reads_next rule state moment old new before between after left_before left_between left_after r n in
    record {
      reads = reads;
      most = omega (
        arith,
        few,
        reads.pieces,
        next_same rule state moment old new between after left_between left_after
            n ne,
      );
      full = λ e. absurd (ne e);
      all = λ e. told_then left_before left_between left_after
          (λ xs ys. to_come before xs ≡ r.read ++ to_come between ys) (λ ys zs. to_come after zs ≡ [])
          (λ xs zs. to_come after zs ≡ [])
          r.consecutive (all e) (λ xs ys zs a b. b);
    }

-- a group of as many pieces as there may be
pub group_full : (rule : InRule) (moment : ℤ) (group : Group) (before after : Hand)
    (left_before left_after : Option (List ℕ)) → Reads rule moment group before after left_before left_after
    → group.pieces ≡ rule.most → ReadsGroup rule moment group states.Reading before after left_before left_after
group_full rule moment group before after left_before left_after r n = record {
  reads = r;
  most = omega (arith, r.pieces, n);
  full = λ e. sym r.pieces ∙ n;
  all = λ e. absurd (let x : states.Reading ≡ states.Ended = e in cc);
}

pub at_moment : (rule : InRule) (moment : ℤ) (group : Group) (state : InState) (before after : Hand)
    (left_before left_after : Option (List ℕ)) → SFits w64 moment
    → ReadsGroup rule (to_z w64 (of_z w64 moment)) group state before after left_before left_after
    → ReadsGroup rule moment group state before after left_before left_after
at_moment rule moment group state before after left_before left_after fits r =
    subst (λ (m : ℤ). ReadsGroup rule m group state before after left_before left_after) (to_z-of_z w64 moment fits) r
