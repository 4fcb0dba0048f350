-- A journal's text so far, entry by entry.
use Rattle.std.proofs.Common.{◌≡◌, ◌≤◌, ◌<◌, ◌+◌, ℕ, zero, suc, List, [], ◌∷◌, ◌++◌, length, drop, refl, sym, ap, ◌∙◌}
use Rattle.std.proofs.Common.{arith, append-nil, length-drop, ◌==◌, false, take, get_or, subst, append_assoc}
use Rattle.std.specs.List.{slice_get}
use Rattle.std.specs.Option.{option_to_list}
use Rattle.metric.specs.declared.metric.Content.{Content}
use Rattle.account.specs.declared.entry.Entry.{Entry}
use Rattle.account.specs.declared.entry.Entry.TheVariants.{Gather, Ended, Take, Route, Tick, Stop, Begin, Done}
use Rattle.account.specs.Items.{named_by, taken, routes_by, items, routes, unrouted_items}
use Rattle.journal_text.specs.JournalText.{item_of, HasItem, entry_text, entries_text, metric_lines, report_lines}
use Rattle.account.specs.Says.{reports_of}
use Rattle.account.specs.Routes.{IsNextRoute, RoutesInOrder, RouteOnInOrder}
use Rattle.std.specs.Prelude.{◌≢◌}
use Rattle.std.proofs.lemmas.Bool.{ne_eqb}
use Rattle.std.proofs.lemmas.List.{drop_at, drop_more, drop-append-le, drop-drop, drop_all, take_more, take_all}
use Rattle.journal_text.specs.declared.setup.JournalSetup.{JournalSetup}
use Rattle.journal_text.specs.SetupText.{setup_text}
use Rattle.journal_text.specs.Known.{known_of, IsKnown, IsKnownRoute, AreKnown, entry_as}
use Rattle.account.specs.declared.entry.Report.{Report}
use Rattle.account.specs.declared.entry.Verdict.{Verdict}
use Rattle.std.specs.declared.option.Option.{Option}
use Rattle.journal_text.specs.declared.known.Known.{Known}
use Rattle.journal_text.proofs.JournalLemmas.{entries_text-append}
use Rattle.journal_text.proofs.KnownLemmas.{known_stays}
use Rattle.journal_text.specs.SoFar.{text_so_far, noted_text, front_text, IsSpelled, SpellsOn}
use Rattle.account.proofs.ItemLemmas.{items-push}
use Rattle.account.proofs.RouteLemmas.{order_after, in_order-push, routes-push, unrouted-push, next_of, alone}

-- the first of those that a drop leaves is the one at its place
first_left : {X : Type 0} (all item rest : List X) (n : ℕ) → length item ≡ 1 → drop n all ≡ item ++ rest
    → item ≡ option_to_list (slice_get all n)
first_left [] [] rest n l e = absurd (omega (arith, l))
first_left (x ∷ all) [] rest n l e = absurd (omega (arith, l))
first_left [] (y ∷ item) rest zero l e = absurd (let h : [] ≡ y ∷ (item ++ rest) = e in cc)
first_left [] (y ∷ item) rest (suc n) l e = absurd (let h : [] ≡ y ∷ (item ++ rest) = e in cc)
first_left (x ∷ all) (y ∷ []) rest zero l e = let h : x ∷ all ≡ y ∷ rest = e in cc
first_left (x ∷ all) (y ∷ z ∷ item) rest zero l e = absurd (omega (arith, l))
first_left (x ∷ all) (y ∷ item) rest (suc n) l e = first_left all (y ∷ item) rest n l e

none_of : {X : Type 0} (xs : List X) → length xs ≡ 0 → xs ≡ []
none_of [] l = refl
none_of (x ∷ xs) l = absurd (omega (arith, l))

-- the item at hand is that of the entry
pub item_is : (all item rest : List Content) (routed known : ℕ) (e : Entry) → IsNextRoute routed known e
    → HasItem item e → drop routed all ++ named_by e ≡ item ++ rest → item ≡ item_of all e
item_is all item rest routed known (Gather input moment pieces refused passed filtered metrics group reports) h i e =
    none_of item i
item_is all item rest routed known (Ended input) h i e = none_of item i
item_is all item rest routed known (Take taken) h i e = none_of item i
item_is all item rest routed known (Route number whole verdict aggs outs reports) h i e =
    first_left all item rest routed i (sym (append-nil (drop routed all)) ∙ e)
    ∙ ap (λ (n : ℕ). option_to_list (slice_get all n)) (sym h.0)
item_is all item rest routed known (Tick moment made) h i e = none_of item i
item_is all item rest routed known (Stop moment made) h i e = none_of item i
item_is all item rest routed known (Begin output from to) h i e = none_of item i
item_is all item rest routed known (Done output ok reports) h i e = none_of item i

pub has_length : (item : List Content) (e : Entry) → HasItem item e → length item ≡ routes_by e
has_length item (Gather input moment pieces refused passed filtered metrics group reports) i = i
has_length item (Ended input) i = i
has_length item (Take taken) i = i
has_length item (Route number whole verdict aggs outs reports) i = i
has_length item (Tick moment made) i = i
has_length item (Stop moment made) i = i
has_length item (Begin output from to) i = i
has_length item (Done output ok reports) i = i

one_entry : (known : List Content) (e : Entry) → entries_text known (e ∷ []) ≡ entry_text (item_of known e) e
unfolding entries_text
one_entry known e = append-nil (entry_text (item_of known e) e)

no_entries : (known : List Content) → entries_text known [] ≡ []
unfolding entries_text
no_entries known = refl

-- what is known of an entry is so, and of those behind it
known_next : (known : List Known) (named : List Content) (e : Entry) (es : List Entry) → AreKnown known named (e ∷ es)
    → IsKnown (known_of known e) (item_of named e) e × AreKnown (drop (routes_by e) known) (named ++ named_by e) es
unfolding AreKnown
known_next known named e es h = h

known_alone : (known : List Known) (named : List Content) (e : Entry) → IsKnown (known_of known e) (item_of named e) e
    → AreKnown known named (e ∷ [])
unfolding AreKnown
known_alone known named e h = (h, tt)

-- it adds nothing to the entry's text
entry_stays : (known : Known) (item : List Content) (e : Entry) → IsKnown known item e
    → entry_as known item e ≡ entry_text item e
unfolding entry_as entry_text
entry_stays known item e h =
    ap (λ (head : List ℕ). head ++ metric_lines (named_by e) ++ report_lines (reports_of e))
    (known_stays known item e h)

-- one entry, where its item is at hand
pub spells_entry : (known : List Known) (e : Entry) (item kept left : List Content) (text new_text : List ℕ)
    → HasItem item e
    → kept ++ named_by e ≡ item ++ left → new_text ≡ text ++ entry_as (known_of known e) item e
    → SpellsOn known (e ∷ []) kept left text new_text
spells_entry known e item kept left text new_text has rest is journal kept_is order more so =
    let next = (next_of (routes journal) (length (items journal)) e [] more).0 in
    let at_hand : unrouted_items journal ++ named_by e ≡ item ++ left =
    ap (λ (xs : List Content). xs ++ named_by e) (sym kept_is) ∙ rest in
    let its : item ≡ item_of (items journal) e = item_is (items journal) item left (routes journal)
    (length (items journal)) e next has at_hand in
    let known_so : IsKnown (known_of known e) item e =
    subst (λ (i : List Content). IsKnown (known_of known e) i e) (sym its)
    (known_next known (items journal) e [] so).0 in
    record {
      left_are = sym (drop_at item left (routes_by e) (has_length item e has)) ∙ ap (drop (routes_by e)) (sym at_hand)
          ∙ sym (unrouted-push journal e order);
      spelled = is ∙ ap (λ (t : List ℕ). text ++ t) (entry_stays (known_of known e) item e known_so)
          ∙ ap (λ (i : List Content). text ++ entry_text i e) its
          ∙ ap (λ (t : List ℕ). text ++ t) (sym (one_entry (items journal) e));
      in_order = in_order-push journal e order next;
    }

-- the first so many of the entries were spelled, and the Routes of the others come in order, and what is known of them
-- is so
abbrev pub SpellsFirst : List Known → ℕ → List Entry → List Content → List Content → List ℕ → List ℕ → Type 0
SpellsFirst known n entries kept left text new_text =
    (journal : List Entry) → kept ≡ unrouted_items journal → RoutesInOrder 0 0 journal → RouteOnInOrder journal entries
    → AreKnown known (items journal) entries → IsSpelled journal (take n entries) left text new_text
    × RouteOnInOrder (journal ++ take n entries) (drop n entries)
    × AreKnown (drop (routes (take n entries)) known) (items (journal ++ take n entries)) (drop n entries)

none_routed : routes [] ≡ 0
unfolding routes
none_routed = refl

pub spells_no_more : (known : List Known) (entries : List Entry) (kept : List Content) (text : List ℕ)
    → SpellsFirst known 0 entries kept kept text text
spells_no_more known entries kept text journal kept_is order more so = (
  record {
    left_are = kept_is ∙ ap unrouted_items (sym (append-nil journal));
    spelled = sym (append-nil text) ∙ ap (λ (t : List ℕ). text ++ t) (sym (no_entries (items journal)));
    in_order = subst (RoutesInOrder 0 0) (sym (append-nil journal)) order;
  },
  subst (λ (p : List Entry). RouteOnInOrder p entries) (sym (append-nil journal)) more,
  subst (λ (all : List Known). AreKnown all (items (journal ++ [])) entries)
      (ap (λ (m : ℕ). drop m known) (sym none_routed))
      (subst (λ (p : List Entry). AreKnown known (items p) entries) (sym (append-nil journal)) so),
)

pub items-append : (es more : List Entry) → items (es ++ more) ≡ items es ++ items more
unfolding items
items-append [] more = refl
items-append (e ∷ es) more = ap (λ (xs : List Content). named_by e ++ xs) (items-append es more)
    ∙ sym (append_assoc (named_by e) (items es) (items more))

-- entries behind others, which know what those named
pub text_behind : (journal es more : List Entry) → entries_text (items journal) (es ++ more) ≡ entries_text
    (items journal) es ++ entries_text (items (journal ++ es)) more
text_behind journal es more =
    entries_text-append (items journal) es more ∙ ap (λ (known : List Content). entries_text (items journal) es
    ++ entries_text known more) (sym (items-append journal es))

pub spells_more : (known : List Known) (n : ℕ) (entries : List Entry) (e : Entry) (kept mid left : List Content)
    (text mid_text new_text : List ℕ) → n < length entries → e ≡ get_or entries n e
    → SpellsFirst known n entries kept mid text mid_text
    → SpellsOn (drop (routes (take n entries)) known) (e ∷ []) mid left mid_text new_text
    → SpellsFirst known (n + 1) entries kept left text new_text
spells_more known n entries e kept mid left text mid_text new_text l is first one journal kept_is order more known_so =
    let so = first journal kept_is order more known_so in
    let front : List Entry = journal ++ take n entries in
    let split : drop n entries ≡ e ∷ drop (n + 1) entries = drop_more entries n e l
    ∙ ap (λ (x : Entry). x ∷ drop (n + 1) entries) (sym is) in
    let next = next_of (routes front) (length (items front)) e (drop (n + 1) entries)
    (subst (λ (es : List Entry). RouteOnInOrder front es) split so.1) in
    let behind : take n entries ++ e ∷ [] ≡ take (n + 1) entries =
    ap (λ (x : Entry). take n entries ++ x ∷ []) is ∙ sym (take_more entries n e l) in
    let grown : front ++ e ∷ [] ≡ journal ++ take (n + 1) entries =
    append_assoc journal (take n entries) (e ∷ []) ∙ ap (λ (es : List Entry). journal ++ es) behind in
    let rest : List Known = drop (routes (take n entries)) known in
    let its = known_next rest (items front) e (drop (n + 1) entries)
    (subst (λ (es : List Entry). AreKnown rest (items front) es) split so.2) in
    let rest_is : drop (routes_by e) rest ≡ drop (routes (take (n + 1) entries)) known =
    drop-drop (routes_by e) (routes (take n entries)) known ∙ ap (λ (m : ℕ). drop m known)
    (sym (routes-push (take n entries) e) ∙ ap routes behind) in
    let last = one front so.0.left_are so.0.in_order (alone (routes front) (length (items front)) e next.0)
    (known_alone rest (items front) e its.0) in (
      record {
        left_are = last.left_are ∙ ap unrouted_items grown;
        spelled = last.spelled ∙ ap (λ (t : List ℕ). t ++ entries_text (items front) (e ∷ [])) so.0.spelled
            ∙ append_assoc text (entries_text (items journal) (take n entries)) (entries_text (items front) (e ∷ []))
            ∙ ap (λ (t : List ℕ). text ++ t) (sym (text_behind journal (take n entries) (e ∷ []))
            ∙ ap (entries_text (items journal)) behind);
        in_order = subst (RoutesInOrder 0 0) grown last.in_order;
      },
      subst (λ (p : List Entry). RouteOnInOrder p (drop (n + 1) entries)) grown
          (order_after front e (drop (n + 1) entries) next.1),
      subst (λ (all : List Known). AreKnown all (items (journal ++ take (n + 1) entries)) (drop (n + 1) entries))
          rest_is
          (subst (λ (p : List Entry). AreKnown (drop (routes_by e) rest) (items p) (drop (n + 1) entries)) grown
          (subst (λ (named : List Content). AreKnown (drop (routes_by e) rest) named (drop (n + 1) entries)) (sym
          (items-push front e)) its.1)),
    )

pub spells_all : (known : List Known) (n : ℕ) (entries : List Entry) (kept left : List Content) (text new_text : List ℕ)
    → length entries ≤ n → SpellsFirst known n entries kept left text new_text
    → SpellsOn known entries kept left text new_text
spells_all known n entries kept left text new_text l first journal kept_is order more so =
    subst (λ (es : List Entry). IsSpelled journal es left text new_text) (take_all n entries l)
    (first journal kept_is order more so).0

-- the text so far with entries behind it
pub so_far_more : (setup : JournalSetup) (journal entries : List Entry)
    → text_so_far setup (journal ++ entries) ≡ text_so_far setup journal ++ entries_text (items journal) entries
so_far_more setup journal entries = ap (λ (t : List ℕ). setup_text setup ++ t) (all journal)
    ∙ sym (append_assoc (setup_text setup) (entries_text [] journal) (entries_text (items journal) entries))
  where
    all : (journal : List Entry) → entries_text [] (journal ++ entries) ≡ entries_text [] journal
        ++ entries_text (items journal) entries
    all journal = entries_text-append [] journal entries

none_known : items [] ≡ []
unfolding items
none_known = refl

-- what was put, the front of the next part, and its entries are the text so far then
pub part_text : (setup : JournalSetup) (count : ℕ) (journal entries : List Entry) → count ≡ length journal
    → noted_text setup journal ++ (front_text setup count ++ entries_text (items journal) entries) ≡ text_so_far setup
    (journal ++ entries)
part_text setup count [] entries none = rw (none, none_known) refl
part_text setup zero (e ∷ journal) entries some = absurd (omega (arith, some))
part_text setup (suc n) (e ∷ journal) entries some =
    let later : (suc n == 0) ≡ false = ne_eqb (suc n) 0 (λ z. absurd (omega (arith, z))) in
    rw later (sym (so_far_more setup (e ∷ journal) entries))

-- some entries: the text so far is what is put
pub noted_some : (setup : JournalSetup) (journal entries : List Entry) → length entries ≢ 0
    → noted_text setup (journal ++ entries) ≡ text_so_far setup (journal ++ entries)
noted_some setup [] [] some = absurd (some refl)
noted_some setup [] (e ∷ entries) some = refl
noted_some setup (x ∷ journal) entries some = refl

-- ---- what is known with one entry more

-- one that is no Route
pub known_more : (known : List Known) (named : List Content) (es : List Entry) (e : Entry) → routes_by e ≡ 0
    → AreKnown known named es → AreKnown known named (es ++ e ∷ [])
unfolding AreKnown
known_more known named [] e none h = (other known (item_of named e) e none, tt)
  where
    other : (known : List Known) (item : List Content) (e : Entry) → routes_by e ≡ 0
        → IsKnown (known_of known e) item e
    other known item (Gather input moment pieces refused passed filtered metrics group reports) none = tt
    other known item (Ended input) none = tt
    other known item (Take number) none = tt
    other known item (Route number whole verdict aggs outs reports) none = absurd (omega (arith, none))
    other known item (Tick moment made) none = tt
    other known item (Stop moment made) none = tt
    other known item (Begin output from to) none = tt
    other known item (Done output ok reports) none = tt
known_more known named (x ∷ es) e none h = (
  h.0,
  known_more (drop (routes_by x) known) (named ++ named_by x) es e none h.1,
)

-- what is known of an entry is the same where more is known of those behind it
known_first : (known more : List Known) (e : Entry) → routes_by e ≤ length known
    → known_of (known ++ more) e ≡ known_of known e
known_first known more (Gather input moment pieces refused passed filtered metrics group reports) l = refl
known_first known more (Ended input) l = refl
known_first known more (Take number) l = refl
known_first [] more (Route number whole verdict aggs outs reports) l = absurd (omega (arith, l))
known_first (k ∷ known) more (Route number whole verdict aggs outs reports) l = refl
known_first known more (Tick moment made) l = refl
known_first known more (Stop moment made) l = refl
known_first known more (Begin output from to) l = refl
known_first known more (Done output ok reports) l = refl

-- a Route, of which this is known
pub known_route : (all : List Known) (named : List Content) (es : List Entry) (known : Known) (routed : ℕ)
    (whole : Option Content) (verdict : Verdict) (aggs outs : List (Option Content)) (reports : List Report)
    → length all ≡ routes es
    → IsKnownRoute known (option_to_list (slice_get (named ++ items es) routed)) whole aggs outs → AreKnown all named es
    → AreKnown (all ++ known ∷ []) named (es ++ Route routed whole verdict aggs outs reports ∷ [])
unfolding AreKnown items routes
known_route [] named [] known routed whole verdict aggs outs reports count is h = (
  subst (λ (xs : List Content). IsKnownRoute known (option_to_list (slice_get xs routed)) whole aggs outs)
      (append-nil named) is,
  tt,
)
known_route (k ∷ all) named [] known routed whole verdict aggs outs reports count is h =
    absurd (omega (arith, count))
known_route all named (x ∷ es) known routed whole verdict aggs outs reports count is h =
    let few : routes_by x ≤ length all = omega (arith, count) in
    let behind : length (drop (routes_by x) all) ≡ routes es = omega (arith, length-drop (routes_by x) all, count) in (
      subst (λ (k : Known). IsKnown k (item_of named x) x) (sym (known_first all (known ∷ []) x few)) h.0,
      subst (λ (ks : List Known). AreKnown ks (named ++ named_by x)
          (es ++ Route routed whole verdict aggs outs reports ∷ []))
          (sym (drop-append-le (routes_by x) all (known ∷ []) few))
          (known_route (drop (routes_by x) all) (named ++ named_by x) es known routed whole verdict aggs outs reports
          behind (subst (λ (xs : List Content). IsKnownRoute known (option_to_list (slice_get xs routed)) whole aggs
          outs) (sym (append_assoc named (named_by x) (items es))) is) h.1),
    )

-- where as many are known as there are Routes, none is left behind them
pub known_behind : (known : List Known) (es : List Entry) → length known ≡ routes es → drop (routes es) known ≡ []
known_behind known es count = drop_all (routes es) known (omega (arith, count))
