-- The line of an entry is read as its beginning.
use Rattle.std.proofs.Common.{◌≡◌, ℕ, ℤ, ◌<◌, ◌^◌, Bool, true, false, cond, List, [], ◌∷◌, ◌++◌, length, refl, sym}
use Rattle.std.proofs.Common.{Option, Some, None, ap, subst, ◌∙◌, append_assoc, rules}
use Rattle.std.specs.Prelude.{◌==◌, map, slice_get, IsTrue, codes}
use Rattle.std.specs.Fmt.{decimal, signed_decimal}
use Rattle.std.specs.List.{AllByRecursion, flat_map, join_with_byte}
use Rattle.std.specs.Option.{option_to_list}
use Rattle.std.specs.Str.{bytes_eq}
use Rattle.std.proofs.lemmas.List.{append-nil}
use Rattle.text_parts.specs.Bytes.{space, newline, bar}
use Rattle.text_parts.specs.Grammar.{HasNone}
use Rattle.text_parts.specs.Split.{is_byte}
use Rattle.metric.specs.declared.metric.Content.{Content}
use Rattle.metric.specs.Metric.{IsMetric}
use Rattle.account.specs.declared.entry.Verdict.{Verdict}
use Rattle.account.specs.declared.entry.Verdict.TheVariants.{Passes, Consumed, Late, Removed}
use Rattle.account.specs.declared.entry.Entry.{Entry}
use Rattle.account.specs.declared.entry.Entry.TheVariants.{Gather, Ended, Take, Route, Tick, Stop, Begin, Done}
use Rattle.account.specs.Items.{named_by}
use Rattle.journal_text.specs.declared.setup.JournalSetup.{JournalSetup}
use Rattle.journal_text.specs.MetricText.{metric_text}
use Rattle.journal_text.specs.JournalText.{are_equal, beside_text, whole_text, view_text, views_text, verdict_text}
use Rattle.journal_text.specs.JournalText.{routed_text, group_text, gather_line, gather_head, head_text, item_of}
use Rattle.journal_text.proofs.JournalLemmas.{equal_are_same}
use Rattle.journal_reader.specs.Words.{Parts, taken, behind, each, number, either_of}
use Rattle.journal_reader.specs.EntryReading.{group_of, counts_of, gather_in, ended_in, take_in, made_in, begin_in}
use Rattle.journal_reader.specs.EntryReading.{done_in, event_in, beside_of, view_of, verdict_of}
use Rattle.journal_reader.specs.EntryReading.{agg_views, whole_in, removed_in, route_in, entry_in}
use Rattle.journal_reader.specs.Spellable.{FitsGroup, FitsView, FitsRoute, FitsEntry}
use Rattle.journal_reader.proofs.WordLemmas.{are_bytes, number_read, small_read, signed_read, either_text}
use Rattle.journal_reader.proofs.LineWords.{Quiet, literal, index_quiet, signed_quiet, metric_quiet}
use Rattle.journal_reader.proofs.LineWords.{spaced_end, join_end}
use Rattle.journal_reader.proofs.MetricAgain.{metric_again, metric_has_bar}

-- ---- metrics beside others

-- the text of a metric is no single byte other than the bar in it
metric_apart : (m : Content) (c : ℕ) → IsMetric m → (c == bar) ≡ false → bytes_eq (metric_text m) (c ∷ []) ≡ false
metric_apart m c h apart = at (bytes_eq (metric_text m) (c ∷ [])) refl
  where
    at : (t : Bool) → bytes_eq (metric_text m) (c ∷ []) ≡ t → t ≡ false
    at false e = refl
    at true e =
        let none : HasNone (is_byte bar) (metric_text m) =
        subst (HasNone (is_byte bar)) (sym (are_bytes (metric_text m) (c ∷ []) e)) (apart, tt) in
        absurd (metric_has_bar m h none)

beside_at : (known m : Content) (t : Bool) → are_equal m known ≡ t → IsMetric m
    → beside_of (Some known) (cond t (codes "=") (metric_text m)) ≡ Some m
unfolding beside_of
beside_at known m true e h =
    ap (λ (x : Content). Some x) (sym ((equal_are_same m known).0 (true_is (are_equal m known) e)))
  where
    true_is : (b : Bool) → b ≡ true → IsTrue b
    true_is true e = search rules
    true_is false e = absurd cc
beside_at known m false e h = rw (metric_apart m 61 h refl, metric_again m h, e) refl

beside_again : (known m : Content) → IsMetric m → beside_of (Some known) (beside_text known m) ≡ Some m
unfolding beside_text
beside_again known m h = beside_at known m (are_equal m known) refl h

-- a text beside another isn't `-`, nor `/`
beside_apart : (known m : Content) (c : ℕ) → IsMetric m → (c == bar) ≡ false → (61 == c) ≡ false
    → bytes_eq (beside_text known m) (c ∷ []) ≡ false
unfolding beside_text
beside_apart known m c h apart other = at (are_equal m known)
  where
    at : (t : Bool) → bytes_eq (cond t (codes "=") (metric_text m)) (c ∷ []) ≡ false
    at true = rw other refl
    at false = metric_apart m c h apart

beside_quiet : (known m : Content) → IsMetric m → Quiet (beside_text known m)
unfolding beside_text
beside_quiet known m h = at (are_equal m known)
  where
    at : (t : Bool) → Quiet (cond t (codes "=") (metric_text m))
    at true = literal (codes "=") refl refl
    at false = metric_quiet m h

view_again : (whole : Content) (view : Option Content) → FitsView view
    → view_of (Some whole) (view_text whole view) ≡ Some view
unfolding view_of view_text
view_again whole None h = refl
view_again whole (Some view) h = rw (beside_apart whole view 45 h refl refl, beside_again whole view h) refl

view_apart : (whole : Content) (view : Option Content) → FitsView view
    → bytes_eq (view_text whole view) (codes "/") ≡ false
unfolding view_text
view_apart whole None h = refl
view_apart whole (Some view) h = beside_apart whole view 47 h refl refl

view_quiet : (whole : Content) (view : Option Content) → FitsView view → Quiet (view_text whole view)
unfolding view_text
view_quiet whole None h = literal (codes "-") refl refl
view_quiet whole (Some view) h = beside_quiet whole view h

-- the item of a Route, as it is known or not
whole_again : (known : List Content) (item : ℕ) (whole : Content) → IsMetric whole
    → view_of (slice_get known item) (whole_text (option_to_list (slice_get known item)) whole) ≡ Some (Some whole)
unfolding view_of beside_of whole_text
whole_again known item whole h = at (slice_get known item)
  where
    at : (o : Option Content) → view_of o (whole_text (option_to_list o) whole) ≡ Some (Some whole)
    at None = rw (metric_apart whole 45 h refl, metric_apart whole 61 h refl, metric_again whole h) refl
    at (Some m) = rw (beside_apart m whole 45 h refl refl, beside_again m whole h) refl

whole_quiet : (known : List Content) (item : ℕ) (whole : Content) → IsMetric whole
    → Quiet (whole_text (option_to_list (slice_get known item)) whole)
unfolding whole_text
whole_quiet known item whole h = at (slice_get known item)
  where
    at : (o : Option Content) → Quiet (whole_text (option_to_list o) whole)
    at None = metric_quiet whole h
    at (Some m) = beside_quiet m whole h

-- ---- views

unfoldable pub view_texts : Content → List (Option Content) → Parts
view_texts whole views = map (view_text whole) views

outs_again : (whole : Content) (outs : List (Option Content)) → AllByRecursion FitsView outs
    → each (view_of (Some whole)) (view_texts whole outs) ≡ Some outs
unfolding each view_texts
outs_again whole [] h = refl
outs_again whole (view ∷ outs) h = rw (view_again whole view h.0, outs_again whole outs h.1) refl

aggs_again : (whole : Content) (aggs : List (Option Content)) (words : Parts) → AllByRecursion FitsView aggs
    → agg_views whole (view_texts whole aggs ++ codes "/" ∷ words) ≡ Some (aggs, words)
unfolding agg_views view_texts
aggs_again whole [] words h = refl
aggs_again whole (view ∷ aggs) words h =
    rw (view_apart whole view h.0, view_again whole view h.0, aggs_again whole aggs words h.1) refl

verdict_again : (verdict : Verdict) → ((verdict ≡ Removed) → ⊥) → verdict_of (verdict_text verdict) ≡ Some verdict
unfolding verdict_of
verdict_again Passes h = refl
verdict_again Consumed h = refl
verdict_again Late h = refl
verdict_again Removed h = absurd (h refl)

verdict_quiet : (verdict : Verdict) → Quiet (verdict_text verdict)
verdict_quiet Passes = literal (codes "passes") refl refl
verdict_quiet Consumed = literal (codes "consumed") refl refl
verdict_quiet Late = literal (codes "late") refl refl
verdict_quiet Removed = literal (codes "removed") refl refl

unfoldable pub views_words : Content → List (Option Content) → List (Option Content) → Parts
views_words whole aggs outs = view_texts whole aggs ++ codes "/" ∷ view_texts whole outs

whole_words_again : (item : ℕ) (whole : Content) (verdict : Verdict) (aggs outs : List (Option Content))
    → ((verdict ≡ Removed) → ⊥) → AllByRecursion FitsView aggs → AllByRecursion FitsView outs
    → whole_in item whole (verdict_text verdict ∷ views_words whole aggs outs)
    ≡ Some (Route item (Some whole) verdict aggs outs [])
unfolding whole_in views_words
whole_words_again item whole verdict aggs outs stays ha ho =
    rw (verdict_again verdict stays, aggs_again whole aggs (view_texts whole outs) ha, outs_again whole outs ho) refl

-- ---- the words of an entry's line

group_quiet : (group : Option ℕ) → Quiet (group_text group)
group_quiet None = literal (codes "-") refl refl
group_quiet (Some group) = index_quiet group

no_minus : (n : ℕ) → number (codes "-") ≡ Some n → ⊥
unfolding number
no_minus n e = absurd cc

-- the decimal of a number isn't `-`
number_apart_minus : (n : ℕ) → n < 2 ^ 64 → bytes_eq (decimal n) (codes "-") ≡ false
number_apart_minus n h = at (bytes_eq (decimal n) (codes "-")) refl
  where
    at : (t : Bool) → bytes_eq (decimal n) (codes "-") ≡ t → t ≡ false
    at false e = refl
    at true e =
        let wrong : number (codes "-") ≡ Some n =
        ap number (sym (are_bytes (decimal n) (codes "-") e)) ∙ number_read n h in
        absurd (no_minus n wrong)

group_again : (group : Option ℕ) → FitsGroup group → group_of (group_text group) ≡ Some group
unfolding group_of
group_again None h = refl
group_again (Some group) h = rw (number_apart_minus group h, number_read group h) refl

unfoldable pub outcome_text : Bool → List ℕ
outcome_text ok = either_text (codes "ok") (codes "failed") ok

-- the words behind the first one, and that one
unfoldable pub route_words : List Content → Option Content → Verdict → List (Option Content) → List (Option Content)
    → Parts
route_words item None verdict aggs outs = codes "-" ∷ codes "removed" ∷ []
route_words item (Some whole) verdict aggs outs =
    whole_text item whole ∷ verdict_text verdict ∷ views_words whole aggs outs

unfoldable pub first_word : Entry → List ℕ
first_word (Gather input moment pieces refused passed filtered metrics group reports) = codes "gather"
first_word (Ended input) = codes "ended"
first_word (Take item) = codes "take"
first_word (Route item whole verdict aggs outs reports) = codes "route"
first_word (Tick moment made) = codes "tick"
first_word (Stop moment made) = codes "stop"
first_word (Begin output from to) = codes "begin"
first_word (Done output ok reports) = codes "done"

unfoldable pub other_words : List Content → Entry → Parts
other_words item (Gather input moment pieces refused passed filtered metrics group reports) =
    decimal input ∷ signed_decimal moment ∷ decimal pieces ∷ decimal refused ∷ decimal passed ∷ decimal filtered
    ∷ decimal (length metrics) ∷ group_text group ∷ []
other_words item (Ended input) = decimal input ∷ []
other_words item (Take taken) = decimal taken ∷ []
other_words item (Route routed whole verdict aggs outs reports) =
    decimal routed ∷ route_words item whole verdict aggs outs
other_words item (Tick moment made) = signed_decimal moment ∷ decimal (length made) ∷ []
other_words item (Stop moment made) = signed_decimal moment ∷ decimal (length made) ∷ []
other_words item (Begin output from to) = decimal output ∷ decimal from ∷ decimal to ∷ []
other_words item (Done output ok reports) = decimal output ∷ outcome_text ok ∷ []

-- an entry as its line has it, without metrics and reports
unfoldable pub begun_of : Entry → Entry
begun_of (Gather input moment pieces refused passed filtered metrics group reports) =
    Gather input moment pieces refused passed filtered [] group []
begun_of (Ended input) = Ended input
begun_of (Take item) = Take item
begun_of (Route item whole verdict aggs outs reports) = Route item whole verdict aggs outs []
begun_of (Tick moment made) = Tick moment []
begun_of (Stop moment made) = Stop moment []
begun_of (Begin output from to) = Begin output from to
begun_of (Done output ok reports) = Done output ok []

route_again : (known : List Content) (setup : JournalSetup) (item : ℕ) (whole : Option Content) (verdict : Verdict)
    (aggs outs : List (Option Content)) → item < 2 ^ 64 → FitsRoute setup whole verdict aggs outs
    → route_in known (record { aggs = length setup.aggs; outs = length setup.outputs })
    (decimal item ∷ route_words (option_to_list (slice_get known item)) whole verdict aggs outs)
    ≡ Some (Route item whole verdict aggs outs [])
unfolding route_in removed_in view_of behind route_words
route_again known setup item None verdict aggs outs small h =
    rw (number_read item small, h.0, h.1, h.2) refl
route_again known setup item (Some whole) verdict aggs outs small h =
    rw (
      number_read item small,
      whole_again known item whole h.1,
      whole_words_again item whole verdict aggs outs h.0 h.2 h.3,
    ) refl

-- the line of an entry is read as its beginning, with as many metrics owed as it has
pub entry_again : (known : List Content) (setup : JournalSetup) (e : Entry) → FitsEntry setup e
    → entry_in known (record { aggs = length setup.aggs; outs = length setup.outputs })
    (first_word e ∷ other_words (item_of known e) e)
    ≡ Some (record { entry = begun_of e; owed = length (named_by e) })
unfolding entry_in event_in gather_in counts_of ended_in take_in made_in begin_in done_in either_of first_word
    other_words
    begun_of outcome_text
entry_again known setup (Gather input moment pieces refused passed filtered metrics group reports) h =
    rw (
      small_read input h.input,
      signed_read moment h.moment,
      small_read pieces h.pieces,
      small_read refused h.refused,
      small_read passed h.passed,
      small_read filtered h.filtered,
      number_read (length metrics) h.metrics.count,
      group_again group h.group,
    ) refl
entry_again known setup (Ended input) h = rw (small_read input h) refl
entry_again known setup (Take item) h = rw (number_read item h) refl
entry_again known setup (Route item whole verdict aggs outs reports) h =
    rw (route_again known setup item whole verdict aggs outs h.0 h.1) refl
entry_again known setup (Tick moment made) h = rw (signed_read moment h.0, number_read (length made) h.1.count) refl
entry_again known setup (Stop moment made) h = rw (signed_read moment h.0, number_read (length made) h.1.count) refl
entry_again known setup (Begin output from to) h =
    rw (small_read output h.0, number_read from h.1, number_read to h.2) refl
entry_again known setup (Done output true reports) h = rw (small_read output h) refl
entry_again known setup (Done output false reports) h = rw (small_read output h) refl

-- ---- the text of its line

-- words behind others, each behind a space
join_is : (word : List ℕ) (words : Parts)
    → join_with_byte space (word ∷ words) ≡ word ++ flat_map (λ (w : List ℕ). space ∷ w) words
join_is word [] = sym (append-nil word)
join_is word (next ∷ words) = ap (λ (t : List ℕ). word ++ space ∷ t) (join_is next words)

spaced_append : (first second : Parts)
    → flat_map (λ (w : List ℕ). space ∷ w) (first ++ second)
    ≡ flat_map (λ (w : List ℕ). space ∷ w) first ++ flat_map (λ (w : List ℕ). space ∷ w) second
spaced_append [] second = refl
spaced_append (word ∷ first) second =
    ap (λ (t : List ℕ). (space ∷ word) ++ t) (spaced_append first second)
    ∙ sym (append_assoc (space ∷ word) (flat_map (λ (w : List ℕ). space ∷ w) first)
    (flat_map (λ (w : List ℕ). space ∷ w) second))

views_are : (whole : Content) (views : List (Option Content))
    → views_text whole views ≡ flat_map (λ (w : List ℕ). space ∷ w) (view_texts whole views)
unfolding view_texts
views_are whole [] = refl
views_are whole (view ∷ views) = ap (λ (t : List ℕ). (space ∷ view_text whole view) ++ t) (views_are whole views)

views_end : (whole : Content) (views : List (Option Content)) (words : Parts)
    → spaced_end (view_texts whole views ++ words) ≡ views_text whole views ++ spaced_end words
unfolding view_texts
views_end whole [] words = refl
views_end whole (view ∷ views) words =
    ap (λ (t : List ℕ). space ∷ (view_text whole view ++ t)) (views_end whole views words)
    ∙ sym (append_assoc (space ∷ view_text whole view) (views_text whole views) (spaced_end words))

route_text : (item : List Content) (routed : ℕ) (whole : Option Content) (verdict : Verdict)
    (aggs outs : List (Option Content))
    → codes "route " ++ decimal routed ++ routed_text item whole verdict aggs outs
    ≡ join_with_byte space (codes "route" ∷ decimal routed ∷ route_words item whole verdict aggs outs) ++ newline ∷ []
unfolding routed_text route_words views_words
route_text item routed None verdict aggs outs =
    append_assoc (codes "route ") (decimal routed) (codes " - removed\n")
    ∙ sym (join_end (codes "route") (decimal routed ∷ codes "-" ∷ codes "removed" ∷ []))
route_text item routed (Some whole) verdict aggs outs =
    let words : Parts = view_texts whole aggs ++ codes "/" ∷ view_texts whole outs in
    let none : spaced_end (view_texts whole outs) ≡ views_text whole outs ++ newline ∷ [] =
    sym (ap spaced_end (append-nil (view_texts whole outs))) ∙ views_end whole outs [] in
    let views : spaced_end words ≡ views_text whole aggs ++ (codes " /" ++ (views_text whole outs ++ newline ∷ [])) =
    views_end whole aggs (codes "/" ∷ view_texts whole outs)
    ∙ ap (λ (t : List ℕ). views_text whole aggs ++ (codes " /" ++ t)) none in
    plain (codes "route ") (decimal routed) (whole_text item whole) (verdict_text verdict) (views_text whole aggs)
    (views_text whole outs)
    ∙ sym (join_end (codes "route") (decimal routed ∷ whole_text item whole ∷ verdict_text verdict ∷ words)
    ∙ ap (λ (t : List ℕ). codes "route" ++ space ∷ (decimal routed ++ space ∷ (whole_text item whole
    ++ space ∷ (verdict_text verdict ++ t)))) views)
  where
    plain : (a r w v x y : List ℕ)
        → a ++ r ++ (codes " " ++ w ++ codes " " ++ v ++ x ++ codes " /" ++ y ++ codes "\n")
        ≡ a ++ (r ++ space ∷ (w ++ space ∷ (v ++ (x ++ (codes " /" ++ (y ++ newline ∷ []))))))
    plain a r w v x y = simp append_assoc

gather_plain : (a i m p q r s n g sp e : List ℕ)
    → a ++ i ++ sp ++ m ++ ((sp ++ p) ++ ((sp ++ q) ++ ((sp ++ r) ++ ((sp ++ s) ++ ((sp ++ n) ++ []))))) ++ sp ++ g ++ e
    ≡ a ++ (i ++ (sp ++ (m ++ (sp
    ++ (p ++ (sp ++ (q ++ (sp ++ (r ++ (sp ++ (s ++ (sp ++ (n ++ (sp ++ (g ++ e)))))))))))))))
gather_plain a i m p q r s n g sp e = simp (append_assoc, append-nil)

gather_is : (input : ℕ) (moment : ℤ) (pieces refused passed filtered n : ℕ) (group : Option ℕ)
    → gather_line input moment (pieces ∷ refused ∷ passed ∷ filtered ∷ n ∷ []) group
    ≡ join_with_byte space (codes "gather" ∷ decimal input ∷ signed_decimal moment ∷ decimal pieces ∷ decimal refused
    ∷ decimal passed ∷ decimal filtered ∷ decimal n ∷ group_text group ∷ []) ++ newline ∷ []
unfolding gather_line
gather_is input moment pieces refused passed filtered n group =
    gather_plain (codes "gather ") (decimal input) (signed_decimal moment) (decimal pieces) (decimal refused)
    (decimal passed) (decimal filtered) (decimal n) (group_text group) (codes " ") (codes "\n")
    ∙ sym (join_end (codes "gather") (decimal input ∷ signed_decimal moment ∷ decimal pieces ∷ decimal refused
    ∷ decimal passed ∷ decimal filtered ∷ decimal n ∷ group_text group ∷ []))

pub head_is : (item : List Content) (e : Entry)
    → head_text item e ≡ join_with_byte space (first_word e ∷ other_words item e) ++ newline ∷ []
unfolding head_text gather_head first_word other_words outcome_text
head_is item (Gather input moment pieces refused passed filtered metrics group reports) =
    gather_is input moment pieces refused passed filtered (length metrics) group
head_is item (Ended input) = simp append_assoc
head_is item (Take number) = simp append_assoc
head_is item (Route routed whole verdict aggs outs reports) = route_text item routed whole verdict aggs outs
head_is item (Tick moment made) = simp append_assoc
head_is item (Stop moment made) = simp append_assoc
head_is item (Begin output from to) = simp append_assoc
head_is item (Done output true reports) = simp append_assoc
head_is item (Done output false reports) = simp append_assoc

all_views : (whole : Content) (views : List (Option Content)) (behind : Parts) → AllByRecursion FitsView views
    → AllByRecursion Quiet behind → AllByRecursion Quiet (view_texts whole views ++ behind)
unfolding view_texts
all_views whole [] behind h k = k
all_views whole (view ∷ views) behind h k = (view_quiet whole view h.0, all_views whole views behind h.1 k)

route_quiet : (known : List Content) (setup : JournalSetup) (item : ℕ) (whole : Option Content) (verdict : Verdict)
    (aggs outs : List (Option Content)) → FitsRoute setup whole verdict aggs outs
    → AllByRecursion Quiet (route_words (option_to_list (slice_get known item)) whole verdict aggs outs)
unfolding route_words views_words
route_quiet known setup item None verdict aggs outs h =
    (literal (codes "-") refl refl, (literal (codes "removed") refl refl, tt))
route_quiet known setup item (Some whole) verdict aggs outs h =
    let behind : AllByRecursion Quiet (view_texts whole outs) =
    subst (AllByRecursion Quiet) (append-nil (view_texts whole outs)) (all_views whole outs [] h.3 tt) in (
      whole_quiet known item whole h.1,
      (
        verdict_quiet verdict,
        all_views whole aggs (codes "/" ∷ view_texts whole outs) h.2
            (literal (codes "/") refl refl, behind),
      ),
    )

pub words_quiet : (known : List Content) (setup : JournalSetup) (e : Entry) → FitsEntry setup e
    → AllByRecursion Quiet (first_word e ∷ other_words (item_of known e) e)
unfolding first_word other_words outcome_text
words_quiet known setup (Gather input moment pieces refused passed filtered metrics group reports) h =
    let last : AllByRecursion Quiet (decimal (length metrics) ∷ group_text group ∷ []) =
    (index_quiet (length metrics), (group_quiet group, tt)) in
    let numbers : AllByRecursion Quiet (decimal pieces ∷ decimal refused ∷ decimal passed ∷ decimal filtered
    ∷ decimal (length metrics) ∷ group_text group ∷ []) =
    (index_quiet pieces, (index_quiet refused, (index_quiet passed, (index_quiet filtered, last)))) in
    (literal (codes "gather") refl refl, (index_quiet input, (signed_quiet moment h.moment, numbers)))
words_quiet known setup (Ended input) h = (literal (codes "ended") refl refl, (index_quiet input, tt))
words_quiet known setup (Take item) h = (literal (codes "take") refl refl, (index_quiet item, tt))
words_quiet known setup (Route item whole verdict aggs outs reports) h =
    (literal (codes "route") refl refl, (index_quiet item, route_quiet known setup item whole verdict aggs outs h.1))
words_quiet known setup (Tick moment made) h =
    (literal (codes "tick") refl refl, (signed_quiet moment h.0, (index_quiet (length made), tt)))
words_quiet known setup (Stop moment made) h =
    (literal (codes "stop") refl refl, (signed_quiet moment h.0, (index_quiet (length made), tt)))
words_quiet known setup (Begin output from to) h =
    (literal (codes "begin") refl refl, (index_quiet output, (index_quiet from, (index_quiet to, tt))))
words_quiet known setup (Done output true reports) h =
    (literal (codes "done") refl refl, (index_quiet output, (literal (codes "ok") refl refl, tt)))
words_quiet known setup (Done output false reports) h =
    (literal (codes "done") refl refl, (index_quiet output, (literal (codes "failed") refl refl, tt)))
