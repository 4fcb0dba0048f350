-- The words of an entry's line, by what it was read as.
use Rattle.std.proofs.Common.{◌≡◌, ℕ, ℤ, ◌<◌, ◌^◌, Bool, true, false, cond, not, List, [], ◌∷◌, ◌++◌, Option, Some}
use Rattle.std.proofs.Common.{None, zero, suc, refl, sym, ap, subst, ◌∙◌, arith}
use Rattle.std.specs.Prelude.{◌&&◌, FitsSigned, codes, option_map, slice_get}
use Rattle.std.specs.Int.{w64}
use Rattle.std.specs.Fmt.{decimal, signed_decimal}
use Rattle.std.specs.List.{AllByRecursion}
use Rattle.std.specs.Option.{option_to_list}
use Rattle.std.specs.Str.{bytes_eq}
use Rattle.std.proofs.lemmas.Bool.{and_parts}
use Rattle.metric.specs.declared.metric.Content.{Content}
use Rattle.metric.specs.Metric.{IsMetric}
use Rattle.account.specs.declared.entry.Verdict.{Verdict}
use Rattle.account.specs.declared.entry.Verdict.TheVariants.{Passes, Consumed, Late, Removed}
use Rattle.account.specs.declared.entry.Entry.{Entry}
use Rattle.account.specs.declared.entry.Entry.TheVariants.{Gather, Ended, Take, Route, Tick, Stop, Begin, Done}
use Rattle.account.specs.Items.{named_by}
use Rattle.account.specs.Says.{reports_of}
use Rattle.journal_text.specs.declared.setup.JournalSetup.{JournalSetup}
use Rattle.journal_text.specs.MetricText.{metric_text}
use Rattle.journal_text.specs.JournalText.{are_equal, beside_text, whole_text, view_text, verdict_text, group_text}
use Rattle.journal_text.specs.JournalText.{item_of}
use Rattle.journal_text.proofs.JournalLemmas.{equal_are_same}
use Rattle.journal_reader.specs.declared.entry.Begun.{Begun}
use Rattle.journal_reader.specs.declared.entry.Counts.{Counts}
use Rattle.journal_reader.specs.Words.{◌>>=◌, Parts, taken, behind, at_end, each, number, small_number}
use Rattle.journal_reader.specs.Words.{signed_number, either_of}
use Rattle.journal_reader.specs.MetricReading.{content_of, is_metric, metric_of}
use Rattle.journal_reader.specs.EntryReading.{alone, group_of, counts_of, gather_in, ended_in, take_in, made_in}
use Rattle.journal_reader.specs.EntryReading.{tick_of, stop_of, begin_in, done_in, event_in}
use Rattle.journal_reader.specs.EntryReading.{beside_of, view_of, verdict_of, agg_views, whole_in, removed_in}
use Rattle.journal_reader.specs.EntryReading.{routed_in}
use Rattle.journal_reader.specs.EntryReading.{route_in, entry_in, metric_in, report_in}
use Rattle.journal_reader.specs.Spellable.{FitMetrics, FitsGroup, FitsView, FitsEntry}
use Rattle.journal_reader.proofs.WordLemmas.{are_bytes, number_is}
use Rattle.journal_reader.proofs.MetricFacts.{metric_fits}
use Rattle.journal_reader.proofs.Holding.{Holds, no_answer, one_answer, next_answer, where_answer, test_answer}
use Rattle.journal_reader.proofs.Holding.{map_answer}
use Rattle.journal_reader.proofs.EntryAgain.{view_texts, views_words, outcome_text, route_words, first_word}
use Rattle.journal_reader.proofs.TellAgain.{sizes_of, delivered_text}
use Rattle.journal_reader.proofs.WordsBack.{more, same_first, taken_some, behind_some, end_answer}
use Rattle.journal_reader.proofs.WordsBack.{took_number, took_small, took_signed, took_either}

-- ---- metrics beside others

abbrev pub IsText : List ℕ → Content → Type 0
IsText word m = (word ≡ metric_text m) × IsMetric m

pub metric_back : (word : List ℕ) → Holds (IsText word) (metric_of word)
unfolding metric_of
metric_back word =
    next_answer (IsText word) (content_of word) _ (λ m e.
    where_answer (IsText word) (is_metric m && bytes_eq (metric_text m) word) (Some m) (λ t.
    let parts = and_parts (is_metric m) (bytes_eq (metric_text m) word) t in
    one_answer (IsText word) m (sym (are_bytes (metric_text m) word parts.1), metric_fits word m e parts.0)))

not_true : (b : Bool) → not b ≡ true → b ≡ false
not_true true e = absurd cc
not_true false e = refl

equal_text : (m : Content) → beside_text m m ≡ codes "="
unfolding beside_text
equal_text m =
    let same : are_equal m m ≡ true = (equal_are_same m m).1 refl in
    ap (λ (t : Bool). cond t (codes "=") (metric_text m)) same

other_text : (known m : Content) → are_equal m known ≡ false → beside_text known m ≡ metric_text m
unfolding beside_text
other_text known m e = ap (λ (t : Bool). cond t (codes "=") (metric_text m)) e

-- a whole beside its item, which may be known
abbrev pub IsBeside : Option Content → List ℕ → Content → Type 0
IsBeside known word m = (word ≡ whole_text (option_to_list known) m) × IsMetric m

beside_back : (known : Option Content) (word : List ℕ) → FitsView known
    → Holds (IsBeside known word) (beside_of known word)
unfolding beside_of whole_text
beside_back None word h =
    test_answer (IsBeside None word) (bytes_eq word (codes "=")) _ _ (λ e. no_answer (IsBeside None word))
    (λ no_equal. next_answer (IsBeside None word) (metric_of word) _ (λ m e.
    one_answer (IsBeside None word) m ((metric_back word).at m e)))
beside_back (Some known) word h =
    test_answer (IsBeside (Some known) word) (bytes_eq word (codes "=")) _ _
    (λ e. one_answer (IsBeside (Some known) word) known (are_bytes word (codes "=") e ∙ sym (equal_text known), h))
    (λ no_equal. next_answer (IsBeside (Some known) word) (metric_of word) _ (λ m e.
    where_answer (IsBeside (Some known) word) (not (are_equal m known)) (Some m) (λ t.
    let one = (metric_back word).at m e in
    one_answer (IsBeside (Some known) word) m
    (one.0 ∙ sym (other_text known m (not_true (are_equal m known) t)), one.1))))

-- what stands for a view, or for a whole, beside what is known
unfoldable pub beside_known : Option Content → Option Content → List ℕ
beside_known known None = codes "-"
beside_known known (Some m) = whole_text (option_to_list known) m

abbrev pub IsView : Option Content → List ℕ → Option Content → Type 0
IsView known word view = (word ≡ beside_known known view) × FitsView view

view_back : (known : Option Content) (word : List ℕ) → FitsView known → Holds (IsView known word) (view_of known word)
unfolding view_of beside_known
view_back known word h =
    test_answer (IsView known word) (bytes_eq word (codes "-")) _ _
    (λ e. one_answer (IsView known word) None (are_bytes word (codes "-") e, tt))
    (λ other. map_answer (IsView known word) Some (beside_of known word) (λ m e. (beside_back known word h).at m e))

view_is : (whole : Content) (view : Option Content) → beside_known (Some whole) view ≡ view_text whole view
unfolding beside_known view_text whole_text
view_is whole None = refl
view_is whole (Some view) = refl

-- ---- views

abbrev pub AreOuts : Content → Parts → List (Option Content) → Type 0
AreOuts whole words outs = (words ≡ view_texts whole outs) × AllByRecursion FitsView outs

outs_back : (whole : Content) → IsMetric whole → (words : Parts)
    → Holds (AreOuts whole words) (each (view_of (Some whole)) words)
unfolding each view_texts
outs_back whole h [] = one_answer (AreOuts whole []) [] (refl, tt)
outs_back whole h (word ∷ words) =
    next_answer (AreOuts whole (word ∷ words)) (view_of (Some whole) word) _ (λ view e.
    next_answer (AreOuts whole (word ∷ words)) (each (view_of (Some whole)) words) _ (λ others f.
    let v = (view_back (Some whole) word h).at view e in
    let o = (outs_back whole h words).at others f in
    one_answer (AreOuts whole (word ∷ words)) (view ∷ others) (
      same_first word (view_text whole view) words (v.0 ∙ view_is whole view)
          ∙ more (view_text whole view) words (view_texts whole others) o.0,
      (v.1, o.1),
    )))

abbrev pub AreAggs : Content → Parts → List (Option Content) × Parts → Type 0
AreAggs whole words x = (words ≡ view_texts whole x.0 ++ codes "/" ∷ x.1) × AllByRecursion FitsView x.0

aggs_back : (whole : Content) → IsMetric whole → (words : Parts) → Holds (AreAggs whole words) (agg_views whole words)
unfolding agg_views view_texts
aggs_back whole h [] = no_answer (AreAggs whole [])
aggs_back whole h (word ∷ words) =
    test_answer (AreAggs whole (word ∷ words)) (bytes_eq word (codes "/")) _ _
    (λ e. one_answer (AreAggs whole (word ∷ words)) ([], words)
    (same_first word (codes "/") words (are_bytes word (codes "/") e), tt))
    (λ other. next_answer (AreAggs whole (word ∷ words)) (view_of (Some whole) word) _ (λ view e.
    next_answer (AreAggs whole (word ∷ words)) (agg_views whole words) _ (λ others f.
    let v = (view_back (Some whole) word h).at view e in
    let o = (aggs_back whole h words).at others f in
    one_answer (AreAggs whole (word ∷ words)) (view ∷ others.0, others.1) (
      same_first word (view_text whole view) words (v.0 ∙ view_is whole view)
          ∙ more (view_text whole view) words (view_texts whole others.0 ++ codes "/" ∷ others.1) o.0,
      (v.1, o.1),
    ))))

abbrev pub IsVerdict : List ℕ → Verdict → Type 0
IsVerdict word verdict = (word ≡ verdict_text verdict) × ((verdict ≡ Removed) → ⊥)

verdict_back : (word : List ℕ) → Holds (IsVerdict word) (verdict_of word)
unfolding verdict_of
verdict_back word =
    test_answer (IsVerdict word) (bytes_eq word (codes "passes")) _ _
    (λ e. one_answer (IsVerdict word) Passes (are_bytes word (codes "passes") e, (λ is. absurd cc)))
    (λ no_passes. test_answer (IsVerdict word) (bytes_eq word (codes "consumed")) _ _
    (λ e. one_answer (IsVerdict word) Consumed (are_bytes word (codes "consumed") e, (λ is. absurd cc)))
    (λ no_consumed. test_answer (IsVerdict word) (bytes_eq word (codes "late")) _ _
    (λ e. one_answer (IsVerdict word) Late (are_bytes word (codes "late") e, (λ is. absurd cc)))
    (λ no_late. no_answer (IsVerdict word))))

-- ---- the words of an entry that has so many metrics behind its line

unfoldable pub words_with : List Content → Entry → ℕ → Parts
words_with item (Gather input moment pieces refused passed filtered metrics group reports) n =
    decimal input ∷ signed_decimal moment ∷ decimal pieces ∷ decimal refused ∷ decimal passed ∷ decimal filtered
    ∷ decimal n ∷ group_text group ∷ []
words_with item (Ended input) n = decimal input ∷ []
words_with item (Take taken) n = decimal taken ∷ []
words_with item (Route routed whole verdict aggs outs reports) n =
    decimal routed ∷ route_words item whole verdict aggs outs
words_with item (Tick moment made) n = signed_decimal moment ∷ decimal n ∷ []
words_with item (Stop moment made) n = signed_decimal moment ∷ decimal n ∷ []
words_with item (Begin output from to) n = decimal output ∷ decimal from ∷ decimal to ∷ []
words_with item (Done output ok reports) n = decimal output ∷ outcome_text ok ∷ []

-- an entry has no reports while metrics of it are owed, and none are owed of an entry that names none
unfoldable pub Waits : Entry → ℕ → Type 0
Waits (Gather input moment pieces refused passed filtered metrics group reports) owed =
    ((owed ≡ 0) → ⊥) → reports ≡ []
Waits (Ended input) owed = owed ≡ 0
Waits (Take item) owed = owed ≡ 0
Waits (Route item whole verdict aggs outs reports) owed = owed ≡ 0
Waits (Tick moment made) owed = Unit {0}
Waits (Stop moment made) owed = Unit {0}
Waits (Begin output from to) owed = owed ≡ 0
Waits (Done output ok reports) owed = owed ≡ 0

-- what is so of an entry that these words begin
pub record IsBegun (known : List Content) (setup : JournalSetup) (words : Parts) (b : Begun) : Type 0 where
  pub words_are : words ≡ first_word b.entry ∷ words_with (item_of known b.entry) b.entry b.owed
  pub fits : FitsEntry setup b.entry
  pub count : b.owed < 2 ^ 64
  pub named : named_by b.entry ≡ []
  pub reports : reports_of b.entry ≡ []
  pub waits : Waits b.entry b.owed

record AreCounts (words : Parts) (x : Counts × Parts) : Type 0 where
  is : words ≡ decimal x.0.pieces ∷ decimal x.0.refused ∷ decimal x.0.passed ∷ decimal x.0.filtered ∷ x.1
  pieces : x.0.pieces < 2 ^ 32
  refused : x.0.refused < 2 ^ 32
  passed : x.0.passed < 2 ^ 32
  filtered : x.0.filtered < 2 ^ 32

counts_back : (words : Parts) → Holds (AreCounts words) (counts_of words)
unfolding counts_of
counts_back words =
    next_answer (AreCounts words) (taken small_number words) _ (λ pieces a.
    next_answer (AreCounts words) (taken small_number pieces.1) _ (λ refused b.
    next_answer (AreCounts words) (taken small_number refused.1) _ (λ passed d.
    next_answer (AreCounts words) (taken small_number passed.1) _ (λ filtered e.
    let p = took_small words pieces a in
    let q = took_small pieces.1 refused b in
    let r = took_small refused.1 passed d in
    let s = took_small passed.1 filtered e in
    one_answer (AreCounts words) _ (record {
      is =
          p.0
          ∙ more (decimal pieces.0) pieces.1 _ (q.0
          ∙ more (decimal refused.0) refused.1 _ (r.0
          ∙ more (decimal passed.0) passed.1 _ s.0));
      pieces = p.1;
      refused = q.1;
      passed = r.1;
      filtered = s.1;
    })))))

abbrev IsGroup : List ℕ → Option ℕ → Type 0
IsGroup word group = (word ≡ group_text group) × FitsGroup group

group_back : (word : List ℕ) → Holds (IsGroup word) (group_of word)
unfolding group_of
group_back word =
    test_answer (IsGroup word) (bytes_eq word (codes "-")) _ _
    (λ e. one_answer (IsGroup word) None (are_bytes word (codes "-") e, tt))
    (λ other. map_answer (IsGroup word) Some (number word) (λ n e.
    let is = number_is word n e in (is.is, is.fits)))

gather_back : (known : List Content) (setup : JournalSetup) (words : Parts)
    → Holds (IsBegun known setup (codes "gather" ∷ words)) (gather_in words)
unfolding gather_in first_word words_with Waits
gather_back known setup words =
    let P = IsBegun known setup (codes "gather" ∷ words) in
    next_answer P (taken small_number words) _ (λ input a.
    next_answer P (taken signed_number input.1) _ (λ moment b.
    next_answer P (counts_of moment.1) _ (λ counts d.
    next_answer P (taken number counts.1) _ (λ owed e.
    next_answer P (taken group_of owed.1) _ (λ group f.
    let i = took_small words input a in
    let m = took_signed input.1 moment b in
    let k = (counts_back moment.1).at counts d in
    let o = took_number counts.1 owed e in
    let t = taken_some group_of owed.1 group f in
    let g = (group_back t.word).at group.0 t.said in
    let last : owed.1 ≡ group_text group.0 ∷ group.1 = t.is ∙ same_first t.word (group_text group.0) group.1 g.0 in
    end_answer P _ group.1 (λ none. record {
      words_are =
          more (codes "gather") words _ (i.0
          ∙ more (decimal input.0) input.1 _ (m.0
          ∙ more (signed_decimal moment.0) moment.1 _ (k.is
          ∙ ap (λ (ws : Parts). decimal counts.0.pieces ∷ decimal counts.0.refused ∷ decimal counts.0.passed
          ∷ decimal counts.0.filtered ∷ ws) (o.0
          ∙ more (decimal owed.0) owed.1 _ (last
          ∙ more (group_text group.0) group.1 [] none)))));
      fits = record {
        input = i.1;
        moment = m.1;
        pieces = k.pieces;
        refused = k.refused;
        passed = k.passed;
        filtered = k.filtered;
        metrics = record { metrics_are = tt; count = omega arith };
        group = g.1;
      };
      count = o.1;
      named = refl;
      reports = refl;
      waits = λ owes. refl;
    }))))))

-- what is so of an entry without metrics and reports, whose line has these words where so many metrics are owed
record IsBare (known : List Content) (e : Entry) (owed : ℕ) (words : Parts) : Type 0 where
  words_are : words ≡ first_word e ∷ words_with (item_of known e) e owed
  named : named_by e ≡ []
  reports : reports_of e ≡ []
  waits : Waits e owed

-- an entry that is told by one number
number_back : (known : List Content) (setup : JournalSetup) (words : Parts) (word : List ℕ)
    (says : List ℕ → Option ℕ) (entry : ℕ → Entry)
    → ((n : ℕ × Parts) → taken says words ≡ Some n → (words ≡ decimal n.0 ∷ n.1) × FitsEntry setup (entry n.0))
    → ((n : ℕ) → IsBare known (entry n) 0 (word ∷ decimal n ∷ []))
    → Holds (IsBegun known setup (word ∷ words)) (taken says words >>= λ n. at_end (alone (entry n.0)) n.1)
number_back known setup words word says entry took bare =
    let P = IsBegun known setup (word ∷ words) in
    next_answer P (taken says words) _ (λ n a.
    let t = took n a in
    let b = bare n.0 in
    end_answer P _ n.1 (λ none. record {
      words_are = more word words _ (t.0 ∙ more (decimal n.0) n.1 [] none) ∙ b.words_are;
      fits = t.1;
      count = omega arith;
      named = b.named;
      reports = b.reports;
      waits = b.waits;
    }))

ended_back : (known : List Content) (setup : JournalSetup) (words : Parts)
    → Holds (IsBegun known setup (codes "ended" ∷ words)) (ended_in words)
unfolding ended_in first_word words_with Waits
ended_back known setup words =
    number_back known setup words (codes "ended") small_number Ended (took_small words)
    (λ n. record { words_are = refl; named = refl; reports = refl; waits = refl })

take_back : (known : List Content) (setup : JournalSetup) (words : Parts)
    → Holds (IsBegun known setup (codes "take" ∷ words)) (take_in words)
unfolding take_in first_word words_with Waits
take_back known setup words =
    number_back known setup words (codes "take") number Take (took_number words)
    (λ n. record { words_are = refl; named = refl; reports = refl; waits = refl })

begin_back : (known : List Content) (setup : JournalSetup) (words : Parts)
    → Holds (IsBegun known setup (codes "begin" ∷ words)) (begin_in words)
unfolding begin_in first_word words_with Waits
begin_back known setup words =
    let P = IsBegun known setup (codes "begin" ∷ words) in
    next_answer P (taken small_number words) _ (λ output a.
    next_answer P (taken number output.1) _ (λ from b.
    next_answer P (taken number from.1) _ (λ to d.
    let o = took_small words output a in
    let f = took_number output.1 from b in
    let t = took_number from.1 to d in
    end_answer P _ to.1 (λ none. record {
      words_are =
          more (codes "begin") words _ (o.0
          ∙ more (decimal output.0) output.1 _ (f.0
          ∙ more (decimal from.0) from.1 _ (t.0 ∙ more (decimal to.0) to.1 [] none)));
      fits = (o.1, f.1, t.1);
      count = omega arith;
      named = refl;
      reports = refl;
      waits = refl;
    }))))

done_back : (known : List Content) (setup : JournalSetup) (words : Parts)
    → Holds (IsBegun known setup (codes "done" ∷ words)) (done_in words)
unfolding done_in first_word words_with Waits outcome_text
done_back known setup words =
    let P = IsBegun known setup (codes "done" ∷ words) in
    next_answer P (taken small_number words) _ (λ output a.
    next_answer P (taken (either_of (codes "ok") (codes "failed")) output.1) _ (λ outcome b.
    let o = took_small words output a in
    let last : output.1 ≡ outcome_text outcome.0 ∷ outcome.1 =
    took_either (codes "ok") (codes "failed") output.1 outcome b in
    end_answer P _ outcome.1 (λ none. record {
      words_are =
          more (codes "done") words _ (o.0
          ∙ more (decimal output.0) output.1 _ (last ∙ more (outcome_text outcome.0) outcome.1 [] none));
      fits = o.1;
      count = omega arith;
      named = refl;
      reports = refl;
      waits = refl;
    })))

abbrev IsMade : Parts → ℤ × ℕ → Type 0
IsMade words made =
    (words ≡ signed_decimal made.0 ∷ decimal made.1 ∷ []) × FitsSigned w64 made.0 × (made.1 < 2 ^ 64)

made_back : (words : Parts) → Holds (IsMade words) (made_in words)
unfolding made_in
made_back words =
    next_answer (IsMade words) (taken signed_number words) _ (λ moment a.
    next_answer (IsMade words) (taken number moment.1) _ (λ count b.
    let m = took_signed words moment a in
    let n = took_number moment.1 count b in
    end_answer (IsMade words) (moment.0, count.0) count.1 (λ none.
    (m.0 ∙ more (signed_decimal moment.0) moment.1 _ (n.0 ∙ more (decimal count.0) count.1 [] none), m.1, n.1))))

-- an entry that is told by a moment and by how many metrics it made
closing_back : (known : List Content) (setup : JournalSetup) (words : Parts) (word : List ℕ)
    (entry : ℤ → List Content → Entry)
    → ((moment : ℤ) → FitsSigned w64 moment → FitMetrics [] → FitsEntry setup (entry moment []))
    → ((moment : ℤ) (n : ℕ) → IsBare known (entry moment []) n (word ∷ signed_decimal moment ∷ decimal n ∷ []))
    → Holds (IsBegun known setup (word ∷ words))
    (option_map (λ (made : ℤ × ℕ). record { entry = entry made.0 []; owed = made.1 }) (made_in words))
closing_back known setup words word entry fits bare =
    map_answer (IsBegun known setup (word ∷ words)) _ (made_in words) (λ made e.
    let m = (made_back words).at made e in
    let b = bare made.0 made.1 in
    record {
      words_are = more word words _ m.0 ∙ b.words_are;
      fits = fits made.0 m.1 (record { metrics_are = tt; count = omega arith });
      count = m.2;
      named = b.named;
      reports = b.reports;
      waits = b.waits;
    })

tick_back : (known : List Content) (setup : JournalSetup) (words : Parts)
    → Holds (IsBegun known setup (codes "tick" ∷ words)) (option_map tick_of (made_in words))
unfolding first_word words_with Waits
tick_back known setup words =
    closing_back known setup words (codes "tick") Tick (λ moment fits none. (fits, none))
    (λ moment n. record { words_are = refl; named = refl; reports = refl; waits = tt })

stop_back : (known : List Content) (setup : JournalSetup) (words : Parts)
    → Holds (IsBegun known setup (codes "stop" ∷ words)) (option_map stop_of (made_in words))
unfolding first_word words_with Waits
stop_back known setup words =
    closing_back known setup words (codes "stop") Stop (λ moment fits none. (fits, none))
    (λ moment n. record { words_are = refl; named = refl; reports = refl; waits = tt })

-- the same, where the first word is this one
by_word : (known : List Content) (setup : JournalSetup) (word text : List ℕ) (words : Parts) (answer : Option Begun)
    → bytes_eq word text ≡ true → Holds (IsBegun known setup (text ∷ words)) answer
    → Holds (IsBegun known setup (word ∷ words)) answer
by_word known setup word text words answer e h =
    subst (λ (w : List ℕ). Holds (IsBegun known setup (w ∷ words)) answer) (sym (are_bytes word text e)) h

event_back : (known : List Content) (setup : JournalSetup) (word : List ℕ) (words : Parts)
    → Holds (IsBegun known setup (word ∷ words)) (event_in word words)
unfolding event_in
event_back known setup word words =
    let P = IsBegun known setup (word ∷ words) in
    test_answer P (bytes_eq word (codes "gather")) _ _
    (λ e. by_word known setup word (codes "gather") words _ e (gather_back known setup words)) (λ a.
    test_answer P (bytes_eq word (codes "take")) _ _
    (λ e. by_word known setup word (codes "take") words _ e (take_back known setup words)) (λ b.
    test_answer P (bytes_eq word (codes "begin")) _ _
    (λ e. by_word known setup word (codes "begin") words _ e (begin_back known setup words)) (λ d.
    test_answer P (bytes_eq word (codes "done")) _ _
    (λ e. by_word known setup word (codes "done") words _ e (done_back known setup words)) (λ f.
    test_answer P (bytes_eq word (codes "ended")) _ _
    (λ e. by_word known setup word (codes "ended") words _ e (ended_back known setup words)) (λ g.
    test_answer P (bytes_eq word (codes "tick")) _ _
    (λ e. by_word known setup word (codes "tick") words _ e (tick_back known setup words)) (λ h.
    test_answer P (bytes_eq word (codes "stop")) _ _
    (λ e. by_word known setup word (codes "stop") words _ e (stop_back known setup words)) (λ i.
    no_answer P)))))))

-- ---- Routes

abbrev IsRoute : List Content → JournalSetup → Parts → Entry → Type 0
IsRoute known setup words e = IsBegun known setup words (alone e)

removed_back : (known : List Content) (setup : JournalSetup) (item : ℕ) (words : Parts) → item < 2 ^ 64
    → Holds (IsRoute known setup (codes "route" ∷ decimal item ∷ codes "-" ∷ words))
    (removed_in (sizes_of setup) item words)
unfolding removed_in sizes_of first_word words_with route_words Waits
removed_back known setup item words small =
    let P = IsRoute known setup (codes "route" ∷ decimal item ∷ codes "-" ∷ words) in
    next_answer P (behind (codes "removed") words) _ (λ rest e.
    end_answer P _ rest (λ none. record {
      words_are =
          ap (λ (ws : Parts). codes "route" ∷ decimal item ∷ codes "-" ∷ ws)
          (behind_some (codes "removed") words rest e ∙ more (codes "removed") rest [] none);
      fits = (small, (refl, refl, refl));
      count = omega arith;
      named = refl;
      reports = refl;
      waits = refl;
    }))

whole_back : (known : List Content) (setup : JournalSetup) (item : ℕ) (whole : Content) (words : Parts) → item < 2 ^ 64
    → IsMetric whole
    → Holds (IsRoute known setup
    (codes "route" ∷ decimal item ∷ whole_text (option_to_list (slice_get known item)) whole
    ∷ words)) (whole_in item whole words)
unfolding whole_in first_word words_with route_words views_words Waits
whole_back known setup item whole words small is_whole =
    let text = whole_text (option_to_list (slice_get known item)) whole in
    let P = IsRoute known setup (codes "route" ∷ decimal item ∷ text ∷ words) in
    next_answer P (taken verdict_of words) _ (λ verdict a.
    next_answer P (agg_views whole verdict.1) _ (λ aggs b.
    next_answer P (each (view_of (Some whole)) aggs.1) _ (λ outs d.
    let t = taken_some verdict_of words verdict a in
    let v = (verdict_back t.word).at verdict.0 t.said in
    let g = (aggs_back whole is_whole verdict.1).at aggs b in
    let o = (outs_back whole is_whole aggs.1).at outs d in
    one_answer P (Route item (Some whole) verdict.0 aggs.0 outs []) (record {
      words_are =
          ap (λ (ws : Parts). codes "route" ∷ decimal item ∷ text ∷ ws) (t.is
          ∙ same_first t.word (verdict_text verdict.0) verdict.1 v.0
          ∙ more (verdict_text verdict.0) verdict.1 _ (g.0
          ∙ ap (λ (ws : Parts). view_texts whole aggs.0 ++ codes "/" ∷ ws) o.0));
      fits = (small, (v.1, is_whole, g.1, o.1));
      count = omega arith;
      named = refl;
      reports = refl;
      waits = refl;
    }))))

routed_back : (known : List Content) (setup : JournalSetup) (item : ℕ) (whole : Option Content) (words : Parts)
    → item < 2 ^ 64 → FitsView whole
    → Holds (IsRoute known setup (codes "route" ∷ decimal item ∷ beside_known (slice_get known item) whole ∷ words))
    (routed_in (sizes_of setup) item whole words)
unfolding beside_known
routed_back known setup item None words small h = removed_back known setup item words small
routed_back known setup item (Some whole) words small h = whole_back known setup item whole words small h

get_fits : (known : List Content) (i : ℕ) → AllByRecursion IsMetric known → FitsView (slice_get known i)
get_fits [] i h = tt
get_fits (m ∷ known) zero h = h.0
get_fits (m ∷ known) (suc i) h = get_fits known i h.1

route_back : (known : List Content) (setup : JournalSetup) (words : Parts) → AllByRecursion IsMetric known
    → Holds (IsRoute known setup (codes "route" ∷ words)) (route_in known (sizes_of setup) words)
unfolding route_in
route_back known setup words metrics =
    let P = IsRoute known setup (codes "route" ∷ words) in
    next_answer P (taken number words) _ (λ item a.
    next_answer P (taken (view_of (slice_get known item.0)) item.1) _ (λ whole b.
    let i = took_number words item a in
    let t = taken_some (view_of (slice_get known item.0)) item.1 whole b in
    let v = (view_back (slice_get known item.0) t.word (get_fits known item.0 metrics)).at whole.0 t.said in
    let text : words ≡ decimal item.0 ∷ beside_known (slice_get known item.0) whole.0 ∷ whole.1 =
    i.0 ∙ more (decimal item.0) item.1 _ (t.is
    ∙ same_first t.word (beside_known (slice_get known item.0) whole.0) whole.1 v.0) in
    subst (λ (ws : Parts). Holds (IsRoute known setup (codes "route" ∷ ws))
    (routed_in (sizes_of setup) item.0 whole.0 whole.1)) (sym text)
    (routed_back known setup item.0 whole.0 whole.1 i.1 v.1)))

-- the words of a line that begins an entry
pub entry_back : (known : List Content) (setup : JournalSetup) (words : Parts) → AllByRecursion IsMetric known
    → Holds (IsBegun known setup words) (entry_in known (sizes_of setup) words)
unfolding entry_in
entry_back known setup [] metrics = no_answer (IsBegun known setup [])
entry_back known setup (word ∷ words) metrics =
    test_answer (IsBegun known setup (word ∷ words)) (bytes_eq word (codes "route")) _ _
    (λ e. by_word known setup word (codes "route") words _ e
    (map_answer (IsBegun known setup (codes "route" ∷ words)) alone (route_in known (sizes_of setup) words)
    (λ x f. (route_back known setup words metrics).at x f)))
    (λ other. event_back known setup word words)

-- ---- the lines behind it

pub metric_line_back : (words : Parts)
    → Holds (λ (m : Content). (words ≡ codes "m" ∷ metric_text m ∷ []) × IsMetric m) (metric_in words)
unfolding metric_in
metric_line_back words =
    let P = λ (m : Content). (words ≡ codes "m" ∷ metric_text m ∷ []) × IsMetric m in
    next_answer P (behind (codes "m") words) _ (λ rest e.
    next_answer P (taken metric_of rest) _ (λ m f.
    let t = taken_some metric_of rest m f in
    let is = (metric_back t.word).at m.0 t.said in
    end_answer P m.0 m.1 (λ none. (
      behind_some (codes "m") words rest e
          ∙ more (codes "m") rest _ (t.is ∙ same_first t.word (metric_text m.0) m.1 is.0
          ∙ more (metric_text m.0) m.1 [] none),
      is.1,
    ))))

pub report_back : (words : Parts)
    → Holds (λ (said : ℕ × Bool). (words ≡ codes "report" ∷ decimal said.0 ∷ delivered_text said.1 ∷ [])
    × (said.0 < 2 ^ 64)) (report_in words)
unfolding report_in delivered_text
report_back words =
    let P = λ (said : ℕ × Bool). (words ≡ codes "report" ∷ decimal said.0 ∷ delivered_text said.1 ∷ [])
    × (said.0 < 2 ^ 64) in
    next_answer P (behind (codes "report") words) _ (λ rest e.
    next_answer P (taken number rest) _ (λ group f.
    next_answer P (taken (either_of (codes "delivered") (codes "rejected")) group.1) _ (λ delivered g.
    let n = took_number rest group f in
    let last : group.1 ≡ delivered_text delivered.0 ∷ delivered.1 =
    took_either (codes "delivered") (codes "rejected") group.1 delivered g in
    end_answer P (group.0, delivered.0) delivered.1 (λ none. (
      behind_some (codes "report") words rest e
          ∙ more (codes "report") rest _ (n.0 ∙ more (decimal group.0) group.1 _ (last
          ∙ more (delivered_text delivered.0) delivered.1 [] none)),
      n.1,
    )))))
