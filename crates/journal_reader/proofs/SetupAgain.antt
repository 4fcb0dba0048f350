-- The lines of a set-up are read as it.
use Rattle.std.proofs.Common.{◌≡◌, ℕ, ℤ, ◌+◌, Bool, true, false, List, [], ◌∷◌, ◌++◌, length, refl, sym, ap}
use Rattle.std.proofs.Common.{Option, Some, None, subst, ◌∙◌, arith, append_assoc}
use Rattle.std.specs.Prelude.{◌==◌, ◌&&◌, FitsSigned, codes, if◌then◌else◌}
use Rattle.std.specs.Int.{w64}
use Rattle.std.specs.Fmt.{decimal, signed_decimal}
use Rattle.std.specs.List.{AllByRecursion, join_with_byte}
use Rattle.std.proofs.lemmas.List.{append-nil, length_push}
use Rattle.text_parts.specs.Bytes.{space, newline, colon}
use Rattle.text_parts.specs.Split.{is_byte, first_part}
use Rattle.text_parts.proofs.Lacking.{none_append}
use Rattle.account.specs.AccountText.{numbered}
use Rattle.account.specs.declared.setup.AggWord.{AggWord}
use Rattle.account.specs.declared.setup.AggWord.TheVariants.{MinMax, Basic, Merge, Final}
use Rattle.account.specs.declared.setup.AggLine.{AggLine}
use Rattle.journal_text.specs.declared.setup.JournalSetup.{JournalSetup}
use Rattle.journal_text.specs.SetupText.{input_line, letters_text, kind_text, times_text, agg_line, output_line}
use Rattle.journal_reader.specs.declared.state.State.{State}
use Rattle.journal_reader.specs.declared.state.Stage.TheVariants.{Setting}
use Rattle.journal_reader.specs.Words.{where_true, Parts, behind, words_of, cut, either_of}
use Rattle.journal_reader.specs.SetupReading.{start_in, numbered_in, tracking_behind, input_in, output_in}
use Rattle.journal_reader.specs.SetupReading.{letter_of, statistics_of, kind_behind, kind_of, times_in}
use Rattle.journal_reader.specs.SetupReading.{agg_in}
use Rattle.journal_reader.specs.States.{beginning}
use Rattle.journal_reader.specs.Steps.{starting, set_input, set_agg, set_output, setting, after}
use Rattle.journal_reader.specs.Spellable.{FitsInput, FitsOutput, FitsKind, FitsAgg, FitsSetup}
use Rattle.journal_reader.proofs.LeadLemmas.{Leads, leads_nothing, leads_line, leads_then}
use Rattle.journal_reader.proofs.WordLemmas.{small_read, signed_read, either_text}
use Rattle.journal_reader.proofs.LineWords.{Quiet, literal, decimal_quiet, index_quiet, signed_quiet, IsLine, line_of}
use Rattle.journal_reader.proofs.LineWords.{behind_is, lacks, join_end}
use Rattle.journal_reader.proofs.MetricAgain.{cut_at}

-- ---- the start

start_line : ℤ → List ℕ
start_line start = join_with_byte space (codes "start" ∷ signed_decimal start ∷ [])

start_words : (start : ℤ) → FitsSigned w64 start → IsLine (start_line start) (codes "start" ∷ signed_decimal start ∷ [])
unfolding start_line
start_words start h =
    line_of (codes "start") (signed_decimal start ∷ []) (literal (codes "start") refl refl, (signed_quiet start h, tt))

start_again : (start : ℤ) → FitsSigned w64 start → start_in (codes "start" ∷ signed_decimal start ∷ []) ≡ Some start
unfolding start_in
start_again start h = rw (behind_is (codes "start") (signed_decimal start ∷ []), signed_read start h) refl

-- what was read, where that is a set-up so far
unfoldable pub set_up : ℤ → List (Option ℕ) → List AggLine → List (ℕ × ℕ) → State
set_up start inputs aggs outputs = record beginning {
  stage = Setting;
  setup = record { start = start; inputs = inputs; aggs = aggs; outputs = outputs };
}

pub leads_start : (start : ℤ) → FitsSigned w64 start
    → Leads beginning (codes "start " ++ signed_decimal start ++ codes "\n") (set_up start [] [] [])
unfolding start_line starting after set_up
leads_start start h =
    let line = start_words start h in
    let text : codes "start " ++ signed_decimal start ++ codes "\n" ≡ start_line start ++ newline ∷ [] =
    simp append_assoc in
    let made : after beginning (start_line start) ≡ Some (set_up start [] [] []) =
    rw (line.is, start_again start h) refl in
    subst (λ (t : List ℕ). Leads beginning t (set_up start [] [] [])) (sym text)
    (leads_line beginning (set_up start [] [] []) (start_line start) line.none refl made)

-- ---- inputs

pub numbered_again : (word : List ℕ) (index : ℕ) (words : Parts)
    → numbered_in word index (word ∷ decimal index ∷ words) ≡ Some words
unfolding numbered_in
numbered_again word index words =
    rw (behind_is word (decimal index ∷ words), behind_is (decimal index) words) refl

unfoldable pub input_words : Option ℕ → Parts
input_words None = codes "plain" ∷ []
input_words (Some most) = codes "tracked" ∷ decimal most ∷ []

input_quiet : (most : Option ℕ) → FitsInput most → AllByRecursion Quiet (input_words most)
unfolding input_words
input_quiet None h = (literal (codes "plain") refl refl, tt)
input_quiet (Some most) h =
    (literal (codes "tracked") refl refl, (decimal_quiet most (omega (arith, h)), tt))

input_again : (index : ℕ) (most : Option ℕ) → FitsInput most
    → input_in index (codes "input" ∷ decimal index ∷ input_words most) ≡ Some most
unfolding input_in tracking_behind input_words
input_again index None h = rw (numbered_again (codes "input") index (codes "plain" ∷ [])) refl
input_again index (Some most) h =
    rw (numbered_again (codes "input") index (codes "tracked" ∷ decimal most ∷ []), small_read most h) refl

pub input_text : (index : ℕ) (most : Option ℕ)
    → input_line index most
    ≡ join_with_byte space (codes "input" ∷ decimal index ∷ input_words most) ++ newline ∷ []
unfolding input_line input_words
input_text index None = simp append_assoc
input_text index (Some most) = simp append_assoc

input_made : (start : ℤ) (inputs : List (Option ℕ)) (most : Option ℕ) (line : List ℕ) → FitsInput most
    → words_of line ≡ codes "input" ∷ decimal (length inputs) ∷ input_words most
    → after (set_up start inputs [] []) line ≡ Some (set_up start (inputs ++ most ∷ []) [] [])
unfolding after setting set_input set_up
input_made start inputs most line h is = rw (is, input_again (length inputs) most h) refl

leads_inputs : (start : ℤ) (inputs rest : List (Option ℕ)) → AllByRecursion FitsInput rest
    → Leads (set_up start inputs [] []) (numbered input_line (length inputs) rest) (set_up start (inputs ++ rest) [] [])
unfolding numbered set_up
leads_inputs start inputs [] h =
    subst (λ (is : List (Option ℕ)). Leads (set_up start inputs [] []) [] (set_up start is [] []))
    (sym (append-nil inputs)) (leads_nothing (set_up start inputs [] []))
leads_inputs start inputs (most ∷ rest) h =
    let others : Leads (set_up start (inputs ++ most ∷ []) [] [])
    (numbered input_line (length (inputs ++ most ∷ [])) rest)
    (set_up start ((inputs ++ most ∷ []) ++ rest) [] []) = leads_inputs start (inputs ++ most ∷ []) rest h.1 in
    let count : length (inputs ++ most ∷ []) ≡ length inputs + 1 = length_push inputs most in
    let words = line_of (codes "input") (decimal (length inputs) ∷ input_words most)
    (literal (codes "input") refl refl, (index_quiet (length inputs), input_quiet most h.0)) in
    let one = leads_line (set_up start inputs [] []) (set_up start (inputs ++ most ∷ []) [] [])
    (join_with_byte space (codes "input" ∷ decimal (length inputs) ∷ input_words most)) words.none refl
    (input_made start inputs most _ h.0 words.is) in
    subst (λ (t : List ℕ). Leads (set_up start inputs [] []) (t ++ numbered input_line (length inputs + 1) rest)
    (set_up start (inputs ++ most ∷ rest) [] [])) (sym (input_text (length inputs) most))
    (leads_then (set_up start inputs [] []) (set_up start (inputs ++ most ∷ []) [] [])
    (set_up start (inputs ++ most ∷ rest) [] []) _ (numbered input_line (length inputs + 1) rest) one
    (subst (λ (is : List (Option ℕ)). Leads (set_up start (inputs ++ most ∷ []) [] [])
    (numbered input_line (length inputs + 1) rest) (set_up start is [] [])) (append_assoc inputs (most ∷ []) rest)
    (subst (λ (n : ℕ). Leads (set_up start (inputs ++ most ∷ []) [] []) (numbered input_line n rest)
    (set_up start ((inputs ++ most ∷ []) ++ rest) [] [])) count others)))

-- ---- aggregators

pub where_none : {A : Type 0} (t : Bool) → where_true {A = A} t None ≡ None
where_none true = refl
where_none false = refl

letters_quiet : (sum count min max : Bool) → Quiet (codes "basicstats:" ++ letters_text sum count min max)
unfolding letters_text
letters_quiet true true true true = literal (codes "basicstats:scmx") refl refl
letters_quiet true true true false = literal (codes "basicstats:scm") refl refl
letters_quiet true true false true = literal (codes "basicstats:scx") refl refl
letters_quiet true true false false = literal (codes "basicstats:sc") refl refl
letters_quiet true false true true = literal (codes "basicstats:smx") refl refl
letters_quiet true false true false = literal (codes "basicstats:sm") refl refl
letters_quiet true false false true = literal (codes "basicstats:sx") refl refl
letters_quiet true false false false = literal (codes "basicstats:s") refl refl
letters_quiet false true true true = literal (codes "basicstats:cmx") refl refl
letters_quiet false true true false = literal (codes "basicstats:cm") refl refl
letters_quiet false true false true = literal (codes "basicstats:cx") refl refl
letters_quiet false true false false = literal (codes "basicstats:c") refl refl
letters_quiet false false true true = literal (codes "basicstats:mx") refl refl
letters_quiet false false true false = literal (codes "basicstats:m") refl refl
letters_quiet false false false true = literal (codes "basicstats:x") refl refl
letters_quiet false false false false = literal (codes "basicstats:") refl refl

letters_again : (sum count min max : Bool)
    → kind_of (codes "basicstats:" ++ letters_text sum count min max) ≡ Some (Basic sum count min max)
unfolding letters_text kind_of kind_behind statistics_of letter_of cut first_part
letters_again true true true true = refl
letters_again true true true false = refl
letters_again true true false true = refl
letters_again true true false false = refl
letters_again true false true true = refl
letters_again true false true false = refl
letters_again true false false true = refl
letters_again true false false false = refl
letters_again false true true true = refl
letters_again false true true false = refl
letters_again false true false true = refl
letters_again false true false false = refl
letters_again false false true true = refl
letters_again false false true false = refl
letters_again false false false true = refl
letters_again false false false false = refl

both_quiet : (first second : List ℕ) → Quiet first → Quiet second → Quiet (first ++ second)
both_quiet first second h k = record {
  spaces = none_append (is_byte space) first second h.spaces k.spaces;
  newlines = none_append (is_byte newline) first second h.newlines k.newlines;
}

kind_quiet : (kind : AggWord) → FitsKind kind → Quiet (kind_text kind)
unfolding kind_text
kind_quiet MinMax h = literal (codes "minmax") refl refl
kind_quiet (Basic sum count min max) h = letters_quiet sum count min max
kind_quiet Merge h = literal (codes "merge") refl refl
kind_quiet (Final timeout) h =
    both_quiet (codes "final:") (signed_decimal timeout) (literal (codes "final:") refl refl) (signed_quiet timeout h)

final_again : (timeout : ℤ) → FitsSigned w64 timeout
    → kind_of (codes "final:" ++ signed_decimal timeout) ≡ Some (Final timeout)
unfolding kind_of kind_behind
final_again timeout h =
    rw (cut_at colon (codes "final") (signed_decimal timeout) (lacks colon (codes "final") refl), signed_read timeout h)
    refl

kind_again : (kind : AggWord) → FitsKind kind → kind_of (kind_text kind) ≡ Some kind
unfolding kind_text kind_of
kind_again MinMax h = refl
kind_again (Basic sum count min max) h = letters_again sum count min max
kind_again Merge h = refl
kind_again (Final timeout) h = final_again timeout h

unfoldable pub dropping_text : Bool → List ℕ
dropping_text dropping = either_text (codes "drop") (codes "keep") dropping

dropping_quiet : (dropping : Bool) → Quiet (dropping_text dropping)
unfolding dropping_text
dropping_quiet true = literal (codes "drop") refl refl
dropping_quiet false = literal (codes "keep") refl refl

dropping_again : (dropping : Bool) → either_of (codes "drop") (codes "keep") (dropping_text dropping) ≡ Some dropping
unfolding dropping_text either_of
dropping_again true = refl
dropping_again false = refl

unfoldable pub times_words : AggLine → Parts
times_words line =
    signed_decimal line.period ∷ signed_decimal line.delay ∷ signed_decimal line.grace
    ∷ dropping_text line.dropping ∷ []

times_again : (line : AggLine) → FitsAgg line → times_in line.kind (times_words line) ≡ Some line
unfolding times_in times_words
times_again line h =
    rw (
      signed_read line.period h.period,
      signed_read line.delay h.delay,
      signed_read line.grace h.grace,
      dropping_again line.dropping,
    ) refl

agg_again : (index : ℕ) (line : AggLine) → FitsAgg line
    → agg_in index (codes "aggregator" ∷ decimal index ∷ kind_text line.kind ∷ times_words line) ≡ Some line
unfolding agg_in
agg_again index line h =
    rw (
      numbered_again (codes "aggregator") index (kind_text line.kind ∷ times_words line),
      kind_again line.kind h.kind,
      times_again line h,
    ) refl

pub agg_text : (index : ℕ) (line : AggLine)
    → agg_line index line
    ≡ join_with_byte space (codes "aggregator" ∷ decimal index ∷ kind_text line.kind ∷ times_words line) ++ newline ∷ []
unfolding agg_line times_text times_words dropping_text
agg_text index line =
    ended (codes "aggregator ") (decimal index) (kind_text line.kind) (signed_decimal line.period)
    (signed_decimal line.delay) (signed_decimal line.grace) line.dropping
    ∙ sym (join_end (codes "aggregator") (decimal index ∷ kind_text line.kind ∷ signed_decimal line.period
    ∷ signed_decimal line.delay ∷ signed_decimal line.grace ∷ dropping_text line.dropping ∷ []))
  where
    last : (dropping : Bool)
        → (if dropping then codes " drop\n" else codes " keep\n") ≡ space ∷ (dropping_text dropping ++ newline ∷ [])
    last true = refl
    last false = refl

    plain : (a i k p d g sp e : List ℕ)
        → (a ++ i ++ sp) ++ k ++ ((sp ++ p) ++ (sp ++ d) ++ (sp ++ g)) ++ e
        ≡ a ++ (i ++ (sp ++ (k ++ (sp ++ (p ++ (sp ++ (d ++ (sp ++ (g ++ e)))))))))
    plain a i k p d g sp e = simp append_assoc

    ended : (a i k p d g : List ℕ) (dropping : Bool)
        → (a ++ i ++ codes " ") ++ k ++ ((codes " " ++ p) ++ (codes " " ++ d) ++ (codes " " ++ g))
        ++ (if dropping then codes " drop\n" else codes " keep\n")
        ≡ a ++ (i ++ space ∷ (k ++ space ∷ (p ++ space ∷ (d ++ space ∷ (g ++ space ∷ (dropping_text dropping
        ++ newline ∷ []))))))
    ended a i k p d g dropping =
        plain a i k p d g (codes " ") (if dropping then codes " drop\n" else codes " keep\n")
        ∙ ap (λ (e : List ℕ). a ++ (i ++ space ∷ (k ++ space ∷ (p ++ space ∷ (d ++ space ∷ (g ++ e)))))) (last dropping)

no_input : (index : ℕ) (words : Parts) → input_in index (codes "aggregator" ∷ words) ≡ None
unfolding input_in numbered_in behind
no_input index words = refl

agg_made : (start : ℤ) (inputs : List (Option ℕ)) (aggs : List AggLine) (agg : AggLine) (line : List ℕ) (words : Parts)
    → words_of line ≡ codes "aggregator" ∷ words → agg_in (length aggs) (codes "aggregator" ∷ words) ≡ Some agg
    → after (set_up start inputs aggs []) line ≡ Some (set_up start inputs (aggs ++ agg ∷ []) [])
unfolding after setting set_input set_agg set_up
agg_made start inputs aggs agg line words is h =
    rw (is, no_input (length inputs) words, where_none (length aggs == 0 && true), h) refl

leads_aggs : (start : ℤ) (inputs : List (Option ℕ)) (aggs rest : List AggLine) → AllByRecursion FitsAgg rest
    → Leads (set_up start inputs aggs []) (numbered agg_line (length aggs) rest) (set_up start inputs (aggs ++ rest) [])
unfolding numbered times_words set_up
leads_aggs start inputs aggs [] h =
    subst (λ (ls : List AggLine). Leads (set_up start inputs aggs []) [] (set_up start inputs ls []))
    (sym (append-nil aggs)) (leads_nothing (set_up start inputs aggs []))
leads_aggs start inputs aggs (agg ∷ rest) h =
    let others : Leads (set_up start inputs (aggs ++ agg ∷ []) [])
    (numbered agg_line (length (aggs ++ agg ∷ [])) rest)
    (set_up start inputs ((aggs ++ agg ∷ []) ++ rest) []) = leads_aggs start inputs (aggs ++ agg ∷ []) rest h.1 in
    let count : length (aggs ++ agg ∷ []) ≡ length aggs + 1 = length_push aggs agg in
    let last : AllByRecursion Quiet (signed_decimal agg.grace ∷ dropping_text agg.dropping ∷ []) =
    (signed_quiet agg.grace h.0.grace, (dropping_quiet agg.dropping, tt)) in
    let times : AllByRecursion Quiet (times_words agg) =
    (signed_quiet agg.period h.0.period, (signed_quiet agg.delay h.0.delay, last)) in
    let words = line_of (codes "aggregator") (decimal (length aggs) ∷ kind_text agg.kind ∷ times_words agg)
    (literal (codes "aggregator") refl refl, (index_quiet (length aggs), (kind_quiet agg.kind h.0.kind, times))) in
    let one = leads_line (set_up start inputs aggs []) (set_up start inputs (aggs ++ agg ∷ []) [])
    (join_with_byte space (codes "aggregator" ∷ decimal (length aggs) ∷ kind_text agg.kind ∷ times_words agg))
    words.none refl
    (agg_made start inputs aggs agg _ (decimal (length aggs) ∷ kind_text agg.kind ∷ times_words agg) words.is
    (agg_again (length aggs) agg h.0)) in
    subst (λ (t : List ℕ). Leads (set_up start inputs aggs []) (t ++ numbered agg_line (length aggs + 1) rest)
    (set_up start inputs (aggs ++ agg ∷ rest) [])) (sym (agg_text (length aggs) agg))
    (leads_then (set_up start inputs aggs []) (set_up start inputs (aggs ++ agg ∷ []) [])
    (set_up start inputs (aggs ++ agg ∷ rest) []) _ (numbered agg_line (length aggs + 1) rest) one
    (subst (λ (ls : List AggLine). Leads (set_up start inputs (aggs ++ agg ∷ []) [])
    (numbered agg_line (length aggs + 1) rest) (set_up start inputs ls [])) (append_assoc aggs (agg ∷ []) rest)
    (subst (λ (n : ℕ). Leads (set_up start inputs (aggs ++ agg ∷ []) []) (numbered agg_line n rest)
    (set_up start inputs ((aggs ++ agg ∷ []) ++ rest) [])) count others)))

-- ---- outputs

output_again : (index : ℕ) (sizes : ℕ × ℕ) → FitsOutput sizes
    → output_in index (codes "output" ∷ decimal index ∷ decimal sizes.0 ∷ decimal sizes.1 ∷ []) ≡ Some sizes
unfolding output_in
output_again index sizes h =
    rw (
      numbered_again (codes "output") index (decimal sizes.0 ∷ decimal sizes.1 ∷ []),
      small_read sizes.0 h.0,
      small_read sizes.1 h.1,
    ) refl

pub output_text : (index : ℕ) (sizes : ℕ × ℕ)
    → output_line index sizes
    ≡ join_with_byte space (codes "output" ∷ decimal index ∷ decimal sizes.0 ∷ decimal sizes.1 ∷ []) ++ newline ∷ []
unfolding output_line
output_text index sizes = simp append_assoc

output_apart : (index : ℕ) (words : Parts)
    → (input_in index (codes "output" ∷ words) ≡ None) × (agg_in index (codes "output" ∷ words) ≡ None)
unfolding input_in agg_in numbered_in behind
output_apart index words = (refl, refl)

output_made : (start : ℤ) (inputs : List (Option ℕ)) (aggs : List AggLine) (outputs : List (ℕ × ℕ)) (sizes : ℕ × ℕ)
    (line : List ℕ) (words : Parts)
    → words_of line ≡ codes "output" ∷ words → output_in (length outputs) (codes "output" ∷ words) ≡ Some sizes
    → after (set_up start inputs aggs outputs) line ≡ Some (set_up start inputs aggs (outputs ++ sizes ∷ []))
unfolding after setting set_input set_agg set_output set_up
output_made start inputs aggs outputs sizes line words is h =
    rw (
      is,
      (output_apart (length inputs) words).0,
      (output_apart (length aggs) words).1,
      where_none (length aggs == 0 && length outputs == 0),
      where_none (length outputs == 0),
      h,
    ) refl

leads_outputs : (start : ℤ) (inputs : List (Option ℕ)) (aggs : List AggLine) (outputs rest : List (ℕ × ℕ))
    → AllByRecursion FitsOutput rest
    → Leads (set_up start inputs aggs outputs) (numbered output_line (length outputs) rest)
    (set_up start inputs aggs (outputs ++ rest))
unfolding numbered set_up
leads_outputs start inputs aggs outputs [] h =
    subst (λ (os : List (ℕ × ℕ)). Leads (set_up start inputs aggs outputs) [] (set_up start inputs aggs os))
    (sym (append-nil outputs)) (leads_nothing (set_up start inputs aggs outputs))
leads_outputs start inputs aggs outputs (sizes ∷ rest) h =
    let others : Leads (set_up start inputs aggs (outputs ++ sizes ∷ []))
    (numbered output_line (length (outputs ++ sizes ∷ [])) rest)
    (set_up start inputs aggs ((outputs ++ sizes ∷ []) ++ rest)) =
    leads_outputs start inputs aggs (outputs ++ sizes ∷ []) rest h.1 in
    let count : length (outputs ++ sizes ∷ []) ≡ length outputs + 1 = length_push outputs sizes in
    let words = line_of (codes "output") (decimal (length outputs) ∷ decimal sizes.0 ∷ decimal sizes.1 ∷ []) (
      literal (codes "output") refl refl,
      (index_quiet (length outputs), (index_quiet sizes.0, (index_quiet sizes.1, tt))),
    ) in
    let one = leads_line (set_up start inputs aggs outputs) (set_up start inputs aggs (outputs ++ sizes ∷ []))
    (join_with_byte space (codes "output" ∷ decimal (length outputs) ∷ decimal sizes.0 ∷ decimal sizes.1 ∷ []))
    words.none refl
    (output_made start inputs aggs outputs sizes _ (decimal (length outputs) ∷ decimal sizes.0 ∷ decimal sizes.1 ∷ [])
    words.is (output_again (length outputs) sizes h.0)) in
    subst (λ (t : List ℕ). Leads (set_up start inputs aggs outputs)
    (t ++ numbered output_line (length outputs + 1) rest)
    (set_up start inputs aggs (outputs ++ sizes ∷ rest))) (sym (output_text (length outputs) sizes))
    (leads_then (set_up start inputs aggs outputs) (set_up start inputs aggs (outputs ++ sizes ∷ []))
    (set_up start inputs aggs (outputs ++ sizes ∷ rest)) _ (numbered output_line (length outputs + 1) rest) one
    (subst (λ (os : List (ℕ × ℕ)). Leads (set_up start inputs aggs (outputs ++ sizes ∷ []))
    (numbered output_line (length outputs + 1) rest) (set_up start inputs aggs os))
    (append_assoc outputs (sizes ∷ []) rest)
    (subst (λ (n : ℕ). Leads (set_up start inputs aggs (outputs ++ sizes ∷ [])) (numbered output_line n rest)
    (set_up start inputs aggs ((outputs ++ sizes ∷ []) ++ rest))) count others)))

-- ---- the whole set-up, behind the version

pub leads_setup : (setup : JournalSetup) → FitsSetup setup
    → Leads beginning (codes "start " ++ signed_decimal setup.start ++ codes "\n"
    ++ numbered input_line 0 setup.inputs ++ numbered agg_line 0 setup.aggs ++ numbered output_line 0 setup.outputs)
    (record beginning { stage = Setting; setup = setup })
unfolding set_up
leads_setup setup h =
    leads_then beginning (set_up setup.start setup.inputs setup.aggs []) _ _ (numbered output_line 0 setup.outputs)
    (leads_then beginning (set_up setup.start setup.inputs [] []) (set_up setup.start setup.inputs setup.aggs []) _
    (numbered agg_line 0 setup.aggs)
    (leads_then beginning (set_up setup.start [] [] []) (set_up setup.start setup.inputs [] []) _
    (numbered input_line 0 setup.inputs)
    (leads_start setup.start h.start) (leads_inputs setup.start [] setup.inputs h.inputs))
    (leads_aggs setup.start setup.inputs [] setup.aggs h.aggs))
    (leads_outputs setup.start setup.inputs setup.aggs [] setup.outputs h.outputs)
