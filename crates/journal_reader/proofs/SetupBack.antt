-- The words of a line of the set-up, by what it was read as.
use Rattle.std.proofs.Common.{◌≡◌, ℕ, ℤ, Bool, true, false, cond, List, [], ◌∷◌, ◌++◌, Option, Some, None, refl, sym}
use Rattle.std.proofs.Common.{ap, subst, ◌∙◌, append_assoc}
use Rattle.std.specs.Prelude.{◌==◌, FitsSigned, codes}
use Rattle.std.specs.Int.{w64}
use Rattle.std.specs.Fmt.{decimal, signed_decimal}
use Rattle.std.specs.Str.{bytes_eq}
use Rattle.std.proofs.lemmas.Bool.{eqb-true}
use Rattle.std.proofs.lemmas.List.{append-nil}
use Rattle.text_parts.specs.Bytes.{colon}
use Rattle.text_parts.specs.Split.{first_part, behind_first}
use Rattle.text_parts.proofs.Splits.{cut_is_first}
use Rattle.account.specs.declared.setup.AggWord.{AggWord}
use Rattle.account.specs.declared.setup.AggWord.TheVariants.{MinMax, Basic, Merge, Final}
use Rattle.account.specs.declared.setup.AggLine.{AggLine}
use Rattle.journal_text.specs.SetupText.{letter, letters_text, kind_text}
use Rattle.journal_reader.specs.Words.{Parts, taken, behind, cut, none_behind, small_number}
use Rattle.journal_reader.specs.Words.{signed_number, either_of}
use Rattle.journal_reader.specs.SetupReading.{start_in, numbered_in, tracking_behind, tracking_in, input_in, letter_of}
use Rattle.journal_reader.specs.SetupReading.{is_nothing, statistics_of, kind_behind, kind_cut, kind_of}
use Rattle.journal_reader.specs.SetupReading.{times_in, agg_in, output_in}
use Rattle.journal_reader.specs.Spellable.{FitsInput, FitsOutput, FitsKind, FitsAgg}
use Rattle.journal_reader.proofs.WordLemmas.{same_some, are_bytes, signed_is}
use Rattle.journal_reader.proofs.Holding.{Holds, no_answer, one_answer, next_answer, where_answer, test_answer}
use Rattle.journal_reader.proofs.Holding.{map_answer}
use Rattle.journal_reader.proofs.SetupAgain.{input_words, dropping_text, times_words}
use Rattle.journal_reader.proofs.WordsBack.{more, same_first, taken_some, behind_some, end_answer, numbered_some}
use Rattle.journal_reader.proofs.WordsBack.{took_small, took_signed, took_either}

abbrev pub IsStart : Parts → ℤ → Type 0
IsStart words moment = (words ≡ codes "start" ∷ signed_decimal moment ∷ []) × FitsSigned w64 moment

pub start_back : (words : Parts) → Holds (IsStart words) (start_in words)
unfolding start_in
start_back words =
    next_answer (IsStart words) (behind (codes "start") words) _ (λ rest e.
    next_answer (IsStart words) (taken signed_number rest) _ (λ moment f.
    let m = took_signed rest moment f in
    end_answer (IsStart words) moment.0 moment.1 (λ none. (
      behind_some (codes "start") words rest e
          ∙ more (codes "start") rest (signed_decimal moment.0 ∷ []) (m.0
          ∙ more (signed_decimal moment.0) moment.1 [] none),
      m.1,
    ))))

-- ---- inputs

abbrev pub IsTracking : Parts → Option ℕ → Type 0
IsTracking words most = (words ≡ input_words most) × FitsInput most

tracking_back : (words : Parts) → Holds (IsTracking words) (tracking_in words)
unfolding tracking_behind input_words
tracking_back [] = no_answer (IsTracking [])
tracking_back (word ∷ words) =
    test_answer (IsTracking (word ∷ words)) (bytes_eq word (codes "plain")) _ _
    (λ e. end_answer (IsTracking (word ∷ words)) None words (λ none. (
      same_first word (codes "plain") words (are_bytes word (codes "plain") e) ∙ more (codes "plain") words [] none,
      tt,
    )))
    (λ no_plain. test_answer (IsTracking (word ∷ words)) (bytes_eq word (codes "tracked")) _ _
    (λ e. next_answer (IsTracking (word ∷ words)) (taken small_number words) _ (λ most f.
    let m = took_small words most f in
    end_answer (IsTracking (word ∷ words)) (Some most.0) most.1 (λ none. (
      same_first word (codes "tracked") words (are_bytes word (codes "tracked") e)
          ∙ more (codes "tracked") words (decimal most.0 ∷ []) (m.0 ∙ more (decimal most.0) most.1 [] none),
      m.1,
    ))))
    (λ no_tracked. no_answer (IsTracking (word ∷ words))))

abbrev pub IsInput : ℕ → Parts → Option ℕ → Type 0
IsInput index words most = (words ≡ codes "input" ∷ decimal index ∷ input_words most) × FitsInput most

pub input_back : (index : ℕ) (words : Parts) → Holds (IsInput index words) (input_in index words)
unfolding input_in
input_back index words =
    next_answer (IsInput index words) (numbered_in (codes "input") index words) _ (λ rest e.
    record {
      at = λ most f.
          let t = (tracking_back rest).at most f in (
            numbered_some (codes "input") index words rest e
                ∙ ap (λ (ws : Parts). codes "input" ∷ decimal index ∷ ws) t.0,
            t.1,
          );
    })

-- ---- aggregators

letter_back : (l : ℕ) (bs : List ℕ) → bs ≡ letter (l ∷ []) (letter_of l bs).0 ++ (letter_of l bs).1
unfolding letter_of
letter_back l [] = refl
letter_back l (b ∷ bs) = at (b == l) refl
  where
    at : (t : Bool) → (b == l) ≡ t
        → b ∷ bs
        ≡ letter (l ∷ []) (cond {A = Bool × List ℕ} t (true, bs) (false, b ∷ bs)).0
        ++ (cond {A = Bool × List ℕ} t (true, bs) (false, b ∷ bs)).1
    at true e = ap (λ (k : ℕ). k ∷ bs) (eqb-true b l e)
    at false e = refl

nothing_left : (bs : List ℕ) → is_nothing bs ≡ true → bs ≡ []
nothing_left [] e = refl
nothing_left (b ∷ bs) e = absurd cc

abbrev IsStatistics : List ℕ → AggWord → Type 0
IsStatistics letters kind = (codes "basicstats:" ++ letters ≡ kind_text kind) × FitsKind kind

four : (a b d e all s t u v : List ℕ) → all ≡ a ++ s → s ≡ b ++ t → t ≡ d ++ u → u ≡ e ++ v → v ≡ []
    → all ≡ a ++ b ++ d ++ e
four a b d e all s t u v one two three last none =
    one
    ∙ ap (λ (x : List ℕ). a ++ x) (two ∙ ap (λ (x : List ℕ). b ++ x) (three ∙ ap (λ (x : List ℕ). d ++ x) (last
    ∙ ap (λ (x : List ℕ). e ++ x) none ∙ append-nil e)))
    ∙ sym (append_assoc (a ++ b) d e ∙ append_assoc a b (d ++ e))

statistics_back : (letters : List ℕ) → Holds (IsStatistics letters) (statistics_of letters)
unfolding statistics_of kind_text letters_text
statistics_back letters =
    let sum = letter_of 115 letters in
    let count = letter_of 99 sum.1 in
    let min = letter_of 109 count.1 in
    let max = letter_of 120 min.1 in
    where_answer (IsStatistics letters) (is_nothing max.1) (Some (Basic sum.0 count.0 min.0 max.0)) (λ e.
    one_answer (IsStatistics letters) (Basic sum.0 count.0 min.0 max.0) (
      ap (λ (t : List ℕ). codes "basicstats:" ++ t) (four (letter (codes "s") sum.0) (letter (codes "c") count.0)
          (letter (codes "m") min.0) (letter (codes "x") max.0) letters sum.1 count.1 min.1 max.1
          (letter_back 115 letters)
          (letter_back 99 sum.1) (letter_back 109 count.1) (letter_back 120 min.1) (nothing_left max.1 e)),
      tt,
    ))

abbrev IsKind : List ℕ → AggWord → Type 0
IsKind word kind = (word ≡ kind_text kind) × FitsKind kind

behind_back : (kind rest : List ℕ) → Holds (IsKind (kind ++ colon ∷ rest)) (kind_behind kind rest)
unfolding kind_behind kind_text
behind_back kind rest =
    test_answer (IsKind (kind ++ colon ∷ rest)) (bytes_eq kind (codes "basicstats")) _ _
    (λ e. record {
      at = λ word f.
          let s = (statistics_back rest).at word f in
          (ap (λ (t : List ℕ). t ++ colon ∷ rest) (are_bytes kind (codes "basicstats") e) ∙ s.0, s.1);
    })
    (λ no_statistics. test_answer (IsKind (kind ++ colon ∷ rest)) (bytes_eq kind (codes "final")) _ _
    (λ e. map_answer (IsKind (kind ++ colon ∷ rest)) Final (signed_number rest) (λ timeout f.
    let n = signed_is rest timeout f in (
      ap (λ (t : List ℕ). t ++ colon ∷ rest) (are_bytes kind (codes "final") e)
          ∙ ap (λ (t : List ℕ). codes "final:" ++ t) n.is,
      n.fits,
    )))
    (λ no_final. no_answer (IsKind (kind ++ colon ∷ rest))))

-- a word that is cut at a byte
cut_whole : (byte : ℕ) (word front : List ℕ) (rest : Option (List ℕ)) (parts : List ℕ × List ℕ)
    → word ≡ front ++ behind_first byte rest → none_behind front rest ≡ Some parts → word ≡ parts.0 ++ byte ∷ parts.1
cut_whole byte word front None parts is e = absurd cc
cut_whole byte word front (Some rest) parts is e =
    is ∙ ap (λ (p : List ℕ × List ℕ). p.0 ++ byte ∷ p.1) (same_some (front, rest) parts e)

pub cut_back : (byte : ℕ) (word : List ℕ) (parts : List ℕ × List ℕ) → cut byte word ≡ Some parts
    → word ≡ parts.0 ++ byte ∷ parts.1
unfolding cut
cut_back byte word parts e =
    cut_whole byte word (first_part byte word).0 (first_part byte word).1 parts (cut_is_first byte word).0 e

cut_kind : (word : List ℕ) (o : Option (List ℕ × List ℕ)) → cut colon word ≡ o → Holds (IsKind word) (kind_cut o)
cut_kind word None e = no_answer (IsKind word)
cut_kind word (Some parts) e =
    subst (λ (w : List ℕ). Holds (IsKind w) (kind_behind parts.0 parts.1)) (sym (cut_back colon word parts e))
    (behind_back parts.0 parts.1)

kind_back : (word : List ℕ) → Holds (IsKind word) (kind_of word)
unfolding kind_of kind_text
kind_back word =
    test_answer (IsKind word) (bytes_eq word (codes "minmax")) _ _
    (λ e. one_answer (IsKind word) MinMax (are_bytes word (codes "minmax") e, tt))
    (λ no_minmax. test_answer (IsKind word) (bytes_eq word (codes "merge")) _ _
    (λ e. one_answer (IsKind word) Merge (are_bytes word (codes "merge") e, tt))
    (λ no_merge. cut_kind word (cut colon word) refl))

record IsTimes (kind : AggWord) (words : Parts) (line : AggLine) : Type 0 where
  is : words ≡ times_words line
  same : line.kind ≡ kind
  period : FitsSigned w64 line.period
  delay : FitsSigned w64 line.delay
  grace : FitsSigned w64 line.grace

times_back : (kind : AggWord) (words : Parts) → Holds (IsTimes kind words) (times_in kind words)
unfolding times_in times_words dropping_text
times_back kind words =
    next_answer (IsTimes kind words) (taken signed_number words) _ (λ period a.
    next_answer (IsTimes kind words) (taken signed_number period.1) _ (λ delay b.
    next_answer (IsTimes kind words) (taken signed_number delay.1) _ (λ grace d.
    next_answer (IsTimes kind words) (taken (either_of (codes "drop") (codes "keep")) grace.1) _ (λ dropping e.
    let p = took_signed words period a in
    let q = took_signed period.1 delay b in
    let r = took_signed delay.1 grace d in
    let last : grace.1 ≡ dropping_text dropping.0 ∷ dropping.1 =
    took_either (codes "drop") (codes "keep") grace.1 dropping e in
    end_answer (IsTimes kind words) _ dropping.1 (λ none. record {
      is =
          p.0
          ∙ more (signed_decimal period.0) period.1 _ (q.0
          ∙ more (signed_decimal delay.0) delay.1 _ (r.0
          ∙ more (signed_decimal grace.0) grace.1 _ (last
          ∙ more (dropping_text dropping.0) dropping.1 [] none)));
      same = refl;
      period = p.1;
      delay = q.1;
      grace = r.1;
    })))))

abbrev pub IsAgg : ℕ → Parts → AggLine → Type 0
IsAgg index words line =
    (words ≡ codes "aggregator" ∷ decimal index ∷ kind_text line.kind ∷ times_words line) × FitsAgg line

pub agg_back : (index : ℕ) (words : Parts) → Holds (IsAgg index words) (agg_in index words)
unfolding agg_in
agg_back index words =
    next_answer (IsAgg index words) (numbered_in (codes "aggregator") index words) _ (λ rest e.
    next_answer (IsAgg index words) (taken kind_of rest) _ (λ kind f.
    record {
      at = λ line g.
          let k = taken_some kind_of rest kind f in
          let h = (kind_back k.word).at kind.0 k.said in
          let t = (times_back kind.0 kind.1).at line g in (
            numbered_some (codes "aggregator") index words rest e
                ∙ ap (λ (ws : Parts). codes "aggregator" ∷ decimal index ∷ ws) (k.is
                ∙ same_first k.word (kind_text kind.0) kind.1 h.0
                ∙ more (kind_text kind.0) kind.1 (times_words line) t.is
                ∙ ap (λ (x : AggWord). kind_text x ∷ times_words line) (sym t.same)),
            record {
              kind = subst FitsKind (sym t.same) h.1;
              period = t.period;
              delay = t.delay;
              grace = t.grace;
            },
          );
    }))

-- ---- outputs

abbrev pub IsOutput : ℕ → Parts → ℕ × ℕ → Type 0
IsOutput index words sizes =
    (words ≡ codes "output" ∷ decimal index ∷ decimal sizes.0 ∷ decimal sizes.1 ∷ []) × FitsOutput sizes

pub output_back : (index : ℕ) (words : Parts) → Holds (IsOutput index words) (output_in index words)
unfolding output_in
output_back index words =
    next_answer (IsOutput index words) (numbered_in (codes "output") index words) _ (λ rest e.
    next_answer (IsOutput index words) (taken small_number rest) _ (λ batch f.
    next_answer (IsOutput index words) (taken small_number batch.1) _ (λ limit g.
    let b = took_small rest batch f in
    let l = took_small batch.1 limit g in
    end_answer (IsOutput index words) (batch.0, limit.0) limit.1 (λ none. (
      numbered_some (codes "output") index words rest e
          ∙ ap (λ (ws : Parts). codes "output" ∷ decimal index ∷ ws) (b.0
          ∙ more (decimal batch.0) batch.1 (decimal limit.0 ∷ []) (l.0 ∙ more (decimal limit.0) limit.1 [] none)),
      (b.1, l.1),
    )))))
