-- What was read can be spelled, and its text is what was read.
use Rattle.std.proofs.Common.{◌≡◌, ℕ, ◌+◌, Bool, true, false, cond, List, [], ◌∷◌, ◌++◌, length, Option, Some, None, Ok}
use Rattle.std.proofs.Common.{refl, sym, ap, subst, ◌∙◌, arith, append_assoc}
use Rattle.std.specs.Prelude.{◌==◌}
use Rattle.std.specs.List.{join_with_byte, slice_split}
use Rattle.std.specs.Str.{bytes_eq}
use Rattle.std.proofs.lemmas.Bool.{eqb-true}
use Rattle.std.proofs.lemmas.List.{append-nil}
use Rattle.text_parts.specs.Bytes.{newline}
use Rattle.text_parts.specs.Chain.{◌>>=◌}
use Rattle.text_parts.specs.Split.{is_byte}
use Rattle.text_parts.proofs.Splits.{split_are_joined}
use Rattle.account.specs.AccountText.{numbered}
use Rattle.account.specs.declared.entry.Entry.{Entry}
use Rattle.journal_text.specs.declared.setup.JournalSetup.{JournalSetup}
use Rattle.journal_text.specs.SetupText.{start_lines, input_line, agg_line, output_line, setup_text}
use Rattle.journal_text.specs.JournalText.{entries_text, end_text, journal_text}
use Rattle.journal_reader.specs.declared.fault.JournalFault.{JournalFault}
use Rattle.journal_reader.specs.declared.fault.JournalKind.TheVariants.{BadHeader, BadEntry, Torn}
use Rattle.journal_reader.specs.declared.read.Journal.{Journal}
use Rattle.journal_reader.specs.declared.state.State.{State}
use Rattle.journal_reader.specs.declared.state.Stage.{Stage}
use Rattle.journal_reader.specs.declared.state.Stage.TheVariants.{Starting, Setting, Telling, Counting, Over}
use Rattle.journal_reader.specs.States.{beginning}
use Rattle.journal_reader.specs.Steps.{after}
use Rattle.journal_reader.specs.Reading.{fault, version, taken_at, is_over, answer_of, lines_read, version_read}
use Rattle.journal_reader.specs.Reading.{reading}
use Rattle.journal_reader.specs.Meaning.{IsSpellable, text_of, ReadIsWritten}
use Rattle.journal_reader.proofs.WordLemmas.{same_ok, are_bytes}
use Rattle.journal_reader.proofs.TellAgain.{set, tell}
use Rattle.journal_reader.proofs.AccountAgain.{count}
use Rattle.journal_reader.proofs.AccountBack.{account_back}
use Rattle.journal_reader.proofs.StepBack.{start_text, setup_lines, ended_line, Stands, AtStart, AtSet, AtTold}
use Rattle.journal_reader.proofs.StepBack.{AtCounts, AtEnd}
use Rattle.journal_reader.proofs.StepBack.{after_stands}

-- ---- all lines

-- what was read is this journal, and this is its text behind the version
record Written (j : Journal) (text : List ℕ) : Type 0 where
  spellable : IsSpellable j
  is : version ++ newline ∷ text ≡ text_of j

-- a reading at another stage isn't over
not_over : (s : State) (stage : Stage) → is_over stage ≡ false → s.stage ≡ Over → s.stage ≡ stage → ⊥
not_over s stage going over is =
    let clash : true ≡ false = ap is_over (sym over ∙ is) ∙ going in
    absurd cc

plain : (v s i a o rest : List ℕ)
    → v ++ ((s ++ (i ++ (a ++ o))) ++ rest) ≡ (v ++ s ++ i ++ a ++ o) ++ rest
plain v s i a o rest = simp append_assoc

pub setup_whole : (setup : JournalSetup) (rest : List ℕ)
    → version ++ newline ∷ (setup_lines setup ++ rest) ≡ setup_text setup ++ rest
unfolding setup_lines start_text setup_text start_lines
setup_whole setup rest =
    plain (version ++ newline ∷ []) (start_text setup.start) (numbered input_line 0 setup.inputs)
    (numbered agg_line 0 setup.aggs) (numbered output_line 0 setup.outputs) rest

end_is : (s : State) (text : List ℕ) → Stands text s → s.stage ≡ Over
    → Written (record { setup = s.setup; entries = s.entries; account = s.account }) text
unfolding journal_text set tell count
end_is s text (AtStart is none) over = absurd (not_over s Starting refl over (ap (λ (z : State). z.stage) is))
end_is s text (AtSet setup is fits text_is) over =
    absurd (not_over s Setting refl over (ap (λ (z : State). z.stage) is))
end_is s text (AtTold setup entries e owed known groups rest is h t) over =
    absurd (not_over s Telling refl over (ap (λ (z : State). z.stage) is))
end_is s text (AtCounts setup entries known groups counted account rest is h c) over =
    absurd (not_over s Counting refl over (ap (λ (z : State). z.stage) is))
end_is s text (AtEnd setup entries account rest h r) over =
    let j : Journal = record { setup = setup; entries = entries; account = account } in
    let same : j ≡ record { setup = s.setup; entries = s.entries; account = s.account } =
    ap (λ (x : JournalSetup). record j { setup = x }) (sym r.same_setup)
    ∙ ap (λ (es : List Entry). record { setup = s.setup; entries = es; account = account }) (sym r.same_entries)
    ∙ ap (λ (t : List ℕ). record { setup = s.setup; entries = s.entries; account = t }) (sym r.same_account) in
    let written : Written j text = record {
      spellable = record {
        setup_fits = h.fits;
        entries_fit = r.entries_fit;
        reports_stand = r.reports_stand;
        is_account = account_back setup account r.lines;
      };
      is =
          ap (λ (t : List ℕ). version ++ newline ∷ t) h.is
          ∙ setup_whole setup rest
          ∙ ap (λ (t : List ℕ). setup_text setup ++ t) r.is
          ∙ sym (append_assoc (setup_text setup) (entries_text [] entries) (end_text account (length entries)));
    } in
    subst (λ (x : Journal). Written x text) same written

answer_back : (size place : ℕ) (s : State) (text rest : List ℕ) (j : Journal) → Stands text s
    → answer_of size place s rest ≡ Ok j → Written j (text ++ rest)
unfolding answer_of
answer_back size place s text rest j h e = at (is_over s.stage) refl (length rest == 0) refl e
  where
    read : Journal
    read = record { setup = s.setup; entries = s.entries; account = s.account }

    stage_over : (stage : Stage) → is_over stage ≡ true → stage ≡ Over
    stage_over Over e = refl
    stage_over Starting e = absurd cc
    stage_over Setting e = absurd cc
    stage_over Telling e = absurd cc
    stage_over Counting e = absurd cc

    nothing : (t : List ℕ) → (length t == 0) ≡ true → t ≡ []
    nothing [] e = refl
    nothing (b ∷ t) e =
        let none : length (b ∷ t) ≡ 0 = eqb-true (length (b ∷ t)) 0 e in
        absurd (omega (arith, none))

    at : (over : Bool) → is_over s.stage ≡ over → (empty : Bool) → (length rest == 0) ≡ empty
        → cond over (cond empty (Ok read) (fault BadEntry place)) (fault Torn size) ≡ Ok j → Written j (text ++ rest)
    at true o true m f =
        let none : rest ≡ [] = nothing rest m in
        let whole : text ≡ text ++ rest = sym (ap (λ (t : List ℕ). text ++ t) none ∙ append-nil text) in
        subst (λ (x : Journal). Written x (text ++ rest)) (same_ok {F = JournalFault} read j f)
        (subst (Written read) whole (end_is s text h (stage_over s.stage o)))
    at true o false m f = absurd cc
    at false o empty m f = absurd cc

lines_back : (size place : ℕ) (s : State) (text : List ℕ) (lines : List (List ℕ)) (j : Journal) → Stands text s
    → lines_read size place s lines ≡ Ok j → Written j (text ++ join_with_byte newline lines)
unfolding lines_read
lines_back size place s text [] j h e = answer_back size place s text [] j h e
lines_back size place s text (line ∷ []) j h e = answer_back size place s text line j h e
lines_back size place s text (line ∷ next ∷ lines) j h e =
    at (after s line) refl (λ s' is f. lines_back size (place + length line + 1) s' (text ++ ended_line line)
    (next ∷ lines) j
    ((after_stands text line s h).at s' is) f) e
  where
    more : List ℕ
    more = join_with_byte newline (next ∷ lines)

    long : (text ++ ended_line line) ++ more ≡ text ++ (line ++ newline ∷ more)
    long = simp append_assoc

    at : (o : Option State) → after s line ≡ o
        → ((s' : State) → after s line ≡ Some s'
        → lines_read size (place + length line + 1) s' (next ∷ lines) ≡ Ok j
        → Written j ((text ++ ended_line line) ++ more))
        → (taken_at place o >>= λ s'. lines_read size (place + length line + 1) s' (next ∷ lines)) ≡ Ok j
        → Written j (text ++ (line ++ newline ∷ more))
    at None is f g = absurd cc
    at (Some s') is f g = subst (Written j) long (f s' is g)

-- a text that is read begins with the version
version_back : (size : ℕ) (lines : List (List ℕ)) (j : Journal) → version_read size lines ≡ Ok j
    → IsSpellable j × (join_with_byte newline lines ≡ text_of j)
version_back size [] j e = absurd cc
version_back size (line ∷ []) j e = absurd cc
version_back size (line ∷ next ∷ lines) j e = at (bytes_eq line version) refl e
  where
    at : (t : Bool) → bytes_eq line version ≡ t
        → cond t (lines_read size (length line + 1) beginning (next ∷ lines)) (fault BadHeader 0) ≡ Ok j
        → IsSpellable j × (line ++ newline ∷ join_with_byte newline (next ∷ lines) ≡ text_of j)
    at true is f =
        let w = lines_back size (length line + 1) beginning [] (next ∷ lines) j (AtStart refl refl) f in (
          w.spellable,
          ap (λ (l : List ℕ). l ++ newline ∷ join_with_byte newline (next ∷ lines)) (are_bytes line version is) ∙ w.is,
        )
    at false is f = absurd cc

pub read_is_written : ReadIsWritten
unfolding reading
read_is_written text j e =
    let w = version_back (length text) (slice_split (is_byte newline) text) j e in
    (w.0, sym w.1 ∙ (split_are_joined newline text).0)
