-- A text, as the code goes through its lines.
use Rattle.std.proofs.Common.{◌≡◌, ℕ, ◌+◌, Bool, true, false, cond, List, [], ◌∷◌, length, Option, Some, None, Result}
use Rattle.std.proofs.Common.{Ok, Err}
use Rattle.std.proofs.Common.{refl, sym, ap, subst, ◌∙◌, inl, inr, arith}
use Rattle.std.specs.Prelude.{◌==◌, option_map, IfOk, IfSome}
use Rattle.std.specs.Borrow.{Bor}
use Rattle.std.specs.List.{AllByRecursion}
use Rattle.std.specs.List.{slice_split}
use Rattle.std.specs.Str.{bytes_eq}
use Rattle.text_parts.specs.Answers.{Answers}
use Rattle.text_parts.specs.Bytes.{newline}
use Rattle.text_parts.specs.Chain.{◌>>=◌}
use Rattle.text_parts.specs.Split.{is_byte, first_part}
use Rattle.journal_reader.specs.declared.fault.JournalFault.{JournalFault}
use Rattle.journal_reader.specs.declared.fault.JournalKind.{JournalKind}
use Rattle.journal_reader.specs.declared.fault.JournalKind.TheVariants.{BadHeader, BadEntry, Torn}
use Rattle.journal_reader.specs.declared.read.Journal.{Journal}
use Rattle.journal_reader.specs.declared.state.State.{State}
use Rattle.journal_text.specs.JournalText.{IsWholeOrRemoved}
use Rattle.journal_reader.specs.States.{beginning, MakesIt}
use Rattle.journal_reader.specs.Steps.{after}
use Rattle.journal_reader.specs.Reading.{fault, version, taken_at, answer_of, lines_read, version_read, reading}
use Rattle.journal_reader.specs.Reading.{lines_left}
use Rattle.journal_reader.specs.Reading.{is_over}
use Rattle.journal_reader.proofs.PartLemmas.{next_is}
use Rattle.journal_reader.proofs.WithinLemmas.{more_read, some_parts, version_more}
use Rattle.journal_reader.proofs.WholeLemmas.{Wholes}

-- what a text is read as from a place on, behind what was read before it
abbrev pub left_of : ℕ → ℕ → State → List ℕ → Result Journal JournalFault
left_of size place s text = lines_read size place s (slice_split (is_byte newline) text)

-- an answer that is the reading
pub answers_as : {X F : Type 0} (no_memory : F) (result reading : Result X F) → reading ≡ result
    → Answers no_memory (λ x. x) result reading
answers_as no_memory (Ok x) reading e = e
answers_as no_memory (Err fault) reading e = inr e

-- no newline is left
pub no_line_left : (size place : ℕ) (s : State) (rest line : List ℕ) (whole : Result Journal JournalFault)
    → (line, None) ≡ first_part newline rest → left_of size place s rest ≡ whole → whole ≡ answer_of size place s line
unfolding lines_read
no_line_left size place s rest line whole first is =
    sym is ∙ ap (lines_read size place s) (next_is newline rest line None first)

line_left : (size place : ℕ) (s : State) (o : Option State) (rest line behind : List ℕ)
    → (line, Some behind) ≡ first_part newline rest → after s line ≡ o
    → left_of size place s rest
    ≡ (taken_at place o >>= λ t. left_of size (place + length line + 1) t behind)
line_left size place s o rest line behind first made =
    ap (lines_read size place s) (next_is newline rest line (Some behind) first)
    ∙ more_read size place s line (slice_split (is_byte newline) behind) (some_parts (is_byte newline) behind)
    ∙ ap (λ (o : Option State). taken_at place o >>= λ t. left_of size (place + length line + 1) t behind) made

-- a line leads on
pub line_read : (size place : ℕ) (s s' : State) (rest line behind : List ℕ) (whole : Result Journal JournalFault)
    → (line, Some behind) ≡ first_part newline rest → after s line ≡ Some s' → left_of size place s rest ≡ whole
    → left_of size (place + length line + 1) s' behind ≡ whole
line_read size place s s' rest line behind whole first made is =
    sym (line_left size place s (Some s') rest line behind first made) ∙ is

-- a line that no journal has there
pub line_bad : (size place : ℕ) (s : State) (rest line behind : List ℕ) (whole : Result Journal JournalFault)
    → (line, Some behind) ≡ first_part newline rest → after s line ≡ None → left_of size place s rest ≡ whole
    → whole ≡ fault BadEntry place
line_bad size place s rest line behind whole first none is =
    sym is ∙ line_left size place s None rest line behind first none

-- ---- the version

pub no_line : (text line : List ℕ) → (line, None) ≡ first_part newline text → reading text ≡ fault BadHeader 0
unfolding reading
no_line text line first = ap (version_read (length text)) (next_is newline text line None first)

behind_line : (text line behind : List ℕ) (t : Bool) → (line, Some behind) ≡ first_part newline text
    → bytes_eq line version ≡ t
    → reading text ≡ cond t (lines_left (length text) (length line + 1) behind) (fault BadHeader 0)
unfolding reading
behind_line text line behind t first is =
    ap (version_read (length text)) (next_is newline text line (Some behind) first)
    ∙ version_more (length text) line (slice_split (is_byte newline) behind) (some_parts (is_byte newline) behind)
    ∙ ap (λ (t : Bool). cond t (lines_left (length text) (length line + 1) behind) (fault BadHeader 0)) is

pub other_line : (text line behind : List ℕ) → (line, Some behind) ≡ first_part newline text
    → bytes_eq line version ≡ false → reading text ≡ fault BadHeader 0
other_line text line behind first differs = behind_line text line behind false first differs

pub version_line : (text line behind : List ℕ) → (line, Some behind) ≡ first_part newline text
    → bytes_eq line version ≡ true → reading text ≡ lines_left (length text) (length line + 1) behind
version_line text line behind first same = behind_line text line behind true first same

-- ---- what the code's steps say

pub none_behind_it : (line : List ℕ) (o : Option (Bor (List ℕ))) (parts : List ℕ × Option (List ℕ))
    → (line, option_map (λ rest. rest.now) o) ≡ parts → o ≡ None → (line, None) ≡ parts
none_behind_it line o parts e is =
    sym (ap (λ (x : Option (Bor (List ℕ))). (line, option_map (λ rest. rest.now) x)) is) ∙ e

pub some_behind_it : (line : List ℕ) (o : Option (Bor (List ℕ))) (behind : Bor (List ℕ))
    (parts : List ℕ × Option (List ℕ))
    → (line, option_map (λ rest. rest.now) o) ≡ parts → o ≡ Some behind → (line, Some behind.now) ≡ parts
some_behind_it line o behind parts e is =
    sym (ap (λ (x : Option (Bor (List ℕ))). (line, option_map (λ rest. rest.now) x)) is) ∙ e

pub if_some_is : {X : Type 0} (P : X → Type 0) (o : Option X) (x : X) → o ≡ Some x → IfSome o P → P x
if_some_is {X} P o x e h = subst (λ (y : Option X). IfSome y P) e h

pub made_none : {X : Type 0} (t : Bool) (made : Option X) (new : X) → t ≡ false → MakesIt t made new → made ≡ None
made_none true made new e h = absurd cc
made_none false made new e h = h

pub made_some : {X : Type 0} (t : Bool) (made : Option X) (new : X) → t ≡ true → MakesIt t made new → made ≡ Some new
made_some true made new e h = h
made_some false made new e h = absurd cc

pub fault_is : (e : JournalFault) (kind : JournalKind) (place : ℕ) → e.kind ≡ kind → e.place ≡ place
    → (fault {A = Journal} kind place) ≡ Err e
fault_is e kind place k p =
    ap (λ (x : JournalKind). fault {A = Journal} x place) (sym k)
    ∙ ap (λ (n : ℕ). fault {A = Journal} e.kind n) (sym p)

-- what is read has whole entries
pub answer_whole : (size place : ℕ) (s : State) (rest : List ℕ) (result : Result Journal JournalFault) → Wholes s
    → result ≡ answer_of size place s rest → IfOk result (λ (j : Journal). AllByRecursion IsWholeOrRemoved j.entries)
unfolding answer_of
answer_whole size place s rest result h e =
    subst (λ (r : Result Journal JournalFault). IfOk r (λ (j : Journal). AllByRecursion IsWholeOrRemoved j.entries))
    (sym e) (at (is_over s.stage) (length rest == 0))
  where
    read : Result Journal JournalFault
    read = Ok (record { setup = s.setup; entries = s.entries; account = s.account })

    at : (over empty : Bool)
        → IfOk (cond over (cond empty read (fault BadEntry place)) (fault Torn size))
        (λ (j : Journal). AllByRecursion IsWholeOrRemoved j.entries)
    at true true = h.entries_are
    at true false = tt
    at false empty = tt

-- the same, from a place that is counted otherwise
pub line_goes_on : (size place : ℕ) (s s' : State) (rest line behind : List ℕ) (whole : Result Journal JournalFault)
    → (line, Some behind) ≡ first_part newline rest → after s line ≡ Some s' → left_of size place s rest ≡ whole
    → left_of size (place + (length line + 1)) s' behind ≡ whole
line_goes_on size place s s' rest line behind whole first made is =
    let same : place + length line + 1 ≡ place + (length line + 1) = omega arith in
    subst (λ (n : ℕ). left_of size n s' behind ≡ whole) same
    (line_read size place s s' rest line behind whole first made is)

pub places_go : (place size rest line behind : ℕ) → place + rest ≡ size → line + behind + 1 ≡ rest
    → place + (line + 1) + behind ≡ size
places_go place size rest line behind h e = omega (arith, h, e)
