-- Where faults are, and that they stay.
use Rattle.std.proofs.Common.{◌≡◌, ℕ, suc, ◌+◌, ◌<◌, ◌≤◌, Bool, true, false, cond, List, [], ◌∷◌, ◌++◌, length, Option}
use Rattle.std.proofs.Common.{Some}
use Rattle.std.proofs.Common.{None, Result, Ok, Err, refl, sym, ap, subst, ◌∙◌, arith}
use Rattle.std.specs.Prelude.{◌==◌}
use Rattle.std.specs.List.{slice_split, join_with_byte, onto_first}
use Rattle.std.specs.Str.{bytes_eq}
use Rattle.std.proofs.lemmas.Bool.{ne_eqb}
use Rattle.std.proofs.lemmas.List.{length-append}
use Rattle.text_parts.specs.Bytes.{newline}
use Rattle.text_parts.specs.Chain.{◌>>=◌}
use Rattle.text_parts.specs.Split.{is_byte}
use Rattle.text_parts.proofs.Splits.{split_are_joined}
use Rattle.journal_reader.specs.declared.fault.JournalFault.{JournalFault}
use Rattle.journal_reader.specs.declared.fault.JournalKind.{JournalKind}
use Rattle.journal_reader.specs.declared.fault.JournalKind.TheVariants.{BadHeader, BadEntry, Torn, OutOfMemory}
use Rattle.journal_reader.specs.declared.read.Journal.{Journal}
use Rattle.journal_reader.specs.declared.state.State.{State}
use Rattle.journal_reader.specs.declared.state.Stage.{Stage}
use Rattle.journal_reader.specs.declared.state.Stage.TheVariants.{Starting, Setting, Telling, Counting, Over}
use Rattle.journal_reader.specs.States.{beginning}
use Rattle.journal_reader.specs.Steps.{after, at_stage}
use Rattle.journal_reader.specs.Reading.{fault, version, taken_at, is_over, answer_of, lines_read, version_read}
use Rattle.journal_reader.specs.Reading.{reading}
use Rattle.journal_reader.specs.Meaning.{FaultIsWithin, FaultsStay}

-- ---- within the text

abbrev pub place_of : Result Journal JournalFault → ℕ
place_of (Ok j) = 0
place_of (Err e) = e.place

chosen_within : (over empty : Bool) (j : Journal) (size place : ℕ) → place ≤ size
    → place_of (cond over (cond empty (Ok j) (fault BadEntry place)) (fault Torn size)) ≤ size
chosen_within true true j size place h = omega arith
chosen_within true false j size place h = h
chosen_within false empty j size place h = omega arith

answer_within : (size place : ℕ) (s : State) (rest : List ℕ) → place ≤ size
    → place_of (answer_of size place s rest) ≤ size
unfolding answer_of
answer_within size place s rest h = chosen_within (is_over s.stage) (length rest == 0) _ size place h

through : (size place : ℕ) (o : Option State) (next : State → Result Journal JournalFault) → place ≤ size
    → ((s : State) → place_of (next s) ≤ size) → place_of (taken_at place o >>= next) ≤ size
through size place None next le h = le
through size place (Some s) next le h = h s

lines_within : (size place : ℕ) (s : State) (lines : List (List ℕ))
    → place + length (join_with_byte newline lines) ≤ size → place_of (lines_read size place s lines) ≤ size
unfolding lines_read
lines_within size place s [] h = answer_within size place s [] (omega (arith, h))
lines_within size place s (line ∷ []) h = answer_within size place s line (omega (arith, h))
lines_within size place s (line ∷ next ∷ lines) h =
    let whole : length (line ++ newline ∷ join_with_byte newline (next ∷ lines))
    ≡ length line + suc (length (join_with_byte newline (next ∷ lines))) =
    length-append line (newline ∷ join_with_byte newline (next ∷ lines)) in
    through size place (after s line) (λ s'. lines_read size (place + length line + 1) s' (next ∷ lines))
    (omega (arith, h))
    (λ s'. lines_within size (place + length line + 1) s' (next ∷ lines) (omega (arith, h, whole)))

chosen_version : (same : Bool) (r : Result Journal JournalFault) (size : ℕ) → place_of r ≤ size
    → place_of (cond same r (fault BadHeader 0)) ≤ size
chosen_version true r size h = h
chosen_version false r size h = omega arith

version_within : (size : ℕ) (lines : List (List ℕ)) → length (join_with_byte newline lines) ≤ size
    → place_of (version_read size lines) ≤ size
version_within size [] h = omega arith
version_within size (line ∷ []) h = omega arith
version_within size (line ∷ next ∷ lines) h =
    let whole : length (line ++ newline ∷ join_with_byte newline (next ∷ lines))
    ≡ length line + suc (length (join_with_byte newline (next ∷ lines))) =
    length-append line (newline ∷ join_with_byte newline (next ∷ lines)) in
    chosen_version (bytes_eq line version) (lines_read size (length line + 1) beginning (next ∷ lines)) size
    (lines_within size (length line + 1) beginning (next ∷ lines) (omega (arith, h, whole)))

pub fault_is_within : FaultIsWithin
unfolding reading
fault_is_within text e h =
    let joined : join_with_byte newline (slice_split (is_byte newline) text) ≡ text =
    (split_are_joined newline text).0 in
    let within = version_within (length text) (slice_split (is_byte newline) text) (omega (arith, ap length joined)) in
    subst (λ (r : Result Journal JournalFault). place_of r ≤ length text) h within

-- ---- faults stay

-- parts of a text with the parts of another behind it: the last and the first part become one
abbrev pub glued : List (List ℕ) → List (List ℕ) → List (List ℕ)
glued [] others = others
glued (part ∷ []) [] = part ∷ []
glued (part ∷ []) (other ∷ others) = (part ++ other) ∷ others
glued (part ∷ next ∷ parts) others = part ∷ glued (next ∷ parts) others

onto_glued : (b : ℕ) (parts others : List (List ℕ)) → 0 < length parts → 0 < length others
    → onto_first b (glued parts others) ≡ glued (onto_first b parts) others
onto_glued b [] others lt lt' = absurd (omega arith)
onto_glued b (part ∷ []) [] lt lt' = absurd (omega arith)
onto_glued b (part ∷ []) (other ∷ others) lt lt' = refl
onto_glued b (part ∷ next ∷ parts) others lt lt' = refl

pub some_parts : (p : ℕ → Bool) (bs : List ℕ) → 0 < length (slice_split p bs)
some_parts p [] = omega arith
some_parts p (b ∷ bs) = at (p b) (slice_split p bs) (some_parts p bs)
  where
    onto_some : (parts : List (List ℕ)) → 0 < length parts → 0 < length (onto_first b parts)
    onto_some [] lt = absurd (omega arith)
    onto_some (part ∷ parts) lt = omega arith

    at : (t : Bool) (parts : List (List ℕ)) → 0 < length parts → 0 < length (cond t ([] ∷ parts) (onto_first b parts))
    at true parts lt = omega arith
    at false parts lt = onto_some parts lt

pub split_append : (p : ℕ → Bool) (xs ys : List ℕ)
    → slice_split p (xs ++ ys) ≡ glued (slice_split p xs) (slice_split p ys)
split_append p [] ys = none (slice_split p ys) (some_parts p ys)
  where
    none : (parts : List (List ℕ)) → 0 < length parts → parts ≡ glued ([] ∷ []) parts
    none [] lt = absurd (omega arith)
    none (part ∷ parts) lt = refl
split_append p (x ∷ xs) ys =
    ap (λ (parts : List (List ℕ)). cond (p x) ([] ∷ parts) (onto_first x parts)) (split_append p xs ys)
    ∙ at (p x) (slice_split p xs) (some_parts p xs)
  where
    first : (parts : List (List ℕ)) → 0 < length parts
        → [] ∷ glued parts (slice_split p ys) ≡ glued ([] ∷ parts) (slice_split p ys)
    first [] lt = absurd (omega arith)
    first (part ∷ parts) lt = refl

    at : (t : Bool) (parts : List (List ℕ)) → 0 < length parts
        → cond t ([] ∷ glued parts (slice_split p ys)) (onto_first x (glued parts (slice_split p ys)))
        ≡ glued (cond t ([] ∷ parts) (onto_first x parts)) (slice_split p ys)
    at true parts lt = first parts lt
    at false parts lt = onto_glued x parts (slice_split p ys) lt (some_parts p ys)

-- a line with others behind it
pub more_read : (size place : ℕ) (s : State) (line : List ℕ) (others : List (List ℕ)) → 0 < length others
    → lines_read size place s (line ∷ others)
    ≡ (taken_at place (after s line) >>= λ s'. lines_read size (place + length line + 1) s' others)
unfolding lines_read
more_read size place s line [] lt = absurd (omega arith)
more_read size place s line (next ∷ lines) lt = refl

-- nothing follows the end
over_after : (s : State) (line : List ℕ) → is_over s.stage ≡ true → after s line ≡ None
unfolding after
over_after s line h = at s.stage h
  where
    at : (stage : Stage) → is_over stage ≡ true → at_stage stage s line ≡ None
    at Starting h = absurd cc
    at Setting h = absurd cc
    at Telling h = absurd cc
    at Counting h = absurd cc
    at Over h = refl

-- a fault that is no end of the text
abbrev IsBad : JournalKind → Type 0
IsBad BadEntry = Unit {0}
IsBad BadHeader = ⊥
IsBad Torn = ⊥
IsBad OutOfMemory = ⊥

kind_of : Result Journal JournalFault → JournalKind
kind_of (Ok j) = Torn
kind_of (Err e) = e.kind

not_torn : (size q : ℕ) → (fault {A = Journal} Torn size) ≡ fault BadEntry q → ⊥
unfolding kind_of
not_torn size q e = subst IsBad (sym (ap kind_of e)) tt

pub not_read : (j : Journal) (q : ℕ) → Ok j ≡ fault BadEntry q → ⊥
unfolding kind_of
not_read j q e = subst IsBad (sym (ap kind_of e)) tt

-- what follows the end is bad, and stays so with more behind it
pub record IsPast (s : State) (rest : List ℕ) (place q : ℕ) : Type 0 where
  pub over : is_over s.stage ≡ true
  pub some : 0 < length rest
  pub same : place ≡ q

some_of : (xs : List ℕ) → (length xs == 0) ≡ false → 0 < length xs
some_of [] e = absurd cc
some_of (x ∷ xs) e = omega arith

pub past : (size place q : ℕ) (s : State) (rest : List ℕ) → answer_of size place s rest ≡ fault BadEntry q
    → IsPast s rest place q
unfolding answer_of
past size place q s rest = at (is_over s.stage) refl (length rest == 0) refl
  where
    read : Result Journal JournalFault
    read = Ok (record { setup = s.setup; entries = s.entries; account = s.account })

    at : (over : Bool) → is_over s.stage ≡ over → (empty : Bool) → (length rest == 0) ≡ empty
        → cond over (cond empty read (fault BadEntry place)) (fault Torn size) ≡ fault BadEntry q
        → IsPast s rest place q
    at true is true e h = absurd (not_read _ q h)
    at true is false e h = record { over = is; some = some_of rest e; same = ap place_of h }
    at false is empty e h = absurd (not_torn size q h)

some_front : (xs ys : List ℕ) → 0 < length xs → (length (xs ++ ys) == 0) ≡ false
some_front [] ys lt = absurd (omega arith)
some_front (x ∷ xs) ys lt = ne_eqb (length ((x ∷ xs) ++ ys)) 0 (λ e. absurd (omega (arith, e)))

past_stays : (size place q : ℕ) (s : State) (rest : List ℕ) (other : List ℕ) (others : List (List ℕ))
    → IsPast s rest place q → lines_read size place s ((rest ++ other) ∷ others) ≡ fault BadEntry q
unfolding lines_read answer_of
past_stays size place q s rest other [] h =
    rw (h.over, some_front rest other h.some) (ap (λ (n : ℕ). fault {A = Journal} BadEntry n) h.same)
past_stays size place q s rest other (next ∷ lines) h =
    rw (over_after s (rest ++ other) h.over) (ap (λ (n : ℕ). fault {A = Journal} BadEntry n) h.same)

pub glued_some : (part : List ℕ) (parts others : List (List ℕ)) → 0 < length (glued (part ∷ parts) others)
glued_some part [] [] = omega arith
glued_some part [] (other ∷ others) = omega arith
glued_some part (next ∷ parts) others = omega arith

bind_stays : (place q : ℕ) (o : Option State) (f g : State → Result Journal JournalFault)
    → ((s : State) → f s ≡ fault BadEntry q → g s ≡ fault BadEntry q)
    → (taken_at place o >>= f) ≡ fault BadEntry q → (taken_at place o >>= g) ≡ fault BadEntry q
bind_stays place q None f g h e = e
bind_stays place q (Some s) f g h e = h s e

lines_stay : (size size' place q : ℕ) (s : State) (lines others : List (List ℕ)) → 0 < length lines → 0 < length others
    → lines_read size place s lines ≡ fault BadEntry q → lines_read size' place s (glued lines others)
    ≡ fault BadEntry q
unfolding lines_read
lines_stay size size' place q s [] others lt lt' e = absurd (omega arith)
lines_stay size size' place q s (line ∷ []) [] lt lt' e = absurd (omega arith)
lines_stay size size' place q s (line ∷ []) (other ∷ others) lt lt' e =
    past_stays size' place q s line other others (past size place q s line e)
lines_stay size size' place q s (line ∷ next ∷ lines) others lt lt' e =
    more_read size' place s line (glued (next ∷ lines) others) (glued_some next lines others)
    ∙ bind_stays place q (after s line) (λ s'. lines_read size (place + length line + 1) s' (next ∷ lines))
    (λ s'. lines_read size' (place + length line + 1) s' (glued (next ∷ lines) others))
    (λ s'. lines_stay size size' (place + length line + 1) q s' (next ∷ lines) others (omega arith) lt') e

pub not_header : (q : ℕ) → (fault {A = Journal} BadHeader 0) ≡ fault BadEntry q → ⊥
unfolding kind_of
not_header q e = subst IsBad (sym (ap kind_of e)) tt

pub version_more : (size : ℕ) (line : List ℕ) (others : List (List ℕ)) → 0 < length others
    → version_read size (line ∷ others)
    ≡ cond (bytes_eq line version) (lines_read size (length line + 1) beginning others) (fault BadHeader 0)
version_more size line [] lt = absurd (omega arith)
version_more size line (next ∷ lines) lt = refl

version_stays : (size size' q : ℕ) (lines others : List (List ℕ)) → 0 < length others
    → version_read size lines ≡ fault BadEntry q → version_read size' (glued lines others) ≡ fault BadEntry q
version_stays size size' q [] others lt e = absurd (not_header q e)
version_stays size size' q (line ∷ []) others lt e = absurd (not_header q e)
version_stays size size' q (line ∷ next ∷ lines) others lt e =
    version_more size' line (glued (next ∷ lines) others) (glued_some next lines others) ∙ at (bytes_eq line version) e
  where
    at : (same : Bool) → cond same (lines_read size (length line + 1) beginning (next ∷ lines)) (fault BadHeader 0)
        ≡ fault BadEntry q
        → cond same (lines_read size' (length line + 1) beginning (glued (next ∷ lines) others)) (fault BadHeader 0)
        ≡ fault BadEntry q
    at true e = lines_stay size size' (length line + 1) q beginning (next ∷ lines) others (omega arith) lt e
    at false e = absurd (not_header q e)

pub faults_stay : FaultsStay
unfolding reading
faults_stay text more place e =
    ap (version_read (length (text ++ more))) (split_append (is_byte newline) text more)
    ∙ version_stays (length text) (length (text ++ more)) place (slice_split (is_byte newline) text)
    (slice_split (is_byte newline) more) (some_parts (is_byte newline) more) e
