-- The text of a journal is read as it, each front of it is torn, and no journal's text begins as a text at fault does.
use Rattle.std.proofs.Common.{◌≡◌, ℕ, ◌+◌, ◌<◌, ◌≤◌, Bool, true, false, cond, ltb, List, [], ◌∷◌, ◌++◌, length, refl}
use Rattle.std.proofs.Common.{sym, Option, Some, None, Ok, ap, subst, ◌∙◌, inl, inr, arith, append_assoc}
use Rattle.std.specs.Prelude.{◌==◌, codes}
use Rattle.std.specs.Fmt.{decimal, signed_decimal}
use Rattle.std.specs.List.{slice_split, join_with_byte}
use Rattle.std.specs.Str.{bytes_eq}
use Rattle.std.proofs.lemmas.Bool.{lt-ltb, le-ltb, eq-eqb}
use Rattle.std.proofs.lemmas.List.{append-nil, length-append}
use Rattle.text_parts.specs.Bytes.{newline}
use Rattle.text_parts.specs.Chain.{◌>>=◌}
use Rattle.text_parts.specs.Grammar.{HasNone}
use Rattle.text_parts.specs.Split.{is_byte}
use Rattle.text_parts.proofs.Splits.{split_none, split_found, split_are_joined}
use Rattle.account.specs.AccountText.{numbered}
use Rattle.account.specs.declared.entry.Entry.{Entry}
use Rattle.journal_text.specs.SetupText.{start_lines, input_line, agg_line, output_line, setup_text}
use Rattle.journal_text.specs.JournalText.{entries_text, end_text, journal_text}
use Rattle.journal_reader.specs.declared.fault.JournalKind.TheVariants.{BadHeader, BadEntry, Torn}
use Rattle.journal_reader.specs.declared.read.Journal.{Journal}
use Rattle.journal_reader.specs.declared.state.State.{State}
use Rattle.journal_reader.specs.States.{beginning, input_of}
use Rattle.journal_reader.specs.AccountReading.{forms_of}
use Rattle.journal_reader.specs.Steps.{after}
use Rattle.journal_reader.specs.Reading.{fault, version, taken_at, answer_of, lines_read, version_read, reading}
use Rattle.journal_reader.specs.Spellable.{last_input}
use Rattle.journal_reader.specs.Meaning.{IsSpellable, text_of, WrittenIsRead, FrontsAreTorn, FaultsAreFinal}
use Rattle.journal_reader.proofs.WithinLemmas.{glued, split_append, more_read, some_parts, glued_some, version_more}
use Rattle.journal_reader.proofs.WithinLemmas.{place_of, not_read, not_header, past}
use Rattle.journal_reader.proofs.LeadLemmas.{go, Leads, leads_then, front_none, cut_front}
use Rattle.journal_reader.proofs.SetupAgain.{leads_setup}
use Rattle.journal_reader.proofs.TellAgain.{AtSetup, set, state_at, entries_at, known_at, groups_at, Told}
use Rattle.journal_reader.proofs.TellAgain.{KnowsGroups, leads_entries}
use Rattle.journal_reader.proofs.AccountAgain.{count, over, leads_account, leads_end}

-- ---- what stands behind the version

rest_of : Journal → List ℕ
rest_of j =
    (codes "start " ++ signed_decimal j.setup.start ++ codes "\n"
    ++ numbered input_line 0 j.setup.inputs ++ numbered agg_line 0 j.setup.aggs
    ++ numbered output_line 0 j.setup.outputs)
    ++ entries_text [] j.entries ++ j.account ++ (codes "end " ++ decimal (length j.entries) ++ codes "\n")

plain : (v s m l a b d e f g h k : List ℕ)
    → (v ++ s ++ m ++ l ++ a ++ b ++ d) ++ e ++ (f ++ g ++ h ++ k)
    ≡ v ++ ((s ++ m ++ l ++ a ++ b ++ d) ++ e ++ f ++ (g ++ h ++ k))
plain v s m l a b d e f g h k = simp append_assoc

text_is : (j : Journal) → text_of j ≡ version ++ newline ∷ rest_of j
unfolding journal_text setup_text start_lines end_text rest_of
text_is j =
    plain (version ++ newline ∷ []) (codes "start ") (signed_decimal j.setup.start) (codes "\n")
    (numbered input_line 0 j.setup.inputs) (numbered agg_line 0 j.setup.aggs) (numbered output_line 0 j.setup.outputs)
    (entries_text [] j.entries) j.account (codes "end ") (decimal (length j.entries)) (codes "\n")

-- where the whole text leads
record Whole (j : Journal) : Type 0 where
  to : State
  leads : Leads beginning (rest_of j) to
  answers : (size place : ℕ) → answer_of size place to [] ≡ Ok j

whole : (j : Journal) → IsSpellable j → Whole j
unfolding rest_of answer_of over count set state_at entries_at known_at groups_at KnowsGroups input_of last_input
whole j h =
    let told : Told j.setup AtSetup j.entries =
    leads_entries j.setup AtSetup j.entries h.entries_fit h.reports_stand (λ group. refl) in
    let at = told.to in
    let counted = count j.setup (entries_at at) (known_at at) (groups_at at) (length (forms_of j.setup)) j.account in
    let last = over j.setup (entries_at at) (known_at at) (groups_at at) j.account in
    let head : List ℕ = codes "start " ++ signed_decimal j.setup.start ++ codes "\n"
    ++ numbered input_line 0 j.setup.inputs ++ numbered agg_line 0 j.setup.aggs
    ++ numbered output_line 0 j.setup.outputs in
    let end_line : List ℕ = codes "end " ++ decimal (length j.entries) ++ codes "\n" in
    let entries : Leads beginning (head ++ entries_text [] j.entries) (state_at j.setup at) =
    leads_then beginning (set j.setup) (state_at j.setup at) head (entries_text [] j.entries)
    (leads_setup j.setup h.setup_fits) told.leads in
    let account : Leads beginning (head ++ entries_text [] j.entries ++ j.account) counted =
    leads_then beginning (state_at j.setup at) counted (head ++ entries_text [] j.entries) j.account entries
    (leads_account j.setup at j.account h.is_account) in
    let end : Leads counted end_line last =
    subst (λ (es : List Entry). Leads counted (codes "end " ++ decimal (length es) ++ codes "\n") last) told.entries_are
    (leads_end j.setup (entries_at at) (known_at at) (groups_at at) j.account) in
    record {
      to = last;
      leads = leads_then beginning counted last (head ++ entries_text [] j.entries ++ j.account) end_line account end;
      answers = λ size place.
          ap (λ (es : List Entry). Ok (record { setup = j.setup; entries = es; account = j.account })) told.entries_are;
    }

-- ---- a text behind the version

same_byte : (b : ℕ) → (b == b) ≡ true
same_byte b = eq-eqb b b refl

version_none : HasNone (is_byte newline) version
version_none = (refl, (refl, (refl, (refl, (refl, (refl, (refl, (refl, (refl, tt)))))))))

behind_version : (rest : List ℕ)
    → reading (version ++ newline ∷ rest) ≡ go (length (version ++ newline ∷ rest)) 10 beginning rest
unfolding reading
behind_version rest =
    ap (version_read (length (version ++ newline ∷ rest)))
    (split_found (is_byte newline) version newline rest version_none (same_byte newline))
    ∙ version_more (length (version ++ newline ∷ rest)) version (slice_split (is_byte newline) rest)
    (some_parts (is_byte newline) rest)

pub written_is_read : WrittenIsRead
unfolding lines_read
written_is_read j h =
    let w = whole j h in
    ap reading (text_is j)
    ∙ behind_version (rest_of j)
    ∙ ap (λ (t : List ℕ). go (length (version ++ newline ∷ rest_of j)) 10 beginning t) (sym (append-nil (rest_of j)))
    ∙ w.leads.goes (length (version ++ newline ∷ rest_of j)) 10 []
    ∙ w.answers (length (version ++ newline ∷ rest_of j)) (10 + length (rest_of j))

-- ---- fronts

head_line : List ℕ
head_line = version ++ newline ∷ []

short_front : (front : List ℕ) (more : List ℕ) → version ++ newline ∷ [] ≡ front ++ more → 0 < length more
    → HasNone (is_byte newline) front
short_front front more e lt = front_none version front more e lt version_none

no_header : (size : ℕ) (front : List ℕ) → HasNone (is_byte newline) front
    → version_read size (slice_split (is_byte newline) front) ≡ fault BadHeader 0
no_header size front h = ap (version_read size) (split_none (is_byte newline) front h)

pub fronts_are_torn : FrontsAreTorn
unfolding reading head_line
fronts_are_torn j front rest h is lt =
    let w = whole j h in
    let text : head_line ++ rest_of j ≡ front ++ rest =
    append_assoc version (newline ∷ []) (rest_of j) ∙ sym (text_is j) ∙ is in
    elim (cut_front head_line (rest_of j) front rest text) [
      | inl short ↦
          let less : length front < 10 =
          omega (arith, ap length short.is, length-append front short.more, short.some) in
          let test : ltb (length front) 10 ≡ true = lt-ltb _ _ less in
          no_header (length front) front (short_front front short.more short.is short.some)
          ∙ sym (ap (λ (t : Bool). cond t (fault {A = Journal} BadHeader 0) (fault Torn (length front))) test)
      | inr long ↦
          let whole_front : front ≡ version ++ newline ∷ long.front_left =
          long.is ∙ append_assoc version (newline ∷ []) long.front_left in
          let more : 10 ≤ length front =
          omega (arith, ap length long.is, length-append head_line long.front_left) in
          let test : ltb (length front) 10 ≡ false = le-ltb _ _ more in
          ap reading whole_front
          ∙ behind_version long.front_left
          ∙ w.leads.torn long.front_left rest long.left lt (length (version ++ newline ∷ long.front_left)) 10
          ∙ ap (λ (t : List ℕ). fault {A = Journal} Torn (length t)) (sym whole_front)
          ∙ sym (ap (λ (t : Bool). cond t (fault {A = Journal} BadHeader 0) (fault Torn (length front))) test)
    ]

-- ---- a fault says nothing of what follows its line

-- no entry is bad before the place from which lines are read
bad_behind : (size place q : ℕ) (s : State) (lines : List (List ℕ)) → lines_read size place s lines ≡ fault BadEntry q
    → place ≤ q
unfolding lines_read
bad_behind size place q s [] e = omega (arith, (past size place q s [] e).same)
bad_behind size place q s (line ∷ []) e = omega (arith, (past size place q s line e).same)
bad_behind size place q s (line ∷ next ∷ lines) e =
    at (after s line) (λ s' f. bad_behind size (place + length line + 1) q s' (next ∷ lines) f) e
  where
    at : (o : Option State)
        → ((s' : State) → lines_read size (place + length line + 1) s' (next ∷ lines) ≡ fault BadEntry q
        → place + length line + 1 ≤ q)
        → (taken_at place o >>= λ s'. lines_read size (place + length line + 1) s' (next ∷ lines)) ≡ fault BadEntry q
        → place ≤ q
    at None more e = let same : place ≡ q = ap place_of e in omega (arith, same)
    at (Some s') more e = omega (arith, more s' e)

-- the line at fault is the one that ends behind the front
local : (size size' place : ℕ) (s : State) (parts : List (List ℕ)) (line : List ℕ) (others more : List (List ℕ))
    → 0 < length parts → 0 < length others → 0 < length more
    → lines_read size place s (glued parts (line ∷ others))
    ≡ fault BadEntry (place + length (join_with_byte newline parts))
    → lines_read size' place s (glued parts (line ∷ more))
    ≡ fault BadEntry (place + length (join_with_byte newline parts))
local size size' place s [] line others more lt lo lm e = absurd (omega arith)
local size size' place s (part ∷ []) line others more lt lo lm e =
    more_read size' place s (part ++ line) more lm
    ∙ at (after s (part ++ line)) (sym (more_read size place s (part ++ line) others lo) ∙ e)
  where
    at : (o : Option State)
        → (taken_at place o >>= λ s'. lines_read size (place + length (part ++ line) + 1) s' others)
        ≡ fault BadEntry (place + length part)
        → (taken_at place o >>= λ s'. lines_read size' (place + length (part ++ line) + 1) s' more)
        ≡ fault BadEntry (place + length part)
    at None e = e
    at (Some s') e =
        let least = bad_behind size (place + length (part ++ line) + 1) (place + length part) s' others e in
        absurd (omega (arith, least, length-append part line))
local size size' place s (part ∷ next ∷ parts) line others more lt lo lm e =
    let long : place + length (join_with_byte newline (part ∷ next ∷ parts))
    ≡ place + length part + 1 + length (join_with_byte newline (next ∷ parts)) =
    omega (arith, length-append part (newline ∷ join_with_byte newline (next ∷ parts))) in
    more_read size' place s part (glued (next ∷ parts) (line ∷ more)) (glued_some next parts (line ∷ more))
    ∙ at (after s part) (λ s' f. local size size' (place + length part + 1) s' (next ∷ parts) line others more
    (omega arith) lo lm (f ∙ ap (λ (n : ℕ). fault {A = Journal} BadEntry n) long)
    ∙ ap (λ (n : ℕ). fault {A = Journal} BadEntry n) (sym long))
    (sym (more_read size place s part (glued (next ∷ parts) (line ∷ others)) (glued_some next parts (line ∷ others)))
    ∙ e)
  where
    q : ℕ
    q = place + length (join_with_byte newline (part ∷ next ∷ parts))

    at : (o : Option State)
        → ((s' : State) → lines_read size (place + length part + 1) s' (glued (next ∷ parts) (line ∷ others))
        ≡ fault BadEntry q
        → lines_read size' (place + length part + 1) s' (glued (next ∷ parts) (line ∷ more)) ≡ fault BadEntry q)
        → (taken_at place o >>= λ s'.
        lines_read size (place + length part + 1) s' (glued (next ∷ parts) (line ∷ others)))
        ≡ fault BadEntry q
        → (taken_at place o >>= λ s'.
        lines_read size' (place + length part + 1) s' (glued (next ∷ parts) (line ∷ more)))
        ≡ fault BadEntry q
    at None f e = e
    at (Some s') f e = f s' e

split_is : (front line rest : List ℕ) → HasNone (is_byte newline) line
    → slice_split (is_byte newline) (front ++ line ++ newline ∷ rest)
    ≡ glued (slice_split (is_byte newline) front) (line ∷ slice_split (is_byte newline) rest)
split_is front line rest none =
    ap (slice_split (is_byte newline)) (append_assoc front line (newline ∷ rest))
    ∙ split_append (is_byte newline) front (line ++ newline ∷ rest)
    ∙ ap (glued (slice_split (is_byte newline) front))
    (split_found (is_byte newline) line newline rest none (same_byte newline))

version_local : (size size' : ℕ) (parts : List (List ℕ)) (line : List ℕ) (others more : List (List ℕ))
    → 0 < length others → 0 < length more
    → version_read size (glued parts (line ∷ others)) ≡ fault BadEntry (length (join_with_byte newline parts))
    → version_read size' (glued parts (line ∷ more)) ≡ fault BadEntry (length (join_with_byte newline parts))
version_local size size' [] line others more lo lm e =
    absurd (at (bytes_eq line version) (sym (version_more size line others lo) ∙ e))
  where
    at : (t : Bool) → cond t (lines_read size (length line + 1) beginning others) (fault BadHeader 0)
        ≡ fault BadEntry 0 → ⊥
    at true e = omega (arith, bad_behind size (length line + 1) 0 beginning others e)
    at false e = not_header 0 e
version_local size size' (part ∷ []) line others more lo lm e =
    absurd (at (bytes_eq (part ++ line) version) (sym (version_more size (part ++ line) others lo) ∙ e))
  where
    at : (t : Bool) → cond t (lines_read size (length (part ++ line) + 1) beginning others) (fault BadHeader 0)
        ≡ fault BadEntry (length part) → ⊥
    at true e =
        let least = bad_behind size (length (part ++ line) + 1) (length part) beginning others e in
        omega (arith, least, length-append part line)
    at false e = not_header (length part) e
version_local size size' (part ∷ next ∷ parts) line others more lo lm e =
    version_more size' part (glued (next ∷ parts) (line ∷ more)) (glued_some next parts (line ∷ more))
    ∙ at (bytes_eq part version) (sym (version_more size part (glued (next ∷ parts) (line ∷ others))
    (glued_some next parts (line ∷ others))) ∙ e)
  where
    q : ℕ
    q = length (join_with_byte newline (part ∷ next ∷ parts))

    at : (t : Bool)
        → cond t (lines_read size (length part + 1) beginning (glued (next ∷ parts) (line ∷ others)))
        (fault BadHeader 0)
        ≡ fault BadEntry q
        → cond t (lines_read size' (length part + 1) beginning (glued (next ∷ parts) (line ∷ more))) (fault BadHeader 0)
        ≡ fault BadEntry q
    at true e =
        let long : q ≡ length part + 1 + length (join_with_byte newline (next ∷ parts)) =
        omega (arith, length-append part (newline ∷ join_with_byte newline (next ∷ parts))) in
        local size size' (length part + 1) beginning (next ∷ parts) line others more (omega arith) lo lm
        (e ∙ ap (λ (n : ℕ). fault {A = Journal} BadEntry n) long)
        ∙ ap (λ (n : ℕ). fault {A = Journal} BadEntry n) (sym long)
    at false e = absurd (not_header q e)

pub faults_are_final : FaultsAreFinal
unfolding reading
faults_are_final front line rest none e more j h is =
    let parts = slice_split (is_byte newline) front in
    let joined : join_with_byte newline parts ≡ front = (split_are_joined newline front).0 in
    let place : length (join_with_byte newline parts) ≡ length front = ap length joined in
    let before : version_read (length (front ++ line ++ newline ∷ rest))
    (glued parts (line ∷ slice_split (is_byte newline)
    rest)) ≡ fault BadEntry (length (join_with_byte newline parts)) =
    sym (ap (version_read (length (front ++ line ++ newline ∷ rest))) (split_is front line rest none)) ∙ e
    ∙ ap (λ (n : ℕ). fault {A = Journal} BadEntry n) (sym place) in
    let behind = version_local (length (front ++ line ++ newline ∷ rest)) (length (front ++ line ++ newline ∷ more))
    parts
    line (slice_split (is_byte newline) rest) (slice_split (is_byte newline) more) (some_parts (is_byte newline) rest)
    (some_parts (is_byte newline) more) before in
    let wrong : reading (front ++ line ++ newline ∷ more) ≡ fault BadEntry (length (join_with_byte newline parts)) =
    ap (version_read (length (front ++ line ++ newline ∷ more))) (split_is front line more none) ∙ behind in
    not_read j (length (join_with_byte newline parts)) (sym (written_is_read j h) ∙ ap reading is ∙ wrong)
