-- What a text makes of what was read before it, and that each front of it is torn.
use Rattle.std.proofs.Common.{◌≡◌, ℕ, suc, ◌+◌, ◌<◌, Bool, true, false, cond, List, [], ◌∷◌, ◌++◌, length, Option, Some}
use Rattle.std.proofs.Common.{Result, Ok, refl, sym, ap, subst, ◌∙◌, ◌⊎◌, inl, inr, arith, append_assoc}
use Rattle.std.specs.Prelude.{◌==◌}
use Rattle.std.specs.List.{slice_split}
use Rattle.std.proofs.lemmas.Bool.{eq-eqb}
use Rattle.std.proofs.lemmas.List.{length-append}
use Rattle.text_parts.specs.Bytes.{newline}
use Rattle.text_parts.specs.Chain.{◌>>=◌}
use Rattle.text_parts.specs.Grammar.{HasNone}
use Rattle.text_parts.specs.Split.{is_byte}
use Rattle.text_parts.proofs.Splits.{split_none, split_found}
use Rattle.journal_reader.specs.declared.fault.JournalFault.{JournalFault}
use Rattle.journal_reader.specs.declared.fault.JournalKind.TheVariants.{BadEntry, Torn}
use Rattle.journal_reader.specs.declared.read.Journal.{Journal}
use Rattle.journal_reader.specs.declared.state.State.{State}
use Rattle.journal_reader.specs.Steps.{after}
use Rattle.journal_reader.specs.Reading.{fault, taken_at, is_over, answer_of, lines_read}
use Rattle.journal_reader.proofs.WithinLemmas.{more_read, some_parts}

-- what a text is read as from a place on, behind what was read before
abbrev pub go : ℕ → ℕ → State → List ℕ → Result Journal JournalFault
go size place s text = lines_read size place s (slice_split (is_byte newline) text)

-- the text leads from one state to another, and a proper front of it is torn, whatever the size of the whole text is
pub record Leads (s : State) (text : List ℕ) (s' : State) : Type 0 where
  pub goes : (size place : ℕ) (rest : List ℕ) → go size place s (text ++ rest) ≡ go size (place + length text) s' rest
  pub torn : (front more : List ℕ) → text ≡ front ++ more → 0 < length more → (size place : ℕ)
      → go size place s front ≡ fault Torn size

-- nothing leads nowhere
no_more : (front more : List ℕ) → [] ≡ front ++ more → 0 < length more → ⊥
no_more [] more e lt = let none : length more ≡ 0 = sym (ap length e) in omega (arith, lt, none)
no_more (b ∷ front) more e lt = let none : 0 ≡ suc (length (front ++ more)) = ap length e in omega (arith, none)

pub leads_nothing : (s : State) → Leads s [] s
leads_nothing s = record {
  goes = λ size place rest. let same : place ≡ place + 0 = omega arith in
      ap (λ (k : ℕ). go size k s rest) same;
  torn = λ front more e lt size place. absurd (no_more front more e lt);
}

-- a line leads to what it makes
same_byte : (b : ℕ) → (b == b) ≡ true
same_byte b = eq-eqb b b refl

tail_of : List ℕ → List ℕ
tail_of [] = []
tail_of (b ∷ bs) = bs

head_of : List ℕ → ℕ
head_of [] = 0
head_of (b ∷ bs) = b

-- a proper front of a line with its newline has none
pub front_none : (line front more : List ℕ) → line ++ newline ∷ [] ≡ front ++ more → 0 < length more
    → HasNone (is_byte newline) line → HasNone (is_byte newline) front
unfolding tail_of head_of
front_none line [] more e lt h = tt
front_none [] (b ∷ front) more e lt h =
    absurd (no_more front more (ap tail_of e) lt)
front_none (c ∷ line) (b ∷ front) more e lt h =
    let same : c ≡ b = ap head_of e in
    (subst (λ (k : ℕ). is_byte newline k ≡ false) same h.0, front_none line front more (ap tail_of e) lt h.1)

line_goes : (size place : ℕ) (s s' : State) (line rest : List ℕ) → HasNone (is_byte newline) line
    → after s line ≡ Some s' → go size place s (line ++ newline ∷ rest) ≡ go size (place + length line + 1) s' rest
line_goes size place s s' line rest none is =
    ap (lines_read size place s) (split_found (is_byte newline) line newline rest none (same_byte newline))
    ∙ more_read size place s line (slice_split (is_byte newline) rest) (some_parts (is_byte newline) rest)
    ∙ ap (λ (o : Option State). taken_at place o >>= λ t. lines_read size (place + length line + 1) t
    (slice_split (is_byte newline) rest)) is

-- what was read, as the answer has it
read_of : State → Result Journal JournalFault
read_of s = Ok (record { setup = s.setup; entries = s.entries; account = s.account })

front_torn : (size place : ℕ) (s : State) (front : List ℕ) → HasNone (is_byte newline) front → is_over s.stage ≡ false
    → go size place s front ≡ fault Torn size
unfolding lines_read answer_of read_of
front_torn size place s front none going =
    ap (lines_read size place s) (split_none (is_byte newline) front none)
    ∙ ap (λ (over : Bool). cond over (cond (length front == 0) (read_of s)
    (fault BadEntry place)) (fault Torn size)) going

pub leads_line : (s s' : State) (line : List ℕ) → HasNone (is_byte newline) line → is_over s.stage ≡ false
    → after s line ≡ Some s' → Leads s (line ++ newline ∷ []) s'
leads_line s s' line none going is = record {
  goes = λ size place rest.
      let whole : (line ++ newline ∷ []) ++ rest ≡ line ++ newline ∷ rest = append_assoc line (newline ∷ []) rest in
      let long : place + length line + 1 ≡ place + length (line ++ newline ∷ []) =
      omega (arith, length-append line (newline ∷ [])) in
      ap (go size place s) whole
      ∙ line_goes size place s s' line rest none is
      ∙ ap (λ (k : ℕ). go size k s' rest) long;
  torn = λ front more e lt size place.
      front_torn size place s front (front_none line front more e lt none) going;
}

-- ---- one after the other

-- a front of two texts is one of the first, or has it whole
pub record Within (a front : List ℕ) : Type 0 where
  pub more : List ℕ
  pub is : a ≡ front ++ more
  pub some : 0 < length more

pub record Behind (a b front more : List ℕ) : Type 0 where
  pub front_left : List ℕ
  pub is : front ≡ a ++ front_left
  pub left : b ≡ front_left ++ more

within_more : (c : ℕ) (a front : List ℕ) → Within a front → Within (c ∷ a) (c ∷ front)
within_more c a front w = record { more = w.more; is = ap (λ (bs : List ℕ). c ∷ bs) w.is; some = w.some }

behind_more : (c : ℕ) (a b front more : List ℕ) → Behind a b front more → Behind (c ∷ a) b (c ∷ front) more
behind_more c a b front more w =
    record { front_left = w.front_left; is = ap (λ (bs : List ℕ). c ∷ bs) w.is; left = w.left }

pub cut_front : (a b front more : List ℕ) → a ++ b ≡ front ++ more → Within a front ⊎ Behind a b front more
unfolding tail_of head_of
cut_front [] b front more e = inr (record { front_left = front; is = refl; left = e })
cut_front (c ∷ a) b [] more e = inl (record { more = c ∷ a; is = refl; some = omega arith })
cut_front (c ∷ a) b (d ∷ front) more e =
    let same : c ≡ d = ap head_of e in
    subst (λ (k : ℕ). Within (c ∷ a) (k ∷ front) ⊎ Behind (c ∷ a) b (k ∷ front) more) same
    (elim (cut_front a b front more (ap tail_of e)) [
      | inl w ↦ inl (within_more c a front w)
      | inr w ↦ inr (behind_more c a b front more w)
    ])

pub leads_then : (s s' s'' : State) (a b : List ℕ) → Leads s a s' → Leads s' b s'' → Leads s (a ++ b) s''
leads_then s s' s'' a b first then = record {
  goes = λ size place rest.
      let long : place + length a + length b ≡ place + length (a ++ b) = omega (arith, length-append a b) in
      ap (go size place s) (append_assoc a b rest)
      ∙ first.goes size place (b ++ rest)
      ∙ then.goes size (place + length a) rest
      ∙ ap (λ (k : ℕ). go size k s'' rest) long;
  torn = λ front more e lt size place. elim (cut_front a b front more e) [
    | inl w ↦ first.torn front w.more w.is w.some size place
    | inr w ↦
        ap (go size place s) w.is
        ∙ first.goes size place w.front_left
        ∙ then.torn w.front_left more w.left lt size (place + length a)
  ];
}
