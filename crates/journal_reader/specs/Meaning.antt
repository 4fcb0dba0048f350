-- What the text of a journal and its reading have to do with each other.
use Rattle.std.specs.Prelude.{◌≡◌, ◌<◌, ◌≤◌, ℕ, List, ◌∷◌, ◌++◌, length, Ok, Err, nat_lt}
use Rattle.std.specs.Prelude.{reverse, drop, if◌then◌else◌}
use Rattle.std.specs.List.{position_or_len}
use Rattle.text_parts.specs.Bytes.{newline}
use Rattle.text_parts.specs.Grammar.{HasNone}
use Rattle.text_parts.specs.Split.{is_byte}
use Rattle.journal_text.specs.JournalText.{journal_text}
use Rattle.journal_reader.specs.declared.fault.JournalFault.{JournalFault}
use Rattle.journal_reader.specs.declared.fault.JournalKind.TheVariants.{BadHeader, BadEntry, Torn}
use Rattle.journal_reader.specs.declared.read.Journal.{Journal}
use Rattle.journal_reader.specs.Reading.{fault, reading}
use Rattle.journal_reader.specs.Spellable.{Spellable}

-- a journal that can be spelled
abbrev pub IsSpellable : Journal → Type 0
IsSpellable j = Spellable j.setup j.entries j.account

-- and its text
abbrev pub text_of : Journal → List ℕ
text_of j = journal_text j.setup j.entries j.account

-- the text of a journal is read as it
abbrev pub WrittenIsRead : Type 0
WrittenIsRead = (j : Journal) → IsSpellable j → reading (text_of j) ≡ Ok j

-- what is read can be spelled, and its text is what was read
abbrev pub ReadIsWritten : Type 0
ReadIsWritten = (text : List ℕ) (j : Journal) → reading text ≡ Ok j → IsSpellable j × (text_of j ≡ text)

-- a proper front of a journal's text is torn, where it has the whole first line
abbrev pub FrontsAreTorn : Type 0
FrontsAreTorn = (j : Journal) (front rest : List ℕ) → IsSpellable j → text_of j ≡ front ++ rest → 0 < length rest
    → reading front ≡ (if nat_lt (length front) 10 then fault BadHeader 0 else fault Torn (length front))

-- a text that no journal goes on from stays one, whatever follows
abbrev pub FaultsStay : Type 0
FaultsStay = (text more : List ℕ) (place : ℕ) → reading text ≡ fault BadEntry place
    → reading (text ++ more) ≡ fault BadEntry place

-- and it is one up to the end of the line at fault: no journal's text begins so
abbrev pub FaultsAreFinal : Type 0
FaultsAreFinal = (front line rest : List ℕ) → HasNone (is_byte newline) line
    → reading (front ++ line ++ newline ∷ rest) ≡ fault BadEntry (length front)
    → (more : List ℕ) (j : Journal) → IsSpellable j → text_of j ≡ front ++ line ++ newline ∷ more → ⊥

-- the whole lines of a text: what stands up to its last newline
abbrev pub whole_lines : List ℕ → List ℕ
whole_lines text = reverse (drop (position_or_len (is_byte newline) (reverse text)) (reverse text))

-- the whole lines of a torn text begin the text of a journal
pub record GoesOn (text : List ℕ) : Type 0 where
  pub journal : Journal
  pub more : List ℕ
  pub spellable : IsSpellable journal
  pub is : text_of journal ≡ text ++ more

abbrev pub TornGoesOn : Type 0
TornGoesOn = (text : List ℕ) (place : ℕ) → reading text ≡ fault Torn place → GoesOn (whole_lines text)

-- a fault is in the text, or at its end
abbrev pub FaultIsWithin : Type 0
FaultIsWithin = (text : List ℕ) (e : JournalFault) → reading text ≡ Err e → e.place ≤ length text
