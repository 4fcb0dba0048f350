-- What was put of a journal's text, as far as the run has come.
use Rattle.std.specs.Prelude.{◌≡◌, ◌≤◌, ◌+◌, ℕ, Bool, true, false, List, ◌++◌, drop, length, take}
use Rattle.std.specs.Io.KnownBytes.{Appends}
use Rattle.std.specs.declared.option.Option.{Option}
use Rattle.metric.specs.declared.metric.Content.{Content}
use Rattle.account.specs.declared.entry.Entry.{Entry}
use Rattle.account.specs.Items.{items, routes, unrouted_items}
use Rattle.agent_base.specs.Carried.{Carried}
use Rattle.agent_base.specs.Counts.{Rose}
use Rattle.journal_text.specs.declared.setup.JournalSetup.{JournalSetup}
use Rattle.journal_text.specs.JournalText.{journal_text}
use Rattle.journal_text.specs.Known.{AreKnown}
use Rattle.journal_text.specs.declared.known.Known.{Known}
use Rattle.agent_workers.specs.Run.{Change, change, IsPut, IsPutSo}
use Rattle.account.specs.Routes.{RoutesInOrder, RouteOnInOrder}
use Rattle.agent_workers.specs.declared.journal.JournalJob.{JournalJob}
use Rattle.journal_text.specs.SoFar.{text_so_far, noted_text, SpellsOn}

-- the journal's part of a run: what the journal is about, what is known of the Routes that aren't spelled yet, the
-- items that have no spelled Route, how many entries there were, whether a put failed, and the bytes and the count of
-- failed puts at the journal's place
pub record JournalPart : Type 0 where
  pub setup : JournalSetup
  pub known : List Known
  pub kept : List Content
  pub entries : ℕ
  pub failed : Bool
  pub held : Option (List ℕ)
  pub faults : ℕ

-- the part, given what the sink tells
abbrev pub part_of : {K C : Type 0} → (K → Carried) → JournalJob K C → JournalPart
part_of told job = record {
  setup = job.setup;
  known = job.known.items;
  kept = job.kept.items;
  entries = job.entries;
  failed = job.failed;
  held = (told job.sink).bytes;
  faults = (told job.sink).faults;
}

-- all of the text was put; or, where a put failed, a prefix of it
abbrev pub IsNotedSo : Bool → Change → JournalSetup → List Entry → Type 0
IsNotedSo false place setup journal = Appends place.before place.after (noted_text setup journal)
IsNotedSo true place setup journal =
    Rose place.faults_before place.faults_after
    × ((n : ℕ) × Appends place.before place.after (take n (text_so_far setup journal)))

-- a part notes a journal whose Routes come in order: it counts its entries, keeps its items without a Route,
-- and all of its text so far was put since the run began, or a prefix where a put failed
pub record Notes (setup : JournalSetup) (held : Option (List ℕ)) (faults : ℕ) (journal : List Entry)
    (part : JournalPart) : Type 0 where
  pub about : part.setup ≡ setup
  pub counted : part.entries ≡ length journal
  pub kept_are : part.kept ≡ unrouted_items journal
  pub in_order : RoutesInOrder 0 0 journal
  pub later : faults ≤ part.faults
  pub put : IsNotedSo part.failed (change held part.held faults part.faults) setup journal

-- a text was put, unless a put failed before
abbrev pub IsPartPut : Bool → Bool → Change → List ℕ → Type 0
IsPartPut true now place text = (now ≡ true) × (place.after ≡ place.before)
    × (place.faults_after ≡ place.faults_before)
IsPartPut false now place text = IsPut now place text

-- the change of a part's place
abbrev pub part_change : JournalPart → JournalPart → Change
part_change old new = change old.held new.held old.faults new.faults

-- a text was added to one that waits: of both a front was put, unless a put failed before, and the rest waits
pub record GoesOut (old new : JournalPart) (waiting added rest : List ℕ) : Type 0 where
  pub front : List ℕ
  pub all : front ++ rest ≡ waiting ++ added
  pub put : IsPartPut old.failed new.failed (part_change old new) front
  pub about : new.setup ≡ old.setup
  pub known_same : new.known ≡ old.known
  pub kept_same : new.kept ≡ old.kept
  pub counted_same : new.entries ≡ old.entries

-- entries were spelled behind a text that waits, and counted: of all this a front was put, unless a put failed
-- before, and the rest waits
pub record SpellsOut (entries : List Entry) (old new : JournalPart) (waiting rest : List ℕ) : Type 0 where
  pub front : List ℕ
  pub spelled : SpellsOn old.known entries old.kept new.kept waiting (front ++ rest)
  pub put : IsPartPut old.failed new.failed (part_change old new) front
  pub about : new.setup ≡ old.setup
  pub known_left : new.known ≡ drop (routes entries) old.known
  pub counted : new.entries ≡ old.entries + length entries

-- the part noted a journal, and now notes it with these entries behind it, where their Routes come in order, and what
-- is known of them is so
pub record NotesOn (entries : List Entry) (old new : JournalPart) : Type 0 where
  pub noted : (setup : JournalSetup) (held : Option (List ℕ)) (faults : ℕ) (journal : List Entry) →
      Notes setup held faults journal old → RouteOnInOrder journal entries → AreKnown old.known (items journal) entries
      → Notes setup held faults (journal ++ entries) new
  pub known_left : new.known ≡ drop (routes entries) old.known

-- the part noted a journal, and the whole text of the journal with these entries behind it is put, or a
-- prefix where a put failed
abbrev pub EndsOn : List Entry → List ℕ → JournalPart → JournalPart → Type 0
EndsOn entries account old new =
    (setup : JournalSetup) (held : Option (List ℕ)) (faults : ℕ) (journal : List Entry) →
    Notes setup held faults journal old → RouteOnInOrder journal entries → AreKnown old.known (items journal) entries
    → IsPutSo new.failed (change held new.held faults new.faults)
    (journal_text setup (journal ++ entries) account)
