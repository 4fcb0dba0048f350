-- A journal's text so far, and what entries more add to it.
use Rattle.std.specs.Prelude.{◌≡◌, ◌==◌, ℕ, List, [], ◌∷◌, ◌++◌, if◌then◌else◌}
use Rattle.metric.specs.declared.metric.Content.{Content}
use Rattle.account.specs.declared.entry.Entry.{Entry}
use Rattle.account.specs.Items.{items, unrouted_items}
use Rattle.journal_text.specs.declared.setup.JournalSetup.{JournalSetup}
use Rattle.journal_text.specs.SetupText.{setup_text}
use Rattle.journal_text.specs.JournalText.{entries_text}
use Rattle.journal_text.specs.Known.{AreKnown}
use Rattle.journal_text.specs.declared.known.Known.{Known}
use Rattle.account.specs.Routes.{RoutesInOrder, RouteOnInOrder}

-- the text of the set-up and of the entries
abbrev pub text_so_far : JournalSetup → List Entry → List ℕ
text_so_far setup journal = setup_text setup ++ entries_text [] journal

-- what is put of it: nothing before there is an entry
abbrev pub noted_text : JournalSetup → List Entry → List ℕ
noted_text setup [] = []
noted_text setup (e ∷ es) = text_so_far setup (e ∷ es)

-- what stands before the next entries: the set-up, where they are the first
abbrev pub front_text : JournalSetup → ℕ → List ℕ
front_text setup entries = if entries == 0 then setup_text setup else []

-- the text of entries behind a journal was added, and these items have no Route then
pub record IsSpelled (journal entries : List Entry) (left : List Content)
    (text new_text : List ℕ) : Type 0 where
  pub left_are : left ≡ unrouted_items (journal ++ entries)
  pub spelled : new_text ≡ text ++ entries_text (items journal) entries
  pub in_order : RoutesInOrder 0 0 (journal ++ entries)

-- so it is for each journal whose items without a Route are those that were kept, where the entries' Routes
-- come in order, and what is known of them is so
abbrev pub SpellsOn : List Known → List Entry → List Content → List Content → List ℕ → List ℕ → Type 0
SpellsOn known entries kept left text new_text =
    (journal : List Entry) → kept ≡ unrouted_items journal → RoutesInOrder 0 0 journal
    → RouteOnInOrder journal entries → AreKnown known (items journal) entries
    → IsSpelled journal entries left text new_text
