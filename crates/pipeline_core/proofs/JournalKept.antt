-- What a core keeps with some journal, after each step.
use Rattle.std.proofs.Common.{◌≡◌, ◌<◌, ◌≤◌, ◌+◌, ℕ, Bool, List, [], ◌∷◌, ◌++◌, length, drop, replicate}
use Rattle.std.proofs.Common.{sym, subst, arith, length-append, length-drop}
use Rattle.std.proofs.lemmas.List.{length-replicate}
use Rattle.std.specs.Prelude.{slice_index_or, vec_capacity, vec_len}
use Rattle.std.specs.declared.option.Option.{Option}
use Rattle.account.specs.declared.entry.Entry.{Entry}
use Rattle.pipeline_core.specs.CoreState.{CoreState, flights, GroupsAgree, IsCore}
use Rattle.pipeline_core.specs.CoreView.{core_state, IsKept}
use Rattle.pipeline_core.specs.ToldView.{no_reports}
use Rattle.pipeline_core.specs.declared.state.Core.TheInside.{Inside}
use Rattle.track_groups.specs.Tracker.{live_of}
use Rattle.pipeline_core.specs.Stands.{Continues, HasJournal, Stands}

-- with one entry more
pub has_next : (s n : CoreState) (e : Entry) → Continues s n e → HasJournal s → HasJournal n
has_next s n e goes h = record { journal = h.journal ++ e ∷ []; stands = goes h.journal h.stands }

-- for the same journals
pub has_still : (s n : CoreState) → ((journal : List Entry) → Stands s journal → Stands n journal) → HasJournal s →
    HasJournal n
has_still s n keeps h = record { journal = h.journal; stands = keeps h.journal h.stands }

-- a core that is another
pub kept_same : (s n : CoreState) → n ≡ s → IsCore s → IsCore n
kept_same s n e h = subst IsCore (sym e) h

pub agree_same : (s n : CoreState) → n ≡ s → GroupsAgree s → GroupsAgree n
agree_same s n e h = subst GroupsAgree (sym e) h

-- a core that is as before, but for its room
pub kept_as_before : (old new : Inside) → core_state new ≡ core_state old →
    flights new.outputs.items + vec_len new.stored ≤ vec_capacity new.stored →
    ((i : ℕ) → i < length new.told.items → length (slice_index_or new.told.items i no_reports).reports
    + live_of new.tracker i ≤ (slice_index_or new.told.items i no_reports).places) → IsKept old → IsKept new
kept_as_before old new same spare places h = record {
  core = kept_same (core_state old) (core_state new) same h.core;
  groups = agree_same (core_state old) (core_state new) same h.groups;
  told = subst HasJournal (sym same) h.told;
  spare = spare;
  places = places;
}

-- more items, all of one group or of none
pub known_more : (groups : List (Option ℕ)) (made : List Bool) (n : ℕ) (group : Option ℕ) (mark : Bool) →
    length groups ≡ length made → length (groups ++ replicate n group) ≡ length (made ++ replicate n mark)
known_more groups made n group mark e =
    omega (
      arith,
      length-append groups (replicate n group),
      length-append made (replicate n mark),
      length-replicate n group,
      length-replicate n mark,
    )

-- one item fewer
pub known_fewer : (groups : List (Option ℕ)) (made : List Bool) → length groups ≡ length made →
    length (drop 1 groups) ≡ length (drop 1 made)
known_fewer groups made e = omega (arith, length-drop 1 groups, length-drop 1 made)
