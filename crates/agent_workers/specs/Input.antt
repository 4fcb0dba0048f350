-- What the Gathers of an input say of its text, and why an input wasn't read to its end.
use Rattle.std.specs.Prelude.{◌≡◌, ◌≤◌, ◌⊎◌, ◌+◌, ◌^◌, ℕ, ℤ, true, List, [], ◌∷◌, ◌++◌, length, count_by}
use Rattle.std.specs.List.{flat_map, sum_by}
use Rattle.std.specs.declared.option.Option.{Option}
use Rattle.agent_base.specs.Cut.{Cut}
use Rattle.agent_base.specs.Hand.{Hand, to_come}
use Rattle.agent_base.specs.Lines.{AreAllButRest}
use Rattle.agent_base.specs.Taken.{IsSpent}
use Rattle.account.specs.declared.entry.Entry.{Entry}
use Rattle.account.specs.Says.{GatherSays}
use Rattle.pipeline_core.specs.Legal.{has_ended, gathered_count}
use Rattle.account.specs.Gathers.{gathers}
use Rattle.agent_base.specs.Told.{Told}
use Rattle.formats.specs.Reader.{InRule, reader_of, cut_of, is_refused, passed_over, filtered_of, kept_of}
use Rattle.formats.specs.Reader.{capped, FitsGather}

-- a Gather names a group of pieces: how many they are, how many of them are refused, how many samples of the
-- others are passed over, of how many of their metrics nothing is kept, and what is kept of the others in
-- order; the third and the fourth stand still at 4,294,967,295
pub record IsGroup (rule : InRule) (group : List Cut) (says : GatherSays) : Type 0 where
  pub pieces : says.pieces ≡ length group
  pub refused : says.refused ≡ count_by (is_refused rule says.moment) group
  pub passed : says.passed ≡ capped (sum_by (passed_over rule says.moment) group)
  pub filtered : says.filtered ≡ capped (sum_by (filtered_of rule says.moment) group)
  pub metrics : says.metrics ≡ flat_map (kept_of rule says.moment) group

-- the Gathers name these groups, one each
unfoldable pub AreGroups : InRule → List (List Cut) → List GatherSays → Type 0
AreGroups rule [] [] = Unit {0}
AreGroups rule [] (says ∷ others) = ⊥
AreGroups rule (group ∷ groups) [] = ⊥
AreGroups rule (group ∷ groups) (says ∷ others) = IsGroup rule group says × AreGroups rule groups others

-- each group but the last has so many pieces, and the last at least one and at most so many
unfoldable pub AreFull : ℕ → List (List Cut) → Type 0
AreFull most [] = Unit {0}
AreFull most (group ∷ []) = (1 ≤ length group) × (length group ≤ most)
AreFull most (group ∷ second ∷ groups) = (length group ≡ most) × AreFull most (second ∷ groups)

-- the groups, one behind the other
unfoldable pub joined : List (List Cut) → List Cut
joined [] = []
joined (group ∷ groups) = group ++ joined groups

-- the Gathers of an input name consecutive groups of the pieces of its text, from the first piece on, and all
-- pieces where the input has ended
pub record AreGathered (rule : InRule) (journal : List Entry) (input : ℕ) (text : List ℕ) : Type 0 where
  pub groups : List (List Cut)
  pub rest : List Cut
  pub consecutive : (reader_of rule.format).cut text ≡ joined groups ++ rest
  pub named : AreGroups rule groups (gathers input journal)
  pub full : AreFull rule.most groups
  pub all : has_ended input journal ≡ true → rest ≡ []

-- each group has exactly so many pieces
unfoldable pub AllFull : ℕ → List (List Cut) → Type 0
AllFull most [] = Unit {0}
AllFull most (group ∷ groups) = (length group ≡ most) × AllFull most groups

-- Gathers name consecutive groups of the pieces of a text, from the first piece on; the rest are named by none
pub record Naming (rule : InRule) (all : List GatherSays) (text : List ℕ) (rest : List Cut) : Type 0 where
  pub groups : List (List Cut)
  pub consecutive : (reader_of rule.format).cut text ≡ joined groups ++ rest
  pub named : AreGroups rule groups all

-- and each group is full; or the last one needn't be, and no piece is left
pub record Gathering (rule : InRule) (all : List GatherSays) (text : List ℕ) (rest : List Cut) : Type 0 where
  pub naming : Naming rule all text rest
  pub full : AllFull rule.most naming.groups ⊎ (AreFull rule.most naming.groups × (rest ≡ []))

-- and each group but the last is full
pub record GatheredTo (rule : InRule) (all : List GatherSays) (text : List ℕ) (rest : List Cut) : Type 0 where
  pub naming : Naming rule all text rest
  pub full : AreFull rule.most naming.groups

-- so many bytes being left, Gathers name all pieces of the bytes that were taken of a text, but perhaps the last
-- one: in what they don't name no piece ends
pub record NamesTaken (rule : InRule) (all : List GatherSays) (text left : List ℕ) : Type 0 where
  pub taken : List ℕ
  pub split : text ≡ taken ++ left
  pub groups : List (List Cut)
  pub named : AreGroups rule groups all
  pub rest : AreAllButRest (cut_of rule.format) taken (joined groups)

-- so far Gathers name groups of the bytes that were taken of a text, whatever follows them; or nothing is left
-- and no piece is to come
pub record NamesSoFar (rule : InRule) (all : List GatherSays) (hand : Hand) (text left : List ℕ)
    : Type 0 where
  pub taken : List ℕ
  pub split : text ≡ taken ++ left
  pub named : IsSpent hand left
      ⊎ ((more : List ℕ) → Naming rule all (taken ++ more) (to_come hand more))

-- of the next group of pieces behind those that the Gathers name, at most as many as a gather has, so many
-- metrics are kept at some moment
pub record IsNextGroup (rule : InRule) (all : List GatherSays) (text : List ℕ) (count : ℕ) : Type 0 where
  pub moment : ℤ
  pub groups : List (List Cut)
  pub group : List Cut
  pub rest : List Cut
  pub consecutive : (reader_of rule.format).cut text ≡ joined groups ++ (group ++ rest)
  pub named : AreGroups rule groups all
  pub few : length group ≤ rule.most
  pub metrics : count ≡ length (flat_map (kept_of rule moment) group)

-- the gathered metrics with those of the next group, which are at most as many as its pieces say, would reach
-- 2^32
pub record IsFull (rule : InRule) (journal : List Entry) (input : ℕ) (text left : Option (List ℕ)) : Type 0 where
  pub count : ℕ
  pub few : FitsGather rule count
  pub many : 2 ^ 32 ≤ gathered_count journal + count
  pub next : Told text left (λ xs ys. IsNextGroup rule (gathers input journal) xs count)
