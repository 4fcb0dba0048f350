-- The Gathers of a journal with one more, and the pieces that they name.
use Rattle.std.proofs.Common.{◌≡◌, ◌≤◌, ℕ, Bool, true, false, List, [], ◌∷◌, ◌++◌, length, refl, sym, ap, ◌∙◌, subst}
use Rattle.std.proofs.Common.{inl, inr, arith, append_assoc, append-nil, eq-eqb}
use Rattle.std.specs.Prelude.{◌||◌, ◌==◌, ◌⊎◌, if◌then◌else◌}
use Rattle.std.proofs.Math.Bool.{or-false}
use Rattle.std.specs.declared.option.Option.{Option}
use Rattle.account.specs.declared.entry.Entry.{Entry}
use Rattle.account.specs.declared.entry.Report.{Report}
use Rattle.agent_base.specs.Cut.{Cut}
use Rattle.agent_base.specs.Hand.{to_come, empty_hand}
use Rattle.pipeline_core.specs.Legal.{has_ended, is_ended_of}
use Rattle.pipeline_core.proofs.JournalPush.{has_ended-push}
use Rattle.pipeline_core.specs.Steps.{entry_of, said_of}
use Rattle.pipeline_core.specs.declared.gathering.Gathered.{Gathered}
use Rattle.account.specs.Says.{GatherSays}
use Rattle.account.specs.Gathers.{gathers_by, gathers}
use Rattle.formats.specs.Reader.{InRule, cut_of}
use Rattle.agent_workers.specs.Inputs.{says_of}
use Rattle.agent_workers.specs.Input.{IsGroup, AreGroups, AreFull, AllFull, joined, Naming, Gathering, GatheredTo}

-- ---- groups, one by one

pub AreGroups-push : (rule : InRule) (groups : List (List Cut)) (all : List GatherSays) (group : List Cut)
    (says : GatherSays) → AreGroups rule groups all → IsGroup rule group says
    → AreGroups rule (groups ++ group ∷ []) (all ++ says ∷ [])
unfolding AreGroups
AreGroups-push rule [] [] group says h g = (g, tt)
AreGroups-push rule [] (x ∷ all) group says h g = absurd h
AreGroups-push rule (x ∷ groups) [] group says h g = absurd h
AreGroups-push rule (x ∷ groups) (y ∷ all) group says h g = (h.0, AreGroups-push rule groups all group says h.1 g)

-- the last Gather by another one that says the same of each group
pub AreGroups-last : (rule : InRule) (groups : List (List Cut)) (all : List GatherSays) (says other : GatherSays)
    → ((group : List Cut) → IsGroup rule group says → IsGroup rule group other)
    → AreGroups rule groups (all ++ says ∷ []) → AreGroups rule groups (all ++ other ∷ [])
unfolding AreGroups
AreGroups-last rule [] [] says other f h = absurd h
AreGroups-last rule [] (x ∷ all) says other f h = absurd h
AreGroups-last rule (group ∷ groups) [] says other f h = (f group h.0, h.1)
AreGroups-last rule (group ∷ groups) (x ∷ all) says other f h = (h.0, AreGroups-last rule groups all says other f h.1)

-- groups whose last one is named by the last Gather
pub record IsLastGroup (rule : InRule) (groups : List (List Cut)) (all : List GatherSays)
    (says : GatherSays) : Type 0 where
  pub front : List (List Cut)
  pub group : List Cut
  pub parts : groups ≡ front ++ group ∷ []
  pub named : AreGroups rule front all
  pub last : IsGroup rule group says

pub AreGroups-split : (rule : InRule) (groups : List (List Cut)) (all : List GatherSays) (says : GatherSays)
    → AreGroups rule groups (all ++ says ∷ []) → IsLastGroup rule groups all says
unfolding AreGroups
AreGroups-split rule [] [] says h = absurd h
AreGroups-split rule [] (x ∷ all) says h = absurd h
AreGroups-split rule (group ∷ []) [] says h = record { front = []; group = group; parts = refl; named = tt; last = h.0 }
AreGroups-split rule (group ∷ second ∷ groups) [] says h = absurd h.1
AreGroups-split rule (group ∷ groups) (x ∷ all) says h =
    let rest = AreGroups-split rule groups all says h.1 in
    record {
      front = group ∷ rest.front;
      group = rest.group;
      parts = ap (λ (gs : List (List Cut)). group ∷ gs) rest.parts;
      named = (h.0, rest.named);
      last = rest.last;
    }

pub joined-push : (groups : List (List Cut)) (group : List Cut) → joined (groups ++ group ∷ []) ≡ joined groups ++ group
unfolding joined
joined-push [] group = append-nil group
joined-push (x ∷ groups) group = ap (λ (rest : List Cut). x ++ rest) (joined-push groups group)
    ∙ sym (append_assoc x (joined groups) group)

pub AllFull-push : (most : ℕ) (groups : List (List Cut)) (group : List Cut) → AllFull most groups → length group ≡ most
    → AllFull most (groups ++ group ∷ [])
unfolding AllFull
AllFull-push most [] group h g = (g, tt)
AllFull-push most (x ∷ groups) group h g = (h.0, AllFull-push most groups group h.1 g)

-- groups that are all full, and one more
pub AreFull-push : (most : ℕ) (groups : List (List Cut)) (group : List Cut) → AllFull most groups → 1 ≤ length group
    → length group ≤ most → AreFull most (groups ++ group ∷ [])
unfolding AllFull AreFull
AreFull-push most [] group h some few = (some, few)
AreFull-push most (x ∷ []) group h some few = (h.0, (some, few))
AreFull-push most (x ∷ y ∷ groups) group h some few = (h.0, AreFull-push most (y ∷ groups) group h.1 some few)

pub AreFull-all : (most : ℕ) (groups : List (List Cut)) → 1 ≤ most → AllFull most groups → AreFull most groups
unfolding AllFull AreFull
AreFull-all most [] some h = tt
AreFull-all most (x ∷ []) some h = (omega (arith, h.0), omega (arith, h.0))
AreFull-all most (x ∷ y ∷ groups) some h = (h.0, AreFull-all most (y ∷ groups) some h.1)

-- the groups before the last one are all full, and that one has few pieces
pub AreFull-split : (most : ℕ) (front : List (List Cut)) (group : List Cut) → AreFull most (front ++ group ∷ [])
    → AllFull most front × (length group ≤ most)
unfolding AllFull AreFull
AreFull-split most [] group h = (tt, h.1)
AreFull-split most (x ∷ []) group h = ((h.0, tt), h.1.1)
AreFull-split most (x ∷ y ∷ front) group h = let rest = AreFull-split most (y ∷ front) group h.1 in
    ((h.0, rest.0), rest.1)

-- ---- the Gather of what was held

-- an entry that isn't the Ended of the input
pub has_ended-other : (input : ℕ) (es : List Entry) (e : Entry) → is_ended_of input e ≡ false
    → has_ended input (es ++ e ∷ []) ≡ has_ended input es
has_ended-other input es e none = has_ended-push input es e ∙ ap (λ (b : Bool). has_ended input es || b) none
    ∙ or-false (has_ended input es)

pub gathers_own : (g : Gathered) (number : Option ℕ) (reports : List Report)
    → gathers_by g.input (entry_of g number reports) ≡ said_of g number reports ∷ []
gathers_own g number reports =
    let same : (g.input == g.input) ≡ true = eq-eqb g.input g.input refl in
    ap (λ (b : Bool). if b then (said_of g number reports ∷ []) else []) same

-- it names the same group
pub group_said : (rule : InRule) (g : Gathered) (number : Option ℕ) (reports : List Report) (group : List Cut)
    → IsGroup rule group (says_of g) → IsGroup rule group (said_of g number reports)
group_said rule g number reports group h = record {
  pieces = h.pieces;
  refused = h.refused;
  passed = h.passed;
  filtered = h.filtered;
  metrics = h.metrics;
}

-- ---- what Gathers name

-- nothing was gathered
pub naming_starts : (rule : InRule) (input : ℕ) (text : List ℕ)
    → Naming rule (gathers input []) text (to_come (empty_hand (cut_of rule.format)) text)
unfolding gathers AreGroups joined
naming_starts rule input text = record { groups = []; consecutive = refl; named = tt }

pub gathering_starts : (rule : InRule) (input : ℕ) (text : List ℕ)
    → Gathering rule (gathers input []) text (to_come (empty_hand (cut_of rule.format)) text)
unfolding gathers AreGroups joined AllFull naming_starts
gathering_starts rule input text = record { naming = naming_starts rule input text; full = inl tt }

-- other Gathers that name the same groups
pub naming_as : (rule : InRule) (all other : List GatherSays) (text : List ℕ) (rest : List Cut)
    → ((groups : List (List Cut)) → AreGroups rule groups all → AreGroups rule groups other) → Naming rule all text rest
    → Naming rule other text rest
naming_as rule all other text rest f h = record {
  groups = h.groups;
  consecutive = h.consecutive;
  named = f h.groups h.named;
}

pub gathering_as : (rule : InRule) (all other : List GatherSays) (text : List ℕ) (rest : List Cut)
    → ((groups : List (List Cut)) → AreGroups rule groups all → AreGroups rule groups other)
    → Gathering rule all text rest → Gathering rule other text rest
gathering_as rule all other text rest f h = record {
  naming =
      record { groups = h.naming.groups; consecutive = h.naming.consecutive; named = f h.naming.groups h.naming.named };
  full = h.full;
}

pub gathered_as : (rule : InRule) (all other : List GatherSays) (text : List ℕ) (rest : List Cut)
    → ((groups : List (List Cut)) → AreGroups rule groups all → AreGroups rule groups other)
    → GatheredTo rule all text rest → GatheredTo rule other text rest
gathered_as rule all other text rest f h = record {
  naming =
      record { groups = h.naming.groups; consecutive = h.naming.consecutive; named = f h.naming.groups h.naming.named };
  full = h.full;
}

-- one group more, the next one
pub naming_more : (rule : InRule) (all : List GatherSays) (text : List ℕ) (group rest : List Cut) (says : GatherSays)
    → IsGroup rule group says → Naming rule all text (group ++ rest) → Naming rule (all ++ says ∷ []) text rest
naming_more rule all text group rest says is h = record {
  groups = h.groups ++ group ∷ [];
  consecutive = h.consecutive ∙ sym (append_assoc (joined h.groups) group rest)
      ∙ ap (λ (front : List Cut). front ++ rest) (sym (joined-push h.groups group));
  named = AreGroups-push rule h.groups all group says h.named is;
}

no_piece : (group rest : List Cut) → group ++ rest ≡ [] → length group ≡ 0
no_piece [] rest e = refl
no_piece (x ∷ group) rest e = absurd (let z : x ∷ (group ++ rest) ≡ [] = e in cc)

-- where a piece is to come all groups are full
pub all_full : (rule : InRule) (all : List GatherSays) (text : List ℕ) (group rest : List Cut)
    (h : Gathering rule all text (group ++ rest)) → 1 ≤ length group → AllFull rule.most h.naming.groups
all_full rule all text group rest h some = go h.full
  where
    go : AllFull rule.most h.naming.groups ⊎ (AreFull rule.most h.naming.groups × (group ++ rest ≡ []))
        → AllFull rule.most h.naming.groups
    go (inl full) = full
    go (inr none) = absurd (omega (arith, some, no_piece group rest none.1))

-- a group more, which is full
pub gathering_full : (rule : InRule) (all : List GatherSays) (text : List ℕ) (group rest : List Cut) (says : GatherSays)
    → IsGroup rule group says → 1 ≤ length group → length group ≡ rule.most → Gathering rule all text (group ++ rest)
    → Gathering rule (all ++ says ∷ []) text rest
unfolding naming_more
gathering_full rule all text group rest says is some full h =
    record {
      naming = naming_more rule all text group rest says is h.naming;
      full = inl (AllFull-push rule.most h.naming.groups group (all_full rule all text group rest h some) full);
    }

-- a group more, which is the last one
pub gathering_last : (rule : InRule) (all : List GatherSays) (text : List ℕ) (group rest : List Cut) (says : GatherSays)
    → IsGroup rule group says → 1 ≤ length group → length group ≤ rule.most → rest ≡ []
    → Gathering rule all text (group ++ rest) → Gathering rule (all ++ says ∷ []) text rest
unfolding naming_more
gathering_last rule all text group rest says is some few none h =
    record {
      naming = naming_more rule all text group rest says is h.naming;
      full = inr (
        AreFull-push rule.most h.naming.groups group (all_full rule all text group rest h some) some few,
        none,
      );
    }

-- a group more, behind which nothing is read
pub gathered_more : (rule : InRule) (all : List GatherSays) (text : List ℕ) (group rest : List Cut) (says : GatherSays)
    → IsGroup rule group says → 1 ≤ length group → length group ≤ rule.most → Gathering rule all text (group ++ rest)
    → GatheredTo rule (all ++ says ∷ []) text rest
unfolding naming_more
gathered_more rule all text group rest says is some few h =
    record {
      naming = naming_more rule all text group rest says is h.naming;
      full = AreFull-push rule.most h.naming.groups group (all_full rule all text group rest h some) some few;
    }

-- no group more
pub gathered_here : (rule : InRule) (all : List GatherSays) (text : List ℕ) (rest : List Cut) → 1 ≤ rule.most
    → Gathering rule all text rest → GatheredTo rule all text rest
gathered_here rule all text rest some h = record { naming = h.naming; full = go h.full }
  where
    go : AllFull rule.most h.naming.groups ⊎ (AreFull rule.most h.naming.groups × (rest ≡ []))
        → AreFull rule.most h.naming.groups
    go (inl full) = AreFull-all rule.most h.naming.groups some full
    go (inr none) = none.0

-- without the last Gather: its group is behind the others
pub record Unheld (rule : InRule) (all : List GatherSays) (says : GatherSays) (text : List ℕ)
    (rest : List Cut) : Type 0 where
  pub group : List Cut
  pub last : IsGroup rule group says
  pub few : length group ≤ rule.most
  pub gathered : GatheredTo rule all text (group ++ rest)

pub unheld : (rule : InRule) (all : List GatherSays) (says : GatherSays) (text : List ℕ) (rest : List Cut)
    → 1 ≤ rule.most → GatheredTo rule (all ++ says ∷ []) text rest → Unheld rule all says text rest
unheld rule all says text rest some h =
    let split = AreGroups-split rule h.naming.groups all says h.naming.named in
    let full = AreFull-split rule.most split.front split.group (subst (AreFull rule.most) split.parts h.full) in
    record {
      group = split.group;
      last = split.last;
      few = full.1;
      gathered = record {
        naming = record {
          groups = split.front;
          consecutive = h.naming.consecutive ∙ ap (λ (gs : List (List Cut)). joined gs ++ rest) split.parts
              ∙ ap (λ (front : List Cut). front ++ rest) (joined-push split.front split.group)
              ∙ append_assoc (joined split.front) split.group rest;
          named = split.named;
        };
        full = AreFull-all rule.most split.front some full.0;
      };
    }
