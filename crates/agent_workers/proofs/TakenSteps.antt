-- What the Gathers name of the bytes that were taken, group by group.
use Rattle.std.proofs.Common.{◌≡◌, ◌≤◌, ◌+◌, ◌⊎◌, ℕ, ℤ, List, [], ◌∷◌, ◌++◌, length, refl, sym, ap, ◌∙◌, subst, inl}
use Rattle.std.proofs.Common.{inr, append_assoc, append-nil, length-append, arith}
use Rattle.std.specs.declared.option.Option.{Option}
use Rattle.agent_base.specs.Cut.{Cut, cut}
use Rattle.agent_base.specs.Hand.{Hand, to_come, empty_hand}
use Rattle.agent_base.specs.Lines.{AreAllButRest}
use Rattle.agent_base.specs.Taken.{IsSpent}
use Rattle.agent_base.proofs.FrontLemmas.{all_but_rest}
use Rattle.agent_base.specs.Told.{Told}
use Rattle.account.specs.Says.{GatherSays}
use Rattle.account.specs.Gathers.{gathers}
use Rattle.formats.specs.Reader.{InRule, cut_of}
use Rattle.formats.specs.declared.reading.Group.{Group}
use Rattle.agent_workers.specs.Input.{IsGroup, AreGroups, joined, Naming, NamesTaken, NamesSoFar}
use Rattle.formats.specs.Groups.{Reads, TakesPieces}
use Rattle.formats.proofs.GroupLemmas.{told_map, told_pair, told_self, told_then, still_spent}
use Rattle.agent_workers.proofs.GatherLemmas.{AreGroups-push, joined-push, naming_starts, naming_as, naming_more}

-- ---- the start

-- nothing was read or gathered
names_start : (rule : InRule) (input : ℕ) (text : List ℕ) → NamesSoFar rule (gathers input [])
    (empty_hand (cut_of rule.format)) text text
names_start rule input text = record { taken = []; split = refl; named = inr (λ more. naming_starts rule input more) }

pub told_names_start : (rule : InRule) (input : ℕ) (hand : Hand) (text : Option (List ℕ))
    → hand ≡ empty_hand (cut_of rule.format) → Told text text (NamesSoFar rule (gathers input []) hand)
told_names_start rule input hand text empty = told_self text (NamesSoFar rule (gathers input []) hand)
    (λ xs. rw empty (names_start rule input xs))

-- ---- Gathers that name the same groups

pub names_as : (rule : InRule) (all other : List GatherSays) (hand : Hand) (text left : List ℕ)
    → ((groups : List (List Cut)) → AreGroups rule groups all → AreGroups rule groups other)
    → NamesSoFar rule all hand text left → NamesSoFar rule other hand text left
names_as rule all other hand text left f h = record { taken = h.taken; split = h.split; named = go h.named }
  where
    go : IsSpent hand left ⊎ ((more : List ℕ) → Naming rule all (h.taken ++ more) (to_come hand more))
        → IsSpent hand left ⊎ ((more : List ℕ) → Naming rule other (h.taken ++ more) (to_come hand more))
    go (inl none) = inl none
    go (inr named) = inr (λ more. naming_as rule all other (h.taken ++ more) (to_come hand more) f (named more))

pub taken_as : (rule : InRule) (all other : List GatherSays) (text left : List ℕ)
    → ((groups : List (List Cut)) → AreGroups rule groups all → AreGroups rule groups other)
    → NamesTaken rule all text left → NamesTaken rule other text left
taken_as rule all other text left f h = record {
  taken = h.taken;
  split = h.split;
  groups = h.groups;
  named = f h.groups h.named;
  rest = h.rest;
}

-- ---- what was taken of the text, step by step

-- groups of the bytes that were taken are named, and some pieces are the next, whatever follows; or nothing is left and
-- no piece is to come
record NamesBut (rule : InRule) (all : List GatherSays) (read : List Cut) (hand : Hand)
    (text left : List ℕ) : Type 0 where
  taken : List ℕ
  split : text ≡ taken ++ left
  named : IsSpent hand left ⊎ ((more : List ℕ) → Naming rule all (taken ++ more) (read ++ to_come hand more))

-- pieces were read and aren't gathered yet
names_but : (rule : InRule) (all : List GatherSays) (read : List Cut) (before after : Hand) (xs ys zs : List ℕ)
    → NamesSoFar rule all before xs ys → TakesPieces read before after ys zs → NamesBut rule all read after xs zs
names_but rule all read before after xs ys zs h k = record {
  taken = h.taken ++ k.taken;
  split = h.split ∙ ap (λ (l : List ℕ). h.taken ++ l) k.split ∙ sym (append_assoc h.taken k.taken zs);
  named = go h.named k.given;
}
  where
    go : IsSpent before ys ⊎ ((more : List ℕ) → Naming rule all (h.taken ++ more) (to_come before more))
        → IsSpent after zs ⊎ ((more : List ℕ) → to_come before (k.taken ++ more) ≡ read ++ to_come after more)
        → IsSpent after zs ⊎ ((more : List ℕ) → Naming rule all ((h.taken ++ k.taken) ++ more)
        (read ++ to_come after more))
    go (inl none) given = inl (still_spent read before after k.taken ys zs k.split none given)
    go (inr named) (inl none) = inl none
    go (inr named) (inr given) =
        inr (λ more. subst (λ (text : List ℕ). Naming rule all text (read ++ to_come after more))
        (sym (append_assoc h.taken k.taken more)) (subst (Naming rule all (h.taken ++ (k.taken ++ more))) (given more)
        (named (k.taken ++ more))))

-- ---- what was read is gathered, or nothing was read

names_more : (rule : InRule) (all : List GatherSays) (group : List Cut) (says : GatherSays) (hand : Hand)
    (text left : List ℕ) → IsGroup rule group says → NamesBut rule all group hand text left
    → NamesSoFar rule (all ++ says ∷ []) hand text left
names_more rule all group says hand text left is h = record { taken = h.taken; split = h.split; named = go h.named }
  where
    go : IsSpent hand left ⊎ ((behind : List ℕ) → Naming rule all (h.taken ++ behind) (group ++ to_come hand behind))
        → IsSpent hand left ⊎ ((behind : List ℕ) → Naming rule (all ++ says ∷ []) (h.taken ++ behind)
        (to_come hand behind))
    go (inl none) = inl none
    go (inr named) = inr (λ behind. naming_more rule all (h.taken ++ behind) group (to_come hand behind) says is
        (named behind))

names_none : (rule : InRule) (all : List GatherSays) (hand : Hand) (text left : List ℕ)
    → NamesBut rule all [] hand text left → NamesSoFar rule all hand text left
names_none rule all hand text left h = record { taken = h.taken; split = h.split; named = h.named }

-- ---- a failed read

pub no_pieces : (read : List Cut) → length read ≡ 0 → read ≡ []
no_pieces [] none = refl
no_pieces (x ∷ read) none = absurd (omega (arith, none))

-- groups that are named by the same Gathers have as many pieces
same_count : (rule : InRule) (groups others : List (List Cut)) (says : List GatherSays) → AreGroups rule groups says
    → AreGroups rule others says → length (joined groups) ≡ length (joined others)
unfolding AreGroups joined
same_count rule [] [] [] h k = refl
same_count rule [] [] (s ∷ says) h k = absurd h
same_count rule [] (other ∷ others) [] h k = absurd k
same_count rule [] (other ∷ others) (s ∷ says) h k = absurd h
same_count rule (group ∷ groups) others [] h k = absurd h
same_count rule (group ∷ groups) [] (s ∷ says) h k = absurd k
same_count rule (group ∷ groups) (other ∷ others) (s ∷ says) h k =
    omega (
      arith,
      length-append group (joined groups),
      length-append other (joined others),
      h.0.pieces,
      k.0.pieces,
      same_count rule groups others says h.1 k.1,
    )

-- groups of the bytes that were taken are named, and some pieces are the next, at most one more is to come, and
-- whatever follows; or none is to come
record NamesAll (rule : InRule) (all : List GatherSays) (read : List Cut) (hand : Hand)
    (text left : List ℕ) : Type 0 where
  taken : List ℕ
  split : text ≡ taken ++ left
  named : Naming rule all taken (read ++ to_come hand [])
  followed : (to_come hand [] ≡ []) ⊎ ((more : List ℕ) → Naming rule all (taken ++ more) (read ++ to_come hand more))

names_all : (rule : InRule) (all : List GatherSays) (read : List Cut) (hand : Hand) (text left : List ℕ)
    → NamesBut rule all read hand text left → Naming rule all text (read ++ to_come hand left)
    → NamesAll rule all read hand text left
names_all rule all read hand text left h whole = go h.named
  where
    go : IsSpent hand left ⊎ ((more : List ℕ) → Naming rule all (h.taken ++ more) (read ++ to_come hand more))
        → NamesAll rule all read hand text left
    go (inl none) = record {
      taken = text;
      split = rw (none.0) (sym (append-nil text));
      named = subst (λ (ys : List ℕ). Naming rule all text (read ++ to_come hand ys)) none.0 whole;
      followed = inl none.1;
    }
    go (inr named) = record {
      taken = h.taken;
      split = h.split;
      named = subst (λ (xs : List ℕ). Naming rule all xs (read ++ to_come hand [])) (append-nil h.taken) (named []);
      followed = inr named;
    }

-- the named groups and the pieces that were read are all pieces of the bytes taken but that of their last line
all_but : (rule : InRule) (all : List GatherSays) (read : List Cut) (hand : Hand) (text left : List ℕ)
    (h : NamesAll rule all read hand text left) → length (to_come hand []) ≤ 1 → length (to_come hand (10 ∷ [])) ≤ 1
    → AreAllButRest (cut_of rule.format) h.taken (joined h.named.groups ++ read)
all_but rule all read hand text left h one line =
    all_but_rest (cut_of rule.format) h.taken (joined h.named.groups ++ read) (to_come hand [])
    (h.named.consecutive ∙ sym (append_assoc (joined h.named.groups) read (to_come hand []))) one (go h.followed)
  where
    go : (to_come hand [] ≡ []) ⊎ ((more : List ℕ) → Naming rule all (h.taken ++ more) (read ++ to_come hand more))
        → (to_come hand [] ≡ []) ⊎ (length (cut (cut_of rule.format) (h.taken ++ 10 ∷ [])) ≤ length
        (joined h.named.groups ++ read) + 1)
    go (inl none) = inl none
    go (inr more) =
        let g = more (10 ∷ []) in
        inr (omega (
          arith,
          ap (λ (cs : List Cut). length cs) g.consecutive,
          length-append (joined g.groups) (read ++ to_come hand (10 ∷ [])),
          length-append read (to_come hand (10 ∷ [])),
          length-append (joined h.named.groups) read,
          same_count rule g.groups h.named.groups all g.named h.named.named,
          line,
        ))

-- no Gather more
taken_of : (rule : InRule) (all : List GatherSays) (hand : Hand) (text left : List ℕ) → length (to_come hand []) ≤ 1
    → length (to_come hand (10 ∷ [])) ≤ 1 → NamesAll rule all [] hand text left → NamesTaken rule all text left
taken_of rule all hand text left one line h = record {
  taken = h.taken;
  split = h.split;
  groups = h.named.groups;
  named = h.named.named;
  rest = subst (AreAllButRest (cut_of rule.format) h.taken) (append-nil (joined h.named.groups))
      (all_but rule all [] hand text left h one line);
}

-- one Gather more, of any length
taken_more : (rule : InRule) (all : List GatherSays) (group : List Cut) (hand : Hand) (text left : List ℕ)
    (says : GatherSays) → IsGroup rule group says → length (to_come hand []) ≤ 1 → length (to_come hand (10 ∷ [])) ≤ 1
    → NamesAll rule all group hand text left
    → NamesTaken rule (all ++ says ∷ []) text left
taken_more rule all group hand text left says is one line h = record {
  taken = h.taken;
  split = h.split;
  groups = h.named.groups ++ group ∷ [];
  named = AreGroups-push rule h.named.groups all group says h.named.named is;
  rest = subst (AreAllButRest (cut_of rule.format) h.taken) (sym (joined-push h.named.groups group))
      (all_but rule all group hand text left h one line);
}

-- ---- a group that was read, where the text of the source is told

module _ (rule : InRule) (all : List GatherSays) (moment : ℤ) (group : Group) (before after : Hand)
    (text left_before left_after : Option (List ℕ)) (r : Reads rule moment group before after left_before left_after)
    (h : Told text left_before (NamesSoFar rule all before)) where
  told_but : Told text left_after (NamesBut rule all r.read after)
  told_but = told_then text left_before left_after (NamesSoFar rule all before) (TakesPieces r.read before after)
      (NamesBut rule all r.read after) h r.whatever_follows (λ xs ys zs a b. names_but rule all r.read before after xs
      ys zs a b)

  -- the group is held
  pub told_names_more : (says : GatherSays) → IsGroup rule r.read says
      → Told text left_after (NamesSoFar rule (all ++ says ∷ []) after)
  told_names_more says is = told_map text left_after (NamesBut rule all r.read after)
      (NamesSoFar rule (all ++ says ∷ []) after) (λ xs zs a. names_more rule all r.read says after xs zs is a) told_but

  -- the group has no piece
  pub told_names_none : group.pieces ≡ 0 → Told text left_after (NamesSoFar rule all after)
  told_names_none none =
      told_map text left_after (NamesBut rule all r.read after) (NamesSoFar rule all after)
      (λ xs zs a. names_none rule all after xs zs (subst (λ (read : List Cut). NamesBut rule all read after xs zs)
      (no_pieces r.read (sym r.pieces ∙ none)) a)) told_but

  module _ (g : Told text left_before (λ xs ys. Naming rule all xs (to_come before ys)))
      (one : length (to_come after []) ≤ 1) (line : length (to_come after (10 ∷ [])) ≤ 1) where
    told_whole : Told text left_after (λ xs zs. Naming rule all xs (r.read ++ to_come after zs))
    told_whole =
        told_then text left_before left_after
        (λ xs ys. Naming rule all xs (to_come before ys)) (λ ys zs. to_come before ys ≡ r.read ++ to_come after zs)
        (λ xs zs. Naming rule all xs (r.read ++ to_come after zs))
        g r.consecutive (λ xs ys zs a b. subst (Naming rule all xs) b a)

    told_all : Told text left_after (NamesAll rule all r.read after)
    told_all = told_pair text left_after (NamesBut rule all r.read after)
        (λ xs zs. Naming rule all xs (r.read ++ to_come after zs)) (NamesAll rule all r.read after) told_but told_whole
        (λ xs zs a b. names_all rule all r.read after xs zs a b)

    -- a read failed, and the group is held
    pub told_taken_more : (says : GatherSays) → IsGroup rule r.read says
        → Told text left_after (NamesTaken rule (all ++ says ∷ []))
    told_taken_more says is = told_map text left_after (NamesAll rule all r.read after)
        (NamesTaken rule (all ++ says ∷ [])) (λ xs zs a. taken_more rule all r.read after xs zs says is one line a)
        told_all

    -- a read failed, and the group has no piece
    pub told_taken_none : group.pieces ≡ 0 → Told text left_after (NamesTaken rule all)
    told_taken_none none =
        told_map text left_after (NamesAll rule all r.read after) (NamesTaken rule all)
        (λ xs zs a. taken_of rule all after xs zs one line (subst
        (λ (read : List Cut). NamesAll rule all read after xs zs) (no_pieces r.read (sym r.pieces ∙ none)) a)) told_all
