-- What the journal says of an input, step by step.
use Rattle.std.proofs.Common.{◌≡◌, ◌≢◌, ◌≤◌, ◌<◌, ℕ, ℤ, ◌+◌, ◌^◌, Bool, true, false, List, [], ◌∷◌, ◌++◌, length, refl}
use Rattle.std.proofs.Common.{sym, ap, ◌∙◌, subst, inl, inr, arith}
use Rattle.std.specs.Prelude.{IfSome, map, ◌⊎◌, ◌||◌}
use Rattle.std.specs.declared.option.Option.{Option}
use Rattle.std.specs.declared.option.Option.TheVariants.{Some, None}
use Rattle.std.proofs.lemmas.Bool.{cases_eq}
use Rattle.std.proofs.Math.Nat.{mul-le-mul_right}
use Rattle.std.proofs.Math.Bool.{or-true}
use Rattle.metric.specs.declared.metric.Content.{Content}
use Rattle.account.specs.declared.entry.Entry.{Entry}
use Rattle.account.specs.declared.entry.Entry.TheVariants.{Ended}
use Rattle.account.specs.declared.entry.Report.{Report}
use Rattle.account.specs.Says.{GatherSays}
use Rattle.account.specs.Gathers.{gathers_by, gathers}
use Rattle.account.specs.EntryMoments.{gather_moments}
use Rattle.account.proofs.GatherLemmas.{gathers-push, gathers-other}
use Rattle.agent_base.specs.Clocked.{Clocked, index_behind}
use Rattle.agent_base.specs.Counts.{Rose}
use Rattle.agent_base.specs.Cut.{Cut}
use Rattle.agent_base.specs.Hand.{Hand, to_come, empty_hand}
use Rattle.agent_base.specs.Moments.{Moments, Gives}
use Rattle.agent_base.specs.Told.{Told}
use Rattle.agent_base.proofs.ClockLemmas.{clocked_none, clocked_one, clocked_joined, clocked_wider}
use Rattle.pipeline_core.specs.Legal.{has_ended, is_ended_of, gathered_count}
use Rattle.pipeline_core.proofs.JournalPush.{has_ended-push, gathered_count-push}
use Rattle.pipeline_core.proofs.Keeping.{same_number}
use Rattle.pipeline_core.specs.Steps.{entry_of, said_of}
use Rattle.pipeline_core.specs.declared.gathering.Gathered.{Gathered}
use Rattle.formats.specs.declared.reading.Group.{Group}
use Rattle.formats.specs.declared.pieces.InState.{InState}
use Rattle.formats.specs.declared.pieces.InState.TheVariants as states
use Rattle.formats.specs.Reader.{InRule, cut_of, most_said, FitsGather}
use Rattle.agent_workers.specs.Input.{IsGroup, AreGroups, Naming, Gathering, GatheredTo, AreGathered, IsNextGroup}
use Rattle.agent_workers.specs.Input.{IsFull}
use Rattle.agent_workers.specs.Inputs.{InPart, IsFresh, says_of, heard_of, is_ended, HoldsTooMany, HoldsNoEnd}
use Rattle.formats.specs.Groups.{ReadsGroup}
use Rattle.agent_workers.specs.Inputs.{gathered_of, read_state}
use Rattle.agent_workers.specs.Progress.{IsNamed, HasState, IsClocked, IsNamedOfTaken, Heard}
use Rattle.formats.proofs.GroupLemmas.{told_then, told_map, told_pair, told_self, few_kept}
use Rattle.agent_workers.proofs.RoseLemmas.{rose_from}
use Rattle.agent_workers.proofs.GatherLemmas.{has_ended-other, gathers_own, group_said}
use Rattle.agent_workers.proofs.GatherLemmas.{AreGroups-last, gathering_starts, gathering_as, gathered_as}
use Rattle.agent_workers.proofs.GatherLemmas.{gathering_full, gathering_last, gathered_more, gathered_here, unheld}
use Rattle.agent_workers.proofs.TakenSteps.{told_names_start, names_as, taken_as, no_pieces, told_names_more}
use Rattle.agent_workers.proofs.TakenSteps.{told_names_none, told_taken_more, told_taken_none}

-- the moments of what was said
abbrev pub moments_of : List GatherSays → List ℤ
moments_of all = map (λ (says : GatherSays). says.moment) all

moments_more : (all : List GatherSays) (says : GatherSays) → moments_of (all ++ says ∷ []) ≡ moments_of all
    ++ says.moment ∷ []
moments_more [] says = refl
moments_more (x ∷ all) says = ap (λ (ms : List ℤ). x.moment ∷ ms) (moments_more all says)

-- ---- clocks

clocked_wide : (all : Option Moments) (first old new : ℕ) (moment : ℤ) (ms : List ℤ) → Gives all old new moment
    → IfSome all (λ moments. IsClocked moments first old ms) → IfSome all (λ moments. IsClocked moments first new ms)
clocked_wide None first old new moment ms g h = tt
clocked_wide (Some moments) first old new moment ms g h = (
  omega (arith, g.next),
  clocked_wider moments first first old new ms (omega arith) (omega (arith, g.within, g.next)) h.1,
)

clocked_more : (all : Option Moments) (first old new : ℕ) (moment : ℤ) (ms : List ℤ) → Gives all old new moment
    → IfSome all (λ moments. IsClocked moments first old ms)
    → IfSome all (λ moments. IsClocked moments first new (ms ++ moment ∷ []))
clocked_more None first old new moment ms g h = tt
clocked_more (Some moments) first old new moment ms g h = (
  omega (arith, g.next),
  clocked_joined moments first old new ms (moment ∷ []) h.1 (clocked_one moments old new moment g),
)

clocked_starts : (all : Option Moments) → IfSome all (λ moments. IsClocked moments 0 0 [])
clocked_starts None = tt
clocked_starts (Some moments) = (omega arith, clocked_none moments 0 0 (omega arith))

clocked_ends : (all : Option Moments) (first next : ℕ) (ms : List ℤ)
    → IfSome all (λ moments. IsClocked moments first next ms)
    → IfSome all (λ moments. Clocked moments 0 moments.last ms)
clocked_ends None first next ms h = tt
clocked_ends (Some moments) first next ms h = clocked_wider moments 0 first next moments.last ms (omega arith) h.0 h.1

clocked_front : (moments : Moments) (first last : ℕ) (ms ns : List ℤ) → Clocked moments first last (ms ++ ns)
    → Clocked moments first last ms
unfolding Clocked
clocked_front moments first last [] [] h = h
clocked_front moments first last [] (n ∷ ns) h = omega (arith, h.from, h.to)
clocked_front moments first last (m ∷ ms) ns h = record {
  index = h.index;
  from = h.from;
  to = h.to;
  is = h.is;
  rest = clocked_front moments (index_behind moments h.index) last ms ns h.rest;
}

told_front : (all : Option Moments) (ms ns : List ℤ) → IfSome all (λ moments. Clocked moments 0 moments.last (ms ++ ns))
    → IfSome all (λ moments. Clocked moments 0 moments.last ms)
told_front None ms ns h = tt
told_front (Some moments) ms ns h = clocked_front moments 0 moments.last ms ns h

-- ---- states

never : false ≡ true → ⊥
never e = cc

named_as : (state : InState) (rule : InRule) (all other : List GatherSays) (text : List ℕ) (rest : List Cut)
    → ((groups : List (List Cut)) → AreGroups rule groups all → AreGroups rule groups other)
    → IsNamed state rule all text rest → IsNamed state rule other text rest
named_as states.Reading rule all other text rest f h = gathering_as rule all other text rest f h
named_as states.Ended rule all other text rest f h = gathered_as rule all other text [] f h
named_as states.Faulted rule all other text rest f h = gathered_as rule all other text rest f h
named_as states.LimitReached rule all other text rest f h = gathered_as rule all other text rest f h

named_of_taken_as : (state : InState) (rule : InRule) (all other : List GatherSays) (hand : Hand) (text left : List ℕ)
    → ((groups : List (List Cut)) → AreGroups rule groups all → AreGroups rule groups other)
    → IsNamedOfTaken state rule all hand text left → IsNamedOfTaken state rule other hand text left
named_of_taken_as states.Reading rule all other hand text left f h = names_as rule all other hand text left f h
named_of_taken_as states.Ended rule all other hand text left f h = tt
named_of_taken_as states.Faulted rule all other hand text left f h = taken_as rule all other text left f h
named_of_taken_as states.LimitReached rule all other hand text left f h = tt

-- whatever it was in, an input that holds a gather names groups
named_to : (state : InState) (rule : InRule) (all : List GatherSays) (text : List ℕ) (rest : List Cut) → 1 ≤ rule.most
    → (state ≡ states.Ended → ⊥) → IsNamed state rule all text rest → GatheredTo rule all text rest
named_to states.Reading rule all text rest some ne h = gathered_here rule all text rest some h
named_to states.Ended rule all text rest some ne h = absurd (ne refl)
named_to states.Faulted rule all text rest some ne h = h
named_to states.LimitReached rule all text rest some ne h = h

pub not_ended : (state : InState) → (state ≡ states.Ended → ⊥) → is_ended state ≡ false
not_ended states.Reading ne = refl
not_ended states.Ended ne = absurd (ne refl)
not_ended states.Faulted ne = refl
not_ended states.LimitReached ne = refl

pub holds_no_end : (state : InState) (g : Gathered) → HoldsNoEnd state (Some g) → state ≡ states.Ended → ⊥
holds_no_end states.Reading g h e = let x : states.Reading ≡ states.Ended = e in cc
holds_no_end states.Ended g h e = let x : Some g ≡ None = h in cc
holds_no_end states.Faulted g h e = let x : states.Faulted ≡ states.Ended = e in cc
holds_no_end states.LimitReached g h e = let x : states.LimitReached ≡ states.Ended = e in cc

too_many_more : (held : Option Gathered) (old new : ℕ) → old ≤ new → HoldsTooMany held old → HoldsTooMany held new
too_many_more None old new l h = absurd h
too_many_more (Some g) old new l h = omega (arith, l, h)

state_more : (state : InState) (start now : InPart) (old new : List Entry) → gathered_count old ≤ gathered_count new
    → HasState state start now old → HasState state start now new
state_more states.Reading start now old new l h = h
state_more states.Ended start now old new l h = h
state_more states.Faulted start now old new l h = h
state_more states.LimitReached start now old new l (inl h) = inl h
state_more states.LimitReached start now old new l (inr h) =
    inr (too_many_more now.held (gathered_count old) (gathered_count new) l h)

-- ---- a journal with the same Gathers of the input

heard_of_same : (input : ℕ) (old new : List Entry) (held : Option Gathered) → gathers input new ≡ gathers input old
    → heard_of input new held ≡ heard_of input old held
heard_of_same input old new None same = same
heard_of_same input old new (Some g) same = ap (λ (all : List GatherSays). all ++ says_of g ∷ []) same

pub heard_same : (start now : InPart) (input : ℕ) (old new : List Entry) → gathers input new ≡ gathers input old
    → has_ended input new ≡ has_ended input old → gathered_count old ≤ gathered_count new → Heard start now input old
    → Heard start now input new
heard_same start now input old new same ended count h =
    let all : heard_of input old now.held ≡ heard_of input new now.held =
    sym (heard_of_same input old new now.held same) in
    record {
      named = subst (λ (says : List GatherSays). Told start.left now.left
          (λ xs ys. IsNamed now.state now.rule says xs (to_come now.hand ys))) all h.named;
      of_taken = subst (λ (says : List GatherSays). Told start.left now.left
          (IsNamedOfTaken now.state now.rule says now.hand)) all h.of_taken;
      counted = h.counted;
      ended = ended ∙ h.ended;
      later = h.later;
      state = state_more now.state start now old new count h.state;
      clocked = subst (λ (says : List GatherSays). IfSome now.moments
          (λ moments. IsClocked moments start.next now.next (moments_of says))) all h.clocked;
    }

-- an entry that is neither a Gather nor the Ended of an input
pub record IsNotOf (input : ℕ) (e : Entry) : Type 0 where
  pub none : gathers_by input e ≡ []
  pub other : is_ended_of input e ≡ false

pub heard_push : (start now : InPart) (input : ℕ) (journal : List Entry) (e : Entry) → IsNotOf input e
    → Heard start now input journal → Heard start now input (journal ++ e ∷ [])
heard_push start now input journal e q h =
    heard_same start now input journal (journal ++ e ∷ []) (gathers-other input journal e q.none)
    (has_ended-other input journal e q.other) (omega (arith, gathered_count-push journal e)) h

-- ---- what is held is gathered

accepted_state : (state : InState) (start old : InPart) (g : Gathered) (journal new : List Entry)
    → gathered_count journal + length g.metrics < 2 ^ 32 → HasState state start (record old { held = Some g }) journal
    → HasState state start (record old { held = None }) new
accepted_state states.Reading start old g journal new few h = h
accepted_state states.Ended start old g journal new few h = h
accepted_state states.Faulted start old g journal new few h = h
accepted_state states.LimitReached start old g journal new few (inl h) = inl h
accepted_state states.LimitReached start old g journal new few (inr h) = absurd (omega (arith, few, h))

pub heard_accepted : (start old : InPart) (input : ℕ) (journal : List Entry) (g : Gathered) (number : Option ℕ)
    (reports : List Report) → g.input ≡ input → gathered_count journal + length g.metrics < 2 ^ 32 →
    Heard start (record old { held = Some g }) input journal
    → Heard start (record old { held = None }) input (journal ++ entry_of g number reports ∷ [])
heard_accepted start old input journal g number reports own few h =
    let e : Entry = entry_of g number reports in
    let more : gathers input (journal ++ e ∷ []) ≡ gathers input journal ++ said_of g number reports ∷ [] =
    gathers-push input journal e ∙ ap (λ (says : List GatherSays). gathers input journal ++ says)
    (subst (λ (i : ℕ). gathers_by i e ≡ said_of g number reports ∷ []) own (gathers_own g number reports)) in
    let same_groups : (groups : List (List Cut)) → AreGroups old.rule groups (gathers input journal ++ says_of g ∷ [])
    → AreGroups old.rule groups (gathers input (journal ++ e ∷ [])) =
    λ groups a. subst (AreGroups old.rule groups) (sym more)
    (AreGroups-last old.rule groups (gathers input journal) (says_of g) (said_of g number reports)
    (group_said old.rule g number reports) a) in
    record {
      named = told_map start.left old.left (λ xs ys. IsNamed old.state old.rule
          (gathers input journal ++ says_of g ∷ []) xs (to_come old.hand ys))
          (λ xs ys. IsNamed old.state old.rule (gathers input (journal ++ e ∷ [])) xs (to_come old.hand ys))
          (λ xs ys. named_as old.state old.rule (gathers input journal ++ says_of g ∷ [])
          (gathers input (journal ++ e ∷ [])) xs (to_come old.hand ys) same_groups) h.named;
      of_taken = told_map start.left old.left (IsNamedOfTaken old.state old.rule
          (gathers input journal ++ says_of g ∷ []) old.hand)
          (IsNamedOfTaken old.state old.rule (gathers input (journal ++ e ∷ [])) old.hand)
          (λ xs ys. named_of_taken_as old.state old.rule (gathers input journal ++ says_of g ∷ [])
          (gathers input (journal ++ e ∷ [])) old.hand xs ys same_groups) h.of_taken;
      counted = h.counted;
      ended = has_ended-other input journal e refl ∙ h.ended;
      later = h.later;
      state = accepted_state old.state start old g journal (journal ++ e ∷ []) few h.state;
      clocked = subst (λ (ms : List ℤ). IfSome old.moments (λ moments. IsClocked moments start.next old.next ms))
          (moments_more (gathers input journal) (says_of g) ∙ sym
          (ap moments_of more ∙ moments_more (gathers input journal) (said_of g number reports))) h.clocked;
    }

-- ---- what is held is too much for the run

pub heard_full : (start old : InPart) (input : ℕ) (journal : List Entry) (g : Gathered) → 1 ≤ old.rule.most
    → HoldsNoEnd old.state (Some g) → HoldsTooMany (Some g) (gathered_count journal) →
    Heard start (record old { held = Some g }) input journal
    → Heard start (record old { held = Some g; state = states.LimitReached }) input journal
heard_full start old input journal g some no_end many h =
    let ne : old.state ≡ states.Ended → ⊥ = holds_no_end old.state g no_end in
    let all : List GatherSays = gathers input journal ++ says_of g ∷ [] in
    record {
      named = told_map start.left old.left (λ xs ys. IsNamed old.state old.rule all xs (to_come old.hand ys))
          (λ xs ys. GatheredTo old.rule all xs (to_come old.hand ys))
          (λ xs ys. named_to old.state old.rule all xs (to_come old.hand ys) some ne) h.named;
      of_taken = told_map start.left old.left (λ xs ys. length xs ≡ old.hand.taken + length ys)
          (IsNamedOfTaken states.LimitReached old.rule all old.hand) (λ xs ys c. tt) h.counted;
      counted = h.counted;
      ended = h.ended ∙ not_ended old.state ne;
      later = h.later;
      state = inr many;
      clocked = h.clocked;
    }

-- ---- a group was read

-- what a read leaves of an input
abbrev pub read_to : InPart → InState → Hand → Option (List ℕ) → ℕ → ℕ → Option Gathered → InPart
read_to old state hand left read_faults next held = record old
    { state = read_state state; hand = hand; left = left; read_faults = read_faults; next = next; held = held }

read_has_state : (state : InState) (start now : InPart) (journal : List Entry) (read_faults : ℕ)
    → start.read_faults ≤ read_faults → (state ≡ states.LimitReached → now.hand.taken ≡ 2 ^ 40)
    → ((state ≡ states.LimitReached → ⊥) → now.hand.taken < 2 ^ 40)
    → (state ≡ states.Faulted → Rose read_faults now.read_faults) → HasState (read_state state) start now journal
read_has_state states.Reading start now journal read_faults l limit below failed =
    below (λ e. absurd (let x : states.Reading ≡ states.LimitReached = e in cc))
read_has_state states.Ended start now journal read_faults l limit below failed =
    below (λ e. absurd (let x : states.Ended ≡ states.LimitReached = e in cc))
read_has_state states.Faulted start now journal read_faults l limit below failed = (
  below (λ e. absurd (let x : states.Faulted ≡ states.LimitReached = e in cc)),
  rose_from start.read_faults read_faults now.read_faults l (failed refl),
)
read_has_state states.LimitReached start now journal read_faults l limit below failed = inl (limit refl)

read_not_ended : (state : InState) → is_ended (read_state state) ≡ false
read_not_ended states.Reading = refl
read_not_ended states.Ended = refl
read_not_ended states.Faulted = refl
read_not_ended states.LimitReached = refl

module _ (start old : InPart) (input : ℕ) (journal : List Entry) (after : Hand) (state : InState) (moment : ℤ)
    (group : Group) (left : Option (List ℕ)) (read_faults next : ℕ)
    (h : Heard start (record old { state = states.Reading; held = None }) input journal) (one_piece : 1 ≤ old.rule.most)
    (g : ReadsGroup old.rule moment group state old.hand after old.left left)
    (gives : Gives old.moments old.next next moment) (later : old.read_faults ≤ read_faults)
    (counted : Told old.left left (λ xs ys. old.hand.taken + length xs ≡ after.taken + length ys))
    (limit : state ≡ states.LimitReached → after.taken ≡ 2 ^ 40)
    (below : (state ≡ states.LimitReached → ⊥) → after.taken < 2 ^ 40)
    (faulted : state ≡ states.Faulted → Rose old.read_faults read_faults)
    (one : state ≡ states.Faulted → length (to_come after []) ≤ 1)
    (line : state ≡ states.Faulted → length (to_come after (10 ∷ [])) ≤ 1) where
  counted_all : Told start.left left (λ xs ys. length xs ≡ after.taken + length ys)
  counted_all =
      told_then start.left old.left left (λ xs ys. length xs ≡ old.hand.taken + length ys)
      (λ ys zs. old.hand.taken + length ys ≡ after.taken + length zs) (λ xs zs. length xs ≡ after.taken + length zs)
      h.counted counted (λ xs ys zs a b. a ∙ b)

  here : Told start.left left (λ xs zs. Gathering old.rule (gathers input journal) xs
      (g.reads.read ++ to_come after zs))
  here =
      told_then start.left old.left left (λ xs ys. Gathering old.rule (gathers input journal) xs (to_come old.hand ys))
      (λ ys zs. to_come old.hand ys ≡ g.reads.read ++ to_come after zs)
      (λ xs zs. Gathering old.rule (gathers input journal) xs (g.reads.read ++ to_come after zs))
      h.named g.reads.consecutive (λ xs ys zs a b. subst (Gathering old.rule (gathers input journal) xs) b a)

  naming : Told start.left old.left (λ xs ys. Naming old.rule (gathers input journal) xs (to_come old.hand ys))
  naming = told_map start.left old.left (λ xs ys. Gathering old.rule (gathers input journal) xs (to_come old.hand ys))
      (λ xs ys. Naming old.rule (gathers input journal) xs (to_come old.hand ys)) (λ xs ys a. a.naming) h.named

  ends : state ≡ states.Ended → Told start.left left (λ xs zs. to_come after zs ≡ [])
  ends e =
      told_then start.left old.left left (λ xs ys. length xs ≡ old.hand.taken + length ys)
      (λ ys zs. to_come after zs ≡ []) (λ xs zs. to_come after zs ≡ [])
      h.counted (g.all e) (λ xs ys zs a b. b)

  -- ---- no piece was read

  module _ (empty : group.pieces ≡ 0) where
    none : length g.reads.read ≡ 0
    none = sym g.reads.pieces ∙ empty

    here_none : Told start.left left (λ xs zs. Gathering old.rule (gathers input journal) xs (to_come after zs))
    here_none =
        told_map start.left left (λ xs zs. Gathering old.rule (gathers input journal) xs
        (g.reads.read ++ to_come after zs)) (λ xs zs. Gathering old.rule (gathers input journal) xs (to_come after zs))
        (λ xs zs a. subst (λ (cs : List Cut). Gathering old.rule (gathers input journal) xs (cs ++ to_come after zs))
        (no_pieces g.reads.read none) a) here

    to_none : Told start.left left (λ xs zs. GatheredTo old.rule (gathers input journal) xs (to_come after zs))
    to_none =
        told_map start.left left (λ xs zs. Gathering old.rule (gathers input journal) xs (to_come after zs))
        (λ xs zs. GatheredTo old.rule (gathers input journal) xs (to_come after zs))
        (λ xs zs a. gathered_here old.rule (gathers input journal) xs (to_come after zs) one_piece a) here_none

    named_none : (s : InState) → s ≡ state → Told start.left left
        (λ xs zs. IsNamed (read_state s) old.rule (gathers input journal) xs (to_come after zs))
    named_none states.Reading e = here_none
    named_none states.Ended e = here_none
    named_none states.Faulted e = to_none
    named_none states.LimitReached e = to_none

    taken_none : (s : InState) → s ≡ state → Told start.left left
        (IsNamedOfTaken (read_state s) old.rule (gathers input journal) after)
    taken_none states.Reading e = told_names_none old.rule (gathers input journal) moment group old.hand after
        start.left old.left left g.reads h.of_taken empty
    taken_none states.Ended e = told_names_none old.rule (gathers input journal) moment group old.hand after start.left
        old.left left g.reads h.of_taken empty
    taken_none states.Faulted e = told_taken_none old.rule (gathers input journal) moment group old.hand after
        start.left old.left left g.reads h.of_taken naming (one (sym e)) (line (sym e)) empty
    taken_none states.LimitReached e = told_map start.left left (λ xs ys. length xs ≡ after.taken + length ys)
        (IsNamedOfTaken states.LimitReached old.rule (gathers input journal) after) (λ xs ys c. tt) counted_all

    pub heard_read_none : Heard start (read_to old state after left read_faults next None) input journal
    heard_read_none = record {
      named = named_none state refl;
      of_taken = taken_none state refl;
      counted = counted_all;
      ended = h.ended ∙ sym (read_not_ended state);
      later = omega (arith, h.later, later);
      state = read_has_state state start (read_to old state after left read_faults next None) journal old.read_faults
          h.later limit below faulted;
      clocked = clocked_wide old.moments start.next old.next next moment (moments_of (gathers input journal)) gives
          h.clocked;
    }

  -- ---- pieces were read

  module _ (some : 0 < group.pieces) where
    count : 1 ≤ length g.reads.read
    count = omega (arith, some, g.reads.pieces)

    is : IsGroup old.rule g.reads.read (says_of (gathered_of old.input moment group))
    is = record {
      pieces = g.reads.pieces;
      refused = g.reads.refused;
      passed = g.reads.passed;
      filtered = g.reads.filtered;
      metrics = g.reads.metrics;
    }

    to_some : Told start.left left (λ xs zs. GatheredTo old.rule
        (gathers input journal ++ says_of (gathered_of old.input moment group) ∷ []) xs (to_come after zs))
    to_some =
        told_map start.left left (λ xs zs. Gathering old.rule (gathers input journal) xs
        (g.reads.read ++ to_come after zs)) (λ xs zs. GatheredTo old.rule
        (gathers input journal ++ says_of (gathered_of old.input moment group) ∷ []) xs (to_come after zs))
        (λ xs zs a. gathered_more old.rule (gathers input journal) xs g.reads.read (to_come after zs)
        (says_of (gathered_of old.input moment group)) is count g.most a) here

    named_some : (s : InState) → s ≡ state → Told start.left left
        (λ xs zs. IsNamed (read_state s) old.rule (gathers input journal
        ++ says_of (gathered_of old.input moment group) ∷ []) xs (to_come after zs))
    named_some states.Reading e =
        told_map start.left left (λ xs zs. Gathering old.rule (gathers input journal) xs
        (g.reads.read ++ to_come after zs)) (λ xs zs. Gathering old.rule
        (gathers input journal ++ says_of (gathered_of old.input moment group) ∷ []) xs (to_come after zs))
        (λ xs zs a. gathering_full old.rule (gathers input journal) xs g.reads.read (to_come after zs)
        (says_of (gathered_of old.input moment group)) is count (g.full (sym e)) a) here
    named_some states.Ended e =
        told_pair start.left left (λ xs zs. Gathering old.rule (gathers input journal) xs
        (g.reads.read ++ to_come after zs)) (λ xs zs. to_come after zs ≡ [])
        (λ xs zs. Gathering old.rule (gathers input journal ++ says_of (gathered_of old.input moment group) ∷ []) xs
        (to_come after zs)) here (ends (sym e))
        (λ xs zs a b. gathering_last old.rule (gathers input journal) xs g.reads.read (to_come after zs)
        (says_of (gathered_of old.input moment group)) is count g.most b a)
    named_some states.Faulted e = to_some
    named_some states.LimitReached e = to_some

    taken_some : (s : InState) → s ≡ state → Told start.left left
        (IsNamedOfTaken (read_state s) old.rule (gathers input journal
        ++ says_of (gathered_of old.input moment group) ∷ []) after)
    taken_some states.Reading e = told_names_more old.rule (gathers input journal) moment group old.hand after
        start.left old.left left g.reads h.of_taken (says_of (gathered_of old.input moment group)) is
    taken_some states.Ended e = told_names_more old.rule (gathers input journal) moment group old.hand after start.left
        old.left left g.reads h.of_taken (says_of (gathered_of old.input moment group)) is
    taken_some states.Faulted e = told_taken_more old.rule (gathers input journal) moment group old.hand after
        start.left old.left left g.reads h.of_taken naming (one (sym e)) (line (sym e))
        (says_of (gathered_of old.input moment group)) is
    taken_some states.LimitReached e = told_map start.left left (λ xs ys. length xs ≡ after.taken + length ys)
        (IsNamedOfTaken states.LimitReached old.rule (gathers input journal
        ++ says_of (gathered_of old.input moment group) ∷ []) after) (λ xs ys c. tt) counted_all

    pub heard_read_some : Heard start (read_to old state after left read_faults next
        (Some (gathered_of old.input moment group))) input journal
    heard_read_some = record {
      named = named_some state refl;
      of_taken = taken_some state refl;
      counted = counted_all;
      ended = h.ended ∙ sym (read_not_ended state);
      later = omega (arith, h.later, later);
      state = read_has_state state start (read_to old state after left read_faults next
          (Some (gathered_of old.input moment group))) journal old.read_faults h.later limit below faulted;
      clocked = subst (λ (ms : List ℤ). IfSome old.moments (λ moments. IsClocked moments start.next next ms))
          (sym (moments_more (gathers input journal) (says_of (gathered_of old.input moment group))))
          (clocked_more old.moments start.next old.next next moment (moments_of (gathers input journal)) gives
          h.clocked);
    }

-- ---- the end of an input is noted

ended_here : (input : ℕ) (journal : List Entry) → has_ended input (journal ++ Ended input ∷ []) ≡ true
ended_here input journal = has_ended-push input journal (Ended input)
    ∙ ap (λ (b : Bool). has_ended input journal || b) (same_number input) ∙ or-true (has_ended input journal)

pub heard_ended : (start old : InPart) (input : ℕ) (journal : List Entry) → 1 ≤ old.rule.most
    → Heard start (record old { state = states.Reading; held = None }) input journal
    → Told start.left old.left (λ xs ys. to_come old.hand ys ≡ [])
    → Heard start (record old { state = states.Ended; held = None }) input (journal ++ Ended input ∷ [])
heard_ended start old input journal some h none =
    let same : gathers input (journal ++ Ended input ∷ []) ≡ gathers input journal =
    gathers-other input journal (Ended input) refl in
    record {
      named = told_pair start.left old.left (λ xs ys. Gathering old.rule (gathers input journal) xs
          (to_come old.hand ys)) (λ xs ys. to_come old.hand ys ≡ [])
          (λ xs ys. GatheredTo old.rule (gathers input (journal ++ Ended input ∷ [])) xs []) h.named none
          (λ xs ys a b. subst (λ (says : List GatherSays). GatheredTo old.rule says xs []) (sym same)
          (gathered_here old.rule (gathers input journal) xs [] some
          (subst (Gathering old.rule (gathers input journal) xs) b a)));
      of_taken = told_map start.left old.left (λ xs ys. length xs ≡ old.hand.taken + length ys)
          (IsNamedOfTaken states.Ended old.rule (gathers input (journal ++ Ended input ∷ [])) old.hand)
          (λ xs ys c. tt) h.counted;
      counted = h.counted;
      ended = ended_here input journal;
      later = h.later;
      state = h.state;
      clocked = subst (λ (says : List GatherSays). IfSome old.moments
          (λ moments. IsClocked moments start.next old.next (moments_of says))) (sym same) h.clocked;
    }

-- ---- the beginning and the end of a run

none_ended : (input : ℕ) → has_ended input [] ≡ false
unfolding has_ended
none_ended input = refl

none_gathered : (input : ℕ) → moments_of (gathers input []) ≡ []
unfolding gathers
none_gathered input = refl

heard_new : (part : InPart) (input : ℕ) → part.hand ≡ empty_hand (cut_of part.rule.format) → part.next ≡ 0
    → Heard part (record part { state = states.Reading; held = None }) input []
heard_new part input empty next = record {
  named = told_self part.left (λ xs ys. Gathering part.rule (gathers input []) xs (to_come part.hand ys))
      (λ xs. rw empty (gathering_starts part.rule input xs));
  of_taken = told_names_start part.rule input part.hand part.left empty;
  counted = told_self part.left (λ xs ys. length xs ≡ part.hand.taken + length ys)
      (λ xs. omega (arith, ap (λ (h : Hand). h.taken) empty));
  ended = none_ended input;
  later = omega arith;
  state = omega (arith, ap (λ (h : Hand). h.taken) empty);
  clocked = subst (λ (k : ℕ). IfSome part.moments (λ moments. IsClocked moments k k (moments_of (gathers input []))))
      (sym next)
      (subst (λ (ms : List ℤ). IfSome part.moments (λ moments. IsClocked moments 0 0 ms)) (sym (none_gathered input))
      (clocked_starts part.moments));
}

-- an input that is read on and holds nothing, by its fields
pub heard_free : (start part : InPart) (input : ℕ) (journal : List Entry) → part.state ≡ states.Reading
    → part.held ≡ None → Heard start part input journal → Heard start
    (record part { state = states.Reading; held = None }) input journal
heard_free start part input journal reading free h =
    subst (λ (s : InState). Heard start (record part { state = s; held = None }) input journal) reading
    (subst (λ (x : Option Gathered). Heard start (record part { held = x }) input journal) free h)

pub heard_first : (part : InPart) (input : ℕ) → IsFresh part → Heard part part input []
heard_first part input fresh =
    subst (λ (s : InState). Heard part (record part { state = s }) input []) (sym fresh.reading)
    (subst (λ (x : Option Gathered). Heard part (record part { state = states.Reading; held = x }) input [])
    (sym fresh.none_held) (heard_new part input fresh.hand fresh.next))

-- the Gathers of an input at the end, of what the text has but for this rest
are_gathered : (rule : InRule) (input : ℕ) (journal : List Entry) (text : List ℕ) (rest : List Cut)
    → GatheredTo rule (gathers input journal) text rest → (has_ended input journal ≡ true → rest ≡ [])
    → AreGathered rule journal input text
are_gathered rule input journal text rest to all = record {
  groups = to.naming.groups;
  rest = rest;
  consecutive = to.naming.consecutive;
  named = to.naming.named;
  full = to.full;
  all = all;
}

gathered_by_state : (state : InState) (rule : InRule) (input : ℕ) (journal : List Entry) (text : List ℕ)
    (rest : List Cut) → 1 ≤ rule.most → has_ended input journal ≡ is_ended state
    → IsNamed state rule (gathers input journal) text rest → AreGathered rule journal input text
gathered_by_state states.Reading rule input journal text rest some e h =
    are_gathered rule input journal text rest (gathered_here rule (gathers input journal) text rest some h)
    (λ t. absurd (never (sym e ∙ t)))
gathered_by_state states.Ended rule input journal text rest some e h =
    are_gathered rule input journal text [] h (λ t. refl)
gathered_by_state states.Faulted rule input journal text rest some e h =
    are_gathered rule input journal text rest h (λ t. absurd (never (sym e ∙ t)))
gathered_by_state states.LimitReached rule input journal text rest some e h =
    are_gathered rule input journal text rest h (λ t. absurd (never (sym e ∙ t)))

gathered_held : (rule : InRule) (input : ℕ) (journal : List Entry) (g : Gathered) (text : List ℕ) (rest : List Cut)
    → 1 ≤ rule.most → has_ended input journal ≡ false → GatheredTo rule (gathers input journal ++ says_of g ∷ []) text
    rest → AreGathered rule journal input text
gathered_held rule input journal g text rest some e h =
    let u = unheld rule (gathers input journal) (says_of g) text rest some h in
    are_gathered rule input journal text (u.group ++ rest) u.gathered (λ t. absurd (never (sym e ∙ t)))

pub gathered_at_end : (start part : InPart) (held : Option Gathered) (input : ℕ) (journal : List Entry)
    → 1 ≤ part.rule.most → HoldsNoEnd part.state held → Heard start (record part { held = held }) input journal
    → Told start.left part.left (λ xs ys. AreGathered part.rule journal input xs)
gathered_at_end start part None input journal some no_end h =
    told_map start.left part.left (λ xs ys. IsNamed part.state part.rule (gathers input journal) xs
    (to_come part.hand ys)) (λ xs ys. AreGathered part.rule journal input xs)
    (λ xs ys. gathered_by_state part.state part.rule input journal xs (to_come part.hand ys) some h.ended) h.named
gathered_at_end start part (Some g) input journal some no_end h =
    let ne : part.state ≡ states.Ended → ⊥ = holds_no_end part.state g no_end in
    let all : List GatherSays = gathers input journal ++ says_of g ∷ [] in
    told_map start.left part.left (λ xs ys. IsNamed part.state part.rule all xs (to_come part.hand ys))
    (λ xs ys. AreGathered part.rule journal input xs)
    (λ xs ys a. gathered_held part.rule input journal g xs (to_come part.hand ys) some
    (h.ended ∙ not_ended part.state ne) (named_to part.state part.rule all xs (to_come part.hand ys) some ne a)) h.named

-- the moments of its Gathers
pub clocked_at_end : (start part : InPart) (held : Option Gathered) (input : ℕ) (journal : List Entry)
    → Heard start (record part { held = held }) input journal
    → IfSome part.moments (λ moments. Clocked moments 0 moments.last (gather_moments input journal))
clocked_at_end start part None input journal h = clocked_ends part.moments start.next part.next
    (moments_of (gathers input journal)) h.clocked
clocked_at_end start part (Some g) input journal h =
    told_front part.moments (moments_of (gathers input journal)) (g.moment ∷ [])
    (subst (λ (ms : List ℤ). IfSome part.moments (λ moments. Clocked moments 0 moments.last ms))
    (moments_more (gathers input journal) (says_of g)) (clocked_ends part.moments start.next part.next
    (moments_of (gathers input journal ++ says_of g ∷ [])) h.clocked))

-- what is held would fill the run
pub full_at_end : (start part : InPart) (held : Option Gathered) (input : ℕ) (journal : List Entry) → 1 ≤ part.rule.most
    → HoldsNoEnd part.state held → HoldsTooMany held (gathered_count journal)
    → Heard start (record part { held = held }) input journal
    → IfSome held (λ g. FitsGather part.rule (length g.metrics)) → IsFull part.rule journal input start.left part.left
full_at_end start part None input journal some no_end many h few = absurd many
full_at_end start part (Some g) input journal some no_end many h few =
    let ne : part.state ≡ states.Ended → ⊥ = holds_no_end part.state g no_end in
    let all : List GatherSays = gathers input journal ++ says_of g ∷ [] in
    record {
      count = length g.metrics;
      few = few;
      many = many;
      next = told_map start.left part.left (λ xs ys. IsNamed part.state part.rule all xs (to_come part.hand ys))
          (λ xs ys. IsNextGroup part.rule (gathers input journal) xs (length g.metrics))
          (λ xs ys a.
          let u = unheld part.rule (gathers input journal) (says_of g) xs (to_come part.hand ys) some
          (named_to part.state part.rule all xs (to_come part.hand ys) some ne a) in
          record {
            moment = g.moment;
            groups = u.gathered.naming.groups;
            group = u.group;
            rest = to_come part.hand ys;
            consecutive = u.gathered.naming.consecutive;
            named = u.gathered.naming.named;
            few = u.few;
            metrics = ap (λ (ms : List Content). length ms) u.last.metrics;
          }) h.named;
    }

-- what is held of a group that was read
pub held_own : (rule : InRule) (input : ℕ) (moment : ℤ) (group : Group) (state : InState) (before after : Hand)
    (left new_left : Option (List ℕ)) (held : Option Gathered)
    → ReadsGroup rule moment group state before after left new_left → (group.pieces ≡ 0 → held ≡ None)
    → (0 < group.pieces → held ≡ Some (gathered_of input moment group))
    → IfSome held (λ g. (g.input ≡ input) × FitsGather rule (length g.metrics))
held_own rule input moment group state before after left new_left held r none some =
    elim (cases_eq group.pieces 0) [
      | inl e ↦ subst (λ (x : Option Gathered). IfSome x (λ g. (g.input ≡ input) × FitsGather rule (length g.metrics)))
          (sym (none e)) tt
      | inr ne ↦ subst (λ (x : Option Gathered). IfSome x (λ g. (g.input ≡ input) × FitsGather rule (length g.metrics)))
          (sym (some (omega (arith, ne)))) (
            refl,
            omega (
              arith,
              mul-le-mul_right (most_said rule.format) r.most,
              ap (λ (ms : List Content). length ms) r.reads.metrics,
              few_kept rule moment r.reads.read r.reads.short,
            ),
          )
    ]

-- what an input holds after a read that met no end, by the same
pub held_moved : (group : Group) (input : ℕ) (moment : ℤ) (rule : InRule) (state : InState) (before after : Hand)
    (left new_left : Option (List ℕ)) (held : Option Gathered) → 1 ≤ rule.most
    → ReadsGroup rule moment group state before after left new_left
    → (0 < group.pieces → held ≡ Some (gathered_of input moment group)) → (state ≡ states.Ended → ⊥)
    → (held ≢ None) ⊎ (read_state state ≢ states.Reading)
held_moved group input moment rule states.Reading before after left new_left held one_piece r some ne =
    inl (λ e. let full : Some (gathered_of input moment group) ≡ None = sym
    (some (omega (arith, one_piece, r.full refl, r.reads.pieces))) ∙ e in absurd cc)
held_moved group input moment rule states.Ended before after left new_left held one_piece r some ne = absurd (ne refl)
held_moved group input moment rule states.Faulted before after left new_left held one_piece r some ne =
    inr (λ e. let x : states.Faulted ≡ states.Reading = e in absurd cc)
held_moved group input moment rule states.LimitReached before after left new_left held one_piece r some ne =
    inr (λ e. let x : states.LimitReached ≡ states.Reading = e in absurd cc)
