-- The inputs of a run, as contracts see them.
use Rattle.std.specs.Prelude.{◌≡◌, ◌≢◌, ◌≤◌, ◌<◌, ◌⊎◌, ◌+◌, ◌^◌, ℕ, ℤ, Bool, true, false, List, [], ◌∷◌, ◌++◌, map}
use Rattle.std.specs.Prelude.{length, slice_index_or, slice_get, IfSome, All}
use Rattle.std.specs.declared.option.Option.{Option}
use Rattle.std.specs.declared.option.Option.TheVariants.{Some, None}
use Rattle.account.specs.Says.{GatherSays}
use Rattle.account.specs.Gathers.{gathers}
use Rattle.account.specs.declared.entry.Entry.{Entry}
use Rattle.agent_base.specs.Carried.{Carried, Timed}
use Rattle.agent_base.specs.Hand.{Hand, to_come, empty_hand}
use Rattle.agent_base.specs.Moments.{Moments}
use Rattle.agent_base.specs.Told.{Told}
use Rattle.agent_base.specs.declared.piece.CutKind.TheVariants.{Lines}
use Rattle.metric.specs.Metric.{IsFilledTag}
use Rattle.pipeline_core.specs.Steps.{said_of}
use Rattle.pipeline_core.specs.declared.gathering.Gathered.{Gathered}
use Rattle.formats.specs.Reader.{InRule, in_rule, plain_rule, cut_of, FitsGather}
use Rattle.agent_workers.specs.declared.input.InJob.{InJob}
use Rattle.agent_workers.specs.declared.input.Offered.{Offered}
use Rattle.agent_workers.specs.declared.input.Offered.TheVariants as offers
use Rattle.formats.specs.declared.pieces.InState.{InState}
use Rattle.formats.specs.declared.pieces.InState.TheVariants as states
use Rattle.formats.specs.declared.reading.Group.{Group}

-- an input of a run: its number, by what rule it is read, what is in hand of its bytes, the bytes left of it,
-- its count of failed reads, the moments of its clock and the index of the next one, how many of its groups may be
-- undelivered where it is tracked, the gather that is held, and whether it is read on
pub record InPart : Type 0 where
  pub input : ℕ
  pub rule : InRule
  pub hand : Hand
  pub left : Option (List ℕ)
  pub read_faults : ℕ
  pub moments : Option Moments
  pub next : ℕ
  pub limit : Option ℕ
  pub held : Option Gathered
  pub state : InState

-- by what rule an input is read
abbrev pub rule_of : {S C : Type 0} → InJob S C → InRule
rule_of job = in_rule job.format.now job.globals.now job.filter.now job.gather_pieces

-- the part of an input, given what its source and its clock tell
abbrev pub in_of : {S C : Type 0} → (S → Carried) → (C → Timed) → InJob S C → InPart
in_of told timed job = record {
  input = job.input;
  rule = rule_of job;
  hand = job.pieces;
  left = (told job.source).bytes;
  read_faults = (told job.source).faults;
  moments = (timed job.clock).moments;
  next = (timed job.clock).next;
  limit = job.limit;
  held = job.held;
  state = job.state;
}

-- the parts of the inputs, in order
abbrev pub ins_of : {S C : Type 0} → (S → Carried) → (C → Timed) → List (InJob S C) → List InPart
ins_of told timed jobs = map (in_of told timed) jobs

-- an input of which nothing is told
abbrev pub no_in : InPart
no_in = record {
  input = 0;
  rule = plain_rule 1;
  hand = empty_hand Lines;
  left = None;
  read_faults = 0;
  moments = None;
  next = 0;
  limit = None;
  held = None;
  state = states.Reading;
}

-- the part at an index
abbrev pub in_at : List InPart → ℕ → InPart
in_at ins input = slice_index_or ins input no_in

-- it has the same number, the same rule, the same limit, and a clock with the same moments
pub record IsSameInput (old new : InPart) : Type 0 where
  pub input : new.input ≡ old.input
  pub rule : new.rule ≡ old.rule
  pub limit : new.limit ≡ old.limit
  pub moments : new.moments ≡ old.moments

-- so it is for each input
pub record AreSameInputs (olds news : List InPart) : Type 0 where
  pub count : length news ≡ length olds
  pub each : (input : ℕ) → input < length olds → IsSameInput (in_at olds input) (in_at news input)

-- what the Gather of a gather that is held will say, but for its group and its reports
abbrev pub says_of : Gathered → GatherSays
says_of g = said_of g None []

-- the Gathers of an input, and then the one that is held
abbrev pub heard_of : ℕ → List Entry → Option Gathered → List GatherSays
heard_of input journal None = gathers input journal
heard_of input journal (Some g) = gathers input journal ++ says_of g ∷ []

-- the gathered metrics, which are so many, with those that are held would reach 2^32
abbrev pub HoldsTooMany : Option Gathered → ℕ → Type 0
HoldsTooMany None gathered = ⊥
HoldsTooMany (Some g) gathered = 2 ^ 32 ≤ gathered + length g.metrics

-- whether an input has ended
abbrev pub is_ended : InState → Bool
is_ended states.Ended = true
is_ended _ = false

-- nothing is held once the input has ended
abbrev pub HoldsNoEnd : InState → Option Gathered → Type 0
HoldsNoEnd states.Ended held = held ≡ None
HoldsNoEnd _ held = Unit {0}

-- what an input holds is its own, and has no more metrics than the pieces of a gather say at most
abbrev pub HoldsOwn : InPart → Type 0
HoldsOwn part = IfSome part.held (λ g. (g.input ≡ part.input) × FitsGather part.rule (length g.metrics))

-- the bytes in hand of an input are cut as its format is
abbrev pub IsCutBy : InPart → Type 0
IsCutBy part = part.hand.kind ≡ cut_of part.rule.format

-- an input can be read: a gather has a piece, and no tag that is added is empty
pub record IsReadable (rule : InRule) : Type 0 where
  pub some : 1 ≤ rule.most
  pub filled : All IsFilledTag rule.globals

-- an input fits a core: its number is its index, is cut as its format is, and has ended where it has for the
-- core; what it holds is its own, and it holds nothing once it has ended
pub record FitsInput (index : ℕ) (ended : List Bool) (part : InPart) : Type 0 where
  pub number : part.input ≡ index
  pub readable : IsReadable part.rule
  pub cut_by : IsCutBy part
  pub ended_is : slice_get ended index ≡ Some (is_ended part.state)
  pub own : HoldsOwn part
  pub none_held : HoldsNoEnd part.state part.held

-- there are so many inputs, and each fits
pub record AreInputs (count : ℕ) (ended : List Bool) (ins : List InPart) : Type 0 where
  pub count_is : length ins ≡ count
  pub each : (input : ℕ) → input < count → FitsInput input ended (in_at ins input)

-- of each input as many groups may be undelivered as a set-up has it
abbrev pub HaveLimits : List (Option ℕ) → List InPart → Type 0
HaveLimits limits ins = (input : ℕ) → input < length ins → slice_get limits input ≡ Some (in_at ins input).limit

-- an input is read no more, and holds nothing
pub record IsOut (part : InPart) : Type 0 where
  pub read : part.state ≢ states.Reading
  pub none_held : part.held ≡ None

abbrev pub AreOut : List InPart → Type 0
AreOut ins = (input : ℕ) → input < length ins → IsOut (in_at ins input)

-- a read of an input that holds nothing met no end: it holds something, or is read no more
abbrev pub IsMoved : InPart → Type 0
IsMoved part = (part.held ≢ None) ⊎ (part.state ≢ states.Reading)

-- it met the end: the input is still said to be read on, and no piece is to come
abbrev pub HasMetEnd : InPart → InPart → Type 0
HasMetEnd old new = (new.state ≡ states.Reading) × Told old.left new.left (λ xs ys. to_come new.hand ys ≡ [])

-- what an input holds was offered: all else of it but its state is as before
abbrev pub IsOffered : InPart → InPart → Type 0
IsOffered old new = new ≡ record old { held = new.held; state = new.state }

-- whether an offer was accepted
abbrev pub is_accepted : Offered → Bool
is_accepted offers.Accepted = true
is_accepted _ = false

-- an input is read no more, since what it holds is too much for the run
pub record IsFullOf (gathered : ℕ) (part : InPart) : Type 0 where
  pub limit : part.state ≡ states.LimitReached
  pub many : HoldsTooMany part.held gathered

abbrev pub OneIsFull : ℕ → List InPart → Type 0
OneIsFull gathered ins = (input : ℕ) × (input < length ins) × IsFullOf gathered (in_at ins input)

-- whether one of so many states is a given one
abbrev pub IsOneOf : InState → ℕ → (ℕ → InState) → Bool → Type 0
IsOneOf state count all true = (input : ℕ) × (input < count) × (all input ≡ state)
IsOneOf state count all false = (input : ℕ) → input < count → all input ≢ state

-- whether one of the inputs is in a state
abbrev pub IsOneIn : InState → List InPart → Bool → Type 0
IsOneIn state ins is = IsOneOf state (length ins) (λ input. (in_at ins input).state) is

-- nothing was read of an input, which can be read
pub record IsFresh (part : InPart) : Type 0 where
  pub hand : part.hand ≡ empty_hand (cut_of part.rule.format)
  pub next : part.next ≡ 0
  pub none_held : part.held ≡ None
  pub reading : part.state ≡ states.Reading

-- so it is for each input, and the number of each is its index
pub record AreFresh (ins : List InPart) : Type 0 where
  pub readable : (input : ℕ) → input < length ins → IsReadable (in_at ins input).rule
  pub numbered : (input : ℕ) → input < length ins → (in_at ins input).input ≡ input
  pub fresh : (input : ℕ) → input < length ins → IsFresh (in_at ins input)

-- what a group says, as the core gathers it
abbrev pub gathered_of : ℕ → ℤ → Group → Gathered
gathered_of input moment group = record {
  input = input;
  moment = moment;
  pieces = group.pieces;
  refused = group.refused;
  passed = group.passed;
  filtered = group.filtered;
  metrics = group.metrics.items;
}

-- whether an input is read on after a read: that its end was met isn't remembered
abbrev pub read_state : InState → InState
read_state states.Reading = states.Reading
read_state states.Ended = states.Reading
read_state states.Faulted = states.Faulted
read_state states.LimitReached = states.LimitReached
