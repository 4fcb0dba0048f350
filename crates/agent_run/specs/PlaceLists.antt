-- The places of a configuration: lists of parts that were opened at them, and given back.
use Rattle.std.specs.Prelude.{◌≡◌, ◌<◌, ◌⊎◌, ℕ, List, [], ◌∷◌, Contains, map, length}
use Rattle.std.specs.Prelude.{slice_index_or, take, true, false, ⊤}
use Rattle.agent_base.specs.Carried.{Carried, no_part}
use Rattle.agent_base.specs.Places.{Place, Opens, TakesIn, FailsToOpen, SameAtAll}
use Rattle.agent_base.specs.Views.{WorldView, SameButAt, OnlyIn, OnlyOut}
use Rattle.agent_base.specs.declared.world.OpenFault.{OpenFault}
use Rattle.agent_base.specs.declared.world.OpenFault.TheVariants as faults
use Rattle.agent_config.specs.declared.config.Config.{Config}
use Rattle.agent_config.specs.declared.config.InputConf.{InputConf}
use Rattle.agent_config.specs.declared.config.OutputConf.{OutputConf}
use Rattle.agent_workers.specs.declared.parts.Opened.{Opened}
use Rattle.agent_run.specs.Places.{IsUnopened}
use Rattle.agent_run.specs.declared.places.Unopened.{Unopened}
use Rattle.agent_run.specs.declared.places.Unopened.TheVariants.{Failed, OutOfMemory}

-- the places of inputs, and of outputs, in order
abbrev pub places_in : List InputConf → List (List ℕ)
places_in inputs = map (λ (input : InputConf). input.place) inputs

abbrev pub places_out : List OutputConf → List (List ℕ)
places_out outputs = map (λ (output : OutputConf). output.place) outputs

-- the places that a run of a configuration reads, in the order of its inputs
abbrev pub in_places : Config → List (List ℕ)
in_places config = places_in config.inputs

-- the places that it writes: that of the journal, and then those of its outputs in their order
abbrev pub out_places : Config → List (List ℕ)
out_places config = config.agent.journal ∷ places_out config.outputs

-- the place of a number
abbrev pub place_at : List (List ℕ) → ℕ → List ℕ
place_at places k = slice_index_or places k []

-- what the part of a number carries
abbrev pub carried_at : List Carried → ℕ → Carried
carried_at parts k = slice_index_or parts k no_part

-- There are as many parts as places. At each place it went with the part of its number as said, and every
-- other place is as before.
pub record GoEach (Goes : Carried → Place → Place → Type 0) (places : List (List ℕ)) (parts : List Carried)
    (old new : List ℕ → Place) : Type 0 where
  pub count : length parts ≡ length places
  pub each : (k : ℕ) → k < length places
      → Goes (carried_at parts k) (old (place_at places k)) (new (place_at places k))
  pub others : SameButAt places old new

-- the part of each number was opened at the place of that number
abbrev pub AreOpened : List (List ℕ) → List Carried → (List ℕ → Place) → (List ℕ → Place) → Type 0
AreOpened places parts old new = GoEach Opens places parts old new

-- the part of each number was given back at the place of that number
abbrev pub AreGiven : List (List ℕ) → List Carried → (List ℕ → Place) → (List ℕ → Place) → Type 0
AreGiven places parts old new = GoEach TakesIn places parts old new

-- at each of the places a part is out
abbrev pub PartsAreOut : List (List ℕ) → (List ℕ → Place) → Type 0
PartsAreOut places told = (k : ℕ) → k < length places → (told (place_at places k)).is_out ≡ true

-- input places changed at most
pub record OnlyIns (old new : WorldView) : Type 0 where
  pub outs : SameAtAll old.outs new.outs
  pub clocks : SameAtAll old.clocks new.clocks
  pub report : new.report ≡ old.report

-- output places changed at most
pub record OnlyOuts (old new : WorldView) : Type 0 where
  pub ins : SameAtAll old.ins new.ins
  pub clocks : SameAtAll old.clocks new.clocks
  pub report : new.report ≡ old.report

-- input and output places changed at most
pub record OnlyPlaces (old new : WorldView) : Type 0 where
  pub clocks : SameAtAll old.clocks new.clocks
  pub report : new.report ≡ old.report

-- nothing changed
pub record IsSame (old new : WorldView) : Type 0 where
  pub ins : SameAtAll old.ins new.ins
  pub outs : SameAtAll old.outs new.outs
  pub clocks : SameAtAll old.clocks new.clocks
  pub report : new.report ≡ old.report

-- the part of each input, and of the journal and each output, was opened at its place, and nothing else changed
pub record OpensAll (config : Config) (read written : List Carried) (old new : WorldView) : Type 0 where
  pub inputs : AreOpened (in_places config) read old.ins new.ins
  pub outputs : AreOpened (out_places config) written old.outs new.outs
  pub only : OnlyPlaces old new

-- no part is out but at these places
abbrev pub AreHomeBut : List (List ℕ) → (List ℕ → Place) → Type 0
AreHomeBut places told = (other : List ℕ) → (Contains places other → ⊥) → (told other).is_out ≡ false

-- opening an input place failed, and nothing else happened
pub record IsInUnopened (place : List ℕ) (old new : WorldView) : Type 0 where
  pub failed : FailsToOpen (old.ins place) (new.ins place)
  pub only : OnlyIn place old new

-- opening an output place failed, and nothing else happened
pub record IsOutUnopened (place : List ℕ) (old new : WorldView) : Type 0 where
  pub failed : FailsToOpen (old.outs place) (new.outs place)
  pub only : OnlyOut place old new

-- Opening one of the places that are read, or one of those that are written, failed, and nothing else happened;
-- where memory was short nothing happened at all.
abbrev pub IsLeftUnopened : Unopened → List (List ℕ) → List (List ℕ) → WorldView → WorldView → Type 0
IsLeftUnopened (Failed place) ins outs old new = (Contains ins place.now × IsInUnopened place.now old new)
    ⊎ (Contains outs place.now × IsOutUnopened place.now old new)
IsLeftUnopened OutOfMemory ins outs old new = IsSame old new

-- how a refusal is told: a place that wasn't opened is named
abbrev pub IsUnopenedBy : OpenFault → List ℕ → Unopened → Type 0
IsUnopenedBy faults.Failed place (Failed named) = named.now ≡ place
IsUnopenedBy faults.OutOfMemory place OutOfMemory = ⊤
IsUnopenedBy fault place unopened = ⊥

-- opening a place failed, and every other place of its side is as before; where memory was short each is
abbrev pub IsRefusedAt : Unopened → List ℕ → (List ℕ → Place) → (List ℕ → Place) → Type 0
IsRefusedAt (Failed named) place old new = (named.now ≡ place) × IsUnopened place old new
IsRefusedAt OutOfMemory place old new = SameAtAll old new

-- the parts were opened at the first places, one each, and the next place wasn't
pub record StopsAt (unopened : Unopened) (places : List (List ℕ)) (parts : List Carried)
    (old new : List ℕ → Place) : Type 0 where
  pub within : length parts < length places
  pub mid : List ℕ → Place
  pub opened : AreOpened (take (length parts) places) parts old mid
  pub refused : IsRefusedAt unopened (place_at places (length parts)) mid new

-- of the places of one side one wasn't opened, and every other place is as before; where memory was short each is
abbrev pub AreRefused : Unopened → List (List ℕ) → (List ℕ → Place) → (List ℕ → Place) → Type 0
AreRefused (Failed named) places old new = Contains places named.now × IsUnopened named.now old new
AreRefused OutOfMemory places old new = SameAtAll old new

-- what the parts of the inputs carry
abbrev pub read_parts : {I O : Type 0} → (I → Carried) → Opened I O → List Carried
read_parts told opened = map told opened.inputs.items

-- what the parts that are written carry: the journal's, and then those of the outputs
abbrev pub written_parts : {I O : Type 0} → (O → Carried) → Opened I O → List Carried
written_parts told opened = told opened.journal ∷ map told opened.outputs.items
