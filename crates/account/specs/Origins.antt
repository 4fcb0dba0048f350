-- Where the items of a journal came from, and the groups of tracked inputs.
use Rattle.std.specs.Prelude.{◌≡◌, ℕ, ◌==◌, Bool, false, List, [], ◌∷◌, ◌++◌, length, drop, replicate}
use Rattle.std.specs.Prelude.{slice_index_or, is_none}
use Rattle.std.specs.List.{filter}
use Rattle.std.specs.declared.option.Option.{Option}
use Rattle.std.specs.declared.option.Option.TheVariants.{Some, None}
use Rattle.account.specs.declared.entry.Entry.{Entry}
use Rattle.account.specs.declared.entry.Entry.TheVariants.{Tick, Stop}
use Rattle.account.specs.Says.{GatherSays, gather_of}
use Rattle.account.specs.Items.{items, taken, routes}

-- the input that gathered an item, none where it was made; and its group, where that input is tracked
pub record Origin : Type 0 where
  pub input : Option ℕ
  pub group : Option ℕ

-- the origin of an item that was made
abbrev pub made : Origin
made = record { input = None; group = None }

-- the origins of the metrics of a Gather
abbrev pub origins_said : Option GatherSays → List Origin
origins_said None = []
origins_said (Some says) =
    replicate (length says.metrics) (record { input = Some says.input; group = says.group })

-- the origins of the metrics that an entry names
abbrev pub origins_by : Entry → List Origin
origins_by (Tick moment metrics) = replicate (length metrics) made
origins_by (Stop moment metrics) = replicate (length metrics) made
origins_by e = origins_said (gather_of e)

-- the origins of all items, index for index
unfoldable pub origins : List Entry → List Origin
origins [] = []
origins (e ∷ es) = origins_by e ++ origins es

-- there are as many origins as items
abbrev pub OriginsMatch : Type 0
OriginsMatch = (es : List Entry) → length (origins es) ≡ length (items es)

-- the origin of an item
abbrev pub origin_at : List Entry → ℕ → Origin
origin_at es item = slice_index_or (origins es) item made

-- whether an item was made
abbrev pub is_made : List Entry → ℕ → Bool
is_made es item = is_none (origin_at es item).input

-- whether a number is there and is this one
abbrev pub is_number : ℕ → Option ℕ → Bool
is_number n None = false
is_number n (Some number) = number == n

-- whether an item was gathered by an input, and whether it is of a group
abbrev pub is_of_input : ℕ → Origin → Bool
is_of_input input origin = is_number input origin.input

abbrev pub is_of_group : ℕ → Origin → Bool
is_of_group group origin = is_number group origin.group

-- the origins of the items that weren't taken yet and were gathered by an input
abbrev pub raw_of : ℕ → List Entry → List Origin
raw_of input es = filter (is_of_input input) (drop (taken es) (origins es))

-- the origins of the items that have no Route yet, raw or in hand: Routes come in the order of the items
abbrev pub unrouted : List Entry → List Origin
unrouted es = drop (routes es) (origins es)

-- the input of a Gather that has a group
abbrev pub input_among : ℕ → Option ℕ → List ℕ
input_among input None = []
input_among input (Some group) = input ∷ []

abbrev pub group_inputs_said : Option GatherSays → List ℕ
group_inputs_said None = []
group_inputs_said (Some says) = input_among says.input says.group

-- the inputs of the groups, in the order of the groups: the Gathers of tracked inputs are groups, counted
-- from 0 over all inputs
unfoldable pub group_inputs : List Entry → List ℕ
group_inputs [] = []
group_inputs (e ∷ es) = group_inputs_said (gather_of e) ++ group_inputs es

-- how many groups there are
abbrev pub groups : List Entry → ℕ
groups es = length (group_inputs es)

-- the input of a group
abbrev pub input_of : List Entry → ℕ → ℕ
input_of es group = slice_index_or (group_inputs es) group 0
