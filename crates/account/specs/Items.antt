-- The items of a journal: the metrics that its entries name, counted from 0.
use Rattle.std.specs.Prelude.{ℕ, ◌+◌, List, [], ◌∷◌, ◌++◌, drop}
use Rattle.std.specs.declared.option.Option.{Option}
use Rattle.std.specs.declared.option.Option.TheVariants.{Some, None}
use Rattle.metric.specs.declared.metric.Content.{Content}
use Rattle.account.specs.declared.entry.Entry.{Entry}
use Rattle.account.specs.declared.entry.Entry.TheVariants.{Take, Route, Tick, Stop}
use Rattle.account.specs.Says.{gather_of, metrics_said}

-- the metrics that an entry names
abbrev pub named_by : Entry → List Content
named_by (Tick moment made) = made
named_by (Stop moment made) = made
named_by e = metrics_said (gather_of e)

-- all metrics that the entries name, in order
unfoldable pub items : List Entry → List Content
items [] = []
items (e ∷ es) = named_by e ++ items es

-- one for a Take, none for another entry
abbrev pub takes_by : Entry → ℕ
takes_by (Take item) = 1
takes_by _ = 0

-- how many items were taken: those below this number
unfoldable pub taken : List Entry → ℕ
taken [] = 0
taken (e ∷ es) = takes_by e + taken es

-- the items that weren't taken yet
abbrev pub raw_items : List Entry → List Content
raw_items es = drop (taken es) (items es)

-- one for a Route, none for another entry
abbrev pub routes_by : Entry → ℕ
routes_by (Route item whole verdict aggs outs reports) = 1
routes_by _ = 0

-- how many items were routed
unfoldable pub routes : List Entry → ℕ
routes [] = 0
routes (e ∷ es) = routes_by e + routes es

-- the items that have no Route yet, oldest first, where Routes come in their order
abbrev pub unrouted_items : List Entry → List Content
unrouted_items es = drop (routes es) (items es)

-- what is in hand after an entry, where this was in hand before it
abbrev pub held_after : Option ℕ → Entry → Option ℕ
held_after held (Take item) = Some item
held_after held (Route item whole verdict aggs outs reports) = None
held_after held _ = held

unfoldable pub in_hand_from : Option ℕ → List Entry → Option ℕ
in_hand_from held [] = held
in_hand_from held (e ∷ es) = in_hand_from (held_after held e) es

-- the item in hand: the one that was taken last, where it has no Route yet
abbrev pub in_hand : List Entry → Option ℕ
in_hand es = in_hand_from None es
