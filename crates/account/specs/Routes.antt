-- The order in which items get their Routes.
use Rattle.std.specs.Prelude.{◌≡◌, ◌<◌, ◌+◌, ℕ, List, [], ◌∷◌, length}
use Rattle.account.specs.declared.entry.Entry.{Entry}
use Rattle.account.specs.declared.entry.Entry.TheVariants.{Route}
use Rattle.account.specs.Items.{named_by, items, routes_by, routes}

-- a Route names the first item that has no Route yet, where so many items were routed and so many are known
abbrev pub IsNextRoute : ℕ → ℕ → Entry → Type 0
IsNextRoute routed known (Route item whole verdict aggs outs reports) = (item ≡ routed) × (routed < known)
IsNextRoute routed known _ = Unit {0}

-- each Route names the first item that has no Route yet, from so many routed and so many known items on
unfoldable pub RoutesInOrder : ℕ → ℕ → List Entry → Type 0
RoutesInOrder routed known [] = Unit {0}
RoutesInOrder routed known (e ∷ es) =
    IsNextRoute routed known e × RoutesInOrder (routed + routes_by e) (known + length (named_by e)) es

-- entries whose Routes come in order, after those of a journal
abbrev pub RouteOnInOrder : List Entry → List Entry → Type 0
RouteOnInOrder journal entries = RoutesInOrder (routes journal) (length (items journal)) entries
