-- What the Routes of a journal say was made of its items.
use Rattle.std.specs.Prelude.{◌≡◌, ℕ, ◌+◌, ◌&&◌, not, Bool, List, [], ◌∷◌, map, take, slice_get, is_none}
use Rattle.std.specs.Prelude.{if◌then◌else◌}
use Rattle.std.specs.List.{filter, zip}
use Rattle.std.specs.declared.option.Option.{Option}
use Rattle.std.specs.declared.option.Option.TheVariants.{Some, None}
use Rattle.metric.specs.declared.metric.Content.{Content}
use Rattle.account.specs.Items.{items}
use Rattle.account.specs.Origins.{Origin, origins, is_made}
use Rattle.account.specs.declared.entry.Entry.{Entry}
use Rattle.account.specs.declared.entry.Entry.TheVariants.{Route}
use Rattle.pipeline_core.specs.Work.{Work}

-- what each of these functions gives for a whole, in order: none where there is no whole
abbrev pub views_of : List (Content → Option Content) → Option Content → List (Option Content)
views_of fs None = map (λ (f : Content → Option Content). None) fs
views_of fs (Some whole) = map (λ (f : Content → Option Content). f whole) fs

-- whether an item of an origin is pushed to the processors: where made ones pass them by it is one that was
-- gathered
abbrev pub is_pushed : Bool → Origin → Bool
is_pushed skip origin = not (skip && is_none origin.input)

-- the metrics that were pushed to the processors up to an item and with it: of the items up to it, with their
-- origins, those that are pushed
abbrev pub pushed : Bool → List Entry → ℕ → List Content
pushed skip journal item =
    map (λ (x : Content × Origin). x.0)
    (filter (λ (x : Content × Origin). is_pushed skip x.1) (take (item + 1) (zip (items journal) (origins journal))))

-- the whole of an item: what the processors give once it was pushed, and itself where it passes them by
abbrev pub whole_of : Work → List Entry → ℕ → Content → Option Content
whole_of work journal item metric =
    if work.skip && is_made journal item then Some metric else work.whole (pushed work.skip journal item)

-- what the aggregators see of an item with this whole: nothing where it was made
abbrev pub seen_of : Work → List Entry → ℕ → Option Content → List (Option Content)
seen_of work journal item whole =
    if is_made journal item then views_of work.aggs None else views_of work.aggs whole

-- a Route's whole is that of its item, the aggregators see what is theirs of it, and its views are what the
-- filters of the outputs give for the whole
pub record IsRoutedBy (work : Work) (journal : List Entry) (item : ℕ) (whole : Option Content)
    (aggs outs : List (Option Content)) : Type 0 where
  pub metric : Content
  pub is_item : slice_get (items journal) item ≡ Some metric
  pub is_whole : whole ≡ whole_of work journal item metric
  pub aggs_are : aggs ≡ seen_of work journal item whole
  pub outs_are : outs ≡ views_of work.outs whole

-- what an entry says of the items of a journal: only a Route says something
abbrev pub WorkedBy : Work → List Entry → Entry → Type 0
WorkedBy work journal (Route item whole verdict aggs outs reports) =
    IsRoutedBy work journal item whole aggs outs
WorkedBy work journal _ = Unit {0}

-- each of the entries says so
unfoldable pub AreWorked : Work → List Entry → List Entry → Type 0
AreWorked work journal [] = Unit {0}
AreWorked work journal (e ∷ es) = WorkedBy work journal e × AreWorked work journal es

-- each Route of a journal says what the work makes of its item
abbrev pub Worked : Work → List Entry → Type 0
Worked work journal = AreWorked work journal journal
