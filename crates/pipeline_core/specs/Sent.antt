-- What an output was sent.
use Rattle.std.specs.Prelude.{◌≡◌, ℕ, ◌-◌, ◌==◌, Bool, true, false, List, [], ◌∷◌, ◌++◌, take, drop}
use Rattle.std.specs.Prelude.{if◌then◌else◌}
use Rattle.std.specs.declared.option.Option.{Option}
use Rattle.std.specs.declared.option.Option.TheVariants.{Some, None}
use Rattle.metric.specs.declared.metric.Content.{Content}
use Rattle.account.specs.declared.entry.Entry.{Entry}
use Rattle.account.specs.declared.entry.Entry.TheVariants.{Begin}
use Rattle.account.specs.Says.{DoneSays, done_of}
use Rattle.pipeline_core.specs.Offers.{offered_by, offered_views}
use Rattle.pipeline_core.specs.declared.output.Offer.{Offer}

-- a batch that is done: the views of its range, and whether it was accepted
pub record BatchSays : Type 0 where
  pub views : List Content
  pub ok : Bool

-- the views at the positions of a range
abbrev pub views_in : Option (ℕ × ℕ) → List Offer → List Content
views_in None all = []
views_in (Some range) all = offered_views (take (range.1 - range.0) (drop range.0 all))

-- no range of an output is begun once its batch was done
abbrev pub begun_behind : ℕ → Option (ℕ × ℕ) → Option DoneSays → Option (ℕ × ℕ)
begun_behind output begun None = begun
begun_behind output begun (Some says) = if says.output == output then None else begun

-- the range of an output that is begun after an entry
abbrev pub begun_after : ℕ → Option (ℕ × ℕ) → Entry → Option (ℕ × ℕ)
begun_after output begun (Begin number from to) = if number == output then Some (from, to) else begun
begun_after output begun e = begun_behind output begun (done_of e)

-- the batch of an output that an entry ends, where these were offered before it
abbrev pub batches_said : ℕ → List Offer → Option (ℕ × ℕ) → Option DoneSays → List BatchSays
batches_said output all begun None = []
batches_said output all begun (Some says) = if says.output == output then
    (record { views = views_in begun all; ok = says.ok } ∷ []) else []

abbrev pub batches_by : ℕ → List Offer → Option (ℕ × ℕ) → Entry → List BatchSays
batches_by output all begun e = batches_said output all begun (done_of e)

-- the batches that these entries end, where these were offered before them and this range was begun
unfoldable pub batches_from : ℕ → List Offer → Option (ℕ × ℕ) → List Entry → List BatchSays
batches_from output all begun [] = []
batches_from output all begun (e ∷ es) =
    batches_by output all begun e ++ batches_from output (all ++ offered_by output e)
    (begun_after output begun e) es

-- the batches of an output that are done, in order
abbrev pub batches : ℕ → List Entry → List BatchSays
batches output journal = batches_from output [] None journal

-- the whole of a text where it was accepted, a prefix of it where it failed
abbrev pub IsPart : Bool → List ℕ → List ℕ → Type 0
IsPart true text part = part ≡ text
IsPart false text part = (n : ℕ) × (part ≡ take n text)

-- a concatenation over the batches, by how a batch is written: the whole text of each that was accepted, a
-- prefix of the text of each that failed
unfoldable pub AreSent : (List Content → List ℕ) → List BatchSays → List ℕ → Type 0
AreSent written [] bytes = bytes ≡ []
AreSent written (b ∷ bs) bytes = (part : List ℕ) × (rest : List ℕ) × (bytes ≡ part ++ rest)
    × IsPart b.ok (written b.views) part × AreSent written bs rest

-- what was sent to an output is what its batches say
abbrev pub Sent : (List Content → List ℕ) → List Entry → ℕ → List ℕ → Type 0
Sent written journal output bytes = AreSent written (batches output journal) bytes
