-- How far a text was looked through for a glob.
use Rattle.std.specs.Prelude.{◌≡◌, ◌||◌, ◌+◌, ◌*◌, ◌<◌, ◌≤◌, ℕ, Bool, true, false, List, [], ◌∷◌, length}
use Rattle.std.specs.Prelude.{chars}
use Rattle.std.specs.Prelude.{Option, Some, None, option_map}
use Rattle.metric.specs.Glob.{holds_behind, matches}
use Rattle.metric.specs.declared.glob.Element.{Element}
use Rattle.metric.specs.declared.glob_scan.Scan.{Scan}
use Rattle.metric.specs.declared.glob_scan.Step.{Step}
use Rattle.metric.specs.declared.glob_scan.Step.TheVariants.{Done, On}

-- the elements and the text that are left; and the elements behind the last run, with the text at which they
-- were tried last
pub record Looking : Type 0 where
  pub elements : List Element
  pub text : List ℕ
  pub again : Option (List Element × List ℕ)

-- a scan without where its parts lie in memory
abbrev pub looking : Scan → Looking
looking scan = record {
  elements = scan.elements.now;
  text = chars scan.text.now;
  again = option_map (λ tried. (tried.0.now, chars tried.1.now)) scan.again;
}

-- does a test hold of a text behind some front of it that isn't empty
abbrev pub holds_later : (List ℕ → Bool) → List ℕ → Bool
holds_later test [] = false
holds_later test (c ∷ text) = holds_behind test text

-- do the elements behind the last run match further on
abbrev pub matches_again : Option (List Element × List ℕ) → Bool
matches_again None = false
matches_again (Some tried) = holds_later (matches tried.0) tried.1

-- what the scan will answer
abbrev pub answer : Looking → Bool
answer l = matches l.elements l.text || matches_again l.again

-- the text behind the last run is no shorter than what is left, and the elements behind it are at most so
-- many
abbrev pub IsTried : ℕ → List ℕ → Option (List Element × List ℕ) → Type 0
IsTried most text None = Unit {0}
IsTried most text (Some tried) = (length text ≤ length tried.1) × (length tried.0 ≤ most)

-- what is true of a scan of at most so many elements: where the elements behind the last run match
-- further on, those that are left do so too
pub record IsScan (most : ℕ) (l : Looking) : Type 0 where
  pub last : matches_again l.again ≡ true → holds_later (matches l.elements) l.text ≡ true
  pub few : length l.elements ≤ most
  pub tried : IsTried most l.text l.again

-- at how many offsets the elements behind the last run are still to be tried
abbrev pub tries : List ℕ → Option (List Element × List ℕ) → ℕ
tries text None = length text + 1
tries text (Some tried) = length tried.1

-- how much of a scan is left
abbrev pub left : ℕ → Looking → ℕ
left most l = tries l.text l.again * (most + 1) + length l.elements

-- a step further: the answer stays as it is, and less is left
pub record Advances (most : ℕ) (old new : Looking) : Type 0 where
  pub answer : answer new ≡ answer old
  pub scan : IsScan most new
  pub less : left most new < left most old

-- a step gives the answer, or a scan that is a step further
abbrev pub IsStep : ℕ → Looking → Step → Type 0
IsStep most l (Done found) = found ≡ answer l
IsStep most l (On next) = Advances most l (looking next)
