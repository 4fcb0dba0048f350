-- Faults as they are found: what is wrong with a table, and where.
use Rattle.std.specs.Prelude.{◌++◌, ◌≡◌, ℕ, Bool, false, List, [], ◌∷◌, map, Option, Some, None, option_map}
use Rattle.agent_config.specs.Unless.{unless}
use Rattle.agent_config.specs.declared.adding.Findings.{Findings}
use Rattle.agent_config.specs.declared.fault.Class.{Class}
use Rattle.agent_config.specs.declared.fault.Fault.{Fault}
use Rattle.agent_config.specs.declared.fault.FaultKind.{FaultKind}
use Rattle.agent_config.specs.declared.fault.Found.{Found as FoundThere}
use Rattle.agent_config.specs.declared.fault.Wrong.{Wrong as WrongThere}

-- What is wrong with a table: the kind; the key that it is about, or the name of a plugin's kind; the text in the
-- key's value that is none of what the key takes, or the key of a table in that value; and whether it only follows from
-- another fault, by the default that
-- stands in a faulty value's place, or by a place that no value says.
pub record Wrong : Type 0 where
  pub kind : FaultKind
  pub key : Option (List ℕ)
  pub text : Option (List ℕ)
  pub follows : Bool

-- about a key
abbrev pub wrong : FaultKind → List ℕ → Wrong
wrong kind key = record { kind = kind; key = Some key; text = None; follows = false }

-- about a text in the value of a key
abbrev pub wrong_text : FaultKind → List ℕ → List ℕ → Wrong
wrong_text kind key text = record { kind = kind; key = Some key; text = Some text; follows = false }

-- about a whole table, or more than one
abbrev pub whole : FaultKind → Bool → Wrong
whole kind follows = record { kind = kind; key = None; text = None; follows = follows }

-- what is wrong, in which class, and at which plugin of it
pub record Found : Type 0 where
  pub wrong : Wrong
  pub class : Class
  pub number : ℕ

-- at one place
abbrev pub at : Class → ℕ → List Wrong → List Found
at class number wrongs = map (λ wrong. record { wrong = wrong; class = class; number = number }) wrongs

-- without what it is about
abbrev pub fault_of : Found → Fault
fault_of found = record { kind = found.wrong.kind; class = found.class; number = found.number }

-- those that don't follow from others
abbrev pub unfollowed : List Found → List Found
unfollowed [] = []
unfollowed (found ∷ founds) = unless found.wrong.follows found ++ unfollowed founds

-- ---- as the code has them

abbrev pub wrong_view : WrongThere → Wrong
wrong_view there = record {
  kind = there.kind;
  key = option_map (λ text. text.now) there.key;
  text = option_map (λ text. text.now) there.text;
  follows = there.follows;
}

abbrev pub wrongs_view : List WrongThere → List Wrong
wrongs_view wrongs = map wrong_view wrongs

abbrev pub found_view : FoundThere → Found
found_view there = record { wrong = wrong_view there.wrong; class = there.class; number = there.number }

abbrev pub founds_view : List FoundThere → List Found
founds_view founds = map found_view founds

-- so many were added
abbrev pub Adds : Findings → Findings → List Wrong → Type 0
Adds old new added = wrongs_view new.wrongs.items ≡ wrongs_view old.wrongs.items ++ added

abbrev pub AddsFound : List FoundThere → List FoundThere → List Found → Type 0
AddsFound old new added = founds_view new ≡ founds_view old ++ added
