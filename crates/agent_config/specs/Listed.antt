-- The faults of a text, each with what it is about.
use Rattle.std.specs.Prelude.{ℕ, List, map}
use Rattle.agent_config.specs.Faults.{found_in, tree_of}
use Rattle.agent_config.specs.Found.{Found, fault_of, unfollowed}
use Rattle.agent_config.specs.Told.{fault_told}
use Rattle.agent_config.specs.declared.fault.ListedFault.{ListedFault}

-- as it is told
abbrev pub listed_of : Found → ListedFault
listed_of found = record {
  fault = fault_told (fault_of found);
  key = found.wrong.key;
  text = found.wrong.text;
}

-- the faults of a text in order, but those that only follow from others
abbrev pub faults_listed : List ℕ → List ListedFault
faults_listed text = map listed_of (unfollowed (found_in (tree_of text)))
