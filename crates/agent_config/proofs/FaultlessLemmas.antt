-- A configuration without faults, part by part.
use Rattle.std.proofs.Common.{◌≡◌, ◌≤◌, ℕ, Bool, true, false, not, List, [], ◌∷◌, ◌++◌, length, map, refl, sym, ap}
use Rattle.std.proofs.Common.{◌∙◌}
use Rattle.std.proofs.lemmas.List.{take_all}
use Rattle.std.proofs.lemmas.Bool.{leb-true}
use Rattle.std.specs.Prelude.{codes, nat_le}
use Rattle.toml.specs.Data.{Members}
use Rattle.agent_config.specs.Faults.{Plugin, agent_faults, beside_faults, class_faults, classes_faults}
use Rattle.agent_config.specs.Faults.{classes_of, faults_of, few, global_faults, is_journal_faulty, journal_of}
use Rattle.agent_config.specs.Faults.{none_faults, numbered}
use Rattle.agent_config.specs.Faults.{place_of, plugin_faults, plugins_at, root_key_faults, root_value_faults}
use Rattle.agent_config.specs.Faults.{same_faults, table_faults, unknown_faults}
use Rattle.agent_config.specs.Found.{Found, Wrong, at, fault_of, whole}
use Rattle.agent_config.specs.Kinds.{agent_limits}
use Rattle.agent_config.specs.Rows.{table_at}
use Rattle.agent_config.specs.Told.{fault_told}
use Rattle.agent_config.specs.Unless.{unless}
use Rattle.agent_config.specs.declared.fault.Class.{Class}
use Rattle.agent_config.specs.declared.fault.Class.TheVariants as class
use Rattle.agent_config.specs.declared.fault.FaultKind.TheVariants as kinds
use Rattle.agent_config.specs.declared.tables.Limits.{Limits}

-- ---- lists without a fault

pub front_none : {X : Type 0} (xs ys : List X) → xs ++ ys ≡ [] → xs ≡ []
front_none [] ys e = refl
front_none (x ∷ xs) ys e = cc

pub rest_none : {X : Type 0} (xs ys : List X) → xs ++ ys ≡ [] → ys ≡ []
rest_none [] ys e = e
rest_none (x ∷ xs) ys e = cc

pub none_at : (c : Class) (number : ℕ) (found : List Wrong) → at c number found ≡ [] → found ≡ []
none_at c number [] e = refl
none_at c number (kind ∷ found) e = cc

pub holds : {X : Type 0} (test : Bool) (kind : X) → unless test kind ≡ [] → test ≡ true
holds true kind e = refl
holds false kind e = cc

pub holds_at : (c : Class) (number : ℕ) (test : Bool) (kind : Wrong) → at c number (unless test kind) ≡ []
    → test ≡ true
holds_at c number test kind e = holds test kind (none_at c number (unless test kind) e)

pub not_true : (test : Bool) → not test ≡ true → test ≡ false
not_true true e = cc
not_true false e = refl

-- ---- classes

-- a class without a fault: it has few plugins, each of a known kind and without a fault
pub record HasNone (c : Class) (limits : Limits) (plugins : List Plugin) : Type 0 where
  pub are_few : length plugins ≤ 16
  pub all : few plugins ≡ plugins
  pub known : numbered c (unknown_faults c) 0 plugins ≡ []
  pub right : numbered c (plugin_faults c limits) 0 plugins ≡ []

class_none : (c : Class) (limits : Limits) (plugins : List Plugin) → class_faults c limits plugins ≡ []
    → HasNone c limits plugins
unfolding class_faults
class_none c limits plugins e =
    let too_many = whole kinds.TooManyPlugins false in
    let many = at c 16 (unless (nat_le (length plugins) 16) too_many) in
    let unknown = λ (them : List Plugin). numbered c (unknown_faults c) 0 them in
    let bad = λ (them : List Plugin). numbered c (plugin_faults c limits) 0 them in
    let front = few plugins in
    let behind = rest_none many (unknown front ++ bad front) e in
    let is_few = leb-true (length plugins) 16 (holds_at c 16 (nat_le (length plugins) 16) too_many
    (front_none many (unknown front ++ bad front) e)) in
    let same = take_all 16 plugins is_few in record {
      are_few = is_few;
      all = same;
      known = ap unknown (sym same) ∙ front_none (unknown front) (bad front) behind;
      right = ap bad (sym same) ∙ rest_none (unknown front) (bad front) behind;
    }

-- ---- the whole

abbrev Ins : Members → List Plugin
Ins root = plugins_at (codes "inputs") root

abbrev Outs : Members → List Plugin
Outs root = plugins_at (codes "outputs") root

abbrev Aggs : Members → List Plugin
Aggs root = plugins_at (codes "aggregators") root

abbrev AgentIn : Members → Members
AgentIn root = table_at (codes "agent") root

-- none of the parts of a tree has a fault
pub record IsFaultless (root : Members) : Type 0 where
  pub agent : agent_faults (AgentIn root) ≡ []
  pub tags : global_faults (table_at (codes "global_tags") root) ≡ []
  pub ins : HasNone class.Inputs (agent_limits (AgentIn root)) (Ins root)
  pub outs : HasNone class.Outputs (agent_limits (AgentIn root)) (Outs root)
  pub aggs : HasNone class.Aggregators (agent_limits (AgentIn root)) (Aggs root)
  pub some_in : none_faults (Ins root) kinds.NoInput ≡ []
  pub some_out : none_faults (Outs root) kinds.NoOutput ≡ []
  pub ins_apart : same_faults class.Inputs 0 false [] (map (place_of class.Inputs) (few (Ins root))) ≡ []
  pub outs_apart : same_faults class.Outputs 0 (is_journal_faulty (AgentIn root)) (journal_of (AgentIn root) ∷ [])
      (map (place_of class.Outputs) (few (Outs root))) ≡ []

pub faultless : (root : Members) → faults_of root ≡ [] → IsFaultless root
faultless root e =
    let agent = AgentIn root in
    let tags = table_at (codes "global_tags") root in
    let limits = agent_limits agent in
    let journal = journal_of agent in
    let ins = Ins root in
    let outs = Outs root in
    let processors = class_faults class.Processors limits (plugins_at (codes "processors") root) in
    let aggs = Aggs root in
    let aggregators = class_faults class.Aggregators limits aggs in
    let in_faults = class_faults class.Inputs limits ins in
    let out_faults = class_faults class.Outputs limits outs in
    let classes = classes_faults limits (classes_of root) in
    let beside = beside_faults agent (classes_of root) in
    let tables = front_none (table_faults root) (classes ++ beside) e in
    let plugins = rest_none (table_faults root) (classes ++ beside) e in
    let in_classes = front_none classes beside plugins in
    let others = rest_none classes beside plugins in
    let no_input = none_faults ins kinds.NoInput in
    let no_output = none_faults outs kinds.NoOutput in
    let same_ins = same_faults class.Inputs 0 false [] (map (place_of class.Inputs) (few ins)) in
    let same_outs = same_faults class.Outputs 0 (is_journal_faulty agent) (journal ∷ [])
    (map (place_of class.Outputs) (few outs)) in
    let behind = rest_none no_input (no_output ++ (same_ins ++ same_outs)) others in
    let same = rest_none no_output (same_ins ++ same_outs) behind in
    let in_root = at class.Root 0 (root_key_faults root ++ root_value_faults root) in
    let in_agent = at class.Agent 0 (agent_faults agent) in
    let in_tags = at class.GlobalTags 0 (global_faults tags) in
    let behind_processors = rest_none processors (aggregators ++ out_faults) (rest_none in_faults
    (processors ++ (aggregators ++ out_faults)) in_classes) in
    let both = rest_none in_root (in_agent ++ in_tags) tables in
    record {
      agent = none_at class.Agent 0 (agent_faults agent) (front_none in_agent in_tags both);
      tags = none_at class.GlobalTags 0 (global_faults tags) (rest_none in_agent in_tags both);
      ins = class_none class.Inputs limits ins (front_none in_faults (processors ++ (aggregators ++ out_faults))
          in_classes);
      outs = class_none class.Outputs limits outs (rest_none aggregators out_faults behind_processors);
      aggs = class_none class.Aggregators limits aggs (front_none aggregators out_faults behind_processors);
      some_in = front_none no_input (no_output ++ (same_ins ++ same_outs)) others;
      some_out = front_none no_output (same_ins ++ same_outs) behind;
      ins_apart = front_none same_ins same_outs same;
      outs_apart = rest_none same_ins same_outs same;
    }

pub none_told : (founds : List Found) → map fault_told (map fault_of founds) ≡ [] → founds ≡ []
none_told [] e = refl
none_told (found ∷ founds) e = cc
