-- What is written in a text without faults counts.
use Rattle.std.proofs.Common.{◌≡◌, ◌==◌, ◌+◌, ◌++◌, ℕ, ℤ, pos, negsuc, Bool, true, false, List, [], ◌∷◌, map}
use Rattle.std.proofs.Common.{Option, Some, None, IfSome, arith, length, option_map}
use Rattle.std.proofs.Common.{refl, sym, ap, ◌∙◌, subst}
use Rattle.std.proofs.lemmas.Bool.{eqb-false}
use Rattle.std.proofs.lemmas.Map.Text.{is_eq-slice_cmp}
use Rattle.std.proofs.lemmas.Slice.Eq.{bytes_eq-Decides}
use Rattle.std.specs.List.{AllZip}
use Rattle.std.specs.declared.cmp.Ordering.{Ordering}
use Rattle.std.specs.declared.cmp.Ordering.TheVariants.{Less, Equal, Greater}
use Rattle.std.specs.Ordering.{is_eq, match_ordering, nat_cmp}
use Rattle.std.specs.Cmp.Lexicographic.{slice_cmp}
use Rattle.std.specs.Prelude.{◌||◌, codes, if◌then◌else◌, is_some, option_and_then, unwrap_or}
use Rattle.std.specs.Str.{bytes_eq}
use Rattle.toml.specs.Data.{Data, Members, no_members, member, get_member, as_integer, as_str, as_table}
use Rattle.agent_config.specs.Faults.{Plugin, agent_faults, entry_faults, faults_by, faults_in, faults_of}
use Rattle.agent_config.specs.Faults.{key_faults, keys_faults, range_faults, numbered}
use Rattle.agent_config.specs.Faults.{is_filled, missing_faults, place_by, plugin_faults, plugins_at}
use Rattle.agent_config.specs.Faults.{listening_place, server_place, udp_place}
use Rattle.agent_config.specs.Faults.{unknown_faults}
use Rattle.agent_config.specs.Filters.{plugin_members}
use Rattle.agent_config.specs.Found.{at, wrong}
use Rattle.agent_config.specs.Kinds.{agent_limits, agent_number, input_kind, kind_keys, kind_of, limits_faults}
use Rattle.agent_config.specs.Kinds.{needs, number_at, output_kind, own_limits, row_of, text_at, time_at}
use Rattle.agent_config.specs.Rows.{count_row, counted_or, is_counted, is_long_enough, members_in, number_by}
use Rattle.agent_config.specs.Rows.{table_at, time_in, timed_or}
use Rattle.agent_config.specs.Unless.{unless}
use Rattle.agent_config.specs.Usual.{usual_packets, usual_quiet_limit, usual_undelivered}
use Rattle.agent_config.specs.Values.{agent_of, config_of, input_of, output_of}
use Rattle.agent_config.specs.Written.{AgentIsWritten, InputIsWritten, IsAsWritten, IsWritten, OutputIsWritten}
use Rattle.agent_config.specs.Written.{ServerIsWritten, SizeIsWritten, WrittenCounts, number_in}
use Rattle.agent_config.specs.declared.fault.Class.{Class}
use Rattle.agent_config.specs.declared.fault.Class.TheVariants as class
use Rattle.agent_config.specs.declared.fault.FaultKind.TheVariants as kinds
use Rattle.agent_config.specs.declared.shapes.CountRow.{CountRow}
use Rattle.agent_config.specs.declared.shapes.Shape.TheVariants.{Count, Time}
use Rattle.agent_config.specs.declared.shapes.TimeRow.{TimeRow}
use Rattle.agent_config.specs.declared.table.Keys.{Keys}
use Rattle.agent_config.specs.declared.table.Keys.TheVariants as keys
use Rattle.agent_config.specs.declared.table.Kind.{Kind}
use Rattle.agent_config.specs.declared.table.Kind.TheVariants as kind
use Rattle.agent_config.specs.declared.tables.Limits.{Limits}
use Rattle.agent_config.proofs.FaultlessLemmas.{IsFaultless, faultless, front_none, holds, none_at, none_told}
use Rattle.agent_config.proofs.FaultlessLemmas.{not_true, rest_none}

-- ---- a key of a table without faults

entry_at : (keys : Keys) (key l : List ℕ) (d value : Data) (rest : Option Data) (o : Ordering)
    → slice_cmp nat_cmp key l ≡ o → match_ordering o rest (Some d) rest ≡ Some value
    → entry_faults keys l d ≡ [] → (rest ≡ Some value → entry_faults keys key value ≡ [])
    → entry_faults keys key value ≡ []
entry_at keys key l d value rest Less c e here there = there e
entry_at keys key l d value rest Greater c e here there = there e
entry_at keys key l d value rest Equal c e here there =
    let same : key ≡ l = (bytes_eq-Decides key l).0 (sym (is_eq-slice_cmp key l) ∙ ap is_eq c) in
    let found : d ≡ value = cc in
    ap (λ k. entry_faults keys k value) same ∙ ap (λ v. entry_faults keys l v) (sym found) ∙ here

-- what stands at a key has no fault
faultless_at : (keys : Keys) (key : List ℕ) (members : Members) (value : Data) → keys_faults keys members ≡ []
    → get_member key members ≡ Some value → entry_faults keys key value ≡ []
faultless_at keys key no_members value none e = cc
faultless_at keys key (member l d members) value none e =
    entry_at keys key l d value (get_member key members) (slice_cmp nat_cmp key l) refl e
    (front_none (entry_faults keys l d) (keys_faults keys members) none)
    (faultless_at keys key members value (rest_none (entry_faults keys l d) (keys_faults keys members) none))

-- ---- numbers

number_kept : (key : List ℕ) (most other : ℕ) (number : Option ℤ)
    → range_faults key (option_map (is_counted most) number) ≡ []
    → IfSome number (λ written. written ≡ pos (counted_or most other number))
number_kept key most other None e = tt
number_kept key most other (Some (pos n)) e =
    sym (ap (λ test. pos (if test then n else other)) (holds (is_counted most (pos n)) (wrong kinds.OutOfRange key) e))
number_kept key most other (Some (negsuc n)) e = cc

number_in_row : (keys : Keys) (key : List ℕ) (members : Members) (other : ℕ) (row : CountRow)
    → row_of keys key ≡ Some (Count row) → keys_faults keys members ≡ [] → (found : Option Data)
    → get_member key members ≡ found → IfSome (option_and_then as_integer found)
    (λ written. written ≡ pos (counted_or row.most other (option_and_then as_integer found)))
unfolding entry_faults
number_in_row _ _ _ _ _ _ _ None _ = tt
number_in_row keys key members other row is none (Some value) e =
    number_kept key row.most other (as_integer value)
    (sym (ap (λ r. key_faults key r value) is) ∙ faultless_at keys key members value none e)

-- the number that is written at a key of a table without faults is the one that it has
number_written : (keys : Keys) (key : List ℕ) (members : Members) (other : ℕ) (row : CountRow)
    → row_of keys key ≡ Some (Count row) → keys_faults keys members ≡ []
    → IsWritten key members (number_at keys key other members)
unfolding number_at
number_written keys key members other row is none =
    subst (λ r. IfSome (number_in key members) (λ written. written ≡ pos
    (number_by (count_row r) other (number_in key members))))
    (sym is) (number_in_row keys key members other row is none (get_member key members) refl)

-- ---- times

long_kept : (row : TimeRow) (time : Option ℤ) → is_long_enough row.least time ≡ true
    → IfSome time (λ written. written ≡ timed_or row time)
long_kept row None e = tt
long_kept row (Some time) e = sym (ap (λ test. if test then time else row.usual) e)

first_of_if : (key : List ℕ) (test long : Bool)
    → (if test then unless long (wrong kinds.OutOfRange key) else wrong kinds.WrongType key ∷ []) ≡ [] → long ≡ true
first_of_if key true long e = holds long (wrong kinds.OutOfRange key) e
first_of_if key false long e = cc

time_in_row : (keys : Keys) (key : List ℕ) (members : Members) (row : TimeRow)
    → row_of keys key ≡ Some (Time row) → keys_faults keys members ≡ [] → (found : Option Data)
    → get_member key members ≡ found → IfSome (option_and_then time_in found)
    (λ written. written ≡ timed_or row (option_and_then time_in found))
unfolding entry_faults
time_in_row _ _ _ _ _ _ None _ = tt
time_in_row keys key members row is none (Some value) e =
    long_kept row (time_in value)
    (first_of_if key (is_some (as_integer value) || is_some (as_str value)) (is_long_enough row.least (time_in value))
    (sym (ap (λ r. key_faults key r value) is) ∙ faultless_at keys key members value none e))

-- ---- the agent

agent_written : (agent : Members) → agent_faults agent ≡ [] → AgentIsWritten agent (agent_of agent)
unfolding agent_faults agent_number time_at
agent_written agent e =
    let none = front_none (keys_faults keys.Agent agent) (limits_faults (agent_limits agent)) e in record {
      gather_pieces = number_written keys.Agent (codes "gather_pieces") agent 1000 _ refl none;
      final_tries = number_written keys.Agent (codes "final_tries") agent 3 _ refl none;
      flush_interval = time_in_row keys.Agent (codes "flush_interval") agent _ refl none
          (get_member (codes "flush_interval") agent) refl;
    }

-- ---- plugins

-- what holds of each plugin of a class that has no fault holds beside each that is made of one
module _ {X : Type 0} (c : Class) (limits : Limits) (make : Plugin → X) (R : Plugin → X → Type 0)
    (one : (plugin : Plugin) → unknown_faults c plugin ≡ [] → plugin_faults c limits plugin ≡ []
    → R plugin (make plugin)) where
  each_written : (number : ℕ) (plugins : List Plugin) → numbered c (unknown_faults c) number plugins ≡ []
      → numbered c (plugin_faults c limits) number plugins ≡ [] → AllZip R plugins (map make plugins)
  each_written number [] known e = tt
  each_written number (plugin ∷ plugins) known e =
      let unknown = unknown_faults c in
      let bad = plugin_faults c limits in
      let first = at c number (unknown plugin) in
      let rest = numbered c unknown (number + 1) plugins in
      let own = at c number (bad plugin) in
      let others = numbered c bad (number + 1) plugins in (
        one plugin (none_at c number (unknown plugin) (front_none first rest known))
            (none_at c number (bad plugin) (front_none own others e)),
        each_written (number + 1) plugins (rest_none first rest known) (rest_none own others e),
      )

-- ---- inputs

-- how many groups may be undelivered at once, at an input of a kind
abbrev UndeliveredIsWritten : Keys → Members → Type 0
UndeliveredIsWritten keys members =
    IsWritten (codes "max_undelivered_messages") members
    (number_at keys (codes "max_undelivered_messages") usual_undelivered members)

known_undelivered : (k : Kind) (row : CountRow)
    → row_of (keys.Plugin k) (codes "max_undelivered_messages") ≡ Some (Count row) → (limits : Limits)
    (value : Option Members) → faults_by (Some k) limits value ≡ []
    → UndeliveredIsWritten (keys.Plugin k) (members_in value)
known_undelivered k row is limits None e = cc
known_undelivered k row is limits (Some members) e =
    number_written (keys.Plugin k) (codes "max_undelivered_messages") members usual_undelivered row is
    (front_none (keys_faults (keys.Plugin k) members) _ e)

kind_undelivered : (limits : Limits) (file statsd : Bool) (value : Option Members)
    → is_some (if file then Some kind.FileInput else if statsd then Some kind.StatsdInput else None) ≡ true
    → faults_by (if file then Some kind.FileInput else if statsd then Some kind.StatsdInput else None) limits value ≡ []
    → UndeliveredIsWritten (kind_keys (if file then Some kind.FileInput
    else if statsd then Some kind.StatsdInput else None)) (members_in value)
kind_undelivered limits true statsd value known e = known_undelivered kind.FileInput _ refl limits value e
kind_undelivered limits false true value known e = known_undelivered kind.StatsdInput _ refl limits value e
kind_undelivered limits false false value known e = cc

-- the address of a server, and that it isn't empty
record HasAddress (members : Members) : Type 0 where
  address : List ℕ
  is : option_and_then as_str (get_member (codes "service_address") members) ≡ Some address
  filled : (length address == 0) ≡ false

address_in : (server : Members) (text : Option (List ℕ))
    → option_and_then as_str (get_member (codes "service_address") server) ≡ text
    → range_faults (codes "service_address") (option_map is_filled text) ≡ [] → HasAddress server
address_in server None is e = cc
address_in server (Some text) is e = record {
  address = text;
  is = is;
  filled = not_true (length text == 0) (holds (is_filled text) (wrong kinds.OutOfRange (codes "service_address")) e);
}

address_at : (server : Members) (found : Option Data) → get_member (codes "service_address") server ≡ found
    → is_some found ≡ true → keys_faults (keys.Plugin kind.StatsdInput) server ≡ [] → HasAddress server
unfolding entry_faults
address_at server None is known none = cc
address_at server (Some value) is known none =
    address_in server (as_str value) (ap (option_and_then as_str) is)
    (faultless_at (keys.Plugin kind.StatsdInput) (codes "service_address") server value none is)

-- the key that it needs is there
needed : (key : List ℕ) (members : Members) → missing_faults (key ∷ []) members ≡ []
    → is_some (get_member key members) ≡ true
needed key members e =
    holds (is_some (get_member key members)) (wrong kinds.Missing key)
    (front_none (unless (is_some (get_member key members)) (wrong kinds.Missing key)) [] e)

server_place_is : (members : Members) (address : List ℕ)
    → option_and_then as_str (get_member (codes "service_address") members) ≡ Some address
    → (length address == 0) ≡ false → server_place members ≡ udp_place address
    (number_at (keys.Plugin kind.StatsdInput) (codes "packets") usual_packets members)
    (number_at (keys.Plugin kind.StatsdInput) (codes "quiet_limit") usual_quiet_limit members)
unfolding text_at
server_place_is members address is filled =
    let packets = number_at (keys.Plugin kind.StatsdInput) (codes "packets") usual_packets members in
    let quiet_limit = number_at (keys.Plugin kind.StatsdInput) (codes "quiet_limit") usual_quiet_limit members in
    ap (λ said. listening_place (unwrap_or said []) packets quiet_limit) is
    ∙ ap (λ empty. if empty then [] else udp_place address packets quiet_limit) filled

server_written : (limits : Limits) (value : Option Members) → faults_by (Some kind.StatsdInput) limits value ≡ []
    → ServerIsWritten (members_in value) (place_by (Some kind.StatsdInput) (members_in value))
server_written limits None e = cc
server_written limits (Some members) e =
    let none = front_none (keys_faults (keys.Plugin kind.StatsdInput) members)
    (missing_faults (needs kind.StatsdInput) members ++ []) e in
    let lacks = front_none (missing_faults (needs kind.StatsdInput) members) []
    (rest_none (keys_faults (keys.Plugin kind.StatsdInput) members)
    (missing_faults (needs kind.StatsdInput) members ++ []) e) in
    let there = address_at members (get_member (codes "service_address") members) refl
    (needed (codes "service_address") members lacks) none in
    let differs = eqb-false (length there.address) 0 there.filled in record {
      address = there.address;
      packets = number_at (keys.Plugin kind.StatsdInput) (codes "packets") usual_packets members;
      quiet_limit = number_at (keys.Plugin kind.StatsdInput) (codes "quiet_limit") usual_quiet_limit members;
      is = server_place_is members there.address there.is there.filled;
      some = omega (arith, differs);
      said = there.is;
      packets_said = number_written (keys.Plugin kind.StatsdInput) (codes "packets") members usual_packets _ refl none;
      quiet_limit_said = number_written (keys.Plugin kind.StatsdInput) (codes "quiet_limit") members usual_quiet_limit
          _ refl none;
    }

kind_server : (limits : Limits) (k : Option Kind) (value : Option Members) → k ≡ Some kind.StatsdInput
    → faults_by k limits value ≡ [] → ServerIsWritten (members_in value) (place_by k (members_in value))
kind_server limits k value is e =
    subst (λ it. ServerIsWritten (members_in value) (place_by it (members_in value))) (sym is)
    (server_written limits value (sym (ap (λ it. faults_by it limits value) is) ∙ e))

-- how many of its groups may be undelivered
groups_written : (limits : Limits) (plugin : Plugin) → unknown_faults class.Inputs plugin ≡ []
    → plugin_faults class.Inputs limits plugin ≡ []
    → IsWritten (codes "max_undelivered_messages") (plugin_members plugin) (input_of plugin).max_undelivered
unfolding kind_of plugin_faults
groups_written limits plugin known e =
    kind_undelivered limits (bytes_eq plugin.name (codes "file")) (bytes_eq plugin.name (codes "statsd"))
    (as_table plugin.value)
    (holds (is_some (input_kind plugin.name)) (wrong kinds.UnknownKind plugin.name) known) e

input_written : (limits : Limits) (plugin : Plugin) → unknown_faults class.Inputs plugin ≡ []
    → plugin_faults class.Inputs limits plugin ≡ [] → InputIsWritten plugin (input_of plugin)
unfolding plugin_faults
input_written limits plugin known e = record {
  undelivered = groups_written limits plugin known e;
  server = λ is. kind_server limits (kind_of class.Inputs plugin.name) (as_table plugin.value) is e;
}

-- ---- outputs

other_by : (row : Option CountRow) (other : ℕ) → number_by row other None ≡ other
other_by None other = refl
other_by (Some row) other = refl

-- a size that isn't written is another
size_other : (keys : Keys) (key : List ℕ) (members : Members) (other : ℕ) → number_in key members ≡ None
    → number_at keys key other members ≡ other
unfolding number_at
size_other keys key _ other none =
    ap (number_by (count_row (row_of keys key)) other) none ∙ other_by (count_row (row_of keys key)) other

size_written : (key : List ℕ) (agent members : Members) (other : ℕ) (row : CountRow)
    → row_of (keys.Plugin kind.FileOutput) key ≡ Some (Count row)
    → keys_faults (keys.Plugin kind.FileOutput) members ≡ [] → IsWritten key agent other
    → SizeIsWritten key agent members (number_at (keys.Plugin kind.FileOutput) key other members)
size_written key agent members other row is none agents = record {
  own = number_written (keys.Plugin kind.FileOutput) key members other row is none;
  agents = λ absent. subst (IsWritten key agent) (sym (size_other (keys.Plugin kind.FileOutput) key members other
      absent)) agents;
}

-- the sizes of `agent` are those that are written there
record AreAgents (agent : Members) (limits : Limits) : Type 0 where
  batch : IsWritten (codes "metric_batch_size") agent limits.batch
  limit : IsWritten (codes "metric_buffer_limit") agent limits.limit

agents_written : (agent : Members) → agent_faults agent ≡ [] → AreAgents agent (agent_limits agent)
unfolding agent_faults agent_number
agents_written agent e =
    let none = front_none (keys_faults keys.Agent agent) (limits_faults (agent_limits agent)) e in record {
      batch = number_written keys.Agent (codes "metric_batch_size") agent 1000 _ refl none;
      limit = number_written keys.Agent (codes "metric_buffer_limit") agent 10000 _ refl none;
    }

-- those of an output of a kind
record AreWritten (agent members : Members) (sizes : Limits) : Type 0 where
  batch : SizeIsWritten (codes "metric_batch_size") agent members sizes.batch
  limit : SizeIsWritten (codes "metric_buffer_limit") agent members sizes.limit

file_written : (agent : Members) (limits : Limits) (value : Option Members) → AreAgents agent limits
    → faults_by (Some kind.FileOutput) limits value ≡ []
    → AreWritten agent (members_in value) (own_limits (keys.Plugin kind.FileOutput) limits (members_in value))
file_written agent limits None agents e = cc
file_written agent limits (Some members) agents e =
    let none = front_none (keys_faults (keys.Plugin kind.FileOutput) members) _ e in record {
      batch = size_written (codes "metric_batch_size") agent members limits.batch _ refl none agents.batch;
      limit = size_written (codes "metric_buffer_limit") agent members limits.limit _ refl none agents.limit;
    }

kind_written : (agent : Members) (limits : Limits) (file : Bool) (value : Option Members) → AreAgents agent limits
    → is_some (if file then Some kind.FileOutput else None) ≡ true
    → faults_by (if file then Some kind.FileOutput else None) limits value ≡ []
    → AreWritten agent (members_in value) (own_limits (kind_keys (if file then Some kind.FileOutput else None)) limits
    (members_in value))
kind_written agent limits true value agents known e = file_written agent limits value agents e
kind_written agent limits false value agents known e = cc

output_written : (agent : Members) (limits : Limits) (plugin : Plugin) → AreAgents agent limits
    → unknown_faults class.Outputs plugin ≡ [] → plugin_faults class.Outputs limits plugin ≡ []
    → OutputIsWritten agent plugin (output_of limits plugin)
unfolding kind_of plugin_faults
output_written agent limits plugin agents known e =
    let written = kind_written agent limits (bytes_eq plugin.name (codes "file")) (as_table plugin.value) agents
    (holds (is_some (output_kind plugin.name)) (wrong kinds.UnknownKind plugin.name) known) e in
    record { batch = written.batch; limit = written.limit }

-- ---- the whole

root_written : (root : Members) → IsFaultless root → IsAsWritten root (config_of root)
root_written root none =
    let agent = table_at (codes "agent") root in
    let limits = agent_limits agent in record {
      agent = agent_written agent none.agent;
      inputs = each_written class.Inputs limits input_of InputIsWritten (input_written limits) 0
          (plugins_at (codes "inputs") root) none.ins.known none.ins.right;
      outputs = each_written class.Outputs limits (output_of limits) (OutputIsWritten agent)
          (λ plugin. output_written agent limits plugin (agents_written agent none.agent)) 0
          (plugins_at (codes "outputs") root) none.outs.known none.outs.right;
    }

-- where a text has no fault, what is written counts
pub written_counts : WrittenCounts
written_counts text root there none =
    root_written root (faultless root (none_told (faults_of root) (sym (ap faults_in there) ∙ none)))
