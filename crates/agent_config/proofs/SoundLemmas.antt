-- What holds of the values of a configuration without faults.
use Rattle.std.proofs.Common.{◌≡◌, ◌≤◌, ◌+◌, ◌==◌, ℕ, ℤ, pos, negsuc, Bool, true, false, not}
use Rattle.std.proofs.Common.{List, [], ◌∷◌, ◌++◌, length, map, get_or, Option, Some, None, refl, sym, ap, ◌∙◌, subst}
use Rattle.std.proofs.Common.{arith, option_map}
use Rattle.std.proofs.lemmas.Bool.{leb-true, eqb-false}
use Rattle.std.proofs.lemmas.Int.{ints}
use Rattle.std.proofs.lemmas.List.{length-map}
use Rattle.std.proofs.lemmas.List.Elements.{All-from_recursion, All-map}
use Rattle.std.proofs.lemmas.List.Folds.{list_any-append}
use Rattle.std.specs.List.{AllByRecursion, IsDistinct, list_any}
use Rattle.std.specs.Int.Signed.{le_z_yes}
use Rattle.std.specs.Prelude.{◌&&◌, ◌||◌, ◌≤ℤ◌, codes, if◌then◌else◌, int_le, is_some, nat_le, option_and_then}
use Rattle.std.specs.Str.{bytes_eq}
use Rattle.toml.specs.Data.{Members, no_members, member, as_integer, as_str, as_table, get_member}
use Rattle.agent_config.specs.Aggs.{agg_of}
use Rattle.agent_config.specs.Filters.{plugin_members}
use Rattle.agent_config.specs.Faults.{Plugin, faults_by, faults_in, faults_of, global_faults}
use Rattle.agent_config.specs.Faults.{global_tag_faults, is_journal_faulty, journal_of, keys_faults, missing_faults}
use Rattle.agent_config.specs.Faults.{none_faults}
use Rattle.agent_config.specs.Faults.{numbered, only_follows, place_of, plugin_faults, plugins_at, same_faults}
use Rattle.agent_config.specs.Faults.{text_faults}
use Rattle.agent_config.specs.Faults.{tree_of, unknown_faults}
use Rattle.agent_config.specs.Found.{at, whole, wrong}
use Rattle.agent_config.specs.Kinds.{agent_limits, agent_number, aggregator_kind, kind_keys, kind_of}
use Rattle.agent_config.specs.Kinds.{limits_faults, needs, number_at, output_kind, own_limits, time_at}
use Rattle.agent_config.specs.Rows.{counted_or, members_in, table_at, time_in, timed_or}
use Rattle.agent_config.specs.Sound.{HasSizes, HasTimes, HasUndelivered, IsCounted, IsFilled, IsSound}
use Rattle.agent_config.specs.Unless.{unless}
use Rattle.agent_config.specs.Usual.{usual_undelivered}
use Rattle.agent_config.specs.Values.{config_of, global_tag, globals_of, input_of, output_of}
use Rattle.agent_config.specs.declared.config.Config.{Config}
use Rattle.agent_config.specs.declared.config.InputConf.{InputConf}
use Rattle.agent_config.specs.declared.config.OutputConf.{OutputConf}
use Rattle.agent_config.specs.declared.fault.Class.{Class}
use Rattle.agent_config.specs.declared.fault.Class.TheVariants as class
use Rattle.agent_config.specs.declared.fault.FaultKind.{FaultKind}
use Rattle.agent_config.specs.declared.fault.FaultKind.TheVariants as kinds
use Rattle.agent_config.specs.declared.shapes.TimeRow.{TimeRow}
use Rattle.agent_config.specs.declared.table.Keys.{Keys}
use Rattle.agent_config.specs.declared.table.Keys.TheVariants as keys
use Rattle.agent_config.specs.declared.table.Kind.{Kind}
use Rattle.agent_config.specs.declared.table.Kind.TheVariants as kind
use Rattle.agent_config.specs.declared.tables.Limits.{Limits}
use Rattle.agent_config.proofs.FaultlessLemmas.{IsFaultless, faultless, front_none, holds, holds_at, none_at}
use Rattle.agent_config.proofs.FaultlessLemmas.{none_told, not_true, rest_none}

-- ---- places

neither : (a b : Bool) → (a || b) ≡ false → (a ≡ false) × (b ≡ false)
neither true b e = cc
neither false b e = (refl, e)

-- a place is none of those before it
abbrev IsNew : List (List ℕ) → List ℕ → Type 0
IsNew before place = list_any (λ other. bytes_eq other place) before ≡ false

-- a place that is new behind one more is new before it, and isn't this one
new_before : (before : List (List ℕ)) (one : List ℕ) (places : List (List ℕ))
    → AllByRecursion (IsNew (before ++ one ∷ [])) places
    → AllByRecursion (IsNew before) places × AllByRecursion (λ place. bytes_eq one place ≡ false) places
new_before before one [] h = (tt, tt)
new_before before one (place ∷ places) h =
    let test = λ (other : List ℕ). bytes_eq other place in
    let parts = neither (list_any test before) (list_any test (one ∷ []))
    (sym (list_any-append test before (one ∷ [])) ∙ h.0) in
    let rest = new_before before one places h.1 in
    ((parts.0, rest.0), ((neither (bytes_eq one place) false parts.1).0, rest.1))

apart : (c : Class) (number : ℕ) (faulty : Bool) (before places : List (List ℕ))
    → same_faults c number faulty before places ≡ []
    → AllByRecursion (IsNew before) places × IsDistinct bytes_eq places
unfolding IsDistinct
apart c number faulty before [] e = (tt, tt)
apart c number faulty before (place ∷ places) e =
    let test = list_any (λ (other : List ℕ). bytes_eq other place) before in
    let same = whole kinds.SamePlace (only_follows faulty before place) in
    let first = at c number (unless (not test) same) in
    let others = same_faults c (number + 1) faulty (before ++ place ∷ []) places in
    let rest = apart c (number + 1) faulty (before ++ place ∷ []) places (rest_none first others e) in
    let split = new_before before place places rest.0 in
    ((not_true test (holds_at c number (not test) same (front_none first others e)), split.0), (split.1, rest.1))

with_first : (one : List ℕ) (places : List (List ℕ)) → AllByRecursion (IsNew (one ∷ [])) places
    → IsDistinct bytes_eq places → IsDistinct bytes_eq (one ∷ places)
unfolding IsDistinct
with_first one places new distinct = (go places new, distinct)
  where
    go : (others : List (List ℕ)) → AllByRecursion (IsNew (one ∷ [])) others
        → AllByRecursion (λ place. bytes_eq one place ≡ false) others
    go [] h = tt
    go (place ∷ others) h = ((neither (bytes_eq one place) false h.0).0, go others h.1)

-- ---- numbers

both_true : (a b : Bool) → (a && b) ≡ true → (a ≡ true) × (b ≡ true)
both_true true true e = (refl, refl)
both_true true false e = cc
both_true false b e = cc

counted_if : (most other n : ℕ) (test : Bool) → (nat_le 1 n && nat_le n most) ≡ test → IsCounted most other
    → IsCounted most (if test then n else other)
counted_if most other n true e h =
    let parts = both_true (nat_le 1 n) (nat_le n most) e in
    (leb-true 1 n parts.0, leb-true n most parts.1)
counted_if most other n false e h = h

counted : (most other : ℕ) (number : Option ℤ) → IsCounted most other → IsCounted most (counted_or most other number)
counted most other None h = h
counted most other (Some (pos n)) h = counted_if most other n (nat_le 1 n && nat_le n most) refl h
counted most other (Some (negsuc n)) h = h

-- ---- inputs

-- of the kinds of inputs, and of an unknown one
kind_undelivered : (file statsd : Bool) (members : Members)
    → IsCounted 100000 (number_at (kind_keys (if file then Some kind.FileInput
    else if statsd then Some kind.StatsdInput else None)) (codes "max_undelivered_messages") usual_undelivered members)
unfolding number_at
kind_undelivered true statsd members =
    counted 100000 usual_undelivered (option_and_then as_integer (get_member (codes "max_undelivered_messages")
    members)) (omega arith, omega arith)
kind_undelivered false true members =
    counted 100000 usual_undelivered (option_and_then as_integer (get_member (codes "max_undelivered_messages")
    members)) (omega arith, omega arith)
kind_undelivered false false _ = (omega arith, omega arith)

undelivered : (plugin : Plugin) → HasUndelivered (input_of plugin)
unfolding kind_of
undelivered plugin =
    kind_undelivered (bytes_eq plugin.name (codes "file")) (bytes_eq plugin.name (codes "statsd"))
    (plugin_members plugin)

-- ---- outputs

abbrev AreCounted : Limits → Type 0
AreCounted limits = IsCounted 10000 limits.batch × IsCounted 10000 limits.limit

own_counted : (limits : Limits) (members : Members) → AreCounted limits
    → AreCounted (own_limits (keys.Plugin kind.FileOutput) limits members)
unfolding number_at
own_counted limits members h = (
  counted 10000 limits.batch (option_and_then as_integer (get_member (codes "metric_batch_size") members)) h.0,
  counted 10000 limits.limit (option_and_then as_integer (get_member (codes "metric_buffer_limit") members)) h.1,
)

agent_counted : (agent : Members) → AreCounted (agent_limits agent)
unfolding agent_number number_at
agent_counted agent = (
  counted 10000 1000 (option_and_then as_integer (get_member (codes "metric_batch_size") agent))
      (omega arith, omega arith),
  counted 10000 10000 (option_and_then as_integer (get_member (codes "metric_buffer_limit") agent))
      (omega arith, omega arith),
)

-- the sizes of an output of a kind, where it has no fault
abbrev SizesOf : Option Kind → Limits → Option Members → Limits
SizesOf known limits value = own_limits (kind_keys known) limits (members_in value)

record AreSizes (sizes : Limits) : Type 0 where
  some : 1 ≤ sizes.batch
  ordered : sizes.batch ≤ sizes.limit
  most : sizes.limit ≤ 10000

file_sizes : (limits : Limits) (value : Option Members) → AreCounted limits
    → faults_by (Some kind.FileOutput) limits value ≡ [] → AreSizes (SizesOf (Some kind.FileOutput) limits value)
file_sizes limits None h e = cc
file_sizes limits (Some members) h e =
    let own = own_limits (keys.Plugin kind.FileOutput) limits members in
    let counts = own_counted limits members h in
    let lacks = missing_faults (needs kind.FileOutput) members in
    let behind = rest_none (keys_faults (keys.Plugin kind.FileOutput) members) (lacks ++ limits_faults own) e in
    record {
      some = counts.0.0;
      ordered = leb-true own.batch own.limit (holds (nat_le own.batch own.limit)
          (whole kinds.BatchAboveLimit (own.batch_faulty || own.limit_faulty))
          (rest_none lacks (limits_faults own) behind));
      most = counts.1.1;
    }

-- of the kinds of outputs
kind_sizes : (limits : Limits) (file : Bool) (value : Option Members) → AreCounted limits
    → is_some (if file then Some kind.FileOutput else None) ≡ true
    → faults_by (if file then Some kind.FileOutput else None) limits value ≡ []
    → AreSizes (SizesOf (if file then Some kind.FileOutput else None) limits value)
kind_sizes limits true value h known e = file_sizes limits value h e
kind_sizes limits false value h known e = cc

sized : (limits : Limits) (plugin : Plugin) → AreCounted limits → unknown_faults class.Outputs plugin ≡ []
    → plugin_faults class.Outputs limits plugin ≡ [] → HasSizes (output_of limits plugin)
unfolding kind_of plugin_faults
sized limits plugin h known e =
    let file = bytes_eq plugin.name (codes "file") in
    let sizes = kind_sizes limits file (as_table plugin.value) h
    (holds (is_some (output_kind plugin.name)) (wrong kinds.UnknownKind plugin.name) known) e in
    record { some = sizes.some; ordered = sizes.ordered; most = sizes.most }

all_sized : (limits : Limits) (number : ℕ) (plugins : List Plugin) → AreCounted limits
    → numbered class.Outputs (unknown_faults class.Outputs) number plugins ≡ []
    → numbered class.Outputs (plugin_faults class.Outputs limits) number plugins ≡ []
    → AllByRecursion (λ plugin. HasSizes (output_of limits plugin)) plugins
all_sized limits number [] h known e = tt
all_sized limits number (plugin ∷ plugins) h known e =
    let unknown = unknown_faults class.Outputs in
    let bad = plugin_faults class.Outputs limits in (
      sized limits plugin h (none_at class.Outputs number (unknown plugin)
          (front_none (at class.Outputs number (unknown plugin)) (numbered class.Outputs unknown (number + 1) plugins)
          known))
          (none_at class.Outputs number (bad plugin) (front_none (at class.Outputs number (bad plugin))
          (numbered class.Outputs bad (number + 1) plugins) e)),
      all_sized limits (number + 1) plugins h (rest_none (at class.Outputs number (unknown plugin))
          (numbered class.Outputs unknown (number + 1) plugins) known)
          (rest_none (at class.Outputs number (bad plugin)) (numbered class.Outputs bad (number + 1) plugins) e),
    )

-- ---- aggregators

-- a time that is counted, where a test of it answers so
time_if : (row : TimeRow) (time : ℤ) (long : Bool) → int_le row.least time ≡ long → row.least ≤ℤ row.usual
    → row.least ≤ℤ (if long then time else row.usual)
time_if row time true e h = grind (arith, ints)
time_if row time false e h = h

timed : (row : TimeRow) (time : Option ℤ) → row.least ≤ℤ row.usual → row.least ≤ℤ timed_or row time
timed row None h = h
timed row (Some time) h = time_if row time (int_le row.least time) refl h

-- three times that are long enough
record AreTimed (p d g : ℤ) : Type 0 where
  period : pos 1 ≤ℤ p
  delay : pos 0 ≤ℤ d
  grace : pos 0 ≤ℤ g

-- those at the keys of a table
abbrev TimedAt : Keys → Members → Type 0
TimedAt keys members =
    AreTimed (time_at keys (codes "period") members) (time_at keys (codes "delay") members)
    (time_at keys (codes "grace") members)

-- what is said at a key
abbrev said_at : List ℕ → Members → Option ℤ
said_at key members = option_and_then time_in (get_member key members)

-- the times that each kind of aggregators has
all_timed : (members : Members)
    → AreTimed (timed_or (record { least = pos 1; usual = pos 30000000000 }) (said_at (codes "period") members))
    (timed_or (record { least = pos 0; usual = pos 100000000 }) (said_at (codes "delay") members))
    (timed_or (record { least = pos 0; usual = pos 0 }) (said_at (codes "grace") members))
all_timed members = record {
  period = timed (record { least = pos 1; usual = pos 30000000000 }) (said_at (codes "period") members) (le_z_yes tt);
  delay = timed (record { least = pos 0; usual = pos 100000000 }) (said_at (codes "delay") members) (le_z_yes tt);
  grace = timed (record { least = pos 0; usual = pos 0 }) (said_at (codes "grace") members) (le_z_yes tt);
}

-- of the kinds of aggregators
kind_timed : (basicstats final merge minmax : Bool) (members : Members) → is_some (if basicstats then
    Some kind.BasicStats else if final then Some kind.Final else if merge then Some kind.Merge else if minmax then
    Some kind.MinMax else None) ≡ true
    → TimedAt (kind_keys (if basicstats then Some kind.BasicStats else if final then Some kind.Final else if merge then
    Some kind.Merge else if minmax then Some kind.MinMax else None)) members
unfolding time_at
kind_timed true final merge minmax members known = all_timed members
kind_timed false true merge minmax members known = all_timed members
kind_timed false false true minmax members known = all_timed members
kind_timed false false false true members known = all_timed members
kind_timed false false false false _ known = cc

-- an aggregator whose kind is known
lined : (plugin : Plugin) → unknown_faults class.Aggregators plugin ≡ [] → HasTimes (agg_of plugin)
unfolding kind_of
lined plugin known =
    let times = kind_timed (bytes_eq plugin.name (codes "basicstats")) (bytes_eq plugin.name (codes "final"))
    (bytes_eq plugin.name (codes "merge")) (bytes_eq plugin.name (codes "minmax")) (plugin_members plugin)
    (holds (is_some (aggregator_kind plugin.name)) (wrong kinds.UnknownKind plugin.name) known) in
    record { period = times.period; delay = times.delay; grace = times.grace }

all_lined : (number : ℕ) (plugins : List Plugin)
    → numbered class.Aggregators (unknown_faults class.Aggregators) number plugins ≡ []
    → AllByRecursion (λ plugin. HasTimes (agg_of plugin)) plugins
all_lined number [] known = tt
all_lined number (plugin ∷ plugins) known =
    let unknown = unknown_faults class.Aggregators in
    let first = at class.Aggregators number (unknown plugin) in
    let others = numbered class.Aggregators unknown (number + 1) plugins in (
      lined plugin (none_at class.Aggregators number (unknown plugin) (front_none first others known)),
      all_lined (number + 1) plugins (rest_none first others known),
    )

-- ---- global tags

some_length : (text : List ℕ) → (length text == 0) ≡ false → 1 ≤ length text
some_length text e = let differs = eqb-false (length text) 0 e in omega (arith, differs)

filled_if : (key text : List ℕ) (rest : List (List ℕ × List ℕ)) (empty : Bool) → (length text == 0) ≡ empty
    → 1 ≤ length key → AllByRecursion IsFilled rest → AllByRecursion IsFilled ((if empty then [] else (key, text) ∷ [])
    ++ rest)
filled_if key text rest true e k h = h
filled_if key text rest false e k h = ((k, some_length text e), h)

tag_filled : (key : List ℕ) (value : Option (List ℕ)) (rest : List (List ℕ × List ℕ)) → global_tag_faults key value ≡ []
    → AllByRecursion IsFilled rest → AllByRecursion IsFilled (global_tag key value ++ rest)
tag_filled key None rest e h = cc
tag_filled key (Some text) rest e h =
    filled_if key text rest (length text == 0) refl (some_length key
    (not_true (length key == 0) (holds (not (length key == 0)) (wrong kinds.OutOfRange key) e))) h

tags_filled : (tags : Members) → global_faults tags ≡ [] → AllByRecursion IsFilled (globals_of tags)
tags_filled no_members e = tt
tags_filled (member key value tags) e =
    tag_filled key (as_str value) (globals_of tags) (front_none (global_tag_faults key (as_str value))
    (global_faults tags) e) (tags_filled tags (rest_none (global_tag_faults key (as_str value)) (global_faults tags) e))

-- ---- the whole

some_plugins : (plugins : List Plugin) (kind : FaultKind) → none_faults plugins kind ≡ [] → 1 ≤ length plugins
some_plugins plugins kind e =
    let differs = eqb-false (length plugins) 0 (not_true (length plugins == 0)
    (holds_at class.Root 0 (not (length plugins == 0)) (whole kind false) e)) in omega (arith, differs)

input_places : (plugins : List Plugin) → map (place_of class.Inputs) plugins ≡ map (λ (input : InputConf). input.place)
    (map input_of plugins)
input_places [] = refl
input_places (plugin ∷ plugins) = ap (λ (places : List (List ℕ)). place_of class.Inputs plugin ∷ places)
    (input_places plugins)

output_places : (limits : Limits) (plugins : List Plugin) → map (place_of class.Outputs) plugins ≡ map
    (λ (output : OutputConf). output.place) (map (output_of limits) plugins)
output_places limits [] = refl
output_places limits (plugin ∷ plugins) = ap (λ (places : List (List ℕ)). place_of class.Outputs plugin ∷ places)
    (output_places limits plugins)

-- how many plugins there are: some, and few
counted_plugins : {X : Type 0} (f : Plugin → X) (plugins : List Plugin) → 1 ≤ length plugins → length plugins ≤ 16
    → IsCounted 16 (length (map f plugins))
counted_plugins f plugins some few = (
  omega (arith, some, length-map plugins f),
  omega (arith, few, length-map plugins f),
)

sound_tree : (root : Members) → IsFaultless root → IsSound (config_of root)
unfolding agent_number number_at
sound_tree root none =
    let agent = table_at (codes "agent") root in
    let limits = agent_limits agent in
    let journal = journal_of agent in
    let ins = plugins_at (codes "inputs") root in
    let outs = plugins_at (codes "outputs") root in
    let aggs = plugins_at (codes "aggregators") root in
    let ins_apart = apart class.Inputs 0 false [] (map (place_of class.Inputs) ins)
    (subst (λ (them : List Plugin). same_faults class.Inputs 0 false [] (map (place_of class.Inputs) them) ≡ [])
    none.ins.all none.ins_apart) in
    let faulty = is_journal_faulty agent in
    let outs_apart = apart class.Outputs 0 faulty (journal ∷ []) (map (place_of class.Outputs) outs)
    (subst (λ (them : List Plugin). same_faults class.Outputs 0 faulty (journal ∷ [])
    (map (place_of class.Outputs) them) ≡ []) none.outs.all none.outs_apart) in
    record {
      inputs = counted_plugins input_of ins (some_plugins ins kinds.NoInput none.some_in) none.ins.are_few;
      outputs = counted_plugins (output_of limits) outs (some_plugins outs kinds.NoOutput none.some_out)
          none.outs.are_few;
      aggs = omega (arith, none.aggs.are_few, length-map aggs agg_of);
      times = All-map HasTimes agg_of aggs (All-from_recursion (λ (plugin : Plugin). HasTimes (agg_of plugin)) aggs
          (all_lined 0 aggs none.aggs.known));
      inputs_apart = subst (IsDistinct bytes_eq) (input_places ins) ins_apart.1;
      outputs_apart = subst (λ (places : List (List ℕ)). IsDistinct bytes_eq (journal ∷ places))
          (output_places limits outs)
          (with_first journal (map (place_of class.Outputs) outs) outs_apart.0 outs_apart.1);
      undelivered = All-map HasUndelivered input_of ins (λ k d l. undelivered (get_or ins k d));
      sizes = All-map HasSizes (output_of limits) outs (All-from_recursion
          (λ (plugin : Plugin). HasSizes (output_of limits plugin)) outs
          (all_sized limits 0 outs (agent_counted agent) none.outs.known none.outs.right));
      gather_pieces = counted 10000 1000 (option_and_then as_integer (get_member (codes "gather_pieces") agent))
          (omega arith, omega arith);
      final_tries = counted 100 3 (option_and_then as_integer (get_member (codes "final_tries") agent))
          (omega arith, omega arith);
      globals = All-from_recursion IsFilled (globals_of (table_at (codes "global_tags") root))
          (tags_filled (table_at (codes "global_tags") root) none.tags);
    }

sound_in : (tree : Option Members) (config : Config) → faults_in tree ≡ [] → option_map config_of tree ≡ Some config
    → IsSound config
sound_in None config e is = cc
sound_in (Some root) config e is = subst IsSound (let same : config_of root ≡ config = cc in
    same) (sound_tree root (faultless root (none_told (faults_of root) e)))

-- the values of a text without faults
pub sound : (text : List ℕ) (config : Config) → text_faults text ≡ []
    → option_map config_of (tree_of text) ≡ Some config → IsSound config
sound text config e is = sound_in (tree_of text) config e is
