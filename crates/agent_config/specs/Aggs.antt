-- What the aggregators of a configuration are.
use Rattle.std.specs.Prelude.{ℕ, Bool, true, List, codes, Option, Some, None, option_and_then}
use Rattle.toml.specs.Data.{get_member, Members}
use Rattle.account.specs.declared.setup.AggWord.{AggWord}
use Rattle.account.specs.declared.setup.AggWord.TheVariants as words
use Rattle.agent_config.specs.Faults.{texts_in, Plugin}
use Rattle.agent_config.specs.Filters.{filter_of, plugin_members}
use Rattle.agent_config.specs.Keys.{is_one_of}
use Rattle.agent_config.specs.Kinds.{keys_of, kind_of, time_at, truth_at}
use Rattle.agent_config.specs.declared.config.AggConf.{AggConf}
use Rattle.agent_config.specs.declared.fault.Class.TheVariants.{Aggregators}
use Rattle.agent_config.specs.declared.table.Keys.TheVariants as tables
use Rattle.agent_config.specs.declared.table.Kind.{Kind}
use Rattle.agent_config.specs.declared.table.Kind.TheVariants.{BasicStats, Final, Merge}

-- is a statistic among those that are said: each is where none is
abbrev pub is_among : List ℕ → Option (List (List ℕ)) → Bool
is_among name None = true
is_among name (Some texts) = is_one_of texts name

-- is it asked for
unfoldable pub asks : List ℕ → Members → Bool
asks name members = is_among name (option_and_then texts_in (get_member (codes "stats") members))

-- what an aggregator of a kind is; one whose kind isn't known is of least and greatest values
abbrev pub word_of : Option Kind → Members → AggWord
word_of (Some BasicStats) members =
    words.Basic (asks (codes "sum") members) (asks (codes "count") members) (asks (codes "min") members)
    (asks (codes "max") members)
word_of (Some Final) members = words.Final (time_at (tables.Plugin Final) (codes "series_timeout") members)
word_of (Some Merge) _ = words.Merge
word_of kind _ = words.MinMax

abbrev pub agg_of : Plugin → AggConf
agg_of plugin = record {
  filter = filter_of (plugin_members plugin);
  line = record {
    kind = word_of (kind_of Aggregators plugin.name) (plugin_members plugin);
    period = time_at (keys_of Aggregators plugin.name) (codes "period") (plugin_members plugin);
    delay = time_at (keys_of Aggregators plugin.name) (codes "delay") (plugin_members plugin);
    grace = time_at (keys_of Aggregators plugin.name) (codes "grace") (plugin_members plugin);
    dropping = truth_at (keys_of Aggregators plugin.name) (codes "drop_original") (plugin_members plugin);
  };
}
