use Rattle.std.proofs.Common.{refl, rules, w64}
use Rattle.std.proofs.lemmas.Int.{to_z-of_z}
use Rattle.agent_config.proofs.aggs.AggConfOfPlugin.of.Goals as goal

pub returns : goal.returns
returns c =
    let period = to_z-of_z w64 c.in_ok-time_at.field-0 (search rules) in
    let delay = to_z-of_z w64 c.in_ok-time_at-2.field-0 (search rules) in
    let grace = to_z-of_z w64 c.in_ok-time_at-3.field-0 (search rules) in
    rw (
      period,
      delay,
      grace,
      c.in_ok-filter_of.ensures,
      c.in_ok-word_of.ensures,
      c.in_ok-time_at.ensures,
      c.in_ok-time_at-2.ensures,
      c.in_ok-time_at-3.ensures,
      c.truth_at.ensures,
      c.keys_of-keys.ensures,
      c.kind_of-kind.ensures,
      c.members_in-table.ensures,
    ) refl
