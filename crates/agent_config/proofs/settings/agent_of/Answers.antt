use Rattle.std.proofs.Common.{refl, rules, w64}
use Rattle.std.proofs.lemmas.Int.{to_z-of_z}
use Rattle.agent_config.proofs.settings.agent_of.Goals as goal

pub returns : goal.returns
returns c =
    let same = to_z-of_z w64 c.in_ok-time_at.field-0 (search rules) in
    rw (
      same,
      c.agent_number.ensures,
      c.agent_number-2.ensures,
      c.in_ok-time_at.ensures,
      c.truth_at.ensures,
      c.truth_at-2.ensures,
      c.in_ok-of.ensures,
      c.journal_of.ensures,
    ) refl
