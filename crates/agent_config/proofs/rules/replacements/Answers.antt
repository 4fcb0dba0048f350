use Rattle.std.proofs.Common.{subst, sym}
use Rattle.std.specs.List.{All}
use Rattle.proc_edit.specs.Rename.{HasDest}
use Rattle.agent_config.specs.Seen.{tables_view}
use Rattle.agent_config.proofs.RuleLemmas.{have_dests}
use Rattle.agent_config.proofs.rules.replacements.Goals as goal

pub returns-clause-dests : goal.returns-clause-dests
returns-clause-dests c =
    subst (All HasDest) (sym c.in_ok-rules.ensures) (have_dests (tables_view c.as_slice.result.now))
