use Rattle.std.proofs.Common.{arith, sym}
use Rattle.agent_config.proofs.TextLemmas.{not_one}
use Rattle.agent_config.proofs.tables.only_item.Goals as goal

pub returns-in-len2-up : goal.returns-in-len2-up
returns-in-len2-up c = sym (not_one c.args.items.now (λ one. omega arith))
