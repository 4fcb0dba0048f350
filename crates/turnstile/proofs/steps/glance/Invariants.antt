use Rattle.std.proofs.Common.{Some}
use Rattle.turnstile.proofs.steps.glance.Given as goal

abbrev pub ghosts-glance_from : goal.ghosts-glance_from
ghosts-glance_from g a = record { start = Some a.table.now.key.0.value }
