use Rattle.std.proofs.Common.{Some}
use Rattle.turnstile.proofs.steps.publish.Given as goal

abbrev pub ghosts-find : goal.ghosts-find
ghosts-find g a = record { start = Some a.table.now.key.0.value; value = Some a.new }
