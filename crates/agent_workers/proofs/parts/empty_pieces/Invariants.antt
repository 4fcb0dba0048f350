use Rattle.std.proofs.Common.{◌≡◌, take}
use Rattle.agent_workers.specs.Opened.{empty_hands}
use Rattle.agent_workers.proofs.parts.empty_pieces.Given as goal

abbrev pub invariant-loop-conf : goal.invariant-loop-conf
invariant-loop-conf l = l.pieces.items ≡ empty_hands (take l.conf-index l.confs)
