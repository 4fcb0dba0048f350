use Rattle.std.proofs.Common.{◌≡◌, ◌≤◌, ◌-◌}
use Rattle.std.specs.Io.KnownBytes.{Keeps}
use Rattle.statsd_server.specs.Datagrams.{TakesAtMost}
use Rattle.statsd_server.specs.Receiving.{rule_of, told_text, turns_of}
use Rattle.statsd_server.specs.Stages.{IsClear}
use Rattle.statsd_server.proofs.receiving.Receiving.receive.Given as goal

abbrev pub invariant-loop-self : goal.invariant-loop-self
invariant-loop-self g l = record {
  same : Keeps (told_text l.fn.self (g.D.Datagrams.told l.fn.datagrams).left)
      (told_text l.self (g.D.Datagrams.told l.datagrams).left);
  count : (g.D.Datagrams.told l.datagrams).faults ≡ (g.D.Datagrams.told l.fn.datagrams).faults;
  clear : IsClear l.self.stage;
  turns : turns_of l.self ≤ turns_of l.fn.self;
  few : TakesAtMost (turns_of l.fn.self - turns_of l.self) (g.D.Datagrams.told l.fn.datagrams).left
      (g.D.Datagrams.told l.datagrams).left;
  rule : rule_of l.self ≡ rule_of l.fn.self;
}

abbrev pub decreases-loop-self : goal.decreases-loop-self
decreases-loop-self g l = turns_of l.self
