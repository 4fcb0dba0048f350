use Rattle.std.proofs.Common.{◌≡◌}
use Rattle.turnstile.specs.declared.history.Phase.TheVariants.{Publishing}
use Rattle.turnstile.proofs.steps.publish_all.Given as goal

abbrev pub invariant-loop-dial : goal.invariant-loop-dial
invariant-loop-dial g l = record {
  same_table : (l.seat.table_id ≡ l.fn.seat.table_id) × (l.seat.id ≡ l.fn.seat.id) × (l.seat.me.1 ≡ l.fn.seat.me.1);
  published : l.seat.me.0 ≡ record l.fn.seat.me.0 { phase = Publishing l.dial };
}
