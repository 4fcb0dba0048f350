use Rattle.std.proofs.Common.{◌≡◌, Some}
use Rattle.turnstile.proofs.waiting.acquire.Given as goal

abbrev pub invariant-loop : goal.invariant-loop
invariant-loop g l =
    (goal.iterator-loop g).can_next l.iterator' × (goal.iterator-loop g).is_finite l.iterator'
    × (l.seat.table_id ≡ l.fn.seat.table_id) × (l.seat.id ≡ l.fn.seat.id) × (l.seat.me ≡ l.fn.seat.me)

abbrev pub ghosts-try_acquire : goal.ghosts-try_acquire
ghosts-try_acquire g a = record { start = Some a.table.now.key.0.value }
