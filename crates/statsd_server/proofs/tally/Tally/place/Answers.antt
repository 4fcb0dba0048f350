use Rattle.std.proofs.Common.{arith, refl}
use Rattle.statsd_server.specs.TallyView.{memory_of}
use Rattle.statsd_server.proofs.KeepLemmas.{has_stayed}
use Rattle.statsd_server.proofs.tally.Tally.place.Goals as goal

pub returns-in_err-sum-clause-stays : goal.returns-in_err-sum-clause-stays
returns-in_err-sum-clause-stays c =
    has_stayed (memory_of c.args.self.now) _ c.place_series.ensures.same c.place_series.ensures.stays (λ q. refl)
    (λ q at is. is) (λ m. refl) (λ m at is. is) refl (omega arith) refl refl

pub returns-in_err-level-clause-stays : goal.returns-in_err-level-clause-stays
returns-in_err-level-clause-stays c =
    has_stayed (memory_of c.args.self.now) _ c.place_series.ensures.same c.place_series.ensures.stays
    c.place_level.ensures.same c.place_level.ensures.stays (λ m. refl) (λ m at is. is) refl (omega arith) refl refl

pub returns-in_err-member-2-clause-stays : goal.returns-in_err-member-2-clause-stays
returns-in_err-member-2-clause-stays c =
    has_stayed (memory_of c.args.self.now) _ c.place_series.ensures.same c.place_series.ensures.stays
    c.place_level.ensures.same c.place_level.ensures.stays c.place_member.ensures.same c.place_member.ensures.stays
    refl (omega arith) refl refl

pub returns-clause-stays : goal.returns-clause-stays
returns-clause-stays c =
    has_stayed (memory_of c.args.self.now) _ c.place_series.ensures.same c.place_series.ensures.stays
    c.place_level.ensures.same c.place_level.ensures.stays c.place_member.ensures.same c.place_member.ensures.stays
    refl (omega arith) refl refl
