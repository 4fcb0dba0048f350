use Rattle.std.proofs.Common.{ap, refl, false}
use Rattle.metric.proofs.DraftLemmas.{none_yet}
use Rattle.metric.proofs.draft.Draft.of.Goals as goal

pub returns-clause-none : goal.returns-clause-none
returns-clause-none c =
    none_yet (record { parts = c.of.result; too_many = false }) refl (ap (λ b. b.tags) c.of.ensures)
    (ap (λ b. b.fields) c.of.ensures)
