use Rattle.std.proofs.Common.{◌≡◌, ◌∙◌, inl, inr}
use Rattle.agent_run.proofs.reporting.report_made.Goals as goal

pub returns-in-Ok-clause-answer : goal.returns-in-Ok-clause-answer
returns-in-Ok-clause-answer g c = λ text made.
    let line : c.as_bytes.result.now ≡ text = c.as_bytes.ensures.value ∙ (rw c.in-Ok.is at made) in
    elim c.report_line.ensures.answer [ inl told ↦ inl (told.0, rw line at told.1) | inr short ↦ inr short ]
