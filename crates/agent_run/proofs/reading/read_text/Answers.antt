use Rattle.std.proofs.Common.{ℕ, ◌∙◌, subst}
use Rattle.agent_run.specs.Checking.{TakesAtMost}
use Rattle.agent_run.proofs.CheckLemmas.{takes_text}
use Rattle.agent_run.proofs.reading.read_text.Goals as goal

pub returns-in-Ok-fill_text-clause-text : goal.returns-in-Ok-fill_text-clause-text
returns-in-Ok-fill_text-clause-text g c =
    takes_text (g.S.Source.told c.args.src.now).bytes (g.S.Source.told c.fill_text.new.src).bytes
    c.fill_text.new.text.items c.truncate.new.self.items c.in-Ok-fill_text.len
    (c.fill_text.ensures.len ∙ c.in-Ok.ensures) c.in-Ok-fill_text.ensures.filled c.truncate.ensures.items

pub returns-in-Ok-fill_text-clause-taken : goal.returns-in-Ok-fill_text-clause-taken
returns-in-Ok-fill_text-clause-taken g c =
    subst (λ (most : ℕ). TakesAtMost most (g.S.Source.told c.args.src.now).bytes
    (g.S.Source.told c.fill_text.new.src).bytes) c.in-Ok.ensures c.fill_text.ensures.taken
