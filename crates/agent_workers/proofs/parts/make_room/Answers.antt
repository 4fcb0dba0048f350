use Rattle.std.proofs.Common.{◌≡◌, ◌∙◌, ℤ, List, [], ap, sym, subst}
use Rattle.std.proofs.lemmas.Int.{to_z-of_z}
use mir.Syntax.{w64}
use mir.Val.{of_z, to_z}
use Rattle.agent_workers.specs.Job.{job_of, journal_setup_of, setup_of}
use Rattle.agent_workers.specs.Opened.{IsNewCore}
use Rattle.proc_chain.specs.Chain.{IsBehind, StageState}
use Rattle.proc_chain.specs.declared.step.Step.{Step}
use Rattle.agent_workers.proofs.parts.make_room.Goals as goal

pub returns-clause-core : goal.returns-clause-core
returns-clause-core g c =
    let same_start : to_z w64 (of_z w64 c.args.start) ≡ c.args.start = to_z-of_z w64 c.args.start c.ranges.start in
    subst (IsNewCore c.args.config.now c.args.start) (sym c.core.view_is)
    (subst (λ (m : ℤ). IsNewCore c.args.config.now m c.in_ok-core.core) same_start c.in_ok-core.ensures)

pub returns-clause-chain : goal.returns-clause-chain
returns-clause-chain g c =
    subst (λ (chain : List StageState). IsBehind c.args.config.now.steps [] chain) (sym c.chain.view_is)
    (subst (λ (steps : List Step). IsBehind steps [] c.in_ok-chain.chain) c.as_slice.ensures c.in_ok-chain.ensures)

pub returns-clause-about : goal.returns-clause-about
returns-clause-about g c =
    let same_start : to_z w64 (of_z w64 c.args.start) ≡ c.args.start = to_z-of_z w64 c.args.start c.ranges.start in
    c.in_ok-about.ensures ∙ ap (λ (m : ℤ). journal_setup_of (setup_of (job_of c.args.config.now) m)) same_start
