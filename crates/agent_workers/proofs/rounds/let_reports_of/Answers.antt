use Rattle.std.proofs.Common.{◌≡◌, ◌<◌, ◌∙◌, ℕ, length, List, drop, ap, sym, arith, subst, true, false, refl}
use Rattle.std.specs.Prelude.{is_some, slice_get}
use Rattle.account.specs.declared.entry.Report.{Report}
use Rattle.pipeline_core.specs.CoreState.{told_at, CoreState}
use Rattle.agent_workers.proofs.QueueLemmas.{queue_less, queue_none, queue_other}
use Rattle.agent_workers.proofs.RoundSteps.{told_then}
use Rattle.agent_workers.proofs.rounds.let_reports_of.Goals as goal

pub next_report-requires : goal.next_report-requires
next_report-requires c =
    omega (arith, c.requires, ap (λ (s : CoreState). length s.setup.inputs) c.loop.invariant.same)

pub loop-smaller : goal.loop-smaller
loop-smaller c =
    subst (λ (s : CoreState). length (told_at s.told c.args.input) < length (told_at c.loop.core.told c.args.input))
    (sym c.next_report.ensures.after)
    (queue_less c.loop.core.told c.args.input
    (sym (ap is_some c.next_report.ensures.oldest) ∙ sym c.is_some.ensures ∙ c.loop-test.true))

pub loop-preserved : goal.loop-preserved
loop-preserved c = record {
  others = λ k ne. ap (λ (s : CoreState). told_at s.told k) c.next_report.ensures.after
      ∙ queue_other c.loop.core.told c.args.input k (drop 1 (told_at c.loop.core.told c.args.input)) ne
      ∙ c.loop.invariant.others k ne;
  same = told_then c.args.core.now c.loop.core c.next_report.new.self c.loop.invariant.same
      (c.next_report.ensures.after ∙ ap (λ (s : CoreState). record c.loop.core { told = s.told })
      (sym c.next_report.ensures.after));
  stands = λ journal h. c.next_report.ensures.stands journal (c.loop.invariant.stands journal h);
}

pub returns-clause-gone : goal.returns-clause-gone
returns-clause-gone c =
    ap (λ (s : CoreState). told_at s.told c.args.input) c.next_report.ensures.after
    ∙ queue_none c.loop.core.told c.args.input
    (sym (ap is_some c.next_report.ensures.oldest) ∙ sym c.is_some.ensures ∙ c.loop-test.false)

pub returns-clause-others : goal.returns-clause-others
returns-clause-others c = λ k ne. ap (λ (s : CoreState). told_at s.told k) c.next_report.ensures.after
    ∙ queue_other c.loop.core.told c.args.input k (drop 1 (told_at c.loop.core.told c.args.input)) ne
    ∙ c.loop.invariant.others k ne

pub returns-clause-same : goal.returns-clause-same
returns-clause-same c = told_then c.args.core.now c.loop.core c.next_report.new.self c.loop.invariant.same
    (c.next_report.ensures.after ∙ ap (λ (s : CoreState). record c.loop.core { told = s.told })
    (sym c.next_report.ensures.after))

pub returns-clause-stands : goal.returns-clause-stands
returns-clause-stands c = λ journal h. c.next_report.ensures.stands journal (c.loop.invariant.stands journal h)
