use denote.Enum.Bare.{same_true}
use Rattle.std.proofs.Common.{◌≡◌, ◌<◌, ◌∙◌, true, false, length, sym, ap, subst, arith, rules, below_more}
use Rattle.std.proofs.lemmas.List.{length-map}
use Rattle.std.specs.Prelude.{is_some}
use Rattle.formats.specs.contracts.pieces.InState.{the_type}
use Rattle.agent_workers.specs.Inputs.{in_of, ins_of, IsOut}
use Rattle.formats.specs.declared.pieces.InState.TheVariants as states
use Rattle.agent_workers.proofs.InLemmas.{job_here, none_held}
use Rattle.agent_workers.proofs.input.are_out.Goals.{then-eq-via-then-eq, then-eq-via-else-eq+then-is_some}
use Rattle.agent_workers.proofs.input.are_out.Goals as goal

pub loop-job-preserved : goal.loop-job-preserved
loop-job-preserved g c =
    let b : c.loop-job.job-index < length c.args.inputs.now =
    omega (arith, c.loop-job-test.true, c.loop-job.auto.job-index-end) in
    let at = job_here g.S.Source.told g.C.Clock.told c.args.inputs.now c.loop-job.job-index c.job-item.result b
    c.job-item.is in
    let reading : c.job-item.result.state ≡ states.Reading → ⊥ = search rules in
    let none : is_some c.job-item.result.held ≡ false = search rules in
    let here : IsOut (in_of g.S.Source.told g.C.Clock.told c.job-item.result) =
    record { read = reading; none_held = none_held c.job-item.result.held none } in
    below_more _ _ c.loop-job.invariant (subst IsOut (sym at) here)

-- an input that is read on, or holds something, isn't out
pub returns-then-eq-clause-some : goal.returns-then-eq-clause-some
returns-then-eq-clause-some g c = λ no out.
    let b : c.loop-job.job-index < length c.args.inputs.now =
    omega (arith, c.loop-job-test.true, c.loop-job.auto.job-index-end) in
    let within : c.loop-job.job-index < length (ins_of g.S.Source.told g.C.Clock.told c.args.inputs.now) =
    omega (arith, b, length-map c.args.inputs.now (in_of g.S.Source.told g.C.Clock.told)) in
    let at = job_here g.S.Source.told g.C.Clock.told c.args.inputs.now c.loop-job.job-index c.job-item.result b
    c.job-item.is in
    let here : IsOut (in_of g.S.Source.told g.C.Clock.told c.job-item.result) =
    subst IsOut at (out c.loop-job.job-index within) in
    elim c.then-eq.branch [
      | then-eq-via-then-eq w ↦ here.read (same_true the_type tt _ _ (sym c.eq.ensures ∙ w.if-eq.true))
      | then-eq-via-else-eq+then-is_some w ↦
          let holds : is_some c.job-item.result.held ≡ true = search rules in
          let e : true ≡ false = sym holds ∙ ap is_some here.none_held in
          absurd cc
    ]
