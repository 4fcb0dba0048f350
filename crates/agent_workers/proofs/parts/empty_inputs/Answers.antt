use Rattle.std.proofs.Common.{◌≡◌, ◌∷◌, [], List, subst, ◌∙◌, append_assoc, arith}
use Rattle.std.specs.Prelude.{map}
use Rattle.std.proofs.lemmas.List.{length-append}
use Rattle.std.specs.Vec.Iter.{into_iter_items}
use Rattle.agent_workers.specs.Inputs.{ins_of}
use Rattle.agent_workers.specs.Opened.{in_carried}
use Rattle.agent_workers.specs.declared.input.InJob.{InJob}
use Rattle.agent_workers.proofs.OpenedLemmas.{in_taken, is_one_of, is_all}
use Rattle.agent_workers.proofs.parts.empty_inputs.Goals as goal

pub push_reserved-requires : goal.push_reserved-requires
push_reserved-requires g c =
    let l = c.loop-job in
    let more = is_one_of l.yielded c.in-Some.job _ _ (rw c.in-Some.ensures.steps.0 at l.invariant.whole) in
    omega (arith, more, l.invariant.sources, l.invariant.room, c.args.jobs.ok)

pub loop-job-preserved : goal.loop-job-preserved
loop-job-preserved g c =
    let l = c.loop-job in
    record {
      whole = append_assoc l.yielded (c.in-Some.job ∷ []) _ ∙ rw c.in-Some.ensures.steps.0 at l.invariant.whole;
      taken = rw c.push_reserved.ensures.items (in_taken g.S.Source.told g.C.Clock.told l.sources.items l.yielded
          c.in-Some.job l.invariant.taken);
      sources = omega (
        arith,
        c.push_reserved.ensures.len,
        l.invariant.sources,
        length-append l.yielded (c.in-Some.job ∷ []),
      );
      room = omega (arith, c.push_reserved.ensures.capacity, l.invariant.room);
    }

pub returns : goal.returns
returns g c =
    let l = c.loop-job in
    subst (λ (jobs : List (InJob g.row.S.Denot g.row.C.Denot)). map g.S.Source.told l.sources.items ≡ map in_carried
    (ins_of g.S.Source.told g.C.Clock.told jobs))
    (is_all l.yielded (into_iter_items l.job-iterator) c.args.jobs.items
    (omega (arith, c.in-None.ensures.steps.0, l.job-iterator.rest.ok)) l.invariant.whole) l.invariant.taken
