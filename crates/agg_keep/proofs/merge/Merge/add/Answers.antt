use Rattle.agg_keep.proofs.merge.Merge.add.Goals as goal

pub returns-clause-ok : goal.returns-clause-ok
returns-clause-ok c = λ members stands.
    c.add_prepared.ensures members c.args.m.now (c.prepare.ensures.stands members stands) c.in_ok-prepare.ensures.ready
