use Rattle.agg_keep.proofs.finals.Final.add.Goals as goal

pub returns-clause-ok : goal.returns-clause-ok
returns-clause-ok c = λ timeout members stands.
    c.add_prepared.ensures timeout members c.args.m.now (c.prepare.ensures.stands timeout members stands)
    c.in_ok-prepare.ensures.ready
