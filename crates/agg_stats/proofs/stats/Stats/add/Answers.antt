use Rattle.agg_stats.proofs.stats.Stats.add.Goals as goal

pub returns-clause-ok : goal.returns-clause-ok
returns-clause-ok c = λ kind members stands few.
    c.add_prepared.ensures kind members c.args.m.now (c.prepare.ensures.stands kind members stands)
    c.in_ok-prepare.ensures.ready few
