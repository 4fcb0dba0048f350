use Rattle.openmetrics_text.proofs.SampleLemmas.{more_at}
use Rattle.openmetrics_text.proofs.groups.add_to.Goals as goal

pub returns : goal.returns
returns c = more_at c.args.groups.now.items c.args.index c.index_mut.result.now c.push.new.self c.args.sample c.requires
    c.index_mut.ensures.value c.in_ok-push.ensures.ok
