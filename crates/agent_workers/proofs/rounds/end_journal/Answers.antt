use Rattle.agent_workers.proofs.StandingLemmas.{cut_whole}
use Rattle.agent_workers.proofs.rounds.end_journal.Goals as goal

pub end-requires : goal.end-requires
end-requires g c = cut_whole c.args.core.now c.in_ok-entries.entries.items c.in_ok-entries.ensures.entries
    c.requires.rests.stands
