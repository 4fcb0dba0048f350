use Rattle.std.proofs.Common.{◌∙◌, rules}
use Rattle.agent_run.proofs.CheckLemmas.{taken_more}
use Rattle.agent_run.proofs.reading.fill.Goals as goal

pub loop-len-preserved : goal.loop-len-preserved
loop-len-preserved g c =
    record {
      room = c.read_from.ensures.len ∙ c.loop-len.invariant.room;
      within = search rules;
      taken = taken_more (g.S.Source.told c.args.src.now).bytes (g.S.Source.told c.loop-len.src).bytes
          (g.S.Source.told c.read_from.new.src).bytes c.loop-len.buf c.read_from.new.buf c.loop-len.len c.in-Ok.n
          c.loop-len.invariant.taken c.read_from.ensures.before c.in-Ok.ensures.bytes.0;
      later = search rules;
    }
