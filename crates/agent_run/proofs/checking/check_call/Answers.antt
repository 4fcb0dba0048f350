use Rattle.std.proofs.Common.{◌∙◌, sym, subst}
use Rattle.agent_base.specs.Places.{Place, Rest, SameBut}
use Rattle.agent_run.specs.Checking.{TakesAtMost, most_taken}
use Rattle.agent_run.specs.Configured.{IsUnready}
use Rattle.agent_run.proofs.RunCallLemmas.{Tells, opens_same, read_checks, unread_checks, unread_opened}
use Rattle.agent_run.proofs.checking.check_call.Goals as goal

pub returns-in-Ok-clause-checked : goal.returns-in-Ok-clause-checked
returns-in-Ok-clause-checked g c =
    let place = c.args.place.now in
    let old = g.W.World.view c.args.world.now in
    let last = g.W.World.view c.report_ok.new.world in
    record {
      answer = read_checks c.report_ok.result place c.in-Ok._config old (g.W.World.view c.config_at.new.world) last
          c.in-Ok.ensures.read c.report_ok.ensures.only.ins c.report_ok.ensures.answer;
      taken = subst (λ (p : Place). TakesAtMost most_taken (old.ins place).bytes p.bytes)
          (sym (c.report_ok.ensures.only.ins place)) c.config_at.ensures.taken;
      opened = λ shut short.
          opens_same place old (g.W.World.view c.config_at.new.world) last c.in-Ok.ensures.read.opens
          c.in-Ok.ensures.read.only c.report_ok.ensures.only.ins c.report_ok.ensures.only.outs;
      other_ins = λ q ne. c.report_ok.ensures.only.ins q ∙ c.config_at.ensures.only.others q ne;
      outs = λ q. c.report_ok.ensures.only.outs q ∙ c.config_at.ensures.only.outs q;
      clocks = λ who. c.report_ok.ensures.only.clocks who ∙ c.config_at.ensures.only.clocks who;
    }

pub returns-in-Err-clause-checked : goal.returns-in-Err-clause-checked
returns-in-Err-clause-checked g c =
    let place = c.args.place.now in
    let old = g.W.World.view c.args.world.now in
    let last = g.W.World.view c.report_unread.new.world in
    let unread = c.in-Err.unread in
    let but : SameBut place old.ins last.ins = λ q ne. c.report_unread.ensures.only.ins q
    ∙ c.config_at.ensures.only.others q ne in
    record {
      answer = unread_checks c.report_unread.result unread place old.ins last.ins old.report last.report
          (subst (λ (p : Place). IsUnready unread (old.ins place) p) (sym (c.report_unread.ensures.only.ins place))
          c.in-Err.ensures.unread)
          but (subst (λ (r : Rest). Tells c.report_unread.result unread place r last.report)
          c.config_at.ensures.only.report c.report_unread.ensures.answer);
      taken = subst (λ (p : Place). TakesAtMost most_taken (old.ins place).bytes p.bytes)
          (sym (c.report_unread.ensures.only.ins place)) c.config_at.ensures.taken;
      opened = λ shut short.
          let mid = g.W.World.view c.config_at.new.world in
          let is =
          unread_opened c.report_unread.result unread place mid.report last.report c.report_unread.ensures.answer
          shut short in
          opens_same place old mid last (c.in-Err.ensures.opens is) c.config_at.ensures.only
          c.report_unread.ensures.only.ins c.report_unread.ensures.only.outs;
      other_ins = but;
      outs = λ q. c.report_unread.ensures.only.outs q ∙ c.config_at.ensures.only.outs q;
      clocks = λ who. c.report_unread.ensures.only.clocks who ∙ c.config_at.ensures.only.clocks who;
    }
