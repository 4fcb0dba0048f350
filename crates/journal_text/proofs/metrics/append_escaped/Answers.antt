use Rattle.text_parts.proofs.Adding.{fails}
use Rattle.journal_text.proofs.MetricLemmas.{extends_by, extends_trans, IsCut, behind_front, escaped_end}
use Rattle.journal_text.proofs.MetricLemmas.{escaped_more}
use Rattle.journal_text.proofs.metrics.append_escaped.Goals as goal

pub returns-in-None : goal.returns-in-None
returns-in-None c =
    let cut : IsCut c.loop-b.rest.now c.plain_len.result c.split_at.result.0.now c.split_at.result.1.now =
    record { plain = c.plain_len.ensures.plain; front = c.split_at.ensures.front; back = c.split_at.ensures.back } in
    escaped_end cut c.in-None.ensures.cases _ _ _ c.loop-b.invariant.done c.in_ok-extend_from_slice.ensures.items

pub append_escape-requires : goal.append_escape-requires
append_escape-requires c =
    let cut : IsCut c.loop-b.rest.now c.plain_len.result c.split_at.result.0.now c.split_at.result.1.now =
    record { plain = c.plain_len.ensures.plain; front = c.split_at.ensures.front; back = c.split_at.ensures.back } in
    behind_front cut _ _ c.in-Some.ensures.cases.0

pub loop-b-preserved : goal.loop-b-preserved
loop-b-preserved c =
    let cut : IsCut c.loop-b.rest.now c.plain_len.result c.split_at.result.0.now c.split_at.result.1.now =
    record { plain = c.plain_len.ensures.plain; front = c.split_at.ensures.front; back = c.split_at.ensures.back } in
    record {
      done = escaped_more cut _ _ c.in-Some.ensures.cases.0 _ _ _ _ c.loop-b.invariant.done
          c.in_ok-extend_from_slice.ensures.items c.in_ok-append_escape-in-Some.ensures;
      kept = extends_trans _ c.extend_from_slice.new.self.items _
          (extends_trans _ c.loop-b.out.items _ c.loop-b.invariant.kept
          (extends_by _ _ _ c.in_ok-extend_from_slice.ensures.items))
          (extends_by _ _ _ c.in_ok-append_escape-in-Some.ensures);
    }

pub returns-in_err-append_escape-in-Some : goal.returns-in_err-append_escape-in-Some
returns-in_err-append_escape-in-Some c =
    fails _ _ _ _ c.from_residual-in_err-append_escape-in-Some.ensures.0
    (extends_trans _ c.extend_from_slice.new.self.items _ (extends_trans _ c.loop-b.out.items _ c.loop-b.invariant.kept
    (extends_by _ _ _ c.in_ok-extend_from_slice.ensures.items)) c.in_err-append_escape-in-Some.ensures)
