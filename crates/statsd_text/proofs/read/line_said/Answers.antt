use Rattle.std.proofs.Common.{sym}
use Rattle.std.proofs.lemmas.Result.{err_from_is_err_and}
use Rattle.statsd_text.specs.Views.{sections_view}
use Rattle.statsd_text.proofs.Chains.{sections_fail, head_fails, later_fails, said_fails, metrics_are}
use Rattle.statsd_text.proofs.KeptTags.{keyed_values, values_have}
use Rattle.statsd_text.proofs.read.line_said.Goals as goal

pub returns-in_err-line-clause-says : goal.returns-in_err-line-clause-says
returns-in_err-line-clause-says c =
    let p = err_from_is_err_and c.from_residual.result c.from_residual.ensures.1 in
    rw (p.1, p.2) (λ moment. sections_fail c.in_err-line.field-0.0 c.args.piece.now moment c.in_err-line.ensures.gives)

pub returns-in_err-name-clause-says : goal.returns-in_err-name-clause-says
returns-in_err-name-clause-says c =
    let p = err_from_is_err_and c.from_residual-in_err-name.result c.from_residual-in_err-name.ensures.1 in
    rw (p.1, p.2) (λ moment. head_fails c.in_err-name.field-0.0 c.args.piece.now moment
    (sections_view c.in_ok-line.line) c.in_ok-line.ensures.gives c.in_err-name.ensures.head)

pub returns-in_err-read_later_tags-clause-says : goal.returns-in_err-read_later_tags-clause-says
returns-in_err-read_later_tags-clause-says c =
    let p = err_from_is_err_and c.from_residual-in_err-read_later_tags.result
    c.from_residual-in_err-read_later_tags.ensures.1 in
    let head = c.in_ok-name.ensures.head in
    rw (p.1, p.2) (λ moment. later_fails c.in_err-read_later_tags.field-0.0 c.args.piece.now moment
    (sections_view c.in_ok-line.line) c.in_ok-name.name.now head.0 c.in_ok-line.ensures.gives head.1
    c.in_err-read_later_tags.ensures.tags)

pub returns-in_err-said-clause-says : goal.returns-in_err-said-clause-says
returns-in_err-said-clause-says c =
    let p = err_from_is_err_and c.from_residual-in_err-said.result c.from_residual-in_err-said.ensures.1 in
    let head = c.in_ok-name.ensures.head in
    let later = c.in_ok-read_later_tags.ensures.tags in
    rw (p.1, p.2) (λ moment. said_fails c.in_err-said.field-0.0 c.args.piece.now moment
    (sections_view c.in_ok-line.line) c.in_ok-name.name.now head.0 later.0 c.in_ok-line.ensures.gives head.1 later.1
    c.in_err-said.ensures)

pub returns : goal.returns
returns c =
    let head = c.in_ok-name.ensures.head in
    let later = c.in_ok-read_later_tags.ensures.tags in
    record {
      says = λ moment. rw c.in_ok-name-2.ensures (sym (metrics_are c.args.piece.now moment
          (sections_view c.in_ok-line.line) c.in_ok-name.name.now head.0 later.0 c.in_ok-said.said
          c.new-tags.result.entries c.read_head.new.tags.entries c.read_later_tags.new.tags.entries
          c.in_ok-tags.tags.items
          c.in_ok-line.ensures.gives head.1 later.1 c.in_ok-said.ensures c.new-tags.ensures.empty head.2 later.2
          c.in_ok-tags.ensures));
      named = rw c.in_ok-name-2.ensures c.in_ok-name.ensures.named;
      keyed = rw c.in_ok-tags.ensures (keyed_values c.read_later_tags.new.tags.entries
          c.in_ok-read_later_tags.ensures.keyed);
      valued = rw c.in_ok-tags.ensures (values_have c.read_later_tags.new.tags.entries);
    }
