use Rattle.std.proofs.Common.{◌∙◌, arith, sym, subst, List}
use Rattle.std.specs.Prelude.{Result}
use Rattle.metric.specs.declared.metric.Content.{Content}
use Rattle.statsd_text.specs.declared.fault.StatsdFault.{StatsdFault}
use Rattle.statsd_text.specs.Reading.{text_reading}
use Rattle.statsd_text.specs.Views.{IsUntold}
use Rattle.statsd_text.proofs.FewTags.{few_limited, many_untold}
use Rattle.statsd_text.proofs.read.text_said.Goals as goal

pub returns-then-len-lt-MOST_TAGS-clause-says : goal.returns-then-len-lt-MOST_TAGS-clause-says
unfolding text_reading
returns-then-len-lt-MOST_TAGS-clause-says c = λ moment.
    let line = c.in_ok-line.line in
    rw (sym c.is_blank.ensures ∙ c.if-is_blank.false) (c.in_ok-line.ensures.says moment
    ∙ few_limited line.name line.tags.items moment line.said
    (omega (arith, c.if-len-lt-MOST_TAGS.true, c.len.ensures, line.tags.ok.0)))

pub returns-else-len-lt-MOST_TAGS-clause-says : goal.returns-else-len-lt-MOST_TAGS-clause-says
unfolding text_reading
returns-else-len-lt-MOST_TAGS-clause-says c = λ moment.
    let line = c.in_ok-line.line in
    rw (sym c.is_blank.ensures ∙ c.if-is_blank.false) (subst (λ (r : Result (List Content) StatsdFault). IsUntold r)
    (sym (c.in_ok-line.ensures.says moment)) (many_untold line.name line.tags.items moment line.said
    (omega (arith, c.if-len-lt-MOST_TAGS.false, c.len.ensures, line.tags.ok.0)) c.in_ok-line.ensures.valued))
