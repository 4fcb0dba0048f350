use Rattle.std.proofs.Common.{ap, subst, sym, ◌∙◌}
use Rattle.std.specs.Prelude.{nat_lt}
use Rattle.metric.specs.Draft.{Drafted, StandsFor}
use Rattle.metric.proofs.DraftLemmas.{full_tag, one_tag}
use Rattle.metric.proofs.draft.Draft.tag.Goals as goal

pub returns-then-self-clause-ok : goal.returns-then-self-clause-ok
returns-then-self-clause-ok c = λ tags fields s.
    full_tag c.args.self.now tags fields (c.args.key.now, c.args.value.now) (ap (λ d. d.too_many) (sym c.self.view_is)
    ∙ c.if-self.true) s

pub returns-clause-ok : goal.returns-clause-ok
returns-clause-ok c = λ tags fields s.
    let old : Drafted = record { parts = c.self.inside.builder; too_many = c.self.inside.too_many } in
    let new : Drafted = record { parts = c.tag.new.self; too_many = nat_lt 64 c.tag_count.result } in
    one_tag old new tags fields (c.args.key.now, c.args.value.now) c.if-self.false c.requires c.in_ok-tag.ensures.ok
    (ap (nat_lt 64) c.tag_count.ensures)
    (subst (λ (d : Drafted). StandsFor d tags fields) (sym c.self.view_is) s)
