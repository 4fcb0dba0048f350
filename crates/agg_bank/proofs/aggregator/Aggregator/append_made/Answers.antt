use Rattle.std.proofs.Common.{◌≡◌, ◌++◌, ◌∙◌, ◌+ℤ◌, ℤ, true, List, of_z, to_z, ap, subst, sym, rules}
use Rattle.std.proofs.lemmas.Int.{to_z-of_z}
use Rattle.std.proofs.lemmas.List.{append-nil}
use Rattle.std.specs.Int.{w64, w128, int_min}
use Rattle.std.specs.Prelude.{FitsSigned}
use Rattle.metric.specs.declared.metric.Content.{Content}
use Rattle.agg_bank.specs.Bank.{AggMemory, AggStands}
use Rattle.agg_bank.specs.Events.{closing_event}
use Rattle.agg_bank.specs.Fold.{memory_of}
use Rattle.account.specs.AggLines.{IsLine}
use Rattle.agg_bank.specs.Made.{folded, made_by}
use Rattle.agg_bank.specs.Members.{members}
use Rattle.agg_bank.specs.Ready.{closes_at}
use Rattle.agg_bank.specs.Windows.{last_moment}
use Rattle.agg_bank.proofs.AggLemmas.{agg, made_none, made_some}
use Rattle.agg_bank.proofs.aggregator.Aggregator.append_made.Goals as goal

pub returns-then-not-closes : goal.returns-then-not-closes
returns-then-not-closes c = λ aggregator start events stop stands.
    let m = c.args.self.now in
    let line : IsLine m.line = subst (λ (x : AggMemory). IsLine x.line) c.self.view_is c.self.invariant.line in
    sym (ap (λ (more : List Content). c.args.made.now.items ++ more)
    (made_none aggregator m.line start events m.begin m.fold c.args.stopped stop stands line c.args.closing.moment
    c.args.closing.all (sym c.closes.ensures ∙ c.if-not-closes.true))
    ∙ append-nil c.args.made.now.items)

pub returns : goal.returns
returns c = λ aggregator start events stop stands.
    let i = c.self.inside in
    let closing = c.args.closing in
    let those = members aggregator i.line start events in
    let e = closing_event closing.all closing.moment in
    let time_fits : FitsSigned w64 c.end_time-time.result = search rules in
    let begin_fits : FitsSigned w128 i.begin = search rules in
    let s : AggStands aggregator start events (agg i.line i.begin (memory_of i.fold)) =
    subst (AggStands aggregator start events) (sym c.self.view_is) stands in
    let closes : closes_at c.args.stopped (agg i.line i.begin (memory_of i.fold)) closing.moment closing.all ≡ true =
    ap (λ (x : AggMemory). closes_at c.args.stopped x closing.moment closing.all) c.self.view_is
    ∙ sym c.closes.ensures ∙ c.if-not-closes.false in
    let time : to_z w64 (of_z w64 c.end_time-time.result) ≡ int_min (i.begin +ℤ i.line.period) last_moment =
    to_z-of_z w64 c.end_time-time.result time_fits ∙ c.end_time-time.ensures
    ∙ ap (λ (b : ℤ). int_min (b +ℤ i.line.period) last_moment) (to_z-of_z w128 i.begin begin_fits) in
    let more : c.in_ok-more.more.items ≡ made_by aggregator i.line start events e =
    c.in_ok-more.ensures i.line.kind those s.fold
    ∙ ap (λ (time : ℤ). folded i.line.kind time closing those) time
    ∙ sym (made_some aggregator i.line start events i.begin (memory_of i.fold) c.args.stopped stop s
    c.self.invariant.line closing.moment closing.all closes) in
    c.in_ok-append.ensures.items
    ∙ ap (λ (made : List Content). c.args.made.now.items ++ made)
    (more ∙ ap (λ (x : AggMemory). made_by aggregator x.line start events e) c.self.view_is)
