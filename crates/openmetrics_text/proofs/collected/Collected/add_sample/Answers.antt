use Rattle.std.proofs.Common.{◌≡◌, ◌+◌, ◌-◌, ◌^◌, ◌∙◌, Bool, true, List, min, refl, sym, ap, subst}
use Rattle.metric.specs.Draft.{Tag}
use Rattle.openmetrics_text.specs.declared.collected.Collected.{Collected}
use Rattle.openmetrics_text.specs.declared.types.Types.{Types}
use Rattle.openmetrics_text.specs.TypeViews.{HaveTypes}
use Rattle.openmetrics_text.specs.Types.{types_in}
use Rattle.openmetrics_text.specs.Views.{sample_view}
use Rattle.openmetrics_text.proofs.SaidLemmas.{said_metric, said_passed, said_out}
use Rattle.openmetrics_text.proofs.collected.Collected.add_sample.Goals as goal

pub returns-in_ok-push-in-Decimal : goal.returns-in_ok-push-in-Decimal
returns-in_ok-push-in-Decimal c = λ lines moment typed h.
    said_metric moment typed c.args.self.now _ lines
    (sample_view c.args.sample.now) c.in-Decimal.number c.in_ok-metric-in-Decimal.metric c.kind_of-kind.result.now h
    (refl, refl) c.in-Decimal.is (c.kind_of-kind.ensures lines moment typed h)
    (rw (h.at_moment, h.with_types) at c.in_ok-metric-in-Decimal.ensures) c.in_ok-push-in-Decimal.ensures.items refl
    refl h.types

-- the types that were before
types_stay : (old new : Collected) (typed : Bool) (pairs : List Tag) → new.types ≡ old.types
    → (typed ≡ true → HaveTypes old.types pairs) → typed ≡ true → HaveTypes new.types pairs
types_stay old new typed pairs same h e = subst (λ (types : Types). HaveTypes types pairs) (sym same) (h e)

pub returns-in-NoDecimal : goal.returns-in-NoDecimal
returns-in-NoDecimal c = λ lines moment typed h.
    let p = c.pass.ensures in
    said_passed moment typed c.args.self.now c.pass.new.self lines (sample_view c.args.sample.now) h
    (ap (λ (n : Collected). n.moment) p, ap (λ (n : Collected). n.typed) p) c.in-NoDecimal.is
    (ap (λ (n : Collected). n.metrics.items) p) (ap (λ (n : Collected). n.passed) p)
    (ap (λ (n : Collected). n.out_of_range) p)
    (types_stay c.args.self.now c.pass.new.self typed (types_in lines) (ap (λ (n : Collected). n.types) p) h.types)

pub returns-in-OutOfRange : goal.returns-in-OutOfRange
returns-in-OutOfRange c = λ lines moment typed h.
    let p = c.pass-in-OutOfRange.ensures in
    said_out moment typed c.args.self.now _ lines (sample_view c.args.sample.now) h
    (ap (λ (n : Collected). n.moment) p, ap (λ (n : Collected). n.typed) p) c.in-OutOfRange.is
    (ap (λ (n : Collected). n.metrics.items) p) (ap (λ (n : Collected). n.passed) p)
    (c.saturating_add-self.ensures ∙ ap (λ (n : Collected). min (n.out_of_range + 1) (2 ^ 32 - 1)) p)
    (types_stay c.args.self.now c.pass-in-OutOfRange.new.self typed (types_in lines)
    (ap (λ (n : Collected). n.types) p) h.types)
