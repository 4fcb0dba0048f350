-- What is sent before more is gathered and before the Stop, with one entry more.
use Rattle.std.proofs.Common.{List, [], ◌∷◌, ◌++◌, sym, subst, append_assoc, append-nil}
use Rattle.account.specs.Setup.{Setup}
use Rattle.account.specs.declared.entry.Entry.{Entry}
use Rattle.pipeline_core.specs.Order.{IsTicked, IsOrderly, AreOrderly, InOrder}
use Rattle.pipeline_core.specs.Windows.{HasNoAggs}

AreOrderly-push : (setup : Setup) (before es : List Entry) (e : Entry) → AreOrderly setup before es
    → IsOrderly setup (before ++ es) e → AreOrderly setup before (es ++ e ∷ [])
unfolding AreOrderly
AreOrderly-push setup before [] e h o = (subst (λ (p : List Entry). IsOrderly setup p e) (append-nil before) o, tt)
AreOrderly-push setup before (d ∷ es) e h o = (
  h.0,
  AreOrderly-push setup (before ++ d ∷ []) es e h.1
      (subst (λ (p : List Entry). IsOrderly setup p e) (sym (append_assoc before (d ∷ []) es)) o),
)

pub in_order-push : (setup : Setup) (journal : List Entry) (e : Entry) → InOrder setup journal
    → IsOrderly setup journal e → InOrder setup (journal ++ e ∷ [])
in_order-push setup journal e h o = AreOrderly-push setup [] journal e h o

-- nothing happened
pub in_order_first : (setup : Setup) → InOrder setup []
unfolding AreOrderly
in_order_first setup = tt

-- without aggregators no Tick has to come
pub ticked_plain : (setup : Setup) (before : List Entry) → HasNoAggs setup → IsTicked setup before
ticked_plain setup before none some = absurd (some none)
