-- The tags of a metric.
use Rattle.std.proofs.Common.{◌≡◌, ℕ, Bool, true, false, List, [], ◌∷◌, ◌++◌, length, refl, append-nil, arith}
use Rattle.std.specs.Prelude.{◌==◌, ◌||◌, codes}
use Rattle.metric.specs.Draft.{Tag}
use Rattle.metric.specs.Pairs.{has_empty_key, with_sorted, in_key_order, in_key_order_on}
use Rattle.metric.proofs.DraftLemmas.{keyed_sorted}
use Rattle.openmetrics_text.specs.Labels.{AreNamed}
use Rattle.openmetrics_text.specs.Reading.{type_tags}
use Rattle.openmetrics_text.proofs.LabelLemmas.{named_more}

pub in_key_order_on_more : (kept front back : List Tag) → in_key_order_on kept (front ++ back) ≡ in_key_order_on
    (in_key_order_on kept front) back
unfolding in_key_order_on
in_key_order_on_more kept [] back = refl
in_key_order_on_more kept (tag ∷ front) back = in_key_order_on_more (with_sorted kept tag.0 tag.1) front back

both_false : (a b : Bool) → (a || b) ≡ false → (a ≡ false) × (b ≡ false)
both_false true b e = absurd cc
both_false false b e = (refl, e)

named_on : (kept given : List Tag) → has_empty_key kept ≡ false → has_empty_key given ≡ false
    → has_empty_key (in_key_order_on kept given) ≡ false
unfolding in_key_order_on
named_on kept [] h k = h
named_on kept (tag ∷ given) h k = let p = both_false (length tag.0 == 0) (has_empty_key given) k in
    named_on (with_sorted kept tag.0 tag.1) given (keyed_sorted kept tag.0 tag.1 p.0 h) p.1

pub named_in_order : (given : List Tag) → has_empty_key given ≡ false → has_empty_key (in_key_order given) ≡ false
named_in_order given h = named_on [] given refl h

pub typed_named : (labels : List Tag) (typed : Bool) (kind : List ℕ) → AreNamed labels
    → has_empty_key (labels ++ type_tags typed kind) ≡ false
typed_named labels true kind h = named_more labels (codes "om_type", kind) h (omega arith)
typed_named labels false kind h = rw append-nil h
