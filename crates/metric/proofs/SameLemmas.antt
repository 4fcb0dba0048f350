-- Contents that compare as equal are the same.
use Rattle.std.proofs.Common.{◌≡◌, ℤ, Bool, refl, sym, ap, ◌∙◌, rules}
use Rattle.std.specs.Bool.{Decides, IsTrue}
use Rattle.std.specs.Prelude.{◌↔◌, ◌&&◌}
use Rattle.std.specs.Ordering.{int_eq}
use Rattle.std.proofs.lemmas.Slice.Eq.{bytes_eq-Decides, slice_eq-Decides}
use Rattle.std.proofs.lemmas.Bool.Decides.{Decides-and}
use Rattle.metric.specs.declared.value.Value.{Value}
use Rattle.metric.specs.declared.metric.Content.{Content}
use Rattle.metric.specs.contracts.metric.ContentPartialEq.TheImpl.{eq-value}
use Rattle.metric.specs.contracts.value.ValuePartialEq.TheImpl as value

value_same : (a b : Value) → Decides (value.eq-value.it a b) (a ≡ b)
value_same a b = search rules

module _ {A B : Type 0} {E : A → A → Bool} {F : B → B → Bool} (first : (a b : A) → Decides (E a b) (a ≡ b))
    (second : (a b : B) → Decides (F a b) (a ≡ b)) where
  pair_same : (p q : A × B) → Decides (E p.0 q.0 && F p.1 q.1) (p ≡ q)
  pair_same p q =
      let both = Decides-and (E p.0 q.0) (F p.1 q.1) (first p.0 q.0) (second p.1 q.1) in
      (λ e. let h = both.0 e in λ i. (h.0 i, h.1 i), λ e. both.1 (ap (λ (x : A × B). x.0) e, ap (λ (x : A × B). x.1) e))

time_same : (a b : ℤ) → Decides (int_eq a b) (a ≡ b)
time_same a b = search rules

parts_same : (a b : Content) → Decides (eq-value.it a b) ((a.name ≡ b.name)
    × ((a.tags ≡ b.tags) × ((a.fields ≡ b.fields) × (a.time ≡ b.time))))
parts_same a b =
    Decides-and _ _ (bytes_eq-Decides a.name b.name)
    (Decides-and _ _ (slice_eq-Decides (pair_same bytes_eq-Decides bytes_eq-Decides) a.tags b.tags _ refl)
    (Decides-and _ _ (slice_eq-Decides (pair_same bytes_eq-Decides value_same) a.fields b.fields _ refl)
    (time_same a.time b.time)))

pub same : (a b : Content) (r : Bool) → r ≡ eq-value.it a b → IsTrue r ↔ (a ≡ b)
same a b r e =
    let parts = parts_same a b in (
      λ t. let h = parts.0 (sym e ∙ t) in λ i. record {
        name = h.0 i;
        tags = h.1.0 i;
        fields = h.1.1.0 i;
        time = h.1.1.1 i;
      },
      λ t. e ∙ parts.1 (
        ap (λ (c : Content). c.name) t,
        (
          ap (λ (c : Content). c.tags) t,
          (ap (λ (c : Content). c.fields) t, ap (λ (c : Content). c.time) t),
        ),
      ),
    )
