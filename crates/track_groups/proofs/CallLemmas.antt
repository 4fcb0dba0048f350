-- A group that is gone stays so.
use Rattle.std.proofs.Common.{◌≡◌, ℕ, ◌≢◌, [], ◌∷◌, Option, Some, None, IsSome, refl, sym, ◌∙◌}
use Rattle.std.proofs.Common.{ap, subst, inl, inr, arith}
use Rattle.std.specs.Option.{option_map_or}
use Rattle.std.specs.Prelude.{option_map}
use Rattle.std.proofs.lemmas.Bool.{cases_eq}
use Rattle.track_groups.specs.declared.group.LiveGroup.{LiveGroup}
use Rattle.track_groups.specs.Tracker.{TrackerState, live_group, IsLive, copies_of, after_hold}
use Rattle.track_groups.specs.Tracker.{after_settle, held, settled}
use Rattle.track_groups.specs.Calls.{TrackerCall, Starting, Holding, Settling, after_call, after_calls}
use Rattle.track_groups.specs.Calls.{IsGone, StaysGone}
use Rattle.track_groups.proofs.StepLemmas.{after_start_others, hold_group, hold_others, settle_group, settle_others}

none_from : (o : Option LiveGroup) → (IsSome o → ⊥) → o ≡ None
none_from (Some x) n = absurd (n refl)
none_from None n = refl

none_stays : (o p : Option LiveGroup) → p ≡ o → o ≡ None → IsSome p → ⊥
none_stays o p e none live = grind (arith, e ∙ none)

none_waits : (state : TrackerState) (g : ℕ) → live_group state g ≡ None → copies_of state g ≢ 1
none_waits state g none e =
    let zero : copies_of state g ≡ 0 =
    ap (λ (o : Option LiveGroup). option_map_or (λ group. group.copies) o 0) none
    in
    omega arith

gone_after : (state : TrackerState) (g : ℕ) (call : TrackerCall) → IsGone state g → IsGone (after_call state call) g
gone_after state g (Starting input copies) gone = (
  omega arith,
  none_stays _ _ (after_start_others state g input copies (λ e. omega arith)) (none_from _ gone.1),
)
gone_after state g (Holding h more) gone =
    let none : live_group state g ≡ None = none_from _ gone.1 in (
      gone.0,
      elim (cases_eq g h) [
        | inl same ↦
            subst (λ k. live_group state k ≡ None → IsLive (after_hold state h more) k → ⊥) (sym same)
            (λ n. none_stays _ _ (hold_group state h more) (ap (option_map (held more)) n)) none
        | inr other ↦ none_stays _ _ (hold_others state h more g other) none
      ],
    )
gone_after state g (Settling h rejected) gone =
    let none : live_group state g ≡ None = none_from _ gone.1 in (
      gone.0,
      elim (cases_eq g h) [
        | inl same ↦
            subst (λ k. live_group state k ≡ None → IsLive (after_settle state h rejected) k → ⊥) (sym same)
            (λ n. none_stays _ _ (settle_group state h rejected (none_waits state h n))
            (ap (option_map (settled rejected)) n)) none
        | inr other ↦ none_stays _ _ (settle_others state h g rejected other) none
      ],
    )

pub stays_gone : StaysGone
unfolding after_calls
stays_gone state g [] gone = gone
stays_gone state g (call ∷ calls) gone = stays_gone (after_call state call) g calls (gone_after state g call gone)
