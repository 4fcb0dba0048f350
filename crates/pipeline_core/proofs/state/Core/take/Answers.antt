use Rattle.std.proofs.Common.{◌≡◌, ◌<◌, ℕ, false, length, Option, Some, None, refl, ap, sym, ◌∙◌, subst, rules, arith}
use Rattle.std.specs.Option.{is_some}
use Rattle.std.proofs.lemmas.Grind.{common_steps}
use Rattle.account.specs.declared.entry.Entry.TheVariants.{Take}
use Rattle.pipeline_core.specs.CoreState.{CoreState, GroupsAgree}
use Rattle.pipeline_core.specs.Stands.{HasJournal}
use Rattle.pipeline_core.proofs.JournalKept.{has_next}
use Rattle.pipeline_core.proofs.StandsSteps.{take_stands}
use Rattle.pipeline_core.specs.CoreView.{core_state}
use Rattle.pipeline_core.proofs.Keeping.{kept_take, flights-le}
use Rattle.pipeline_core.proofs.state.Core.take.Goals as goal

-- a test for something that came out false
none_from : (held : Option ℕ) → is_some held ≡ false → held ≡ None
none_from None e = refl
none_from (Some item) e = absurd cc

pub invariant_of-self-2 : goal.invariant_of-self-2
invariant_of-self-2 c =
    let empty : c.self.inside.held ≡ None = none_from c.self.inside.held (sym c.is_some.ensures ∙ c.if-is_some.false) in
    let some : 0 < length c.self.inside.raw.items = grind (arith, common_steps) in
    let groups = c.self.invariant.groups in
    record {
      core = rw c.pop_front.ensures.rest (kept_take (core_state c.self.inside) _ c.self.invariant.core empty some);
      groups = record {
        known = groups.known;
        tracks = groups.tracks;
        limits = groups.limits;
        few = groups.few;
        told_count = groups.told_count;
      };
      told = has_next c.args.self.now _ (Take c.args.self.now.taken)
          (take_stands c.args.self.now _ (search rules) (subst GroupsAgree c.self.view_is groups)
          (ap (λ (s : CoreState). s.held) (sym c.self.view_is) ∙ empty)
          (omega (arith, some, ap (λ (s : CoreState). length s.raw) c.self.view_is)))
          (subst HasJournal c.self.view_is c.self.invariant.told);
      spare = omega (arith, flights-le c.self.inside.outputs.items, c.in-Ok.ensures.room);
      places = c.self.invariant.places;
    }

pub returns-clause-stands : goal.returns-clause-stands
returns-clause-stands c =
    let empty : c.self.inside.held ≡ None = none_from c.self.inside.held (sym c.is_some.ensures ∙ c.if-is_some.false) in
    let some : 0 < length c.self.inside.raw.items = grind (arith, common_steps) in
    take_stands c.args.self.now _ (search rules) (subst GroupsAgree c.self.view_is c.self.invariant.groups)
    (ap (λ (s : CoreState). s.held) (sym c.self.view_is) ∙ empty)
    (omega (arith, some, ap (λ (s : CoreState). length s.raw) c.self.view_is))
