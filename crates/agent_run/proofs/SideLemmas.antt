-- The places of both sides: what is left where they are opened, or one isn't, or they are given back.
use Rattle.std.proofs.Common.{◌≡◌, ℕ, List, refl, sym, ◌∙◌, subst, inl, inr}
use Rattle.std.specs.Prelude.{IfErr, IsErrAnd, Result, Ok, Err}
use Rattle.agent_base.specs.Places.{Place, SameAtAll, AreHome, Opens}
use Rattle.agent_base.specs.Views.{WorldView}
use Rattle.agent_config.specs.declared.config.Config.{Config}
use Rattle.agent_run.specs.PlaceLists.{AreOpened, AreGiven, AreRefused, IsLeftUnopened, OnlyIns, OnlyOuts}
use Rattle.agent_run.specs.PlaceLists.{OpensAll, in_places, out_places}
use Rattle.agent_base.specs.Carried.{Carried}
use Rattle.agent_run.specs.declared.places.Unopened.{Unopened}
use Rattle.agent_run.specs.declared.places.Unopened.TheVariants.{Failed, OutOfMemory}
use Rattle.agent_run.proofs.PartLemmas.{go_along, unused_same}
use Rattle.agent_run.proofs.PlaceLemmas.{same_home, unopened_along, unopened_home}

module _ (unopened : Unopened) (ins outs : List (List ℕ)) (old new : WorldView) where
  -- an input place wasn't opened
  pub left_by_ins : AreRefused unopened ins old.ins new.ins → OnlyIns old new → IsLeftUnopened unopened ins outs old new
  left_by_ins r only = go unopened r
    where
      go : (u : Unopened) → AreRefused u ins old.ins new.ins → IsLeftUnopened u ins outs old new
      go (Failed named) h = inl (
        h.0,
        record {
          failed = h.1.failed;
          only = record { others = h.1.others; outs = only.outs; clocks = only.clocks; report = only.report };
        },
      )
      go OutOfMemory h = record { ins = h; outs = only.outs; clocks = only.clocks; report = only.report }

  -- an output place wasn't opened
  left_by_outs : SameAtAll old.ins new.ins → AreRefused unopened outs old.outs new.outs
      → SameAtAll old.clocks new.clocks → new.report ≡ old.report → IsLeftUnopened unopened ins outs old new
  left_by_outs same r clocks report = go unopened r
    where
      go : (u : Unopened) → AreRefused u outs old.outs new.outs → IsLeftUnopened u ins outs old new
      go (Failed named) h = inr (
        h.0,
        record {
          failed = h.1.failed;
          only = record { others = h.1.others; ins = same; clocks = clocks; report = report };
        },
      )
      go OutOfMemory h = record { ins = same; outs = h; clocks = clocks; report = report }

  -- no part is out where one place wasn't opened
  pub left_ins_home : AreHome old.ins → IsLeftUnopened unopened ins outs old new → AreHome new.ins
  left_ins_home home h = go unopened h
    where
      go : (u : Unopened) → IsLeftUnopened u ins outs old new → AreHome new.ins
      go (Failed named) (inl k) = unopened_home named.now old.ins new.ins home
          (record { failed = k.1.failed; others = k.1.only.others })
      go (Failed named) (inr k) = same_home old.ins new.ins home k.1.only.ins
      go OutOfMemory k = same_home old.ins new.ins home k.ins

  pub left_outs_home : AreHome old.outs → IsLeftUnopened unopened ins outs old new → AreHome new.outs
  left_outs_home home h = go unopened h
    where
      go : (u : Unopened) → IsLeftUnopened u ins outs old new → AreHome new.outs
      go (Failed named) (inl k) = same_home old.outs new.outs home k.1.only.outs
      go (Failed named) (inr k) = unopened_home named.now old.outs new.outs home
          (record { failed = k.1.failed; others = k.1.only.others })
      go OutOfMemory k = same_home old.outs new.outs home k.outs

-- what is left of one side, where all of its places were as before before it and after it
refused_along : (unopened : Unopened) (places : List (List ℕ)) (w0 w1 w2 w3 : List ℕ → Place) → SameAtAll w0 w1
    → AreRefused unopened places w1 w2 → SameAtAll w2 w3 → AreRefused unopened places w0 w3
refused_along (Failed named) places w0 w1 w2 w3 before r after =
    (r.0, unopened_along named.now w0 w1 w2 w3 before r.1 after)
refused_along OutOfMemory places w0 w1 w2 w3 before r after = λ q. after q ∙ r q ∙ before q

-- so it is told by a call that stops where the place of an input wasn't opened
pub err_left : {T : Type 0} (result : Result T Unopened) (Q : Unopened → Type 0) (unopened : Unopened)
    → ((x : Unopened) → Q x → x ≡ unopened) → (seen ins outs : List (List ℕ)) (old new : WorldView) → seen ≡ ins
    → IsErrAnd result Q → AreRefused unopened seen old.ins new.ins → OnlyIns old new
    → IfErr result (λ x. IsLeftUnopened x ins outs old new)
err_left (Ok value) Q unopened is seen ins outs old new e h r only = tt
err_left (Err x) Q unopened is seen ins outs old new e h r only =
    left_by_ins x ins outs old new (subst (λ (ps : List (List ℕ)). AreRefused x ps old.ins new.ins) e
    (subst (λ (u : Unopened). AreRefused u seen old.ins new.ins) (sym (is x h)) r)) only

-- the inputs were opened, a place that is written wasn't, and the parts of the inputs were given back
pub written_refused : (unopened : Unopened) (ins outs : List (List ℕ)) (read : List Carried) (w0 w1 w2 w3 : WorldView)
    → AreHome w0.ins → AreOpened ins read w0.ins w1.ins → OnlyIns w0 w1
    → AreRefused unopened outs w1.outs w2.outs → OnlyOuts w1 w2 → AreGiven ins read w2.ins w3.ins → OnlyIns w2 w3
    → IsLeftUnopened unopened ins outs w0 w3
written_refused unopened ins outs read w0 w1 w2 w3 home opened first r second given last =
    left_by_outs unopened ins outs w0 w3 (unused_same ins read w0.ins w1.ins w2.ins w3.ins home opened given second.ins)
    (refused_along unopened outs w0.outs w1.outs w2.outs w3.outs first.outs r last.outs)
    (λ who. last.clocks who ∙ second.clocks who ∙ first.clocks who)
    (last.report ∙ second.report ∙ first.report)

-- all places were opened
pub opens_all : (config : Config) (read written : List Carried) (w0 w1 w2 : WorldView)
    → AreOpened (in_places config) read w0.ins w1.ins → OnlyIns w0 w1
    → AreOpened (out_places config) written w1.outs w2.outs → OnlyOuts w1 w2 → OpensAll config read written w0 w2
opens_all config read written w0 w1 w2 ins first outs second = record {
  inputs = go_along Opens (in_places config) read w0.ins w0.ins w1.ins w2.ins (λ q. refl) ins second.ins;
  outputs = go_along Opens (out_places config) written w0.outs w1.outs w2.outs w2.outs first.outs outs (λ q. refl);
  only = record { clocks = λ who. second.clocks who ∙ first.clocks who; report = second.report ∙ first.report };
}
