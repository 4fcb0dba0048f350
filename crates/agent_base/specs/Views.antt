-- What a world tells, in one record, and what a call leaves of it.
use Rattle.std.specs.Prelude.{◌≡◌, ℕ, List, Contains, Option}
use Rattle.agent_base.specs.Moments.{Moments}
use Rattle.agent_base.specs.Places.{Place, Rest, SameBut, SameAtAll}

-- what is told of each input place, of each output place, of each clock by its number, and of the report
pub record WorldView : Type 0 where
  pub ins : List ℕ → Place
  pub outs : List ℕ → Place
  pub clocks : ℕ → Option Moments
  pub report : Rest

-- all is the same but at these places
abbrev pub SameButAt : {K X : Type 0} → List K → (K → X) → (K → X) → Type 0
SameButAt {K} places old new = (other : K) → (Contains places other → ⊥) → new other ≡ old other

-- an input place changed at most
pub record OnlyIn (place : List ℕ) (old new : WorldView) : Type 0 where
  pub others : SameBut place old.ins new.ins
  pub outs : SameAtAll old.outs new.outs
  pub clocks : SameAtAll old.clocks new.clocks
  pub report : new.report ≡ old.report

-- an output place changed at most
pub record OnlyOut (place : List ℕ) (old new : WorldView) : Type 0 where
  pub others : SameBut place old.outs new.outs
  pub ins : SameAtAll old.ins new.ins
  pub clocks : SameAtAll old.clocks new.clocks
  pub report : new.report ≡ old.report

-- a clock was taken at most
pub record OnlyClock (who : ℕ) (old new : WorldView) : Type 0 where
  pub others : SameBut who old.clocks new.clocks
  pub ins : SameAtAll old.ins new.ins
  pub outs : SameAtAll old.outs new.outs
  pub report : new.report ≡ old.report

-- the report changed at most
pub record OnlyReport (old new : WorldView) : Type 0 where
  pub ins : SameAtAll old.ins new.ins
  pub outs : SameAtAll old.outs new.outs
  pub clocks : SameAtAll old.clocks new.clocks
