-- Places that were opened and given back.
use Rattle.std.proofs.Common.{◌≡◌, ◌≢◌, ℕ, List, Bool, true, false, refl, sym, ap, ◌∙◌, Option}
use Rattle.std.specs.Str.{bytes_eq}
use Rattle.std.proofs.lemmas.Slice.Eq.{bytes_eq-Decides}
use Rattle.agent_base.specs.Places.{Place, SameAtAll, AreHome}
use Rattle.agent_run.specs.Places.{IsUnopened}

never : false ≡ true → ⊥
never e = cc

-- a fact that holds at one place and at every other holds at each
pub at_each : (P : List ℕ → Type 0) (place : List ℕ) → P place → ((other : List ℕ) → other ≢ place → P other)
    → (q : List ℕ) → P q
at_each P place here there q = go (bytes_eq q place) refl
  where
    go : (b : Bool) → bytes_eq q place ≡ b → P q
    go true e = rw ((bytes_eq-Decides q place).0 e) here
    go false e = there q (λ same. never (sym e ∙ (bytes_eq-Decides q place).1 same))

place_is : (bytes held : Option (List ℕ)) (opens opened faults failed : ℕ) (out is_out : Bool) → bytes ≡ held
    → opens ≡ opened → faults ≡ failed → out ≡ is_out
    → (let p : Place = record { bytes = bytes; open_faults = opens; part_faults = faults; is_out = out } in
    p) ≡ record { bytes = held; open_faults = opened; part_faults = failed; is_out = is_out }
place_is bytes held opens opened faults failed out is_out e f g h = rw (e, f, g, h) refl

-- places of which the same is told are the same
pub same_place : (a b : Place) → a.bytes ≡ b.bytes → a.open_faults ≡ b.open_faults → a.part_faults ≡ b.part_faults
    → a.is_out ≡ b.is_out → a ≡ b
same_place a b e f g h = place_is a.bytes b.bytes a.open_faults b.open_faults a.part_faults b.part_faults a.is_out
    b.is_out e f g h

-- the same, where all places are as before before and after it
pub unopened_along : (place : List ℕ) (w0 w1 w2 w3 : List ℕ → Place) → SameAtAll w0 w1 → IsUnopened place w1 w2
    → SameAtAll w2 w3 → IsUnopened place w0 w3
unopened_along place w0 w1 w2 w3 before h after = record {
  failed = rw (after place, ← before place) h.failed;
  others = λ q ne. after q ∙ h.others q ne ∙ before q;
}

-- a place that wasn't opened isn't out, and neither is any other
pub unopened_home : (place : List ℕ) (old new : List ℕ → Place) → AreHome old → IsUnopened place old new → AreHome new
unopened_home place old new home h =
    at_each (λ q. (new q).is_out ≡ false) place h.failed.is_out (λ q ne. ap (λ (p : Place). p.is_out) (h.others q ne)
    ∙ home q)

pub same_home : (old new : List ℕ → Place) → AreHome old → SameAtAll old new → AreHome new
same_home old new home same = λ q. ap (λ (p : Place). p.is_out) (same q) ∙ home q
