-- The configuration of a pipe has no fault.
use Rattle.std.proofs.Common.{◌≡◌, ◌≢◌, ◌≤◌, ℕ, zero, suc, Bool, true, false, List, [], ◌∷◌, refl, sym, arith}
use Rattle.std.specs.List.{All, IsDistinct}
use Rattle.std.specs.Str.{bytes_eq}
use Rattle.std.proofs.lemmas.Slice.Eq.{bytes_eq-Decides}
use Rattle.agent_config.specs.Sound.{HasSizes, HasUndelivered, IsSound}
use Rattle.agent_run.specs.Command.{journal_place, pipe_config}

differ : (a b : List ℕ) → (b ≢ a) → bytes_eq a b ≡ false
differ a b ne = go (bytes_eq a b) refl
  where
    go : (x : Bool) → bytes_eq a b ≡ x → bytes_eq a b ≡ false
    go true e = absurd (ne (sym ((bytes_eq-Decides a b).0 e)))
    go false e = e

apart_one : (a : List ℕ) → IsDistinct bytes_eq (a ∷ [])
unfolding IsDistinct
apart_one a = (tt, tt)

apart_two : (a b : List ℕ) → (b ≢ a) → IsDistinct bytes_eq (a ∷ b ∷ [])
unfolding IsDistinct
apart_two a b ne = ((differ a b ne, tt), (tt, tt))

all_one : {X : Type 0} (P : X → Type 0) (x : X) → P x → All P (x ∷ [])
all_one P x h zero d l = h
all_one P x h (suc k) d l = absurd (omega (arith, l))

pub pipe_sound : (input output : List ℕ) (batch limit : ℕ) → (output ≢ journal_place) → 1 ≤ batch → batch ≤ limit
    → limit ≤ 10000 → IsSound (pipe_config input output batch limit)
pipe_sound input output batch limit apart some ordered most = record {
  inputs = (omega arith, omega arith);
  outputs = (omega arith, omega arith);
  aggs = omega arith;
  times = λ k d l. absurd (omega (arith, l));
  inputs_apart = apart_one input;
  outputs_apart = apart_two journal_place output apart;
  undelivered = all_one HasUndelivered _ (omega arith, omega arith);
  sizes = all_one HasSizes _ (record { some = some; ordered = ordered; most = most });
  gather_pieces = (omega arith, omega arith);
  final_tries = (omega arith, omega arith);
  globals = λ k d l. absurd (omega (arith, l));
}
