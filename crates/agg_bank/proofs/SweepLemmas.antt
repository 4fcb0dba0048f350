-- Aggregators that change one after the other.
use Rattle.std.proofs.Common.{◌≡◌, ◌≢◌, ◌<◌, ◌≤◌, ◌+◌, ℕ, List, [], ◌∷◌, length, get_or, set, Some}
use Rattle.std.proofs.Common.{refl, sym, ap, ◌∙◌, subst, inl, inr, zero, suc, arith}
use Rattle.std.proofs.Math.Seq.{map-set_same}
use Rattle.std.proofs.lemmas.Bool.{cases_eq, cases_lt}
use Rattle.std.proofs.lemmas.List.{length-map}
use Rattle.std.proofs.lemmas.Option.{slice_get_read, slice_get_within}
use Rattle.std.specs.Prelude.{slice_get}
use Rattle.agg_bank.specs.Bank.{AggMemory}
use Rattle.agg_bank.specs.Ready.{lines_in, EachIs, IsOf}

-- ---- a list in which an element is set

module _ {X : Type 0} where
  pub get-set_same : (xs : List X) (i : ℕ) (y : X) → i < length xs → slice_get (set xs i y) i ≡ Some y
  get-set_same [] i y lt = absurd (omega arith)
  get-set_same (x ∷ xs) zero y lt = refl
  get-set_same (x ∷ xs) (suc i) y lt = get-set_same xs i y (omega arith)

  pub get-set_other : (xs : List X) (i k : ℕ) (y : X) → k ≢ i → slice_get (set xs i y) k ≡ slice_get xs k
  get-set_other [] i k y ne = refl
  get-set_other (x ∷ xs) zero zero y ne = absurd (ne refl)
  get-set_other (x ∷ xs) zero (suc k) y ne = refl
  get-set_other (x ∷ xs) (suc i) zero y ne = refl
  get-set_other (x ∷ xs) (suc i) (suc k) y ne = get-set_other xs i k y (λ e. ne (ap suc e))

  some_same : (x y : X) → Some x ≡ Some y → x ≡ y
  some_same x y e = cc

-- ---- up to an index

-- those before an index have changed, the others are as they were
pub record Swept (R : ℕ → AggMemory → AggMemory → Type 0) (at : ℕ) (olds news : List AggMemory) : Type 0 where
  pub lines : lines_in news ≡ lines_in olds
  pub done : (k : ℕ) (new : AggMemory) → k < at → slice_get news k ≡ Some new → IsOf R olds k new
  pub rest : (k : ℕ) → at ≤ k → slice_get news k ≡ slice_get olds k

pub none_swept : (R : ℕ → AggMemory → AggMemory → Type 0) (olds : List AggMemory) → Swept R 0 olds olds
none_swept R olds = record {
  lines = refl;
  done = λ k new lt got. absurd (omega arith);
  rest = λ k le. refl;
}

pub long_as : (olds news : List AggMemory) → lines_in news ≡ lines_in olds → length news ≡ length olds
long_as olds news lines =
    let line = λ (memory : AggMemory). memory.line in
    omega (arith, ap length lines, length-map news line, length-map olds line)

module _ (R : ℕ → AggMemory → AggMemory → Type 0) (at : ℕ) (olds news : List AggMemory) (w : Swept R at olds news)
  where
    -- the one at the index is as it was
    pub was_at : (s : AggMemory) → at < length news → s ≡ get_or news at s → slice_get olds at ≡ Some s
    was_at s lt is = sym (w.rest at (omega arith)) ∙ slice_get_read news (length news) at s refl lt is

    -- the one at the index changes too
    module _ (s t : AggMemory) (lt : at < length news) (is : s ≡ get_or news at s) (line : t.line ≡ s.line)
        (r : R at s t) where
      at_index : (k : ℕ) (new : AggMemory) → k ≡ at → slice_get (set news at t) k ≡ Some new → IsOf R olds k new
      at_index k new e got =
          let same : t ≡ new =
          some_same t new (sym (get-set_same news at t lt) ∙ ap (slice_get (set news at t)) (sym e) ∙ got) in
          let here : IsOf R olds at t = record { old = s; was = was_at s lt is; is = r } in
          subst (λ j. IsOf R olds j new) (sym e) (subst (IsOf R olds at) same here)

      pub more_swept : Swept R (at + 1) olds (set news at t)
      more_swept = record {
        lines = map-set_same (λ (memory : AggMemory). memory.line) news at t s
            (line ∙ ap (λ (memory : AggMemory). memory.line) is) ∙ w.lines;
        done = λ k new below got. elim (cases_eq k at) [
          | inl e ↦ at_index k new e got
          | inr ne ↦ w.done k new (omega arith) (sym (get-set_other news at k t ne) ∙ got)
        ];
        rest = λ k le. get-set_other news at k t (λ e. omega arith) ∙ w.rest k (omega arith);
      }

    -- all have changed
    pub all_swept : length olds ≤ at → EachIs R olds news
    all_swept long = record {
      lines = w.lines;
      each = λ k new got.
          w.done k new (omega (arith, slice_get_within news k new got, long_as olds news w.lines)) got;
    }

    -- the others change by staying
    pub rest_stays : ((k : ℕ) (x : AggMemory) → R k x x) → EachIs R olds news
    rest_stays stay = record {
      lines = w.lines;
      each = λ k new got. elim (cases_lt k at) [
        | inl lt ↦ w.done k new lt got
        | inr le ↦ record { old = new; was = sym (w.rest k le) ∙ got; is = stay k new }
      ];
    }

    pub swept_so : (Q : ℕ → AggMemory → AggMemory → Type 0)
        → ((k : ℕ) (x y : AggMemory) → R k x y → Q k x y) → Swept Q at olds news
    swept_so Q so = record {
      lines = w.lines;
      done = λ k new lt got.
          let of = w.done k new lt got in
          record { old = of.old; was = of.was; is = so k of.old new of.is };
      rest = w.rest;
    }
