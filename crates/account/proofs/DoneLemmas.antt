-- How the batches of an output ended, with one entry more.
use Rattle.std.proofs.Common.{◌≡◌, ◌≤◌, ℕ, zero, suc, ◌+◌, ◌-◌, Bool, false, List, [], ◌∷◌, ◌++◌, replicate, refl, sym}
use Rattle.std.proofs.Common.{ap, ◌∙◌, arith, append_assoc, append-nil, if◌then◌else◌, cond, eq-eqb}
use Rattle.std.specs.Prelude.{not, count_by}
use Rattle.std.proofs.lemmas.List.Sums.{sum_by-append}
use Rattle.account.specs.declared.entry.Entry.{Entry}
use Rattle.account.specs.declared.entry.Entry.TheVariants.{Done}
use Rattle.account.specs.declared.entry.Report.{Report}
use Rattle.account.proofs.PushLemmas.{push, same}
use Rattle.account.specs.Dones.{dones_by, dones, LastFailed}

pub dones-push : (output : ℕ) (es : List Entry) (e : Entry) → dones output (es ++ e ∷ []) ≡ dones output es
    ++ dones_by output e
unfolding dones
dones-push output es e = push (dones_by output) (dones output) refl (λ d ds. refl) es e

-- an entry that ends no batch of the output
pub dones-same : (output : ℕ) (es : List Entry) (e : Entry) → dones_by output e ≡ []
    → dones output (es ++ e ∷ []) ≡ dones output es
unfolding dones
dones-same output es e none = same (dones_by output) (dones output) refl (λ d ds. refl) es e none

-- a batch more that is done
pub dones-more : (reports : List Report) (output : ℕ) (es : List Entry) (ok : Bool)
    → dones output (es ++ Done output ok reports ∷ []) ≡ dones output es ++ ok ∷ []
dones-more reports output es ok =
    dones-push output es (Done output ok reports)
    ∙ ap (λ (bs : List Bool). dones output es ++ bs) (ap (λ (b : Bool). if b then ok ∷ [] else [])
    (eq-eqb output output refl))

-- no batch is done
pub dones_none : (output : ℕ) → dones output [] ≡ []
unfolding dones
dones_none output = refl

pub failed-more : (all : List Bool) (ok : Bool) → count_by not (all ++ ok ∷ []) ≡ count_by not all + cond (not ok) 1 0
failed-more all ok = omega (arith, sum_by-append (λ (b : Bool). cond (not b) 1 0) all (ok ∷ []))

replicate-push : (n : ℕ) (b : Bool) → replicate n b ++ b ∷ [] ≡ replicate (n + 1) b
replicate-push zero b = refl
replicate-push (suc n) b = ap (λ (bs : List Bool). b ∷ bs) (replicate-push n b)
    ∙ ap (λ (k : ℕ). replicate k b) (let e : suc (n + 1) ≡ suc n + 1 = omega arith in e)

replicate-split : (m n : ℕ) (b : Bool) → replicate (m + n) b ≡ replicate m b ++ replicate n b
replicate-split zero n b = ap (λ (k : ℕ). replicate k b) (let e : 0 + n ≡ n = omega arith in e)
replicate-split (suc m) n b = ap (λ (k : ℕ). replicate k b) (let e : suc m + n ≡ suc (m + n) = omega arith in e)
    ∙ ap (λ (bs : List Bool). b ∷ bs) (replicate-split m n b)

-- the last none
pub last_none : (all : List Bool) → LastFailed 0 all
last_none all = record { front = all; is = sym (append-nil all) }

-- one more
pub last_more : (n : ℕ) (all : List Bool) → LastFailed n all → LastFailed (n + 1) (all ++ false ∷ [])
last_more n all h = record {
  front = h.front;
  is = ap (λ (bs : List Bool). bs ++ false ∷ []) h.is ∙ append_assoc h.front (replicate n false) (false ∷ [])
      ∙ ap (λ (bs : List Bool). h.front ++ bs) (replicate-push n false);
}

-- fewer
pub last_fewer : (m n : ℕ) (all : List Bool) → m ≤ n → LastFailed n all → LastFailed m all
last_fewer m n all few h = record {
  front = h.front ++ replicate (n - m) false;
  is = h.is
      ∙ ap (λ (k : ℕ). h.front ++ replicate k false) (let e : n ≡ (n - m) + m = omega arith in e)
      ∙ ap (λ (bs : List Bool). h.front ++ bs) (replicate-split (n - m) m false)
      ∙ sym (append_assoc h.front (replicate (n - m) false) (replicate m false));
}

-- the same batches
pub last_same : (n : ℕ) (old new : List Bool) → new ≡ old → LastFailed n old → LastFailed n new
last_same n old new same h = record { front = h.front; is = same ∙ h.is }
