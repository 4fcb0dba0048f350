-- The entries behind the Stop, with one entry more.
use Rattle.std.proofs.Common.{◌≡◌, ◌≤◌, ℕ, ◌+◌, ◌||◌, Bool, true, false, List, [], ◌∷◌, ◌++◌, refl, sym, ap, ◌∙◌, arith}
use Rattle.std.proofs.Common.{if◌then◌else◌, cond}
use Rattle.std.specs.Prelude.{not, count_by}
use Rattle.std.proofs.Math.Bool.{or-false}
use Rattle.std.proofs.lemmas.List.Sums.{sum_by-append}
use Rattle.account.specs.declared.entry.Entry.{Entry}
use Rattle.pipeline_core.specs.Legal.{is_stop, has_stop}
use Rattle.pipeline_core.proofs.JournalPush.{has_stop-push}
use Rattle.account.specs.Dones.{dones_by, dones}
use Rattle.pipeline_core.specs.Stopped.{behind_stop}

behind_by : (b : Bool) (es : List Entry) (e : Entry) → (b || has_stop es) ≡ true
    → (has_stop es ≡ true → behind_stop (es ++ e ∷ []) ≡ behind_stop es ++ e ∷ [])
    → (if b then es ++ e ∷ [] else behind_stop (es ++ e ∷ [])) ≡ (if b then es else behind_stop es) ++ e ∷ []
behind_by true es e h more = refl
behind_by false es e h more = more h

-- once there is a Stop an entry more stands behind it
pub behind_stop-push : (es : List Entry) (e : Entry) → has_stop es ≡ true
    → behind_stop (es ++ e ∷ []) ≡ behind_stop es ++ e ∷ []
unfolding behind_stop has_stop
behind_stop-push [] e h = absurd (let x : false ≡ true = h in cc)
behind_stop-push (d ∷ es) e h = behind_by (is_stop d) es e h (behind_stop-push es e)

-- behind the Stop no more batches failed than in all
pub behind_fewer : (output : ℕ) (es : List Entry) → count_by not (dones output (behind_stop es)) ≤ count_by not
    (dones output es)
unfolding behind_stop dones
behind_fewer output [] = omega arith
behind_fewer output (e ∷ es) =
    let more : count_by not (dones_by output e ++ dones output es) ≡ count_by not (dones_by output e) + count_by not
    (dones output es) = sum_by-append (λ (b : Bool). cond (not b) 1 0) (dones_by output e) (dones output es) in
    elim (is_stop e) as (λ (b : Bool). count_by not (dones output (if b then es else behind_stop es)) ≤ count_by not
    (dones_by output e ++ dones output es)) [
      | true ↦ omega (arith, more)
      | false ↦ omega (arith, more, behind_fewer output es)
    ]

-- an entry that is no Stop
pub stop_before : (es : List Entry) (e : Entry) → is_stop e ≡ false → has_stop (es ++ e ∷ []) ≡ true
    → has_stop es ≡ true
stop_before es e none h = sym (or-false (has_stop es)) ∙ ap (λ (b : Bool). has_stop es || b) (sym none)
    ∙ sym (has_stop-push es e) ∙ h
