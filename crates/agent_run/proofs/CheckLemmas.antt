-- What a check of a configuration says.
use Rattle.std.proofs.Common.{◌≡◌, ◌≢◌, ◌≤◌, ◌<◌, ◌++◌, ◌+◌, ℕ, List, [], ◌∷◌, length, Option, Some, None, IfSome, refl}
use Rattle.std.proofs.Common.{sym, ap, ◌∙◌, subst, inl, inr, arith, append-nil, take, drop}
use Rattle.std.proofs.Math.Seq.{take-add}
use Rattle.std.proofs.lemmas.List.{length-append, length-take}
use Rattle.std.specs.Prelude.{◌⊎◌, String}
use Rattle.std.proofs.lemmas.Bool.{cases_lt, lt-leb}
use Rattle.std.proofs.KnownBytes.{Consumes-trans}
use Rattle.std.specs.declared.alloc.Global.{Global}
use Rattle.std.specs.Io.KnownBytes.{Consumes}
use Rattle.agent_base.specs.Views.{WorldView}
use Rattle.agent_base.specs.Places.{Place, Rest}
use Rattle.agent_config.specs.Faults.{faults_in, first, text_faults, tree_of}
use Rattle.agent_config.specs.declared.fault.ConfigFault.{ConfigFault}
use Rattle.agent_run.specs.Checking.{Approves, ChecksAs, Fills, Judges, TakesAtMost, TakesText, config_fault_line}
use Rattle.agent_run.specs.Checking.{most_taken}
use Rattle.agent_run.specs.Command.{IsCheck, IsPipe}
use Rattle.agent_run.specs.Headline.{NothingRose}
use Rattle.agent_run.specs.Places.{ReportsLine}
use Rattle.agent_run.specs.declared.status.Status.{Status}
use Rattle.agent_run.specs.declared.status.Status.TheVariants as statuses

-- words are no two commands
pub never_both : (words : List (String Global)) (input output : List ℕ) (batch limit : ℕ) (place : List ℕ)
    → IsPipe words input output batch limit → IsCheck words place → ⊥
never_both words input output batch limit place p e =
    let lengths : 5 ≡ 2 = ap length (sym p.words_are ∙ e) in
    absurd (omega (arith, lengths))

-- a text without a first fault has none
pub none_first : (faults : List ConfigFault) → None ≡ first faults → faults ≡ []
none_first [] e = refl
none_first (x ∷ xs) e = cc

-- a text that is too long has no tree
pub too_long : (text : List ℕ) → 1048576 < length text → tree_of text ≡ None
too_long text h = rw (lt-leb (length text) 1048576 h) refl

-- a text of which no more is left than what was taken, or of which more than the longest was taken, has the
-- faults of what was taken
faults_of_front : (text rest : List ℕ) → (length text < most_taken → rest ≡ []) → length text ≤ most_taken
    → text_faults (text ++ rest) ≡ text_faults text
faults_of_front text rest whole most =
    elim (cases_lt (length text) most_taken) [
      | inl short ↦ ap (λ (r : List ℕ). text_faults (text ++ r)) (whole short) ∙ ap text_faults (append-nil text)
      | inr long ↦ ap faults_in (too_long (text ++ rest) (omega (arith, long, length-append text rest))
          ∙ sym (too_long text (omega (arith, long))))
    ]

pub told_faults : (old new : Option (List ℕ)) (text : List ℕ) → TakesText old new text
    → IfSome old (λ bytes. text_faults bytes ≡ text_faults text)
told_faults None new text t = tt
told_faults (Some xs) None text t = absurd t.taken
told_faults (Some xs) (Some ys) text t = ap text_faults t.taken ∙ faults_of_front text ys t.whole t.most

-- a buffer that got bytes, and then more behind them
pub taken_more : (old mid new : Option (List ℕ)) (before after : List ℕ) (len n : ℕ)
    → Consumes old mid (take len before) → take len after ≡ take len before → Consumes mid new (take n (drop len after))
    → Consumes old new (take (len + n) after)
taken_more old mid new before after len n first same more =
    subst (Consumes old new) (ap (λ (front : List ℕ). front ++ take n (drop len after)) (sym same)
    ∙ sym (take-add len n after))
    (Consumes-trans old mid new (take len before) (take n (drop len after)) first more)

-- and then none, since none was left
pub taken_all : (old mid new : Option (List ℕ)) (before after : List ℕ) (len : ℕ) → Consumes old mid (take len before)
    → take len after ≡ take len before → Consumes mid new [] → Consumes old new (take len after)
taken_all old mid new before after len first same none =
    subst (Consumes old new) (append-nil (take len before) ∙ sym same)
    (Consumes-trans old mid new (take len before) [] first none)

pub some_taken : (old new : Option (List ℕ)) (buffer : List ℕ) (most len : ℕ) → length buffer ≡ most
    → Consumes old new (take len buffer) → TakesAtMost most old new
some_taken old new buffer most len e t = (take len buffer, omega (arith, e, length-take len buffer), t)

pub fewer_taken : (old new : Option (List ℕ)) (most greater : ℕ) → most ≤ greater → TakesAtMost most old new
    → TakesAtMost greater old new
fewer_taken old new most greater h t = (t.0, omega (arith, h, t.1), t.2)

-- the text that a buffer of the most bytes holds
pub takes_text : (old new : Option (List ℕ)) (buffer text : List ℕ) (len : ℕ) → length buffer ≡ most_taken
    → Fills old new buffer len → text ≡ take len buffer → TakesText old new text
takes_text old new buffer text len full f e = rw e (record {
  taken = f.taken;
  most = omega (arith, full, f.within, length-take len buffer);
  whole = λ short. f.whole (omega (arith, short, full, f.within, length-take len buffer));
})

-- what a status says of a text, it says of the place of which the text was taken
pub checks_as : (status : Status) (place : List ℕ) (ins new_ins : List ℕ → Place) (rest new_rest : Rest) (text : List ℕ)
    → TakesText (ins place).bytes (new_ins place).bytes text → Judges status text rest new_rest
    → ChecksAs status place ins new_ins rest new_rest
checks_as statuses.Done place ins new_ins rest new_rest text t j =
    record { text = text; taken = t; faults = told_faults (ins place).bytes (new_ins place).bytes text t; judged = j }
checks_as statuses.ReportFault place ins new_ins rest new_rest text t j =
    record { text = text; taken = t; faults = told_faults (ins place).bytes (new_ins place).bytes text t; judged = j }
checks_as statuses.Config place ins new_ins rest new_rest text t j =
    record { text = text; taken = t; faults = told_faults (ins place).bytes (new_ins place).bytes text t; judged = j }
checks_as statuses.OutOfMemory place ins new_ins rest new_rest text t j = tt
checks_as statuses.Usage place ins new_ins rest new_rest text t j = absurd j
checks_as statuses.ReadFault place ins new_ins rest new_rest text t j = absurd j
checks_as statuses.OpenFault place ins new_ins rest new_rest text t j = absurd j
checks_as statuses.Left place ins new_ins rest new_rest text t j = absurd j
checks_as statuses.Limit place ins new_ins rest new_rest text t j = absurd j

-- a text without faults, of which this was reported
pub judges_ok : (status : Status) (text : List ℕ) (rest new_rest : Rest) → text_faults text ≡ []
    → Approves status rest new_rest → Judges status text rest new_rest
judges_ok statuses.Done text rest new_rest e a = (e, a)
judges_ok statuses.ReportFault text rest new_rest e a = (e, a)
judges_ok statuses.OutOfMemory text rest new_rest e a = tt
judges_ok statuses.Config text rest new_rest e a = absurd a
judges_ok statuses.Usage text rest new_rest e a = absurd a
judges_ok statuses.ReadFault text rest new_rest e a = absurd a
judges_ok statuses.OpenFault text rest new_rest e a = absurd a
judges_ok statuses.Left text rest new_rest e a = absurd a
judges_ok statuses.Limit text rest new_rest e a = absurd a

-- a text with a fault that was reported
pub judges_fault : (status : Status) (text : List ℕ) (rest new_rest : Rest) (fault : ConfigFault)
    → Some fault ≡ first (text_faults text) → ((status ≡ statuses.Config)
    × ReportsLine rest new_rest (config_fault_line fault)) ⊎ (status ≡ statuses.OutOfMemory)
    → Judges status text rest new_rest
judges_fault status text rest new_rest fault is (inl told) =
    rw told.0 (record { fault = fault; is_first = sym is; told = told.1 })
judges_fault status text rest new_rest fault is (inr short) = rw short tt

-- a check that no fault ended
pub check_completes : (status : Status) (place : List ℕ) (old new : WorldView)
    → ChecksAs status place old.ins new.ins old.report new.report → NothingRose old new → (status ≢ statuses.Config)
    → (status ≡ statuses.Done) ⊎ (status ≡ statuses.OutOfMemory)
check_completes statuses.Done place old new c n config = inl refl
check_completes statuses.OutOfMemory place old new c n config = inr refl
check_completes statuses.Config place old new c n config = absurd (config refl)
check_completes statuses.ReportFault place old new c n config = absurd (n.reported c.judged.1.0)
check_completes statuses.ReadFault place old new c n config = absurd (n.ins_used place c.rose)
check_completes statuses.OpenFault place old new c n config = absurd (n.ins_opened place c.0.failed.rose)
check_completes statuses.Usage place old new c n config = absurd c
check_completes statuses.Left place old new c n config = absurd c
check_completes statuses.Limit place old new c n config = absurd c

-- a check is never refused as words
pub check_never_usage : (status : Status) (place : List ℕ) (ins new_ins : List ℕ → Place) (rest new_rest : Rest)
    → ChecksAs status place ins new_ins rest new_rest → status ≡ statuses.Usage → ⊥
check_never_usage status place ins new_ins rest new_rest c e =
    subst (λ (s : Status). ChecksAs s place ins new_ins rest new_rest) e c
