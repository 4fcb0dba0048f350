-- What was put to an output, with one entry more.
use Rattle.std.proofs.Common.{◌≡◌, ℕ, ◌<◌, Bool, true, false, List, [], ◌∷◌, ◌++◌, length, take, Result, Ok, Err, refl}
use Rattle.std.proofs.Common.{sym, ap, ◌∙◌, subst, append_assoc, append-nil}
use Rattle.std.specs.declared.option.Option.{Option}
use Rattle.std.specs.declared.option.Option.TheVariants.{Some, None}
use Rattle.std.specs.Io.KnownBytes.{Appends, Keeps}
use Rattle.account.specs.declared.entry.Entry.{Entry}
use Rattle.account.specs.declared.entry.Entry.TheVariants.{Begin, Done}
use Rattle.agent_base.specs.Puts.{PutAppends}
use Rattle.agent_base.specs.declared.outside.PutFault.{PutFault}
use Rattle.agent_base.specs.declared.outside.PutFault.TheVariants.{Failed, OutOfMemory}
use Rattle.metric.specs.declared.metric.Content.{Content}
use Rattle.pipeline_core.specs.CoreState.{CoreState, lane_at}
use Rattle.account.specs.declared.entry.Report.{Report}
use Rattle.pipeline_core.specs.Stands.{Stands}
use Rattle.pipeline_core.specs.Steps.{batch_views, IsBatchOf}
use Rattle.pipeline_core.specs.declared.batches.Batch.{Batch}
use Rattle.pipeline_core.specs.Sent.{batches_from, IsPart, Sent}
use Rattle.agent_workers.specs.Output.{AppendsSo}
use Rattle.pipeline_core.proofs.SentLemmas.{EndsNone, Sent-same, AreSent-none, Sent-more}

-- nothing is appended
pub AppendsSo-nil : (P : List ℕ → Type 0) (held : Option (List ℕ)) → P [] → AppendsSo held held P
AppendsSo-nil P None h = tt
AppendsSo-nil P (Some xs) h = ([], sym (append-nil xs), h)

-- the same bytes with another fact
pub AppendsSo-map : (P Q : List ℕ → Type 0) (old new : Option (List ℕ)) → ((bytes : List ℕ) → P bytes → Q bytes)
    → AppendsSo old new P → AppendsSo old new Q
AppendsSo-map P Q None new f h = tt
AppendsSo-map P Q (Some xs) None f h = absurd h
AppendsSo-map P Q (Some xs) (Some ys) f h = (h.0, h.1, f h.0 h.2)

-- more bytes
pub AppendsSo-trans : (P Q : List ℕ → Type 0) (old mid new : Option (List ℕ)) (text : List ℕ)
    → ((bytes : List ℕ) → P bytes → Q (bytes ++ text)) → AppendsSo old mid P → Appends mid new text
    → AppendsSo old new Q
AppendsSo-trans P Q None mid new text f h a = tt
AppendsSo-trans P Q (Some xs) None new text f h a = absurd h
AppendsSo-trans P Q (Some xs) (Some ys) None text f h a = absurd a
AppendsSo-trans P Q (Some xs) (Some ys) (Some zs) text f h a =
    (h.0 ++ text, a ∙ ap (λ (l : List ℕ). l ++ text) h.1 ∙ append_assoc xs h.0 text, f h.0 h.2)

pub AppendsSo-kept : (P : List ℕ → Type 0) (old mid new : Option (List ℕ)) → AppendsSo old mid P → Keeps mid new
    → AppendsSo old new P
AppendsSo-kept P None mid new h k = tt
AppendsSo-kept P (Some xs) None new h k = absurd h
AppendsSo-kept P (Some xs) (Some ys) None h k = absurd k
AppendsSo-kept P (Some xs) (Some ys) (Some zs) h k = (h.0, k ∙ h.1, h.2)

-- whether a put was accepted
abbrev pub accepted : Result (Unit {0}) PutFault → Bool
accepted (Ok done) = true
accepted (Err fault) = false

-- a put that was accepted or failed appends a part of its text
pub AppendsSo-put : (P Q : List ℕ → Type 0) (old mid new : Option (List ℕ)) (text : List ℕ)
    (result : Result (Unit {0}) PutFault) → (result ≡ Err OutOfMemory → ⊥) →
    ((bytes part : List ℕ) → IsPart (accepted result) text part → P bytes → Q (bytes ++ part)) → AppendsSo old mid P
    → PutAppends mid new text result → AppendsSo old new Q
AppendsSo-put P Q old mid new text (Ok done) n f h a = AppendsSo-trans P Q old mid new text
    (λ bytes p. f bytes text refl p) h a
AppendsSo-put P Q old mid new text (Err Failed) n f h a = AppendsSo-trans P Q old mid new (take a.0 text)
    (λ bytes p. f bytes (take a.0 text) (a.0, refl) p) h a.1
AppendsSo-put P Q old mid new text (Err OutOfMemory) n f h a = absurd (n refl)

-- the same with an entry that isn't the end of the output's batch
pub sent_same : (written : List Content → List ℕ) (output : ℕ) (journal : List Entry) (e : Entry)
    (held new : Option (List ℕ)) → EndsNone output e → AppendsSo held new (Sent written journal output)
    → AppendsSo held new (Sent written (journal ++ e ∷ []) output)
sent_same written output journal e held new h a =
    AppendsSo-map (Sent written journal output) (Sent written (journal ++ e ∷ []) output) held new
    (λ bytes s. Sent-same written output journal e bytes h s) a

-- nothing happened, and nothing was sent
pub sent_first : (written : List Content → List ℕ) (output : ℕ) (held : Option (List ℕ))
    → AppendsSo held held (Sent written [] output)
unfolding batches_from
sent_first written output held = AppendsSo-nil (Sent written [] output) held (AreSent-none written)

-- what was sent, once a batch was begun, put and done
pub sent_more : (written : List Content → List ℕ) (reports : List Report) (core : CoreState) (journal : List Entry)
    (output : ℕ) (batch : Batch) (held mid new : Option (List ℕ)) (text : List ℕ) (result : Result (Unit {0}) PutFault)
    →
    Stands core journal → output < length core.setup.outputs → IsBatchOf (lane_at core.lanes output) batch
    → text ≡ written (batch_views (lane_at core.lanes output)) → (result ≡ Err OutOfMemory → ⊥) →
    AppendsSo held mid (Sent written journal output) → PutAppends mid new text result →
    AppendsSo held new (Sent written ((journal ++ Begin output batch.from batch.to ∷ [])
    ++ Done output (accepted result) reports ∷ []) output)
sent_more written reports core journal output batch held mid new text result h b is t n a put =
    AppendsSo-put (Sent written journal output) (Sent written ((journal ++ Begin output batch.from batch.to ∷ [])
    ++ Done output (accepted result) reports ∷ []) output) held mid new text result n
    (λ bytes part p s. Sent-more written reports core journal output batch (accepted result) bytes part h b is
    (subst (λ (xs : List ℕ). IsPart (accepted result) xs part) t p) s) a put

-- the same where the put was accepted
pub sent_accepted : (written : List Content → List ℕ) (reports : List Report) (core : CoreState) (journal : List Entry)
    (output : ℕ) (batch : Batch) (held mid new : Option (List ℕ)) (text : List ℕ) →
    Stands core journal → output < length core.setup.outputs → IsBatchOf (lane_at core.lanes output) batch
    → text ≡ written (batch_views (lane_at core.lanes output)) →
    AppendsSo held mid (Sent written journal output) → Appends mid new text →
    AppendsSo held new (Sent written ((journal ++ Begin output batch.from batch.to ∷ [])
    ++ Done output true reports ∷ []) output)
sent_accepted written reports core journal output batch held mid new text h b is t a put =
    sent_more written reports core journal output batch held mid new text (Ok tt) h b is t
    (λ e. absurd (let x : Ok tt ≡ Err OutOfMemory = e in cc)) a put

-- and where it failed
pub sent_failed : (written : List Content → List ℕ) (reports : List Report) (core : CoreState) (journal : List Entry)
    (output : ℕ) (batch : Batch) (held mid new : Option (List ℕ)) (text : List ℕ) (fault : PutFault) → fault ≡ Failed →
    Stands core journal → output < length core.setup.outputs → IsBatchOf (lane_at core.lanes output) batch
    → text ≡ written (batch_views (lane_at core.lanes output)) →
    AppendsSo held mid (Sent written journal output) → PutAppends mid new text (Err fault) →
    AppendsSo held new (Sent written ((journal ++ Begin output batch.from batch.to ∷ [])
    ++ Done output false reports ∷ []) output)
sent_failed written reports core journal output batch held mid new text fault f h b is t a put =
    sent_more written reports core journal output batch held mid new text (Err fault) h b is t
    (λ e. absurd (let x : Err Failed ≡ Err OutOfMemory = ap (λ (k : PutFault). let r : Result
    (Unit {0}) PutFault = Err k in r) (sym f) ∙ e in cc)) a put
