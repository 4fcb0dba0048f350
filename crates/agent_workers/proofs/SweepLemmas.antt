-- One repeat over all outputs, output by output, and repeats in succession.
use Rattle.std.proofs.Common.{◌≡◌, ◌≢◌, ◌≤◌, ◌<◌, ◌+◌, ◌-◌, ◌^◌, ◌||◌, ◌&&◌, ◌==◌, not, ℕ, min, Bool, true, false, List}
use Rattle.std.proofs.Common.{length, set, refl, sym, ap, ◌∙◌, subst, inl, inr, arith, below_more}
use Rattle.std.specs.Prelude.{◌⊎◌}
use Rattle.std.proofs.lemmas.Bool.{and_parts, cases_Bool, cases_eq, or_parts}
use Rattle.pipeline_core.proofs.Keeping.{differs}
use Rattle.std.proofs.lemmas.List.{get_or-set_same, get_or-set_other}
use Rattle.account.specs.declared.numbers.OutputNumbers.{OutputNumbers}
use Rattle.out_lane.specs.Lane.{LaneState}
use Rattle.pipeline_core.specs.CoreState.{CoreState, lane_at}
use Rattle.pipeline_core.specs.declared.output.Offer.{Offer}
use Rattle.agent_workers.specs.Output.{OutPart, out_at, no_out}
use Rattle.agent_workers.specs.Running.{IsSentAt, HasFlushed, WasTried, HasSwept, HaveFailed, AreLeft, buffered_at}
use Rattle.agent_workers.specs.Running.{waiting_at, HasNothing}
use Rattle.agent_workers.specs.declared.output.Flush.{Flush}

never : false ≡ true → ⊥
never e = cc

-- the first so many outputs were swept, and the others are as before
pub record Sweeping (n : ℕ) (emptied accepted : Bool) (old new : CoreState)
    (outs new_outs : List OutPart) : Type 0 where
  pub emptied_are : emptied ≡ true → (o : ℕ) → o < n → buffered_at new o ≡ 0
  pub settled : (o : ℕ) → o < n → (buffered_at new o ≡ 0) ⊎ (1 ≤ (out_at new_outs o).failed_since)
  pub stuck : accepted ≡ false → (o : ℕ) → o < n → WasTried o old new (out_at outs o).failed_since
      (out_at new_outs o).failed_since
  pub rest : (o : ℕ) → n ≤ o → (lane_at new.lanes o ≡ lane_at old.lanes o) × (out_at new_outs o ≡ out_at outs o)

pub sweeps_none : (core : CoreState) (outs : List OutPart) → Sweeping 0 true false core core outs outs
sweeps_none core outs = record {
  emptied_are = λ e o l. absurd (omega (arith, l));
  settled = λ o l. absurd (omega (arith, l));
  stuck = λ e o l. absurd (omega (arith, l));
  rest = λ o l. (refl, refl);
}

settled_by : (emptied : Bool) (flush : Flush) (o : ℕ) (old new : CoreState) (failed new_failed : ℕ)
    → flush.emptied ≡ emptied → HasFlushed flush o old new failed new_failed
    → (buffered_at new o ≡ 0) ⊎ (1 ≤ new_failed)
settled_by true flush o old new failed new_failed e h = inl (h.emptied e).1
settled_by false flush o old new failed new_failed e h = inr (h.failed_last e)

tried_by : (emptied : Bool) (flush : Flush) (o : ℕ) (old new : CoreState) (failed new_failed : ℕ)
    → flush.emptied ≡ emptied → flush.accepted ≡ false → HasFlushed flush o old new failed new_failed
    → WasTried o old new failed new_failed
tried_by true flush o old new failed new_failed e a h = inl (h.emptied e)
tried_by false flush o old new failed new_failed e a h = inr (h.stuck e a)

pub zero_of : (n : ℕ) → not (n == 0) ≡ false → n ≡ 0
zero_of n e =
    elim (cases_eq n 0) [
      | inl z ↦ z
      | inr ne ↦ absurd (never (sym (sym (ap not (differs n 0 ne)) ∙ e)))
    ]

-- the last put of so many batches failed
pub flushed_failed : (batch o : ℕ) (old mid new : CoreState) (failed mid_failed new_failed : ℕ) → waiting_at mid o ≢ 0
    → new_failed ≡ min (mid_failed + 1) (2 ^ 32 - 1) → (batch ≡ 0 → mid_failed ≡ failed)
    → (batch ≡ 0 → waiting_at mid o ≡ waiting_at old o) →
    HasFlushed (record { emptied = false; accepted = not (batch == 0) }) o old new failed new_failed
flushed_failed batch o old mid new failed mid_failed new_failed some rose first waits = record {
  emptied = λ e. absurd (never e);
  failed_last = λ e. omega (arith, rose);
  stuck = λ e none. (
    λ z. some (waits (zero_of batch none) ∙ z),
    rose
        ∙ ap (λ (n : ℕ). min (n + 1) (2 ^ 32 - 1)) (first (zero_of batch none)),
  );
}

pub flushed_nothing : (accepted : Bool) (o other : ℕ) (old new : CoreState) (failed new_failed : ℕ) → other ≡ o
    → HasNothing other new → HasFlushed (record { emptied = true; accepted = accepted }) o old new failed new_failed
flushed_nothing accepted o other old new failed new_failed same none = record {
  emptied = λ e. subst (λ (k : ℕ). HasNothing k new) same none;
  failed_last = λ e. absurd (never (sym e));
  stuck = λ e stays. absurd (never (sym e));
}

-- what was tried, by other terms
tried_as : (o : ℕ) (old mid new : CoreState) (failed first new_failed last : ℕ)
    → lane_at mid.lanes o ≡ lane_at old.lanes o → failed ≡ first → new_failed ≡ last
    → WasTried o mid new failed new_failed → WasTried o old new first last
tried_as o old mid new failed first new_failed last lane f g h =
    subst (λ (n : ℕ). WasTried o old new first n) g
    (subst (λ (n : ℕ). WasTried o old new n new_failed) f
    (subst (λ (x : LaneState Offer). ((waiting_at new o ≡ 0) × (buffered_at new o ≡ 0))
    ⊎ ((length x.waiting ≢ 0) × (new_failed ≡ min (failed + 1) (2 ^ 32 - 1)))) lane h))

-- an output that was swept before, by other terms
tried_still : (o : ℕ) (old mid new : CoreState) (failed new_failed last : ℕ) → lane_at new.lanes o ≡ lane_at mid.lanes o
    → buffered_at new o ≡ buffered_at mid o → new_failed ≡ last → WasTried o old mid failed new_failed
    → WasTried o old new failed last
tried_still o old mid new failed new_failed last lane buffered g (inl h) =
    inl (ap (λ (x : LaneState Offer). length x.waiting) lane ∙ h.0, buffered ∙ h.1)
tried_still o old mid new failed new_failed last lane buffered g (inr h) = inr (h.0, sym g ∙ h.1)

-- one output more was swept
pub sweeps_more : (n : ℕ) (emptied accepted : Bool) (flush : Flush) (old mid new : CoreState)
    (outs mid_outs : List OutPart) (out : OutPart) → n < length mid_outs → IsSentAt n mid new
    → HasFlushed flush n mid new (out_at mid_outs n).failed_since out.failed_since
    → Sweeping n emptied accepted old mid outs mid_outs
    → Sweeping (n + 1) (emptied && flush.emptied) (accepted || flush.accepted) old new outs (set mid_outs n out)
sweeps_more n emptied accepted flush old mid new outs mid_outs out b sent flushed h =
    let here : out_at (set mid_outs n out) n ≡ out = get_or-set_same mid_outs n out no_out b in
    let kept : (o : ℕ) → o ≢ n → out_at (set mid_outs n out) o ≡ out_at mid_outs o =
    λ o ne. get_or-set_other mid_outs n o out no_out ne in
    let still : (o : ℕ) → o ≢ n → buffered_at new o ≡ buffered_at mid o =
    λ o ne. ap (λ (x : OutputNumbers). x.buffered) (sent.others o ne).numbers in
    record {
      emptied_are = λ e. let both = and_parts emptied flush.emptied e in
          below_more _ _
          (λ o l. still o (λ (q : o ≡ n). absurd (omega (arith, l, q))) ∙ h.emptied_are both.0 o l)
          (flushed.emptied both.1).1;
      settled = below_more _ _
          (λ o l. let ne : o ≢ n = λ (q : o ≡ n). absurd (omega (arith, l, q)) in
          elim (h.settled o l) [
            | inl none ↦ inl (still o ne ∙ none)
            | inr some ↦ inr (subst (λ (x : OutPart). 1 ≤ x.failed_since) (sym (kept o ne)) some)
          ])
          (subst (λ (x : OutPart). (buffered_at new n ≡ 0) ⊎ (1 ≤ x.failed_since)) (sym here)
          (settled_by flush.emptied flush n mid new (out_at mid_outs n).failed_since out.failed_since refl flushed));
      stuck = λ e. let both = or_parts accepted flush.accepted e in
          below_more _ _
          (λ o l. let ne : o ≢ n = λ (q : o ≡ n). absurd (omega (arith, l, q)) in
          tried_still o old mid new (out_at outs o).failed_since (out_at mid_outs o).failed_since
          (out_at (set mid_outs n out) o).failed_since (sent.others o ne).lane (still o ne)
          (ap (λ (x : OutPart). x.failed_since) (sym (kept o ne))) (h.stuck both.0 o l))
          (tried_as n old mid new (out_at mid_outs n).failed_since (out_at outs n).failed_since out.failed_since
          (out_at (set mid_outs n out) n).failed_since (h.rest n (omega arith)).0
          (ap (λ (x : OutPart). x.failed_since) (h.rest n (omega arith)).1)
          (ap (λ (x : OutPart). x.failed_since) (sym here))
          (tried_by flush.emptied flush n mid new (out_at mid_outs n).failed_since out.failed_since refl both.1
          flushed));
      rest = λ o l. let ne : o ≢ n = λ (q : o ≡ n). absurd (omega (arith, l, q)) in
          let before = h.rest o (omega (arith, l)) in ((sent.others o ne).lane ∙ before.0, kept o ne ∙ before.1);
    }

-- the same, by the part of the output
pub sweeps_part : (n : ℕ) (emptied accepted : Bool) (flush : Flush) (old mid new : CoreState)
    (outs mid_outs : List OutPart) (part out : OutPart) → n < length mid_outs → out_at mid_outs n ≡ part
    → part.output ≡ n → IsSentAt part.output mid new → HasFlushed flush part.output mid new part.failed_since
    out.failed_since
    → Sweeping n emptied accepted old mid outs mid_outs → Sweeping (n + 1) (emptied && flush.emptied)
    (accepted || flush.accepted) old new outs (set mid_outs n out)
sweeps_part n emptied accepted flush old mid new outs mid_outs part out b at number sent flushed h =
    sweeps_more n emptied accepted flush old mid new outs mid_outs out b
    (subst (λ (o : ℕ). IsSentAt o mid new) number sent)
    (subst (λ (o : ℕ). HasFlushed flush o mid new (out_at mid_outs n).failed_since out.failed_since) number
    (subst (λ (x : OutPart). HasFlushed flush part.output mid new x.failed_since out.failed_since) (sym at) flushed)) h

-- all outputs were swept
pub swept : (n : ℕ) (sweep : Flush) (old new : CoreState) (outs new_outs : List OutPart) → length outs ≤ n
    → length new_outs ≡ length outs → Sweeping n sweep.emptied sweep.accepted old new outs new_outs
    → HasSwept sweep old new outs new_outs
swept n sweep old new outs new_outs all same h = record {
  emptied = λ e o l. h.emptied_are e o (omega (arith, l, all));
  settled = λ o l. h.settled o (omega (arith, l, all, same));
  stuck = λ e o l. h.stuck e o (omega (arith, l, all));
}

-- ---- repeats in succession

pub failed_none : (core : CoreState) (outs : List OutPart) → HaveFailed 0 core outs
failed_none core outs = λ o l. inr (omega arith)

one_more : (tries failed new_failed : ℕ) → tries < 2 ^ 32 - 1 → tries ≤ failed
    → new_failed ≡ min (failed + 1) (2 ^ 32 - 1) → tries + 1 ≤ new_failed
one_more tries failed new_failed few l e = omega (arith, few, l, e)

module _ (tries : ℕ) (sweep : Flush) (old new : CoreState) (outs new_outs : List OutPart) (few : tries < 2 ^ 32 - 1)
    (same : length new_outs ≡ length outs) (h : HaveFailed tries old outs) (s : HasSwept sweep old new outs new_outs)
    (stuck : sweep.accepted ≡ false) where
  counted : (o : ℕ) → o < length outs → waiting_at old o ≢ 0
      → (out_at new_outs o).failed_since ≡ min ((out_at outs o).failed_since + 1) (2 ^ 32 - 1)
      → tries + 1 ≤ (out_at new_outs o).failed_since
  counted o l some e =
      elim (h o l) [
        | inl none ↦ absurd (some none)
        | inr many ↦ one_more tries (out_at outs o).failed_since (out_at new_outs o).failed_since few many e
      ]

  failed_more : HaveFailed (tries + 1) new new_outs
  failed_more = λ o l.
      let k : o < length outs = omega (arith, l, same) in
      elim (s.stuck stuck o k) [
        | inl none ↦ inl none.0
        | inr some ↦ inr (counted o k some.0 some.1)
      ]

  left_more : AreLeft (tries + 1) new new_outs
  left_more = λ o l.
      let k : o < length outs = omega (arith, l, same) in
      elim (s.stuck stuck o k) [
        | inl none ↦ inl none.1
        | inr some ↦ inr (counted o k some.0 some.1)
      ]

-- a repeat more
pub failed_next : (tries next : ℕ) (sweep : Flush) (old new : CoreState) (outs new_outs : List OutPart)
    → tries < 2 ^ 32 - 1 → length new_outs ≡ length outs → (sweep.accepted ≡ false → next ≡ tries + 1)
    → (sweep.accepted ≡ true → next ≡ 0) → HaveFailed tries old outs → HasSwept sweep old new outs new_outs
    → HaveFailed next new new_outs × (1 ≤ next → AreLeft next new new_outs)
failed_next tries next sweep old new outs new_outs few same none some h s =
    elim (cases_Bool sweep.accepted) [
      | inl e ↦ (
        subst (λ (n : ℕ). HaveFailed n new new_outs) (sym (some e)) (failed_none new new_outs),
        λ l. absurd (omega (arith, l, some e)),
      )
      | inr e ↦ (
        subst (λ (n : ℕ). HaveFailed n new new_outs) (sym (none e))
            (failed_more tries sweep old new outs new_outs few same h s e),
        λ l. subst (λ (n : ℕ). AreLeft n new new_outs) (sym (none e))
            (left_more tries sweep old new outs new_outs few same h s e),
      )
    ]

-- nothing is buffered anywhere
pub left_none : (tries : ℕ) (sweep : Flush) (old new : CoreState) (outs new_outs : List OutPart)
    → length new_outs ≡ length outs → sweep.emptied ≡ true → HasSwept sweep old new outs new_outs
    → AreLeft tries new new_outs
left_none tries sweep old new outs new_outs same e s = λ o l. inl (s.emptied e o (omega (arith, l, same)))
