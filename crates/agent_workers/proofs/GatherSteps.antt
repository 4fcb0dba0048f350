-- How far a run has come once an input was read, and what it held was offered.
use Rattle.std.proofs.Common.{◌≡◌, ◌≢◌, ◌≤◌, ◌<◌, ℕ, ℤ, ◌+◌, ◌^◌, Bool, true, false, List, [], ◌∷◌, ◌++◌, length, set}
use Rattle.std.proofs.Common.{refl, sym, ap, ◌∙◌, subst, inl, inr, arith}
use Rattle.std.specs.Prelude.{◌==◌, if◌then◌else◌, IfSome}
use Rattle.std.specs.declared.option.Option.{Option}
use Rattle.std.specs.declared.option.Option.TheVariants.{Some, None}
use Rattle.std.proofs.lemmas.Bool.{cases_eq}
use Rattle.std.proofs.lemmas.List.{length-set, get_or-set_same, set-set, set-get_or}
use Rattle.account.specs.declared.entry.Entry.{Entry}
use Rattle.account.specs.declared.entry.Entry.TheVariants.{Ended}
use Rattle.account.specs.declared.entry.Report.{Report}
use Rattle.agent_base.specs.Counts.{Rose}
use Rattle.agent_base.specs.Hand.{Hand, to_come}
use Rattle.agent_base.specs.Moments.{Moments, Gives}
use Rattle.agent_base.specs.Told.{Told}
use Rattle.pipeline_core.specs.CoreState.{CoreState}
use Rattle.pipeline_core.specs.Shapes.{IsGatherEntry}
use Rattle.pipeline_core.specs.Stands.{Continues}
use Rattle.pipeline_core.specs.Steps.{after_gather, after_ended, entry_of, gather_entry, said_of}
use Rattle.pipeline_core.specs.Order.{IsDrained}
use Rattle.pipeline_core.specs.declared.gathering.Gathered.{Gathered}
use Rattle.pipeline_core.proofs.ShapeLemmas.{entries-have-shape}
use Rattle.pipeline_core.proofs.Keeping.{differs}
use Rattle.pipeline_core.proofs.RawLemmas.{none_of_other}
use Rattle.pipeline_core.proofs.WorkedLemmas.{worked-push}
use Rattle.account.proofs.MomentLemmas.{counted_moments-same}
use Rattle.formats.specs.declared.pieces.InState.{InState}
use Rattle.formats.specs.declared.pieces.InState.TheVariants as states
use Rattle.formats.specs.declared.reading.Group.{Group}
use Rattle.formats.specs.Groups.{ReadsGroup}
use Rattle.agent_workers.specs.Inputs.{gathered_of}
use Rattle.formats.specs.Reader.{FitsGather}
use Rattle.agent_workers.specs.Inputs.{InPart, in_at, no_in, HoldsNoEnd, HoldsOwn, IsOffered, HasMetEnd}
use Rattle.agent_workers.specs.RunState.{RunState, Beginning, setup_at}
use Rattle.agent_workers.specs.Progress.{still_after, Heard, Progress, SettlesFirst, ReadsAt, GathersAt, EndsAt}
use Rattle.agent_workers.specs.Running.{AreSettled}
use Rattle.agent_workers.proofs.HeardLemmas.{IsNotOf, read_to, heard_push, heard_accepted, heard_full, heard_ended}
use Rattle.agent_workers.proofs.HeardLemmas.{heard_free, heard_read_none, heard_read_some}
use Rattle.agent_workers.proofs.HeldLemmas.{failed_none, failed_quiet}
use Rattle.agent_workers.proofs.ProgressLemmas.{text-push, all_heard_set, all_said_push, order-push, went_behind}
use Rattle.agent_workers.proofs.ProgressLemmas.{all_flushed, pushed_still}
use Rattle.formats.proofs.GroupLemmas.{told_then}

-- one of the inputs changes, and the journal stays
pub went_set : (start : Beginning) (core : CoreState) (now : RunState) (ins : List InPart) (i : ℕ) (part : InPart)
    → i < length ins → (w : Progress start (record now { core = core; ins = ins }))
    → Heard (in_at start.ins i) part i w.journal → Progress start (record now { core = core; ins = set ins i part })
went_set start core now ins i part b w here = record {
  journal = w.journal;
  text = w.text;
  in_count = length-set ins i part ∙ w.in_count;
  heard = all_heard_set start.ins ins w.journal w.journal i part b here (λ k ne h. h) w.heard;
  out_count = w.out_count;
  said = w.said;
  work_is = w.work_is;
  worked = w.worked;
  pushed = w.pushed;
  order = w.order;
  counted_at = w.counted_at;
  still = w.still;
}

-- the next group was read, and is held where it has a piece
module _ (start : Beginning) (core : CoreState) (now : RunState) (ins : List InPart) (old : InPart) (after : Hand)
    (state : InState) (moment : ℤ) (group : Group) (left : Option (List ℕ)) (read_faults next : ℕ)
    (held : Option Gathered)
    (b : old.input < length ins) (at : in_at ins old.input ≡ old) (reading : old.state ≡ states.Reading)
    (free : old.held ≡ None) (one_piece : 1 ≤ old.rule.most)
    (g : ReadsGroup old.rule moment group state old.hand after old.left left)
    (gives : Gives old.moments old.next next moment) (later : old.read_faults ≤ read_faults)
    (counted : Told old.left left (λ xs ys. old.hand.taken + length xs ≡ after.taken + length ys))
    (limit : state ≡ states.LimitReached → after.taken ≡ 2 ^ 40)
    (below : (state ≡ states.LimitReached → ⊥) → after.taken < 2 ^ 40)
    (faulted : state ≡ states.Faulted → Rose old.read_faults read_faults)
    (one : state ≡ states.Faulted → length (to_come after []) ≤ 1)
    (line : state ≡ states.Faulted → length (to_come after (10 ∷ [])) ≤ 1)
    (none : group.pieces ≡ 0 → held ≡ None) (some : 0 < group.pieces → held ≡ Some (gathered_of old.input moment group))
    (w : Progress start (record now { core = core; ins = ins })) where
  before : Heard (in_at start.ins old.input) (record old { state = states.Reading; held = None }) old.input w.journal
  before = heard_free (in_at start.ins old.input) old old.input w.journal reading free
      (subst (λ (x : InPart). Heard (in_at start.ins old.input) x old.input w.journal) at (w.heard old.input b))

  read : Heard (in_at start.ins old.input) (read_to old state after left read_faults next held) old.input w.journal
  read =
      elim (cases_eq group.pieces 0) [
        | inl e ↦ subst (λ (x : Option Gathered). Heard (in_at start.ins old.input)
            (read_to old state after left read_faults next x) old.input w.journal) (sym (none e))
            (heard_read_none (in_at start.ins old.input) old old.input w.journal after state moment group left
            read_faults next before one_piece g gives later counted limit below faulted one line e)
        | inr ne ↦ let l : 0 < group.pieces = omega (arith, ne) in
            subst (λ (x : Option Gathered). Heard (in_at start.ins old.input)
            (read_to old state after left read_faults next x) old.input w.journal) (sym (some l))
            (heard_read_some (in_at start.ins old.input) old old.input w.journal after state moment group left
            read_faults next before one_piece g gives later counted limit below faulted one line l)
      ]

  pub went_read : Progress start (record now {
    core = core;
    ins = set ins old.input
        (read_to old state after left read_faults next held);
  })
  went_read = went_set start core now ins old.input (read_to old state after left read_faults next held) b w read

-- the moments of an input's clock by another term
pub went_clocked : (start : Beginning) (core : CoreState) (now : RunState) (ins : List InPart) (i : ℕ) (part : InPart)
    (moments : Option Moments) → moments ≡ part.moments → Progress start
    (record now { core = core; ins = set ins i part }) → Progress start
    (record now { core = core; ins = set ins i (record part { moments = moments }) })
went_clocked start core now ins i part moments same w = subst
    (λ (m : Option Moments). Progress start (record now { core = core; ins = set ins i (record part { moments = m }) }))
    (sym same) w

-- nothing changes
pub reads_none : (core : CoreState) (part new : InPart) → new ≡ part → ReadsAt core core part new
reads_none core part new same = λ ins b at start now w.
    let kept : set ins part.input new ≡ ins = ap (set ins part.input) same
    ∙ subst (λ (x : InPart). set ins part.input x ≡ ins) at (set-get_or ins part.input no_in) in
    subst (λ (all : List InPart). Progress start (record now { core = core; ins = all })) (sym kept) w

-- the Gather of one input, and its Ended, say nothing of another one
gather_other : (g : Gathered) (number : Option ℕ) (reports : List Report) (k : ℕ) → k ≢ g.input
    → IsNotOf k (entry_of g number reports)
gather_other g number reports k ne =
    let apart : (g.input == k) ≡ false = differs g.input k (λ e. ne (sym e)) in
    record { none = ap (λ (here : Bool). if here then (said_of g number reports ∷ []) else []) apart; other = refl }

ended_other : (i k : ℕ) → k ≢ i → IsNotOf k (Ended i)
ended_other i k ne = record { none = refl; other = differs i k (λ e. ne (sym e)) }

-- no item of the input is raw, and at each output nothing is buffered or the last batch failed
drained : (start : Beginning) (core : CoreState) (now : RunState)
    (w : Progress start (record now { core = core; ticked = true })) (i : ℕ)
    → now.next ≤ i → start.first ≡ true → AreSettled core now.outs → IsDrained (setup_at start) w.journal i
drained start core now w i l f settled = record {
  none_raw = w.order.none_raw f i l;
  flushed = all_flushed start core (record now { ticked = true }) w (w.order.has_ticked refl f) settled;
}

-- what an input holds is gathered
pub went_accepted : (start : Beginning) (core next : CoreState) (now : RunState) (ins : List InPart) (part : InPart)
    (g : Gathered) → part.input < length ins → in_at ins part.input ≡ record part { held = Some g }
    → g.input ≡ part.input → core.gathered + length g.metrics < 2 ^ 32 →
    next ≡ after_gather core g → Continues core next (gather_entry core g) → SettlesFirst start core now.outs
    → Progress start (record now { core = core; ins = ins; next = part.input; ticked = true })
    → Progress start (record now {
      core = next;
      ins = set ins part.input (record part { held = None });
      next = part.input + 1;
      ticked = true;
      still = 0;
    })
went_accepted start core next now ins part g b at own few is more settled w =
    let i : ℕ = part.input in
    let shape : IsGatherEntry g (gather_entry core g) = entries-have-shape.gathers core g in
    let number : Option ℕ = shape.0 in
    let reports : List Report = shape.1 in
    let e : Entry = entry_of g number reports in
    let before : Heard (in_at start.ins i) (record part { held = Some g }) i w.journal =
    subst (λ (x : InPart). Heard (in_at start.ins i) x i w.journal) at (w.heard i b) in
    let after : Heard (in_at start.ins i) (record part { held = None }) i (w.journal ++ e ∷ []) =
    heard_accepted (in_at start.ins i) part i w.journal g number reports own
    (omega (arith, few, w.text.stands.gathered)) before in
    record {
      journal = w.journal ++ e ∷ [];
      text = text-push start core next now.journal w.journal e refl w.text (subst (Continues core next) shape.2 more)
          (ap (λ (s : CoreState). s.stored) is ∙ ap (λ (x : Entry). core.stored ++ x ∷ []) shape.2)
          (ap (λ (s : CoreState). s.setup) is);
      in_count = length-set ins i (record part { held = None }) ∙ w.in_count;
      heard = all_heard_set start.ins ins w.journal (w.journal ++ e ∷ []) i (record part { held = None }) b after
          (λ k ne h. heard_push (in_at start.ins k) (in_at ins k) k w.journal e
          (gather_other g number reports k (λ q. ne (q ∙ own))) h) w.heard;
      out_count = w.out_count;
      said = all_said_push start.outs now.outs w.journal e (λ o. record { ends = tt; none = refl; quiet = refl }) refl
          w.said;
      work_is = w.work_is;
      worked = worked-push start.job.work w.journal e tt w.worked;
      pushed = pushed_still core now.proc w.journal e w.text.stands refl w.pushed;
      order = order-push start core i (i + 1) true w.journal e refl refl w.worked w.text.stands (omega arith)
          (λ f. drained start core (record now { ins = ins; next = i }) w g.input (omega (arith, own)) f
          (settled f))
          (λ k l. none_of_other k g.input (length g.metrics) number
          (λ (q : g.input ≡ k). absurd (omega (arith, l, q, own)))) w.order;
      counted_at = counted_moments-same w.journal e refl ∙ w.counted_at;
      still = failed_none (w.journal ++ e ∷ []);
    }

-- what an input holds is too much for the run
pub went_full : (start : Beginning) (core : CoreState) (now : RunState) (ins : List InPart) (part : InPart)
    (g : Gathered) → part.input < length ins → in_at ins part.input ≡ record part { held = Some g } → 1 ≤ part.rule.most
    → HoldsNoEnd part.state (Some g) → 2 ^ 32 ≤ core.gathered + length g.metrics →
    Progress start (record now { core = core; ins = ins }) → Progress start
    (record now { core = core; ins = set ins part.input (record part { held = Some g; state = states.LimitReached }) })
went_full start core now ins part g b at some no_end many w =
    let i : ℕ = part.input in
    let before : Heard (in_at start.ins i) (record part { held = Some g }) i w.journal =
    subst (λ (x : InPart). Heard (in_at start.ins i) x i w.journal) at (w.heard i b) in
    went_set start core now ins i (record part { held = Some g; state = states.LimitReached }) b w
    (heard_full (in_at start.ins i) part i w.journal g some no_end (omega (arith, many, w.text.stands.gathered)) before)

-- the end of an input is noted
pub went_ended : (start : Beginning) (core next : CoreState) (now : RunState) (ins : List InPart) (part : InPart)
    → part.input < length ins → in_at ins part.input ≡ record part { state = states.Reading; held = None }
    → 1 ≤ part.rule.most →
    next ≡ after_ended core part.input → Continues core next (Ended part.input)
    → Told (in_at start.ins part.input).left part.left (λ xs ys. to_come part.hand ys ≡ [])
    → Progress start (record now { core = core; ins = ins })
    → Progress start (record now {
      core = next;
      ins = set ins part.input
          (record part { state = states.Ended; held = None });
    })
went_ended start core next now ins part b at some is more none w =
    let i : ℕ = part.input in
    let e : Entry = Ended i in
    let before : Heard (in_at start.ins i) (record part { state = states.Reading; held = None }) i w.journal =
    subst (λ (x : InPart). Heard (in_at start.ins i) x i w.journal) at (w.heard i b) in
    record {
      journal = w.journal ++ e ∷ [];
      text = text-push start core next now.journal w.journal e refl w.text more (ap (λ (s : CoreState). s.stored) is)
          (ap (λ (s : CoreState). s.setup) is);
      in_count = length-set ins i (record part { state = states.Ended; held = None }) ∙ w.in_count;
      heard = all_heard_set start.ins ins w.journal (w.journal ++ e ∷ []) i
          (record part { state = states.Ended; held = None }) b
          (heard_ended (in_at start.ins i) part i w.journal some before none)
          (λ k ne h. heard_push (in_at start.ins k) (in_at ins k) k w.journal e (ended_other i k ne) h) w.heard;
      out_count = w.out_count;
      said = all_said_push start.outs now.outs w.journal e (λ o. record { ends = tt; none = refl; quiet = refl }) refl
          w.said;
      work_is = w.work_is;
      worked = worked-push start.job.work w.journal e tt w.worked;
      pushed = pushed_still core now.proc w.journal e w.text.stands refl w.pushed;
      order = order-push start core now.next now.next now.ticked w.journal e refl refl w.worked w.text.stands
          (omega arith)
          (λ f. tt)
          (λ k l. refl) w.order;
      counted_at = counted_moments-same w.journal e refl ∙ w.counted_at;
      still = failed_quiet now.still w.journal e refl refl w.still;
    }

-- nothing was held
pub gathers_none : (old new : CoreState) (part new_part : InPart) → new ≡ old → new_part ≡ part
    → GathersAt false old new part new_part
gathers_none old new part new_part core same = λ ins b at start now settled w.
    let kept : set ins part.input new_part ≡ ins = ap (set ins part.input) same
    ∙ subst (λ (x : InPart). set ins part.input x ≡ ins) at (set-get_or ins part.input no_in) in
    went_behind start new (record now { ins = set ins part.input new_part; ticked = true }) part.input (part.input + 1)
    (omega arith)
    (subst (λ (all : List InPart). Progress start (record now
    { core = new; ins = all; next = part.input; ticked = true })) (sym kept)
    (subst (λ (k : CoreState). Progress start (record now { core = k; ins = ins; next = part.input; ticked = true }))
    (sym core) w))

-- no end is noted
pub ends_none : (met : Bool) (old new : CoreState) (part new_part : InPart) → new ≡ old → new_part ≡ part
    → EndsAt met old new part new_part
ends_none met old new part new_part core same = λ ins b at start now told w.
    let kept : set ins part.input new_part ≡ ins = ap (set ins part.input) same
    ∙ subst (λ (x : InPart). set ins part.input x ≡ ins) at (set-get_or ins part.input no_in) in
    subst (λ (all : List InPart). Progress start (record now { core = new; ins = all })) (sym kept)
    (subst (λ (k : CoreState). Progress start (record now { core = k; ins = ins })) (sym core) w)

-- ---- the turn of an input: it is read, what it holds is offered, and its end is noted

set_here : (ins : List InPart) (i : ℕ) (part : InPart) → i < length ins → in_at (set ins i part) i ≡ part
set_here ins i part b = get_or-set_same ins i part no_in b

module _ (met accepted : Bool) (old offered new : CoreState) (part read held last : InPart) (same : read.input
    ≡ part.input)
    (offered_as : IsOffered read held) (reads : ReadsAt old old part read) (ends_met : met ≡ true → HasMetEnd part read)
    (gathers : GathersAt accepted old offered read held) where
  module _ (ins : List InPart) (b : part.input < length ins) (at : in_at ins part.input ≡ part) (start : Beginning)
      (now : RunState) (settled : SettlesFirst start old now.outs)
      (w : Progress start (record now { core = old; ins = ins; next = part.input; ticked = true })) where
    -- once it was read
    after_read : Progress start (record now
        { core = old; ins = set ins part.input read; next = part.input; ticked = true })
    after_read = reads ins b at start (record now { next = part.input; ticked = true }) w

    -- once what it holds was offered
    after_offer : Progress start (record now {
      core = offered;
      ins = set ins part.input held;
      next = part.input + 1;
      ticked = true;
      still = still_after accepted now.still;
    })
    after_offer =
        let i : ℕ = part.input in
        let l : read.input < length (set ins i read) = omega (arith, b, same, length-set ins i read) in
        let here : in_at (set ins i read) read.input ≡ read =
        ap (in_at (set ins i read)) same ∙ set_here ins i read b in
        let twice : set (set ins i read) read.input held ≡ set ins i held =
        ap (λ (k : ℕ). set (set ins i read) k held) same ∙ set-set ins i read held in
        let from : Progress start (record now { core = old; ins = set ins i read; next = read.input; ticked = true }) =
        subst (λ (k : ℕ). Progress start (record now { core = old; ins = set ins i read; next = k; ticked = true }))
        (sym same) after_read in
        let to = gathers (set ins i read) l here start now settled from in
        let count : ℕ = still_after accepted now.still in
        subst (λ (k : ℕ). Progress start (record now
        { core = offered; ins = set ins i held; next = k + 1; ticked = true; still = count })) same
        (subst (λ (all : List InPart). Progress start (record now
        { core = offered; ins = all; next = read.input + 1; ticked = true; still = count }))
        twice to)

    -- what the end is told by
    told_end : met ≡ true → Told (in_at start.ins part.input).left held.left (λ xs ys. to_come held.hand ys ≡ [])
    told_end e =
        let h : Heard (in_at start.ins part.input) part part.input w.journal =
        subst (λ (x : InPart). Heard (in_at start.ins part.input) x part.input w.journal) at (w.heard part.input b) in
        let told = told_then (in_at start.ins part.input).left part.left read.left
        (λ xs ys. length xs ≡ part.hand.taken + length ys) (λ ys zs. to_come read.hand zs ≡ [])
        (λ xs zs. to_come read.hand zs ≡ []) h.counted (ends_met e).1 (λ xs ys zs a c. c) in
        subst (λ (x : InPart). Told (in_at start.ins part.input).left x.left (λ xs ys. to_come x.hand ys ≡ []))
        (sym offered_as) told

  -- the run is full
  pub turns_full : GathersAt accepted old offered part held
  turns_full = λ ins b at start now settled w. after_offer ins b at start now settled w

  -- it isn't, and the end may be noted
  pub turns : held.input ≡ read.input → EndsAt met offered new held last → GathersAt accepted old new part last
  turns number ends = λ ins b at start now settled w.
      let i : ℕ = part.input in
      let is : held.input ≡ i = number ∙ same in
      let l : held.input < length (set ins i held) = omega (arith, b, is, length-set ins i held) in
      let here : in_at (set ins i held) held.input ≡ held = ap (in_at (set ins i held)) is ∙ set_here ins i held b in
      let twice : set (set ins i held) held.input last ≡ set ins i last =
      ap (λ (k : ℕ). set (set ins i held) k last) is ∙ set-set ins i held last in
      let told = subst (λ (k : ℕ). met ≡ true → Told (in_at start.ins k).left held.left
      (λ xs ys. to_come held.hand ys ≡ [])) (sym is) (told_end ins b at start now settled w) in
      let count : ℕ = still_after accepted now.still in
      subst (λ (all : List InPart). Progress start (record now
      { core = new; ins = all; next = i + 1; ticked = true; still = count }))
      twice (ends (set ins i held) l here start (record now { next = i + 1; ticked = true; still = count }) told
      (after_offer ins b at start now settled w))

-- ---- what came of an offer

-- what is held, by name
pub held_as : (part : InPart) (g : Gathered) → part.held ≡ Some g → part ≡ record part { held = Some g }
held_as part g e = ap (λ (x : Option Gathered). let p : InPart = record part { held = x } in p) e

pub own_of : (part : InPart) (g : Gathered) → part.held ≡ Some g → HoldsOwn part → g.input ≡ part.input
own_of part g e own = (subst (λ (x : Option Gathered). IfSome x
    (λ y. (y.input ≡ part.input) × FitsGather part.rule (length y.metrics))) e own).0

-- it was accepted
pub offer_accepted : (core next : CoreState) (part : InPart) (g : Gathered) → part.held ≡ Some g → HoldsOwn part
    → core.gathered + length g.metrics < 2 ^ 32 → next ≡ after_gather core g
    → Continues core next (gather_entry core g) → GathersAt true core next part (record part { held = None })
offer_accepted core next part g e own few is more = λ ins b at start now settled w. went_accepted start core
    next now ins part g b (at ∙ held_as part g e) (own_of part g e own) few is more settled w

-- the run is full
pub offer_full : (core next : CoreState) (part : InPart) (g back : Gathered) → part.held ≡ Some g → back ≡ g
    → next ≡ core → 1 ≤ part.rule.most → HoldsNoEnd part.state part.held → 2 ^ 32 ≤ core.gathered + length g.metrics
    → GathersAt false core next part (record part { held = Some back; state = states.LimitReached })
offer_full core next part g back e same core_same some no_end many = λ ins b at start now settled w.
    let full : Progress start (record now {
      core = core;
      ins =
          set ins part.input (record part { held = Some g; state = states.LimitReached });
      next = part.input;
      ticked = true;
    }) =
    went_full start core (record now { next = part.input; ticked = true }) ins part g b (at ∙ held_as part g e) some
    (subst (HoldsNoEnd part.state) e no_end) many w in
    went_behind start next (record now {
      ins = set ins part.input
          (record part { held = Some back; state = states.LimitReached });
      ticked = true;
    }) part.input (part.input + 1) (omega arith)
    (subst (λ (x : Gathered). Progress start (record now {
      core = next;
      ins = set ins part.input (record part { held = Some x; state = states.LimitReached });
      next = part.input;
      ticked = true;
    })) (sym same)
    (subst (λ (k : CoreState). Progress start (record now {
      core = k;
      ins = set ins part.input (record part { held = Some g; state = states.LimitReached });
      next = part.input;
      ticked = true;
    })) (sym core_same) full))

-- items were raw
pub offer_kept : (core next : CoreState) (part : InPart) (g back : Gathered) → part.held ≡ Some g → back ≡ g
    → next ≡ core → GathersAt false core next part (record part { held = Some back })
offer_kept core next part g back e same core_same =
    gathers_none core next part (record part { held = Some back }) core_same
    (ap (λ (x : Gathered). let p : InPart = record part { held = Some x } in p) same ∙ sym (held_as part g e))

-- the end was met, and is noted
pub end_noted : (met : Bool) (core next : CoreState) (part : InPart) → met ≡ true → part.held ≡ None
    → part.state ≡ states.Reading → 1 ≤ part.rule.most → next ≡ after_ended core part.input
    → Continues core next (Ended part.input) → EndsAt met core next part (record part { state = states.Ended })
end_noted met core next part e free reading some is more = λ ins b at start now told w.
    let as_free : part ≡ record part { state = states.Reading; held = None } =
    ap (λ (x : InState). let p : InPart = record part { state = x } in p) reading
    ∙ ap (λ (x : Option Gathered). let p : InPart = record part { state = states.Reading; held = x } in p) free in
    subst (λ (x : Option Gathered). Progress start (record now
    { core = next; ins = set ins part.input (record part { state = states.Ended; held = x }) })) (sym free)
    (went_ended start core next now ins part b (at ∙ as_free) some is more (told e) w)
