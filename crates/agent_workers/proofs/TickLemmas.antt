-- Whether a tick has come since items that were gathered were routed, with one entry more; and what windows make.
use Rattle.std.proofs.Common.{◌≡◌, ℕ, zero, suc, ℤ, Bool, true, false, List, [], ◌∷◌, ◌++◌, ◌||◌, ◌+◌, refl, sym, ap}
use Rattle.std.proofs.Common.{◌∙◌, arith}
use Rattle.std.proofs.Common.{if◌then◌else◌, length, map, subst}
use Rattle.std.proofs.lemmas.List.{nil_from_length}
use Rattle.std.proofs.lemmas.List.Sums.{sum_by-append, sum_by-cons}
use Rattle.std.proofs.lemmas.Bool.{eqb-true}
use Rattle.std.proofs.lemmas.Option.{slice_get_within}
use Rattle.std.specs.Prelude.{◌==◌, cond, count_by, not, replicate}
use Rattle.std.specs.declared.option.Option.TheVariants.{None}
use Rattle.metric.specs.declared.metric.Content.{Content}
use Rattle.account.specs.Items.{items}
use Rattle.account.specs.Origins.{Origin}
use Rattle.account.specs.Setup.{Setup}
use Rattle.account.specs.declared.entry.Entry.{Entry}
use Rattle.account.specs.declared.entry.Entry.TheVariants.{Gather, Ended, Take, Route, Tick, Stop, Begin, Done}
use Rattle.pipeline_core.specs.Order.{behind_tick, has_tick, is_tick, routes_gathered, IsTicked}
use Rattle.pipeline_core.specs.Work.{Work}
use Rattle.pipeline_core.specs.Worked.{AreWorked, Worked, WorkedBy}
use Rattle.pipeline_core.proofs.WorkedLemmas.{made_stays}
use Rattle.pipeline_core.specs.CoreState.{CoreState}
use Rattle.pipeline_core.specs.Moments.{IsStoppedAt, IsTickedAt}
use Rattle.pipeline_core.specs.Stands.{HasJournal, was_made}
use Rattle.agent_config.specs.declared.config.AggConf.{AggConf}
use Rattle.pipeline_core.specs.Windows.{HasNoAggs}
use Rattle.agent_workers.specs.Running.{AllMade, IsAtRest, IsRoutable, IsRunning}
use Rattle.agent_workers.proofs.HeldLemmas.{none_unrouted}
use Rattle.agent_workers.proofs.OutLemmas.{ready_same, routable_same}
use Rattle.agent_workers.proofs.StandingLemmas.{continues}

either : (b : Bool) (xs ys : List Entry) (e : Entry)
    → (if b then xs ++ e ∷ [] else ys ++ e ∷ []) ≡ (if b then xs else ys) ++ e ∷ []
either true xs ys e = refl
either false xs ys e = refl

either_true : (b : Bool) → (b || true) ≡ true
either_true true = refl
either_true false = refl

-- the entries behind the last tick, with one more that is none
tick_in : (es : List Entry) (e : Entry) → is_tick e ≡ false → has_tick (es ++ e ∷ []) ≡ has_tick es
unfolding has_tick
tick_in [] e none = ap (λ (b : Bool). b || false) none
tick_in (d ∷ es) e none = ap (λ (b : Bool). is_tick d || b) (tick_in es e none)

behind-push : (es : List Entry) (e : Entry) → is_tick e ≡ false → behind_tick (es ++ e ∷ []) ≡ behind_tick es ++ e ∷ []
unfolding has_tick behind_tick
behind-push [] e none = ap (λ (b : Bool). if b || false then [] else e ∷ []) none
behind-push (d ∷ es) e none =
    ap (λ (b : Bool). if is_tick d || b then behind_tick (es ++ e ∷ []) else d ∷ (es ++ e ∷ [])) (tick_in es e none)
    ∙ ap (λ (xs : List Entry). if is_tick d || has_tick es then xs else d ∷ (es ++ e ∷ [])) (behind-push es e none)
    ∙ either (is_tick d || has_tick es) (behind_tick es) (d ∷ es) e

-- and with a tick
ticks_in : (es : List Entry) (e : Entry) → is_tick e ≡ true → has_tick (es ++ e ∷ []) ≡ true
unfolding has_tick
ticks_in [] e is = ap (λ (b : Bool). b || false) is
ticks_in (d ∷ es) e is = ap (λ (b : Bool). is_tick d || b) (ticks_in es e is) ∙ either_true (is_tick d)

behind-tick : (es : List Entry) (e : Entry) → is_tick e ≡ true → behind_tick (es ++ e ∷ []) ≡ []
unfolding has_tick behind_tick
behind-tick [] e is = ap (λ (b : Bool). if b || false then [] else e ∷ []) is
behind-tick (d ∷ es) e is =
    ap (λ (b : Bool). if b then behind_tick (es ++ e ∷ []) else d ∷ (es ++ e ∷ [])) (ticks_in (d ∷ es) e is)
    ∙ behind-tick es e is

module _ (work : Work) (journal : List Entry) where
  choose : (b : Bool) (xs ys : List Entry) → AreWorked work journal xs → AreWorked work journal ys
      → AreWorked work journal (if b then xs else ys)
  choose true xs ys h k = h
  choose false xs ys h k = k

  -- what was said of the entries behind the last tick
  behind_worked : (es : List Entry) → AreWorked work journal es → AreWorked work journal (behind_tick es)
  unfolding has_tick behind_tick AreWorked
  behind_worked [] w = tt
  behind_worked (d ∷ es) w = choose (is_tick d || has_tick es) (behind_tick es) (d ∷ es) (behind_worked es w.1) w

  -- an entry that routes an item that was gathered does so still, and one that doesn't does not
  gathered_stays : (more d : Entry) → WorkedBy work journal d
      → routes_gathered (journal ++ more ∷ []) d ≡ routes_gathered journal d
  gathered_stays more (Gather input moment pieces refused passed filtered metrics group reports) w = refl
  gathered_stays more (Ended input) w = refl
  gathered_stays more (Take item) w = refl
  gathered_stays more (Route item whole verdict aggs outs reports) w =
      ap not (made_stays journal more item (slice_get_within (items journal) item w.metric w.is_item))
  gathered_stays more (Tick moment metrics) w = refl
  gathered_stays more (Stop moment metrics) w = refl
  gathered_stays more (Begin output from to) w = refl
  gathered_stays more (Done output ok reports) w = refl

  counts_stay : (more : Entry) (es : List Entry) → AreWorked work journal es
      → count_by (routes_gathered (journal ++ more ∷ [])) es ≡ count_by (routes_gathered journal) es
  unfolding AreWorked
  counts_stay more [] w = refl
  counts_stay more (d ∷ es) w =
      sum_by-cons (λ (x : Entry). cond (routes_gathered (journal ++ more ∷ []) x) 1 0) d es
      ∙ ap (λ (b : Bool). cond b 1 0 + count_by (routes_gathered (journal ++ more ∷ [])) es) (gathered_stays more d w.0)
      ∙ ap (λ (n : ℕ). cond (routes_gathered journal d) 1 0 + n) (counts_stay more es w.1)
      ∙ sym (sum_by-cons (λ (x : Entry). cond (routes_gathered journal x) 1 0) d es)

  -- an entry that is no tick and routes no item that was gathered
  pub ticked-push : (setup : Setup) (e : Entry) → is_tick e ≡ false → routes_gathered (journal ++ e ∷ []) e ≡ false
      → Worked work journal → IsTicked setup journal → IsTicked setup (journal ++ e ∷ [])
  ticked-push setup e none still w h some =
      let gathers : Entry → Bool = routes_gathered (journal ++ e ∷ []) in
      let behind : count_by gathers (behind_tick (journal ++ e ∷ [])) ≡ count_by gathers (behind_tick journal
      ++ e ∷ []) =
      ap (count_by gathers) (behind-push journal e none) in
      let sum : count_by gathers (behind_tick journal ++ e ∷ []) ≡ count_by gathers (behind_tick journal)
      + count_by gathers (e ∷ []) =
      sum_by-append (λ (x : Entry). cond (gathers x) 1 0) (behind_tick journal) (e ∷ []) in
      let before : count_by gathers (behind_tick journal) ≡ 0 =
      counts_stay e (behind_tick journal) (behind_worked journal w) ∙ h some in
      let here : count_by gathers (e ∷ []) ≡ 0 =
      sum_by-cons (λ (x : Entry). cond (gathers x) 1 0) e []
      ∙ ap (λ (b : Bool). cond b 1 0 + count_by gathers []) still in
      omega (arith, behind, sum, before, here)

-- a tick has come
pub ticked-tick : (setup : Setup) (journal : List Entry) (moment : ℤ) (metrics : List Content)
    → IsTicked setup (journal ++ Tick moment metrics ∷ [])
ticked-tick setup journal moment metrics some =
    ap (count_by (routes_gathered (journal ++ Tick moment metrics ∷ []))) (behind-tick journal
    (Tick moment metrics) refl)

-- and nothing happened
pub ticked_first : (setup : Setup) → IsTicked setup []
unfolding behind_tick
ticked_first setup some = refl

-- ---- what was made

-- where nothing is raw or in hand no item is without a Route
pub none_marked : (core : CoreState) → HasJournal core → core.held ≡ None → core.raw ≡ [] → core.made ≡ []
none_marked core h held raw =
    h.stands.made ∙ ap (λ (origins : List Origin). map was_made origins) (none_unrouted core.setup h.journal
    h.stands.legal (sym h.stands.raw ∙ raw) (sym h.stands.held ∙ held))

all_true : (n : ℕ) → AllMade (replicate n true)
all_true zero = tt
all_true (suc n) = (refl, all_true n)

-- what windows make is all that is raw, where nothing was
made_alone : (marks : List Bool) (n : ℕ) → marks ≡ [] → AllMade (marks ++ replicate n true)
made_alone marks n none = subst (λ (ms : List Bool). AllMade (ms ++ replicate n true)) (sym none) (all_true n)

pub made_stopped : (moment : ℤ) (core next : CoreState) → IsStoppedAt moment core next → core.made ≡ []
    → AllMade next.made
made_stopped moment core next stops none = subst AllMade (sym (ap (λ (s : CoreState). s.made) stops.after))
    (made_alone core.made (length stops.metrics) none)

pub made_ticked : (moment : ℤ) (core next : CoreState) → IsTickedAt moment core next → core.made ≡ []
    → AllMade next.made
made_ticked moment core next ticks none = subst AllMade (sym (ap (λ (s : CoreState). s.made) ticks.after))
    (made_alone core.made (length ticks.metrics) none)

-- where no aggregator has a filter there is none
pub none_aggs : (setup : Setup) (confs : List AggConf) → (length confs == 0) ≡ true → length confs ≡ length setup.aggs
    → HasNoAggs setup
none_aggs setup confs none many = nil_from_length setup.aggs (sym many ∙ eqb-true (length confs) 0 none)

-- what a tick leaves: all is as before but for what was made
pub ticked_kept : (moment : ℤ) (core next : CoreState) → IsTickedAt moment core next → core.made ≡ []
    → IsRoutable core next
ticked_kept moment core next ticks none = routable_same core next (ap (λ (s : CoreState). s.setup) ticks.after)
    (ap (λ (s : CoreState). s.ended) ticks.after) (ap (λ (s : CoreState). s.gathered) ticks.after)
    (ap (λ (s : CoreState). s.stopped) ticks.after) (ap (λ (s : CoreState). s.lanes) ticks.after)
    (λ all. made_ticked moment core next ticks none)

pub ticked_rests : (moment : ℤ) (core next : CoreState) → IsTickedAt moment core next → IsRunning core → IsAtRest next
ticked_rests moment core next ticks running = record {
  ready = ready_same core next (ap (λ (s : CoreState). s.setup) ticks.after)
      (ap (λ (s : CoreState). s.lanes) ticks.after) (ap (λ (s : CoreState). s.held) ticks.after) running.ready;
  stands = continues ticks.continues running.stands;
}
