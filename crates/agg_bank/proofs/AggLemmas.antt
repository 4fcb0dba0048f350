-- One aggregator and one event more.
use Rattle.std.proofs.Common.{◌≡◌, ◌<◌, ◌++◌, ◌+ℤ◌, ◌-ℤ◌, ◌^◌, ℕ, ℤ, Bool, true, false, List, [], ◌∷◌, length}
use Rattle.std.proofs.Common.{Some, None, Option, refl, sym, ap, ap₂, ◌∙◌, subst, arith}
use Rattle.std.proofs.lemmas.List.{append-nil}
use Rattle.std.specs.Int.{int_max, int_min}
use Rattle.std.specs.Prelude.{◌&&◌, if◌then◌else◌, int_lt, not, slice_get}
use Rattle.account.specs.declared.setup.AggLine.{AggLine}
use Rattle.account.specs.declared.setup.AggWord.{AggWord}
use Rattle.metric.specs.declared.metric.Content.{Content}
use Rattle.agg_bank.specs.Bank.{AggMemory, AggStands, FoldMemory, FoldStands}
use Rattle.agg_bank.specs.Events.{closing_event, has_stopped, offered, view_at, BankEvent, Offer, Stop}
use Rattle.account.specs.AggLines.{IsLine}
use Rattle.agg_bank.specs.Made.{folded, folded_at, made_by}
use Rattle.agg_bank.specs.Members.{left, members, members_from, taken_of}
use Rattle.agg_bank.specs.Open.{begin_after, begin_at, is_open_to}
use Rattle.agg_bank.specs.Ready.{closes_at, closing_if, takes_at, FoldCanAdd, FoldIsReady, IsReadyFor, Keeps}
use Rattle.agg_bank.specs.Verdicts.{takes_view}
use Rattle.agg_bank.specs.Windows.{begin_of, closing_at, grows, last_moment, takes, window_at, window_number}
use Rattle.agg_bank.proofs.EventLemmas.{members-close, members-offer, members_few, number-same, number-tick}
use Rattle.agg_bank.proofs.FoldLemmas.{ready_can}
use Rattle.agg_bank.proofs.WindowLemmas.{lt_max, lt_times, max_times}

-- ---- views

taken_none : (line : AggLine) (start : ℤ) (events : List BankEvent) (view : Option Content)
    → takes_view line start events view ≡ false → taken_of line start events view ≡ []
taken_none line start events None e = refl
taken_none line start events (Some m) e = ap (λ t. if t then m ∷ [] else []) e

taken_one : (line : AggLine) (start : ℤ) (events : List BankEvent) (m : Content)
    → takes line start events m ≡ true → taken_of line start events (Some m) ≡ m ∷ []
taken_one line start events m e = ap (λ t. if t then m ∷ [] else []) e

not_both : (t : Bool) → t ≡ true → t ≡ false → ⊥
not_both t yes_it no_it = absurd cc

some_same : (x y : Content) → Some x ≡ Some y → x ≡ y
some_same x y e = cc

-- what is prepared for a view that is taken can be added
pub can_add : (stopped : Bool) (memory : AggMemory) (view : Option Content) → IsReadyFor stopped view memory
    → takes_at stopped memory view ≡ true → FoldCanAdd memory.fold
can_add stopped memory None ready takes = absurd cc
can_add stopped memory (Some m) ready takes = ready_can m memory.fold (ready m refl takes)

pub ready_none : (stopped : Bool) (memory : AggMemory) (view : Option Content) → view ≡ None
    → IsReadyFor stopped view memory
ready_none stopped memory None e = λ m is taken. absurd cc
ready_none stopped memory (Some m) e = absurd cc

pub ready_untaken : (stopped : Bool) (memory : AggMemory) (view : Option Content)
    → takes_at stopped memory view ≡ false → IsReadyFor stopped view memory
ready_untaken stopped memory view e = λ m is taken. absurd (not_both (takes_at stopped memory view) taken e)

pub ready_some : (stopped : Bool) (memory : AggMemory) (view : Option Content) (m : Content) → view ≡ Some m
    → FoldIsReady m memory.fold → IsReadyFor stopped view memory
ready_some stopped memory view m e ready = λ other is taken.
    subst (λ (x : Content). FoldIsReady x memory.fold) (some_same m other (sym e ∙ is)) ready

-- ---- closings

stop_is : (stopped : Bool) (moment : ℤ) (behind : Bool)
    → (if not stopped then Some (record { moment = moment; all = true }) else None)
    ≡ closing_if (if stopped then false else if true then true else behind) moment true
stop_is true moment behind = refl
stop_is false moment behind = refl

tick_is : (stopped moves : Bool) (moment : ℤ)
    → (if not stopped && moves then Some (record { moment = moment; all = false }) else None)
    ≡ closing_if (if stopped then false else if false then true else moves) moment false
tick_is true moves moment = refl
tick_is false moves moment = refl

unseen : (aggregator : ℕ) (all : Bool) (moment : ℤ) → view_at aggregator (closing_event all moment) ≡ None
unseen aggregator true moment = refl
unseen aggregator false moment = refl

-- ---- an aggregator that stands for events

abbrev pub agg : AggLine → ℤ → FoldMemory → AggMemory
agg line begin fold = record { line = line; begin = begin; fold = fold }

pub stands_new : (aggregator : ℕ) (line : AggLine) (start begin : ℤ) (fold : FoldMemory)
    → begin ≡ begin_at line start → FoldStands line.kind [] fold → AggStands aggregator start [] (agg line begin fold)
unfolding members_from
stands_new aggregator line start begin fold b f = record { begin = b; fold = f }

pub stands_kept : (aggregator : ℕ) (start : ℤ) (events : List BankEvent) (old new : AggMemory) → Keeps old new
    → AggStands aggregator start events old → AggStands aggregator start events new
stands_kept aggregator start events old new keeps s = record {
  begin = keeps.begin ∙ s.begin
      ∙ ap (λ (line : AggLine). begin_of line (window_number line start events)) (sym keeps.line);
  fold = subst (λ (line : AggLine). FoldStands line.kind (members aggregator line start events) new.fold)
      (sym keeps.line) (keeps.fold old.line.kind (members aggregator old.line start events) s.fold);
}

module _ (aggregator : ℕ) (line : AggLine) (start : ℤ) (events : List BankEvent) (begin : ℤ) (old : FoldMemory)
    (stopped : Bool) (stop : stopped ≡ has_stopped events) (s : AggStands aggregator start events (agg line begin old))
  where
    abbrev number : ℤ
    number = window_number line start events

    abbrev those : List Content
    those = members aggregator line start events

    pub takes_is : (view : Option Content)
        → takes_at stopped (agg line begin old) view ≡ takes_view line start events view
    takes_is None = refl
    takes_is (Some m) = ap₂ (λ t b. not t && is_open_to line b m.time) stop s.begin

    -- ---- an offer

    module _ (views : List (Option Content)) where
      with_members : (new : FoldMemory) (news : List Content)
          → members aggregator line start (events ++ Offer views ∷ []) ≡ news → FoldStands line.kind news new
          → AggStands aggregator start (events ++ Offer views ∷ []) (agg line begin new)
      with_members new news e f = record {
        begin = s.begin ∙ ap (begin_of line) (sym (number-same line start events (Offer views) refl));
        fold = subst (λ ms. FoldStands line.kind ms new) (sym e) f;
      }

      pub stands_passed : (view : Option Content) → slice_get views aggregator ≡ Some view
          → takes_at stopped (agg line begin old) view ≡ false
          → AggStands aggregator start (events ++ Offer views ∷ []) (agg line begin old)
      stands_passed view is none =
          with_members old those (members-offer aggregator line start events views view is
          ∙ ap (λ more. those ++ more) (taken_none line start events view (sym (takes_is view) ∙ none))
          ∙ append-nil those) s.fold

      pub stands_added : (view : Option Content) (new : FoldMemory) → slice_get views aggregator ≡ Some view
          → takes_at stopped (agg line begin old) view ≡ true → IsReadyFor stopped view (agg line begin old)
          → offered events < 2 ^ 32
          → ((word : AggWord) (ms : List Content) (m : Content) → FoldStands word ms old → FoldIsReady m old
          → length ms < 4294967296 → FoldStands word (ms ++ m ∷ []) new)
          → AggStands aggregator start (events ++ Offer views ∷ []) (agg line begin new)
      stands_added None new is taken ready few add = absurd cc
      stands_added (Some m) new is taken ready few add =
          with_members new (those ++ m ∷ []) (members-offer aggregator line start events views (Some m) is
          ∙ ap (λ more. those ++ more) (taken_one line start events m (sym (takes_is (Some m)) ∙ taken)))
          (add line.kind those m s.fold (ready m refl taken)
          (omega (arith, members_few aggregator line start events)))

    -- ---- a closing

    module _ (is_line : IsLine line) (moment : ℤ) where
      abbrev opened : ℤ
      opened = window_at line (moment -ℤ line.delay)

      grows_is : grows line start events moment ≡ int_lt begin (begin_at line (moment -ℤ line.delay))
      grows_is =
          ap (int_lt number) (number-tick line start events moment) ∙ lt_max number opened
          ∙ sym (lt_times number opened line.period is_line.period)
          ∙ ap (λ b. int_lt b (begin_of line opened)) (sym s.begin)

      pub closing_is : (all : Bool) → closing_at line start events (closing_event all moment)
          ≡ closing_if (closes_at stopped (agg line begin old) moment all) moment all
      closing_is true =
          ap (λ t. if not t then Some (record { moment = moment; all = true }) else None) (sym stop)
          ∙ stop_is stopped moment (int_lt begin (begin_of line opened))
      closing_is false =
          ap₂ (λ t moves. if not t && moves then Some (record { moment = moment; all = false }) else None) (sym stop)
          grows_is
          ∙ tick_is stopped (int_lt begin (begin_of line opened)) moment

      pub made_is : (all : Bool) → made_by aggregator line start events (closing_event all moment)
          ≡ folded_at line.kind (int_min (begin +ℤ line.period) last_moment)
          (closing_if (closes_at stopped (agg line begin old) moment all) moment all) those
      made_is all =
          ap₂ (λ time closing. folded_at line.kind time closing those)
          (ap (λ b. int_min (b +ℤ line.period) last_moment) (sym s.begin)) (closing_is all)

      pub made_none : (all : Bool) → closes_at stopped (agg line begin old) moment all ≡ false
          → made_by aggregator line start events (closing_event all moment) ≡ []
      made_none all e =
          made_is all
          ∙ ap (λ t. folded_at line.kind (int_min (begin +ℤ line.period) last_moment) (closing_if t moment all) those) e

      pub made_some : (all : Bool) → closes_at stopped (agg line begin old) moment all ≡ true
          → made_by aggregator line start events (closing_event all moment)
          ≡ folded line.kind (int_min (begin +ℤ line.period) last_moment) (record { moment = moment; all = all }) those
      made_some all e =
          made_is all
          ∙ ap (λ t. folded_at line.kind (int_min (begin +ℤ line.period) last_moment) (closing_if t moment all) those) e

      begin_is : (all : Bool) → begin_after line begin moment all
          ≡ begin_of line (window_number line start (events ++ closing_event all moment ∷ []))
      begin_is true = s.begin ∙ ap (begin_of line) (sym (number-same line start events (Stop moment) refl))
      begin_is false =
          ap (λ b. int_max b (begin_of line opened)) s.begin
          ∙ sym (max_times number opened line.period is_line.period)
          ∙ ap (begin_of line) (sym (number-tick line start events moment))

      pub stands_closed : (all : Bool) (now : ℤ) (new : FoldMemory) → now ≡ begin_after line begin moment all
          → ((word : AggWord) (ms : List Content) → FoldStands word ms old → FoldStands word
          (left word (closing_if (closes_at stopped (agg line begin old) moment all) moment all) ms) new)
          → AggStands aggregator start (events ++ closing_event all moment ∷ []) (agg line now new)
      stands_closed all now new b forget = record {
        begin = b ∙ begin_is all;
        fold = subst (λ ms. FoldStands line.kind ms new)
            (sym (members-close aggregator line start events (closing_event all moment) (unseen aggregator all moment)
            ∙ ap (λ closing. left line.kind closing those) (closing_is all)))
            (forget line.kind those s.fold);
      }
