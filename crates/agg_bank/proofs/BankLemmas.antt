-- The aggregators of a bank and one event more.
use Rattle.std.proofs.Common.{◌≡◌, ◌<◌, ◌+◌, ◌++◌, ◌||◌, ◌^◌, ℕ, ℤ, Bool, false, List, [], ◌∷◌, length, get_or}
use Rattle.std.proofs.Common.{Some, Option, drop, take, refl, sym, ap, ap₂, ◌∙◌, subst, zero, suc, append_assoc, of_z}
use Rattle.std.proofs.Common.{to_z}
use Rattle.std.proofs.lemmas.Int.{to_z-of_z}
use Rattle.std.specs.Int.{w64}
use Rattle.std.proofs.lemmas.List.{append-nil, drop_all, drop_more, map-append, take_more}
use Rattle.std.specs.List.{list_any}
use Rattle.std.specs.Prelude.{◌&&◌, ◌≤◌, if◌then◌else◌, slice_get, zip, FitsSigned}
use Rattle.account.specs.declared.entry.Verdict.TheVariants.{Consumed, Late, Passes}
use Rattle.account.specs.declared.setup.AggLine.{AggLine}
use Rattle.metric.specs.declared.metric.Content.{Content}
use Rattle.agg_bank.specs.Bank.{AggMemory, AggStands, BankMemory, BankStands}
use Rattle.agg_bank.specs.Events.{closing_event, has_stopped, offered, BankEvent, Offer}
use Rattle.agg_bank.specs.Made.{made_at, made_by, made_from}
use Rattle.agg_bank.specs.Ready.{consumes_at, lines_in, sees_at, verdict_at, Adds, AllStand, AreReady, Closes}
use Rattle.agg_bank.specs.Ready.{EachIs, Keeps, Prepares}
use Rattle.agg_bank.specs.Verdicts.{consumes, sees, verdict_on}
use Rattle.agg_bank.proofs.AggLemmas.{stands_kept, takes_is}
use Rattle.agg_bank.proofs.EventLemmas.{stopped-closing, stopped-same}

-- ---- what each does

pub keeps_self : (memory : AggMemory) → Keeps memory memory
keeps_self memory = record { line = refl; begin = refl; fold = λ kind members h. h }

pub keeps_of : (stopped : Bool) (views : List (Option Content)) (olds news : List AggMemory)
    → EachIs (Prepares stopped views) olds news → EachIs (λ at. Keeps) olds news
keeps_of stopped views olds news each = record {
  lines = each.lines;
  each = λ k new got.
      let of = each.each k new got in
      record { old = of.old; was = of.was; is = of.is.keeps };
}

pub ready_of : (stopped : Bool) (views : List (Option Content)) (olds news : List AggMemory)
    → EachIs (Prepares stopped views) olds news → AreReady stopped views news
ready_of stopped views olds news each = λ k new got view is. (each.each k new got).is.ready view is

pub kept : (start : ℤ) (events : List BankEvent) (olds news : List AggMemory) → EachIs (λ at. Keeps) olds news
    → AllStand start events olds → AllStand start events news
kept start events olds news each all = λ k new got.
    let of = each.each k new got in
    stands_kept k start events of.old new of.is (all k of.old of.was)

added : (stopped : Bool) (views : List (Option Content)) (start : ℤ) (events : List BankEvent)
    (olds news : List AggMemory) → EachIs (Adds stopped views) olds news → stopped ≡ has_stopped events
    → offered events < 2 ^ 32 → AllStand start events olds → AllStand start (events ++ Offer views ∷ []) news
added stopped views start events olds news each stop few all = λ k new got.
    let of = each.each k new got in
    of.is.stands start events stop few (all k of.old of.was)

closed : (stopped : Bool) (e : BankEvent) (start : ℤ) (events : List BankEvent)
    (olds news : List AggMemory) → EachIs (Closes stopped e) olds news → stopped ≡ has_stopped events
    → AllStand start events olds → AllStand start (events ++ e ∷ []) news
closed stopped e start events olds news each stop all = λ k new got.
    let of = each.each k new got in
    of.is.stands start events stop (all k of.old of.was)

-- ---- a bank

abbrev pub bank_of : List AggMemory → Bool → BankMemory
bank_of aggregators stopped = record { aggregators = aggregators; stopped = stopped }

module _ (lines : List AggLine) (start : ℤ) (events : List BankEvent) (olds : List AggMemory) (stopped : Bool)
    (s : BankStands lines start events (bank_of olds stopped)) where
  pub bank_kept : (news : List AggMemory) → EachIs (λ at. Keeps) olds news
      → BankStands lines start events (bank_of news stopped)
  bank_kept news each = record {
    same = each.lines ∙ s.same;
    stopped = s.stopped;
    each = kept start events olds news each s.each;
  }

  pub bank_offered : (views : List (Option Content)) (mids news : List AggMemory) → offered events < 2 ^ 32
      → EachIs (Prepares stopped views) olds mids → EachIs (Adds stopped views) mids news
      → BankStands lines start (events ++ Offer views ∷ []) (bank_of news stopped)
  bank_offered views mids news few prepared adds = record {
    same = adds.lines ∙ prepared.lines ∙ s.same;
    stopped = s.stopped ∙ sym (stopped-same events (Offer views) refl);
    each = added stopped views start events mids news adds s.stopped few
        (kept start events olds mids (keeps_of stopped views olds mids prepared) s.each);
  }

  pub bank_closed : (all : Bool) (moment : ℤ) (news : List AggMemory)
      → EachIs (Closes stopped (closing_event all moment)) olds news
      → BankStands lines start (events ++ closing_event all moment ∷ []) (bank_of news (stopped || all))
  bank_closed all moment news each = record {
    same = each.lines ∙ s.same;
    stopped = ap (λ t. t || all) s.stopped ∙ sym (stopped-closing events all moment);
    each = closed stopped (closing_event all moment) start events olds news each s.stopped s.each;
  }

  pub made_all : (all : Bool) (moment : ℤ) → made_from 0 (lines_in olds) start events (closing_event all moment)
      ≡ made_at lines start events (closing_event all moment)
  made_all all moment = ap (λ ls. made_from 0 ls start events (closing_event all moment)) s.same

-- ---- a moment, as it is read where it is passed on

-- what an event would make of a bank, whatever it stands for
abbrev pub Makes : BankMemory → List Content → BankEvent → Type 0
Makes bank made e =
    (lines : List AggLine) (start : ℤ) (events : List BankEvent) → BankStands lines start events bank
    → made ≡ made_at lines start events e

-- what a bank stands for behind an event, whatever it stood for before
abbrev pub StandsBehind : BankMemory → BankMemory → BankEvent → Type 0
StandsBehind old new e =
    (lines : List AggLine) (start : ℤ) (events : List BankEvent) → BankStands lines start events old
    → BankStands lines start (events ++ e ∷ []) new

pub closing_read : (all : Bool) (moment : ℤ) → FitsSigned w64 moment → (P : BankEvent → Type 0)
    → P (closing_event all (to_z w64 (of_z w64 moment))) → P (closing_event all moment)
closing_read all moment fits P holds = subst (λ (at : ℤ). P (closing_event all at)) (to_z-of_z w64 moment fits) holds

-- ---- the verdict

any_same : (f : AggMemory × Option Content → Bool) (g : AggLine × Option Content → Bool) (aggregators : List AggMemory)
    (views : List (Option Content))
    → ((k : ℕ) (memory : AggMemory) → slice_get aggregators k ≡ Some memory → (view : Option Content)
    → f (memory, view) ≡ g (memory.line, view))
    → list_any f (zip aggregators views) ≡ list_any g (zip (lines_in aggregators) views)
any_same f g [] views h = refl
any_same f g (memory ∷ aggregators) [] h = refl
any_same f g (memory ∷ aggregators) (view ∷ views) h =
    ap₂ (λ (x y : Bool). x || y) (h zero memory refl view)
    (any_same f g aggregators views (λ k other got. h (suc k) other got))

pub verdict_is : (lines : List AggLine) (start : ℤ) (events : List BankEvent) (olds : List AggMemory) (stopped : Bool)
    (views : List (Option Content)) → BankStands lines start events (bank_of olds stopped)
    → verdict_at stopped olds views ≡ verdict_on lines start events views
verdict_is lines start events olds stopped views s =
    ap₂ (λ (x y : Bool). if x then Consumed else if y then Late else Passes)
    (any_same (consumes_at stopped) (consumes start events) olds views
    (λ k memory got view. ap (λ t. memory.line.dropping && t)
    (takes_is k memory.line start events memory.begin memory.fold stopped s.stopped (s.each k memory got) view))
    ∙ ap (λ ls. list_any (consumes start events) (zip ls views)) s.same)
    (any_same sees_at sees olds views (λ k memory got view. refl)
    ∙ ap (λ ls. list_any sees (zip ls views)) s.same)

-- ---- what they make, one after the other

module _ (start : ℤ) (events : List BankEvent) (e : BankEvent) (aggregators : List AggMemory) where
  pub made_more : (at : ℕ) (memory : AggMemory) (made more whole : List Content)
      → at < length aggregators → memory ≡ get_or aggregators at memory
      → more ≡ made ++ made_by at memory.line start events e
      → made ++ made_from at (lines_in (drop at aggregators)) start events e ≡ whole
      → more ++ made_from (at + 1) (lines_in (drop (at + 1) aggregators)) start events e ≡ whole
  unfolding made_from
  made_more at memory made more whole lt is appended before =
      let rest = made_from (at + 1) (lines_in (drop (at + 1) aggregators)) start events e in
      let here : drop at aggregators ≡ memory ∷ drop (at + 1) aggregators =
      drop_more aggregators at memory lt ∙ ap (λ (x : AggMemory). x ∷ drop (at + 1) aggregators) (sym is) in
      ap (λ xs. xs ++ rest) appended ∙ append_assoc made (made_by at memory.line start events e) rest
      ∙ sym (ap (λ rows. made ++ made_from at (lines_in rows) start events e) here) ∙ before

  pub made_end : (at : ℕ) (made whole : List Content) → length aggregators ≤ at
      → made ++ made_from at (lines_in (drop at aggregators)) start events e ≡ whole → made ≡ whole
  unfolding made_from
  made_end at made whole long before =
      sym (append-nil made)
      ∙ ap (λ rows. made ++ made_from at (lines_in rows) start events e) (sym (drop_all at aggregators long)) ∙ before

-- ---- a new bank

each_push : (P : ℕ → AggMemory → Type 0) (aggregators : List AggMemory) (new : AggMemory)
    → ((k : ℕ) (memory : AggMemory) → slice_get aggregators k ≡ Some memory → P k memory) → ((k : ℕ) → P k new)
    → (k : ℕ) (memory : AggMemory) → slice_get (aggregators ++ new ∷ []) k ≡ Some memory → P k memory
each_push P [] new each here zero memory got =
    let same : new ≡ memory = cc in
    subst (P zero) same (here zero)
each_push P [] new each here (suc k) memory got = absurd cc
each_push P (other ∷ aggregators) new each here zero memory got = each zero memory got
each_push P (other ∷ aggregators) new each here (suc k) memory got =
    each_push (λ j. P (suc j)) aggregators new (λ j m g. each (suc j) m g) (λ j. here (suc j)) k memory got

pub begun : (start : ℤ) (aggregators : List AggMemory) → aggregators ≡ []
    → BankStands [] start [] (bank_of aggregators false)
begun start [] e = record { same = refl; stopped = refl; each = λ k memory got. absurd cc }
begun start (memory ∷ aggregators) e = absurd cc

pub begun_more : (lines : List AggLine) (start : ℤ) (aggregators : List AggMemory) (new : AggMemory) (i : ℕ)
    (d : AggLine) → i < length lines → new.line ≡ get_or lines i d → ((k : ℕ) → AggStands k start [] new)
    → BankStands (take i lines) start [] (bank_of aggregators false)
    → BankStands (take (i + 1) lines) start [] (bank_of (aggregators ++ new ∷ []) false)
begun_more lines start aggregators new i d lt line stands s = record {
  same = map-append (λ (memory : AggMemory). memory.line) aggregators (new ∷ [])
      ∙ ap (λ front. front ++ new.line ∷ []) s.same ∙ ap (λ (l : AggLine). take i lines ++ l ∷ []) line
      ∙ sym (take_more lines i d lt);
  stopped = refl;
  each = each_push (λ k memory. AggStands k start [] memory) aggregators new s.each stands;
}
