-- What a tick and the stop share: windows closed at the moment that counts, and what they made is raw.
use Rattle.std.proofs.Common.{◌≡◌, ◌<◌, ℤ, ◌+◌, ◌^◌, Bool, true, false, List, [], ◌∷◌, ◌++◌, length, ap, sym}
use Rattle.std.proofs.Common.{refl, ◌∙◌, subst, arith, length-append}
use Rattle.std.proofs.lemmas.Int.{to_z-of_z}
use Rattle.std.specs.Prelude.{FitsSigned}
use Rattle.std.specs.declared.option.Option.TheVariants.{None}
use mir.Syntax.{w64}
use mir.Val.{of_z, to_z}
use Rattle.metric.specs.declared.metric.Content.{Content}
use Rattle.account.specs.declared.entry.Entry.{Entry}
use Rattle.account.specs.declared.setup.AggLine.{AggLine}
use Rattle.agg_bank.specs.Bank.{BankMemory, BankStands, lines_of}
use Rattle.agg_bank.specs.Events.{BankEvent, closing_event}
use Rattle.agg_bank.specs.Made.{made_at}
use Rattle.pipeline_core.specs.CoreState.{CoreState, GroupsAgree, IsCore}
use Rattle.pipeline_core.specs.Moments.{IsClosedAt, closing_entry}
use Rattle.pipeline_core.specs.Stands.{Continues, Stands}
use Rattle.pipeline_core.specs.Steps.{after_stop, after_tick, moment_at, stop_entry, tick_entry, with_made}
use Rattle.pipeline_core.specs.Windows.{bank_events, made_by_stop, made_by_tick}
use Rattle.pipeline_core.proofs.JournalKept.{known_more}
use Rattle.pipeline_core.proofs.Keeping.{kept_bank, kept_entries, kept_groups, kept_made}
use Rattle.pipeline_core.proofs.StandsSteps.{stop_stands, tick_stands}

-- what the core keeps agrees then
module _ (s n : CoreState) (metrics : List Content) (is : n ≡ with_made metrics
    (record s { bank = n.bank; stored = n.stored; counted = n.counted; stopped = n.stopped })) where
  pub core_closed : s.taken + length n.raw < 2 ^ 63 → lines_of n.bank ≡ lines_of s.bank → IsCore s → IsCore n
  core_closed few same h =
      let raw : length n.raw ≡ length s.raw + length metrics =
      ap (λ (m : CoreState). length m.raw) is ∙ length-append s.raw metrics in
      let made = kept_made _ metrics (kept_entries _ n.stored n.counted n.stopped (kept_bank s n.bank same h))
      (omega (arith, few, raw)) in
      subst IsCore (sym is) (kept_groups _ (with_made metrics s).groups s.tracker s.marked s.told made)

  pub groups_closed : GroupsAgree s → GroupsAgree n
  groups_closed groups =
      subst GroupsAgree (sym is)
      (record {
        known = known_more s.groups s.made (length metrics) None true groups.known;
        tracks = groups.tracks;
        limits = groups.limits;
        few = groups.few;
        told_count = groups.told_count;
      })

-- what the aggregators made and keep, at the moment as the code has it, is what they make and keep at the one that the
-- entry names
pub bank_closed : (s : CoreState) (moment counted : ℤ) (event : ℤ → BankEvent) (old new : BankMemory)
    (metrics : List Content) → old ≡ s.bank → counted ≡ moment_at s moment →
    ((lines : List AggLine) (start : ℤ) (es : List BankEvent) → BankStands lines start es old →
    metrics ≡ made_at lines start es (event counted)) →
    ((lines : List AggLine) (start : ℤ) (es : List BankEvent) → BankStands lines start es old →
    BankStands lines start (es ++ event counted ∷ []) new) → (journal : List Entry) → Stands s journal →
    (metrics ≡ made_at s.setup.aggs s.setup.start (bank_events journal) (event (moment_at s moment)))
    × BankStands s.setup.aggs s.setup.start (bank_events journal ++ event (moment_at s moment) ∷ []) new
bank_closed s moment counted event old new metrics is now made closes journal h =
    let lines : List AggLine = s.setup.aggs in
    let stands : BankStands lines s.setup.start (bank_events journal) old =
    subst (BankStands lines s.setup.start (bank_events journal)) (sym is) h.bank in
    subst (λ (m : ℤ). (metrics ≡ made_at lines s.setup.start (bank_events journal) (event m))
    × BankStands lines s.setup.start (bank_events journal ++ event m ∷ []) new) now
    (made lines s.setup.start (bank_events journal) stands, closes lines s.setup.start (bank_events journal) stands)

-- what is so of the event at the moment as the code has it is so of the one at the moment
pub event_read : (P : BankEvent → Type 0) (all known : Bool) (moment : ℤ) → FitsSigned w64 moment → all ≡ known →
    P (closing_event known (to_z w64 (of_z w64 moment))) → P (closing_event all moment)
event_read P all known moment fits is h =
    subst (λ (b : Bool). P (closing_event b moment)) (sym is)
    (subst (λ (m : ℤ). P (closing_event known m)) (to_z-of_z w64 moment fits) h)

-- the core once windows were closed: as behind a tick, and behind the stop
abbrev pub after_closing : Bool → CoreState → ℤ → List Content → BankMemory → CoreState
after_closing all s moment metrics bank = with_made metrics (record s {
  bank = bank;
  stored = s.stored ++ closing_entry all (moment_at s moment) metrics ∷ [];
  counted = moment_at s moment;
  stopped = all;
})

module _ (s n : CoreState) (moment : ℤ) (metrics : List Content) (going : s.stopped ≡ false) where
  ticked : (bank : BankMemory) → after_closing false s moment metrics bank ≡ after_tick s moment metrics bank
  unfolding tick_entry
  ticked bank = ap (λ (b : Bool). record (after_tick s moment metrics bank) { stopped = b }) (sym going)

  stopped : (bank : BankMemory) → after_closing true s moment metrics bank ≡ after_stop s moment metrics bank
  unfolding stop_entry
  stopped bank = refl

  -- it stands for the journals with the entry
  pub closing_stands : (all : Bool) (bank : BankMemory) → n ≡ after_closing all s moment metrics bank → GroupsAgree s →
      ((journal : List Entry) → Stands s journal →
      (metrics ≡ made_at s.setup.aggs s.setup.start (bank_events journal) (closing_event all (moment_at s moment)))
      × BankStands s.setup.aggs s.setup.start
      (bank_events journal ++ closing_event all (moment_at s moment) ∷ []) bank)
      → Continues s n (closing_entry all (moment_at s moment) metrics)
  unfolding made_by_tick made_by_stop tick_entry stop_entry
  closing_stands false bank q agree closed = tick_stands s n moment metrics bank (q ∙ ticked bank) agree going closed
  closing_stands true bank q agree closed = stop_stands s n moment metrics bank (q ∙ stopped bank) agree going closed

  pub closed_at : (all : Bool) → n ≡ after_closing all s moment metrics n.bank →
      Continues s n (closing_entry all (moment_at s moment) metrics) → IsClosedAt all moment s n
  unfolding tick_entry stop_entry
  closed_at false q h = record { metrics = metrics; after = q ∙ ticked n.bank; continues = h }
  closed_at true q h = record { metrics = metrics; after = q ∙ stopped n.bank; continues = h }
