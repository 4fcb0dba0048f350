-- The configuration of a place that is read, and run.
use Rattle.std.proofs.Common.{◌≡◌, ◌≢◌, ◌≤◌, ◌<◌, ℕ, Bool, true, false, List, [], ◌∷◌, length, Option, Some, None}
use Rattle.std.proofs.Common.{IfSome, refl, sym, ap, ◌∙◌, subst, inl, inr, arith}
use Rattle.std.specs.Prelude.{◌⊎◌, String, codes}
use Rattle.std.specs.Str.{bytes_eq}
use Rattle.std.proofs.lemmas.Slice.Eq.{bytes_eq-Decides}
use Rattle.std.proofs.lemmas.Bool.{cases_lt}
use Rattle.std.specs.declared.alloc.Global.{Global}
use Rattle.agent_base.specs.Counts.{Rose}
use Rattle.agent_base.specs.Places.{Place, Rest, AreHome, SameBut, SameAtAll}
use Rattle.agent_base.specs.Views.{WorldView, OnlyIn}
use Rattle.agent_config.specs.Faults.{faults_in, text_faults}
use Rattle.agent_config.specs.declared.config.Config.{Config}
use Rattle.agent_run.specs.Checking.{Approves, ChecksAs, IsJudged, IsUnread, Judges, TakesAtMost, TakesText, most_taken}
use Rattle.agent_run.specs.Command.{IsCheck, IsPipe, IsRunAt, NamesRun}
use Rattle.agent_run.specs.Configured.{SaysRun, IsReadAt, IsRunUnread, NeitherFailed, IsUnready, IsUnrun, IsUnsaid}
use Rattle.agent_run.specs.Configured.{RunEnds, SaysConfig, UnreadAs, unread_line, unread_status}
use Rattle.agent_run.specs.Headline.{Ends, NothingRose, world_change}
use Rattle.agent_run.specs.Places.{ReportsLine, RoseToOpen, RoseToUse}
use Rattle.agent_run.specs.Running.{IsOpenedSame, IsRefusedBy, OnlyNamed}
use Rattle.agent_run.specs.declared.reading.Unread.{Unread}
use Rattle.agent_run.specs.declared.reading.Unread.TheVariants as unreads
use Rattle.agent_run.specs.declared.status.Status.{Status}
use Rattle.agent_run.specs.declared.status.Status.TheVariants as statuses
use Rattle.agent_run.proofs.HeadlineLemmas.{completes, never_usage}
use Rattle.agent_run.proofs.CheckLemmas.{checks_as, judges_fault, judges_ok, told_faults, too_long}

-- ---- reading

-- a text without faults isn't too long
faultless_short : (text : List ℕ) → text_faults text ≡ [] → length text < most_taken
faultless_short text e =
    elim (cases_lt (length text) most_taken) [
      | inl short ↦ short
      | inr long ↦ absurd (let x : faults_in None ≡ [] = sym (ap faults_in (too_long text (omega (arith, long)))) ∙ e in
          cc)
    ]

pub read_at : (place : List ℕ) (config : Config) (old new : WorldView) (text : List ℕ)
    → TakesText (old.ins place).bytes (new.ins place).bytes text → SaysConfig text config
    → (new.ins place).open_faults ≡ (old.ins place).open_faults →
    (old.ins place).part_faults ≤ (new.ins place).part_faults → OnlyIn place old new → IsReadAt place config old new
read_at place config old new text taken says opens later only = record {
  text = text;
  taken = taken;
  whole = taken.whole (faultless_short text says.0);
  says = says;
  opens = opens;
  later = later;
  only = only;
}

-- why it wasn't read, where the text wasn't, and where it says none
pub unread_unready : (unread : Unread) (old new : Place) → IsUnread unread old new → IsUnready unread old new
unread_unready unreads.Unopened old new h = h
unread_unready unreads.Failed old new h = h
unread_unready unreads.OutOfMemory old new h = tt
unread_unready (unreads.Faulty fault) old new h = absurd h

pub unsaid_unready : (unread : Unread) (old new : Place) (text : List ℕ) → TakesText old.bytes new.bytes text
    → IsUnsaid unread text → IsUnready unread old new
unsaid_unready unreads.Unopened old new text t h = absurd h
unsaid_unready unreads.Failed old new text t h = absurd h
unsaid_unready unreads.OutOfMemory old new text t h = tt
unsaid_unready (unreads.Faulty fault) old new text t h = record { text = text; taken = t; is_first = h }

-- ---- what is told

-- how a command ended whose configuration wasn't read
abbrev pub Tells : Status → Unread → List ℕ → Rest → Rest → Type 0
Tells status unread place rest new_rest =
    ((status ≡ unread_status unread) × ReportsLine rest new_rest (unread_line unread place))
    ⊎ (status ≡ statuses.OutOfMemory)

pub unread_checks : (status : Status) (unread : Unread) (place : List ℕ) (ins new_ins : List ℕ → Place)
    (rest new_rest : Rest) → IsUnready unread (ins place) (new_ins place) → SameBut place ins new_ins
    → Tells status unread place rest new_rest → ChecksAs status place ins new_ins rest new_rest
unread_checks status unread place ins new_ins rest new_rest h but (inr short) = rw short tt
unread_checks status unreads.Unopened place ins new_ins rest new_rest h but (inl told) =
    rw told.0 (record { failed = h; others = but }, told.1)
unread_checks status unreads.Failed place ins new_ins rest new_rest h but (inl told) =
    rw told.0 (record { rose = h; told = told.1 })
unread_checks status (unreads.Faulty fault) place ins new_ins rest new_rest h but (inl told) =
    checks_as status place ins new_ins rest new_rest h.text h.taken
    (judges_fault status h.text rest new_rest fault (sym h.is_first) (inl told))
unread_checks status unreads.OutOfMemory place ins new_ins rest new_rest h but (inl told) = rw told.0 tt

pub read_checks : (status : Status) (place : List ℕ) (config : Config) (old mid last : WorldView)
    → IsReadAt place config old mid → SameAtAll mid.ins last.ins → Approves status mid.report last.report
    → ChecksAs status place old.ins last.ins old.report last.report
read_checks status place config old mid last read same approves =
    checks_as status place old.ins last.ins old.report last.report read.text
    (subst (λ (p : Place). TakesText (old.ins place).bytes p.bytes read.text) (sym (same place)) read.taken)
    (subst (λ (r : Rest). Judges status read.text r last.report) read.only.report
    (judges_ok status read.text mid.report last.report read.says.0 approves))

unread_as : (status : Status) (unread : Unread) (place : List ℕ) (old new : WorldView)
    → IsUnready unread (old.ins place) (new.ins place) → SameBut place old.ins new.ins
    → Tells status unread place old.report new.report → UnreadAs status place old new
unread_as status unread place old new h but (inr short) = rw short tt
unread_as status unreads.Unopened place old new h but (inl told) =
    rw told.0 (record { failed = h; others = but }, told.1)
unread_as status unreads.Failed place old new h but (inl told) = rw told.0 (record { rose = h; told = told.1 })
unread_as status (unreads.Faulty fault) place old new h but (inl told) =
    rw told.0 (record { fault = fault; faulty = h; told = told.1 })
unread_as status unreads.OutOfMemory place old new h but (inl told) = rw told.0 tt

-- ---- a run

pub outs_stay_home : (place : List ℕ) (old mid : WorldView) → OnlyIn place old mid → AreHome old.outs → AreHome mid.outs
outs_stay_home place old mid only home = λ q. ap (λ (p : Place). p.is_out) (only.outs q) ∙ home q

same_or_not : (a b : List ℕ) → (a ≡ b) ⊎ (a ≢ b)
same_or_not a b = go (bytes_eq a b) refl
  where
    go : (x : Bool) → bytes_eq a b ≡ x → (a ≡ b) ⊎ (a ≢ b)
    go true e = inl ((bytes_eq-Decides a b).0 e)
    go false e = inr (λ same. let x : true ≡ false = sym ((bytes_eq-Decides a b).1 same) ∙ e in cc)

-- where the count of failed opens of a place is as it was, and no other place changed, so it is with each count
opens_at : (place : List ℕ) (old mid : WorldView) → (mid.ins place).open_faults ≡ (old.ins place).open_faults
    → OnlyIn place old mid → (q : List ℕ) → (mid.ins q).open_faults ≡ (old.ins q).open_faults
opens_at place old mid here only q = elim (same_or_not q place) [
  | inl e ↦ rw e here
  | inr away ↦ ap (λ (p : Place). p.open_faults) (only.others q away)
]

pub opens_same : (place : List ℕ) (old mid last : WorldView)
    → (mid.ins place).open_faults ≡ (old.ins place).open_faults → OnlyIn place old mid → SameAtAll mid.ins last.ins
    → SameAtAll mid.outs last.outs → IsOpenedSame old last
opens_same place old mid last here only ins outs = record {
  ins = λ q. ap (λ (p : Place). p.open_faults) (ins q) ∙ opens_at place old mid here only q;
  outs = λ q. ap (λ (p : Place). p.open_faults) (outs q ∙ only.outs q);
}

-- where a command says of a configuration that wasn't read neither that it wasn't opened nor that memory was short,
-- it was opened
pub unread_opened : (status : Status) (unread : Unread) (place : List ℕ) (rest new_rest : Rest)
    → Tells status unread place rest new_rest → (status ≢ statuses.OpenFault) → (status ≢ statuses.OutOfMemory)
    → unread ≢ unreads.Unopened
unread_opened status unread place rest new_rest (inl told) shut short e = shut (told.0 ∙ ap unread_status e)
unread_opened status unread place rest new_rest (inr none) shut short e = short none

pub unrun : (status : Status) (unread : Unread) (place : List ℕ) (old mid last : WorldView)
    → IsUnready unread (old.ins place) (mid.ins place)
    → ((unread ≢ unreads.Unopened) → (mid.ins place).open_faults ≡ (old.ins place).open_faults)
    → TakesAtMost most_taken (old.ins place).bytes (mid.ins place).bytes → OnlyIn place old mid
    → SameAtAll mid.ins last.ins → SameAtAll mid.outs last.outs → SameAtAll mid.clocks last.clocks
    → Tells status unread place mid.report last.report → IsUnrun status place old last
unrun status unread place old mid last h opens taken only ins outs clocks told =
    let but : SameBut place old.ins last.ins = λ q ne. ins q ∙ only.others q ne in
    record {
      answer = unread_as status unread place old last (subst (λ (p : Place). IsUnready unread (old.ins place) p)
          (sym (ins place)) h) but (subst (λ (r : Rest). Tells status unread place r last.report) only.report told);
      taken = subst (λ (p : Place). TakesAtMost most_taken (old.ins place).bytes p.bytes) (sym (ins place)) taken;
      opened = λ shut short.
          let is = unread_opened status unread place mid.report last.report told shut short in
          opens_same place old mid last (opens is) only ins outs;
      ins = but;
      outs = λ q. outs q ∙ only.outs q;
      clocks = λ who. clocks who ∙ only.clocks who;
    }

module _ (status : Status) (place : List ℕ) (config : Config) (old mid last : WorldView)
    (read : IsReadAt place config old mid) where
  -- what reading left of the counts of each input place
  opens_still : (q : List ℕ) → (mid.ins q).open_faults ≡ (old.ins q).open_faults
  opens_still = opens_at place old mid read.opens read.only

  later_at : (q : List ℕ) → (old.ins q).part_faults ≤ (mid.ins q).part_faults
  later_at q = elim (same_or_not q place) [
    | inl here ↦ rw here read.later
    | inr away ↦ omega (arith, ap (λ (p : Place). p.part_faults) (read.only.others q away))
  ]

  pub opened_since : IsOpenedSame mid last → IsOpenedSame old last
  opened_since opened = record {
    ins = λ q. opened.ins q ∙ opens_still q;
    outs = λ q. opened.outs q ∙ ap (λ (p : Place). p.open_faults) (read.only.outs q);
  }

  pub ran : (status ≡ statuses.OpenFault → IsRefusedBy config mid last)
      → ((status ≢ statuses.OpenFault) → Ends config (world_change config mid last) status)
      → ((status ≢ statuses.OpenFault) → (status ≢ statuses.OutOfMemory) → IsOpenedSame mid last) →
      OnlyNamed config mid last → SaysRun status place old last
  ran refused ends opened only = inr (record {
    config = config;
    mid = mid;
    read = read;
    refused = refused;
    ends = ends;
    opened = λ o s. opened_since (opened o s);
    only = only;
  })

  pub nothing_since : NothingRose old last → NothingRose mid last
  nothing_since nothing = record {
    ins_opened = λ q rose. nothing.ins_opened q (omega (arith, rose, opens_still q));
    ins_used = λ q rose. nothing.ins_used q (omega (arith, rose, later_at q));
    outs_opened = λ q rose. nothing.outs_opened q (subst (λ (p : Place). RoseToOpen p (last.outs q))
        (read.only.outs q) rose);
    outs_used = λ q rose. nothing.outs_used q (subst (λ (p : Place). RoseToUse p (last.outs q))
        (read.only.outs q) rose);
    reported = λ rose. nothing.reported (subst (λ (r : Rest). Rose r.report_faults last.report.report_faults)
        read.only.report rose);
  }

-- ---- a command

pub unrun_never_usage : (status : Status) (place : List ℕ) (old last : WorldView) → IsUnrun status place old last
    → status ≡ statuses.Usage → ⊥
unrun_never_usage status place old last h e = subst (λ (s : Status). UnreadAs s place old last) e h.answer

pub run_never_usage : (status : Status) (place : List ℕ) (old last : WorldView) → SaysRun status place old last
    → status ≡ statuses.Usage → ⊥
run_never_usage status place old last (inl h) e = unrun_never_usage status place old last h e
run_never_usage status place old last (inr h) e =
    never_usage h.config (world_change h.config h.mid last) status
    (h.ends (λ o. let x : statuses.Usage ≡ statuses.OpenFault = sym e ∙ o in cc)) e

pub unread_completes : (status : Status) (place : List ℕ) (old last : WorldView) → UnreadAs status place old last
    → NothingRose old last → (status ≢ statuses.Config) → (status ≡ statuses.Done) ⊎ (status ≡ statuses.OutOfMemory)
unread_completes statuses.OutOfMemory place old last h n config = inr refl
unread_completes statuses.Config place old last h n config = absurd (config refl)
unread_completes statuses.OpenFault place old last h n config = absurd (n.ins_opened place h.0.failed.rose)
unread_completes statuses.ReadFault place old last h n config = absurd (n.ins_used place h.rose)
unread_completes statuses.Done place old last h n config = absurd h
unread_completes statuses.ReportFault place old last h n config = absurd h
unread_completes statuses.Usage place old last h n config = absurd h
unread_completes statuses.Left place old last h n config = absurd h
unread_completes statuses.Limit place old last h n config = absurd h

-- a run that no fault and no limit ended
pub run_completes : (status : Status) (place : List ℕ) (config : Config) (old mid last : WorldView)
    → 1 ≤ config.agent.final_tries → IsReadAt place config old mid
    → (status ≡ statuses.OpenFault → IsRefusedBy config mid last) →
    ((status ≢ statuses.OpenFault) → Ends config (world_change config mid last) status) → NothingRose old last
    → (status ≢ statuses.Limit) → (status ≡ statuses.Done) ⊎ (status ≡ statuses.OutOfMemory)
run_completes status place config old mid last some read refused ends nothing limit =
    completes config mid last status some refused ends (nothing_since status place config old mid last read nothing)
    limit

-- a text with a fault, that no failure kept from being read
pub unread_faulty : (status : Status) (place : List ℕ) (old last : WorldView) → UnreadAs status place old last
    → NeitherFailed (old.ins place) (last.ins place) → (status ≡ statuses.Config) ⊎ (status ≡ statuses.OutOfMemory)
unread_faulty statuses.Config place old last h n = inl refl
unread_faulty statuses.OutOfMemory place old last h n = inr refl
unread_faulty statuses.OpenFault place old last h n = absurd (n.opened h.0.failed.rose)
unread_faulty statuses.ReadFault place old last h n = absurd (n.used h.rose)
unread_faulty statuses.Done place old last h n = absurd h
unread_faulty statuses.ReportFault place old last h n = absurd h
unread_faulty statuses.Usage place old last h n = absurd h
unread_faulty statuses.Left place old last h n = absurd h
unread_faulty statuses.Limit place old last h n = absurd h

-- a text with a fault isn't read
pub read_faulty : (place bytes : List ℕ) (config : Config) (old mid : WorldView) → IsReadAt place config old mid
    → (old.ins place).bytes ≡ Some bytes → (text_faults bytes ≢ []) → ⊥
read_faulty place bytes config old mid read told faulty =
    faulty (subst (λ (b : Option (List ℕ)). IfSome b (λ xs. text_faults xs ≡ text_faults read.text)) told
    (told_faults (old.ins place).bytes (mid.ins place).bytes read.text read.taken) ∙ read.says.0)

pub run_faulty : (status : Status) (place bytes : List ℕ) (old last : WorldView) → SaysRun status place old last
    → (old.ins place).bytes ≡ Some bytes → (text_faults bytes ≢ []) → NeitherFailed (old.ins place) (last.ins place)
    → (status ≡ statuses.Config) ⊎ (status ≡ statuses.OutOfMemory)
run_faulty status place bytes old last (inl h) told faulty n = unread_faulty status place old last h.answer n
run_faulty status place bytes old last (inr h) told faulty n =
    absurd (read_faulty place bytes h.config old h.mid h.read told faulty)

-- the same of a check
judged_faulty : (status : Status) (bytes : List ℕ) (old new : Place) (rest new_rest : Rest)
    → IsJudged status old new rest new_rest → ((text : List ℕ) → Judges status text rest new_rest
    → text_faults text ≡ []) → old.bytes ≡ Some bytes → (text_faults bytes ≢ []) → ⊥
judged_faulty status bytes old new rest new_rest h none told faulty =
    faulty (subst (λ (b : Option (List ℕ)). IfSome b (λ xs. text_faults xs ≡ text_faults h.text)) told h.faults
    ∙ none h.text h.judged)

pub check_faulty : (status : Status) (place bytes : List ℕ) (ins new_ins : List ℕ → Place) (rest new_rest : Rest)
    → ChecksAs status place ins new_ins rest new_rest → (ins place).bytes ≡ Some bytes → (text_faults bytes ≢ [])
    → NeitherFailed (ins place) (new_ins place) → (status ≡ statuses.Config) ⊎ (status ≡ statuses.OutOfMemory)
check_faulty statuses.Config place bytes ins new_ins rest new_rest h told faulty n = inl refl
check_faulty statuses.OutOfMemory place bytes ins new_ins rest new_rest h told faulty n = inr refl
check_faulty statuses.OpenFault place bytes ins new_ins rest new_rest h told faulty n =
    absurd (n.opened h.0.failed.rose)
check_faulty statuses.ReadFault place bytes ins new_ins rest new_rest h told faulty n = absurd (n.used h.rose)
check_faulty statuses.Done place bytes ins new_ins rest new_rest h told faulty n =
    absurd (judged_faulty statuses.Done bytes (ins place) (new_ins place) rest new_rest h (λ text j. j.0) told faulty)
check_faulty statuses.ReportFault place bytes ins new_ins rest new_rest h told faulty n =
    absurd (judged_faulty statuses.ReportFault bytes (ins place) (new_ins place) rest new_rest h
    (λ text j. j.0) told faulty)
check_faulty statuses.Usage place bytes ins new_ins rest new_rest h told faulty n = absurd h
check_faulty statuses.Left place bytes ins new_ins rest new_rest h told faulty n = absurd h
check_faulty statuses.Limit place bytes ins new_ins rest new_rest h told faulty n = absurd h

pub unread_run : (status : Status) (words : List (String Global)) (place : List ℕ) (old last : WorldView)
    → NamesRun words place → IsUnrun status place old last → (status ≢ statuses.Config) → (status ≢ statuses.OpenFault)
    → (status ≢ statuses.OutOfMemory) → IsRunUnread status words old last
unread_run statuses.ReadFault words place old last command h config shut short =
    record { place = place; command = command; status_is = refl; unread = h }
unread_run statuses.Config words place old last command h config shut short = absurd (config refl)
unread_run statuses.OpenFault words place old last command h config shut short = absurd (shut refl)
unread_run statuses.OutOfMemory words place old last command h config shut short = absurd (short refl)
unread_run statuses.Done words place old last command h config shut short = absurd h.answer
unread_run statuses.ReportFault words place old last command h config shut short = absurd h.answer
unread_run statuses.Usage words place old last command h config shut short = absurd h.answer
unread_run statuses.Left words place old last command h config shut short = absurd h.answer
unread_run statuses.Limit words place old last command h config shut short = absurd h.answer

-- what a run left that wasn't refused
pub run_ends : (status : Status) (words : List (String Global)) (place : List ℕ) (old last : WorldView)
    → IsRunAt words place → SaysRun status place old last → (status ≢ statuses.Config) → (status ≢ statuses.OpenFault)
    → (status ≢ statuses.OutOfMemory)
    → RunEnds status words old last ⊎ IsRunUnread status words old last
run_ends status words place old last command (inr h) config shut short =
    inl (record { place = place; command = command; ran = h })
run_ends status words place old last command (inl h) config shut short =
    inr (unread_run status words place old last (inl command) h config shut short)

-- words are no two commands
pub pipe_or_run : (words : List (String Global)) (input output : List ℕ) (batch limit : ℕ) (place : List ℕ)
    → IsPipe words input output batch limit → IsRunAt words place → ⊥
pipe_or_run words input output batch limit place p e =
    let lengths : 5 ≡ 2 = ap length (sym p.words_are ∙ e) in
    absurd (omega (arith, lengths))

first_word : List (List ℕ) → List ℕ
first_word [] = []
first_word (word ∷ words) = word

pub check_or_run : (words : List (String Global)) (place other : List ℕ) → IsCheck words place → IsRunAt words other → ⊥
unfolding first_word
check_or_run words place other c r =
    let commands : codes "check" ≡ codes "run" = ap first_word (sym c ∙ r) in
    let lengths : 5 ≡ 3 = ap length commands in
    absurd (omega (arith, lengths))
