-- A group that has settled stays so, and is reported once.
use Rattle.std.proofs.Common.{◌≡◌, ◌≢◌, ◌<◌, ◌≤◌, ◌⊎◌, ℕ, suc, ◌+◌, ◌&&◌, Bool, true, false, not, List, [], ◌∷◌, ◌++◌}
use Rattle.std.proofs.Common.{length, map, get_or, refl, ap, sym, ◌∙◌, arith, subst, inl, inr, append-nil}
use Rattle.std.proofs.Common.{length-append}
use Rattle.std.specs.Prelude.{◌==◌, nat_lt}
use Rattle.std.specs.List.{AllByRecursion, count_by, enumerate_from, filter}
use Rattle.std.proofs.lemmas.Bool.{cases_lt}
use Rattle.std.proofs.lemmas.Bool.Decides.{nat_tests}
use Rattle.std.proofs.lemmas.Grind.{flat_map-append}
use Rattle.std.proofs.lemmas.List.{get_or_append_left}
use Rattle.std.proofs.lemmas.List.Elements.{All-from_recursion}
use Rattle.account.specs.Setup.{Setup}
use Rattle.account.specs.Origins.{group_inputs, group_inputs_said, groups, input_of}
use Rattle.account.specs.Says.{gather_of, reports_of}
use Rattle.account.proofs.OriginLemmas.{group_inputs-push}
use Rattle.account.specs.declared.entry.Entry.{Entry}
use Rattle.account.specs.declared.entry.Report.{Report}
use Rattle.pipeline_core.specs.GroupLaws.{all_reports, HasSizes, has_settled, is_report_on, IsTrueReport, ReportedOnce}
use Rattle.pipeline_core.specs.GroupLaws.{SettledStays}
use Rattle.pipeline_core.specs.Groups.{copies, is_live, report_of, reports_at, settles}
use Rattle.pipeline_core.specs.Legal.{AreLegal, IsLegal, Meets, MeetsLine}
use Rattle.pipeline_core.proofs.CopyCounts.{count-append, count-cons}
use Rattle.pipeline_core.proofs.CopySteps.{all_append, one_if}
use Rattle.pipeline_core.proofs.GroupSteps.{legal_front, legal_induction, legal_onward, stays_settled, StaysSettled}
use Rattle.pipeline_core.proofs.GroupTotals.{reports_passed, settles_before, settles_new, stays_dead, stays_unharmed}
use Rattle.pipeline_core.proofs.Keeping.{differs, same_number}

-- with one entry more there are no fewer groups
pub groups-push : (es : List Entry) (e : Entry)
    → groups (es ++ e ∷ []) ≡ groups es + length (group_inputs_said (gather_of e))
groups-push es e =
    ap length (group_inputs-push es e) ∙ length-append (group_inputs es) (group_inputs_said (gather_of e))

-- ---- a group that has settled

-- a group has begun, and has no copies
record IsOver (setup : Setup) (g : ℕ) (es : List Entry) : Type 0 where
  begun : g < groups es
  none : copies setup es g ≡ 0

over-push : (setup : Setup) (g : ℕ) (es : List Entry) (e : Entry) → HasSizes setup → IsLegal setup es
    → MeetsLine setup es e → IsOver setup g es → IsOver setup g (es ++ e ∷ [])
over-push setup g es e sizes h m over =
    let stays : StaysSettled setup es e g = stays_settled setup es e g sizes h m over.begun over.none in
    record { begun = omega (arith, groups-push es e, over.begun); none = stays.none }

pub settled_stays : SettledStays
settled_stays setup before more group sizes h begun none =
    let parts : IsLegal setup before × AreLegal setup before more = legal_front setup before more h in
    let over : IsOver setup group (before ++ more) =
    legal_onward setup (IsOver setup group) (λ es e legal m is. over-push setup group es e sizes legal m.line is) before
    more parts.0 parts.1 (record { begun = begun; none = none }) in
    over.none

-- ---- it is reported once

-- no number is counted that isn't there
number_out : (s : ℕ → Bool) (g k : ℕ) (inputs : List ℕ) → (g < k) ⊎ (k + length inputs ≤ g)
    → count_by (λ (p : ℕ × ℕ). s p.0 && (p.0 == g)) (enumerate_from k inputs) ≡ 0
number_out s g k [] out = refl
number_out s g k (x ∷ xs) out =
    let d : k ≢ g = λ e. elim out [ inl l ↦ omega (arith, l, e) | inr l ↦ omega (arith, l, e) ] in
    let further : (g < k + 1) ⊎ (k + 1 + length xs ≤ g) =
    elim out [ inl l ↦ inl (omega (arith, l)) | inr l ↦ inr (omega (arith, l)) ] in
    omega (
      arith,
      count-cons (λ (p : ℕ × ℕ). s p.0 && (p.0 == g)) (k, x) (enumerate_from (k + 1) xs),
      ap (λ (b : Bool). one_if (s k && b)) (differs k g d),
      and_none (s k),
      number_out s g (k + 1) xs further,
    )
  where
    and_none : (b : Bool) → one_if (b && false) ≡ 0
    and_none true = refl
    and_none false = refl

-- and one that is there is counted once, where it passes the test
number_in : (s : ℕ → Bool) (g k : ℕ) (inputs : List ℕ) → k ≤ g → g < k + length inputs
    → count_by (λ (p : ℕ × ℕ). s p.0 && (p.0 == g)) (enumerate_from k inputs) ≡ one_if (s g)
number_in s g k [] l b = absurd (omega (arith, l, b))
number_in s g k (x ∷ xs) l b =
    let q : ℕ × ℕ → Bool = λ (p : ℕ × ℕ). s p.0 && (p.0 == g) in
    let rest : List (ℕ × ℕ) = enumerate_from (k + 1) xs in
    let whole : count_by q (enumerate_from k (x ∷ xs)) ≡ one_if (s k && (k == g)) + count_by q rest =
    count-cons q (k, x) rest in
    elim (cases_lt k g) [
      | inl less ↦
          omega (
            arith,
            whole,
            ap (λ (b : Bool). one_if (s k && b)) (differs k g (omega (arith, less))),
            and_none (s k),
            number_in s g (k + 1) xs (omega (arith, less)) (omega (arith, b)),
          )
      | inr more ↦
          (let same : k ≡ g = omega (arith, l, more) in
          let here : one_if (s k && (k == g)) ≡ one_if (s g) =
          ap (λ (n : ℕ). one_if (s n && (n == g))) same
          ∙ ap (λ (b : Bool). one_if (s g && b)) (same_number g)
          ∙ ap one_if (and_yes (s g)) in
          omega (arith, whole, here, number_out s g (k + 1) xs (inl (omega (arith, same)))))
    ]
  where
    and_none : (b : Bool) → one_if (b && false) ≡ 0
    and_none true = refl
    and_none false = refl

    and_yes : (b : Bool) → (b && true) ≡ b
    and_yes true = refl
    and_yes false = refl

-- all reports with one entry more
pub all_reports-push : (setup : Setup) (es : List Entry) (e : Entry) → Meets setup es e
    → all_reports (es ++ e ∷ []) ≡ all_reports es ++ reports_at setup es e
all_reports-push setup es e m =
    flat_map-append reports_of es (e ∷ [])
    ∙ ap (λ (rs : List Report). all_reports es ++ rs) (append-nil (reports_of e) ∙ m.reports)

settled_is : (setup : Setup) (es : List Entry) (g : ℕ) → g < groups es
    → has_settled setup es g ≡ not (is_live setup es g)
settled_is setup es g low =
    let t : nat_lt g (groups es) ≡ true = grind (arith, nat_tests) in
    ap (λ (b : Bool). b && not (is_live setup es g)) t

settled_not : (setup : Setup) (es : List Entry) (g : ℕ) → groups es ≤ g → has_settled setup es g ≡ false
settled_not setup es g high =
    let f : nat_lt g (groups es) ≡ false = grind (arith, nat_tests) in
    ap (λ (b : Bool). b && not (is_live setup es g)) f

settled_more : (l m : Bool) → (l ≡ false → m ≡ false) → one_if (not l) + one_if (not m && l) ≡ one_if (not m)
settled_more true true h = omega arith
settled_more true false h = omega arith
settled_more false true h = absurd (let x : true ≡ false = h refl in cc)
settled_more false false h = omega arith

-- a group has settled with one entry more where it had, or where it is reported
pub once-push : (setup : Setup) (es : List Entry) (e : Entry) (g : ℕ) → HasSizes setup → IsLegal setup es
    → MeetsLine setup es e
    → one_if (has_settled setup es g) + count_by (is_report_on g) (reports_at setup es e)
    ≡ one_if (has_settled setup (es ++ e ∷ []) g)
once-push setup es e g sizes h m =
    let next : List Entry = es ++ e ∷ [] in
    let s : ℕ → Bool = settles setup es e in
    let told : count_by (is_report_on g) (reports_at setup es e)
    ≡ count_by (λ (p : ℕ × ℕ). s p.0 && (p.0 == g)) (enumerate_from 0 (group_inputs next)) =
    reports_passed setup es e (is_report_on g) in
    let grow : groups next ≡ groups es + length (group_inputs_said (gather_of e)) = groups-push es e in
    elim (cases_lt g (groups next)) [
      | inl low ↦
          (let here : count_by (λ (p : ℕ × ℕ). s p.0 && (p.0 == g)) (enumerate_from 0 (group_inputs next))
          ≡ one_if (s g) = number_in s g 0 (group_inputs next) (omega arith) (omega (arith, low)) in
          let now : one_if (has_settled setup next g) ≡ one_if (not (is_live setup next g)) =
          ap one_if (settled_is setup next g low) in
          let before : one_if (has_settled setup es g) + one_if (s g) ≡ one_if (not (is_live setup next g)) =
          elim (cases_lt g (groups es)) [
            | inl old ↦
                omega (
                  arith,
                  ap one_if (settles_before setup es e g old),
                  ap one_if (settled_is setup es g old),
                  settled_more (is_live setup es g) (is_live setup next g)
                      (λ dead. stays_dead setup es e g sizes h m old dead),
                )
            | inr new ↦
                omega (arith, ap one_if (settles_new setup es e g new), ap one_if (settled_not setup es g new))
          ] in
          omega (arith, told, here, now, before))
      | inr high ↦
          omega (
            arith,
            told,
            number_out s g 0 (group_inputs next) (inr (omega (arith, high))),
            ap one_if (settled_not setup next g high),
            ap one_if (settled_not setup es g (omega (arith, high, grow))),
          )
    ]

reported_first : (setup : Setup) (g : ℕ) → count_by (is_report_on g) (all_reports []) ≡ one_if (has_settled setup [] g)
unfolding group_inputs
reported_first setup g = sym (ap one_if (settled_not setup [] g (omega arith)))

pub reported_times : (setup : Setup) (journal : List Entry) (g : ℕ) → HasSizes setup → IsLegal setup journal
    → count_by (is_report_on g) (all_reports journal) ≡ one_if (has_settled setup journal g)
reported_times setup journal g sizes h =
    legal_induction setup
    (λ (es : List Entry). count_by (is_report_on g) (all_reports es) ≡ one_if (has_settled setup es g))
    (reported_first setup g)
    (λ es e legal m counts. omega (
      arith,
      counts,
      ap (count_by (is_report_on g)) (all_reports-push setup es e m),
      count-append (is_report_on g) (all_reports es) (reports_at setup es e),
      once-push setup es e g sizes legal m.line,
    )) journal h

-- ---- what is reported is true

-- a report of a group that is over is true
pub record IsOverTrue (setup : Setup) (es : List Entry) (report : Report) : Type 0 where
  pub begun : report.group < groups es
  pub dead : is_live setup es report.group ≡ false
  pub is_true : IsTrueReport setup es report

input-push : (es : List Entry) (e : Entry) (g : ℕ) → g < groups es → input_of (es ++ e ∷ []) g ≡ input_of es g
input-push es e g low =
    ap (λ (inputs : List ℕ). get_or inputs g 0) (group_inputs-push es e)
    ∙ get_or_append_left (group_inputs es) (group_inputs_said (gather_of e)) 0 g low

true-push : (setup : Setup) (es : List Entry) (e : Entry) (report : Report) → HasSizes setup → IsLegal setup es
    → MeetsLine setup es e → IsOverTrue setup es report → IsOverTrue setup (es ++ e ∷ []) report
true-push setup es e report sizes h m over =
    let g : ℕ = report.group in
    let low : g < groups es = over.begun in
    record {
      begun = omega (arith, groups-push es e, low);
      dead = stays_dead setup es e g sizes h m low over.dead;
      is_true = record {
        input = over.is_true.input ∙ sym (input-push es e g low);
        delivered = over.is_true.delivered ∙ sym (stays_unharmed setup es e g sizes h m low over.dead);
      };
    }

all_kept : (P Q : Report → Type 0) (rs : List Report) → ((r : Report) → P r → Q r) → AllByRecursion P rs
    → AllByRecursion Q rs
all_kept P Q [] f h = tt
all_kept P Q (r ∷ rs) f h = (f r h.0, all_kept P Q rs f h.1)

-- what is so of each numbered input that passes a test
all_passed : (f : ℕ × ℕ → Report) (s : ℕ × ℕ → Bool) (P : Report → Type 0) (k : ℕ) (inputs : List ℕ)
    → ((i g input : ℕ) → g ≡ k + i → i < length inputs → input ≡ get_or inputs i 0 → s (g, input) ≡ true →
    P (f (g, input))) → AllByRecursion P (map f (filter s (enumerate_from k inputs)))
all_passed f s P k [] h = tt
all_passed f s P k (x ∷ xs) h =
    next (s (k, x)) refl (all_passed f s P (k + 1) xs
    (λ i g input e l is passes. h (suc i) g input (omega (arith, e)) (omega (arith, l)) is passes))
  where
    next : (b : Bool) → s (k, x) ≡ b → AllByRecursion P (map f (filter s (enumerate_from (k + 1) xs)))
        → AllByRecursion P (map f (filter s (enumerate_from k (x ∷ xs))))
    next true is rest =
        let here : map f (filter s (enumerate_from k (x ∷ xs)))
        ≡ f (k, x) ∷ map f (filter s (enumerate_from (k + 1) xs)) = rw is refl in
        subst (AllByRecursion P) (sym here) (h 0 k x (omega arith) (omega arith) refl is, rest)
    next false is rest =
        let here : map f (filter s (enumerate_from k (x ∷ xs))) ≡ map f (filter s (enumerate_from (k + 1) xs)) =
        rw is refl in
        subst (AllByRecursion P) (sym here) rest

-- what settles isn't live then
settles_dead : (setup : Setup) (es : List Entry) (e : Entry) (g : ℕ) → settles setup es e g ≡ true
    → is_live setup (es ++ e ∷ []) g ≡ false
settles_dead setup es e g is = from_and (is_live setup (es ++ e ∷ []) g) _ is
  where
    from_and : (l b : Bool) → (not l && b) ≡ true → l ≡ false
    from_and true b is = absurd (let x : false ≡ true = is in cc)
    from_and false b is = refl

-- what an entry reports is true
pub reports_true : (setup : Setup) (es : List Entry) (e : Entry)
    → AllByRecursion (IsOverTrue setup (es ++ e ∷ [])) (reports_at setup es e)
unfolding reports_at
reports_true setup es e =
    let next : List Entry = es ++ e ∷ [] in
    all_passed (report_of setup next) (λ (p : ℕ × ℕ). settles setup es e p.0) (IsOverTrue setup next) 0
    (group_inputs next)
    (λ i g input is low at passes.
    let same : i ≡ g = omega (arith, is) in
    record {
      begun = omega (arith, is, low);
      dead = settles_dead setup es e g passes;
      is_true = record {
        input = at ∙ ap (λ (n : ℕ). get_or (group_inputs next) n 0) same;
        delivered = refl;
      };
    })

pub reports_stay_true : (setup : Setup) (journal : List Entry) → HasSizes setup → IsLegal setup journal
    → AllByRecursion (IsOverTrue setup journal) (all_reports journal)
reports_stay_true setup journal sizes h =
    legal_induction setup (λ (es : List Entry). AllByRecursion (IsOverTrue setup es) (all_reports es)) tt
    (λ es e legal m all. subst (AllByRecursion (IsOverTrue setup (es ++ e ∷ []))) (sym (all_reports-push setup es e m))
    (all_append (IsOverTrue setup (es ++ e ∷ [])) (all_reports es) (reports_at setup es e)
    (all_kept (IsOverTrue setup es) (IsOverTrue setup (es ++ e ∷ [])) (all_reports es)
    (λ r over. true-push setup es e r sizes legal m.line over) all) (reports_true setup es e))) journal h

pub reported_once : ReportedOnce
reported_once setup journal sizes h = record {
  once = λ group. reported_times setup journal group sizes h;
  are_true = All-from_recursion (IsTrueReport setup journal) (all_reports journal)
      (all_kept (IsOverTrue setup journal) (IsTrueReport setup journal) (all_reports journal) (λ r over. over.is_true)
      (reports_stay_true setup journal sizes h));
}
