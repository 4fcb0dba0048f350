-- The reports of an entry, counted, and the groups that an input's numbers count.
use Rattle.std.proofs.Common.{◌≡◌, ◌<◌, ◌≤◌, ℕ, zero, suc, ◌+◌, ◌-◌, ◌&&◌, ◌||◌, if◌then◌else◌, Bool, true, false, not}
use Rattle.std.proofs.Common.{List, [], ◌∷◌, ◌++◌, length, map, get_or, is_some, refl, ap, sym, ◌∙◌, arith, subst}
use Rattle.std.specs.Prelude.{nat_le, ◌==◌}
use Rattle.std.specs.List.{count_by, enumerate_from, filter}
use Rattle.std.proofs.lemmas.Bool.Decides.{nat_tests}
use Rattle.std.specs.declared.option.Option.{Option}
use Rattle.std.specs.declared.option.Option.TheVariants.{Some, None}
use Rattle.account.specs.Setup.{Setup}
use Rattle.account.specs.Numbers.{unread_input, input_numbers, settled_more}
use Rattle.account.specs.declared.numbers.InputNumbers.{InputNumbers}
use Rattle.account.specs.Origins.{group_inputs, group_inputs_said, groups, input_among}
use Rattle.account.specs.Says.{GatherSays, gather_of, reports_of}
use Rattle.account.proofs.OriginLemmas.{group_inputs-push}
use Rattle.account.specs.declared.entry.Entry.{Entry}
use Rattle.account.specs.declared.entry.Entry.TheVariants.{Gather, Ended, Take, Route, Tick, Stop, Begin, Done}
use Rattle.account.specs.declared.entry.Report.{Report}
use Rattle.track_groups.specs.Settling.{is_report_of}
use Rattle.pipeline_core.specs.GroupLaws.{CountsGroups, delivered_count, GroupTotals, HasSizes, is_unharmed}
use Rattle.pipeline_core.specs.GroupLaws.{rejected_count}
use Rattle.pipeline_core.specs.Groups.{copies, is_live, live_count, report_of, reports_at, settles}
use Rattle.pipeline_core.specs.Legal.{IsLegal, MeetsLine}
use Rattle.pipeline_core.specs.Totals.{group_count, input_total, input_total_from, input_with, reported_with, said_with}
use Rattle.pipeline_core.specs.Totals.{totals, gathered_with, gathers_too}
use Rattle.pipeline_core.proofs.CopyCounts.{count-append, count-cons, none_or}
use Rattle.pipeline_core.proofs.CopySteps.{one_if}
use Rattle.pipeline_core.proofs.GroupSteps.{legal_induction, stays_settled, StaysSettled}
use Rattle.pipeline_core.proofs.Keeping.{differs}
use Rattle.pipeline_core.proofs.TotalPush.{inputs-at}

-- ---- counts over numbered inputs

pub count_sum : (u v w : ℕ × ℕ → Bool) (k : ℕ) (inputs : List ℕ)
    → ((g input : ℕ) → k ≤ g → g < k + length inputs →
    one_if (u (g, input)) + one_if (v (g, input)) ≡ one_if (w (g, input)))
    → count_by u (enumerate_from k inputs) + count_by v (enumerate_from k inputs) ≡ count_by w (enumerate_from k inputs)
count_sum u v w k [] h = refl
count_sum u v w k (x ∷ xs) h =
    let first : one_if (u (k, x)) + one_if (v (k, x)) ≡ one_if (w (k, x)) = h k x (omega arith) (omega arith) in
    omega (
      arith,
      count-cons u (k, x) (enumerate_from (k + 1) xs),
      count-cons v (k, x) (enumerate_from (k + 1) xs),
      count-cons w (k, x) (enumerate_from (k + 1) xs),
      count_sum u v w (k + 1) xs (λ g input l b. h g input (omega (arith, l)) (omega (arith, b))),
    )

pub count_agree : (u v : ℕ × ℕ → Bool) (k : ℕ) (inputs : List ℕ)
    → ((g input : ℕ) → k ≤ g → g < k + length inputs → u (g, input) ≡ v (g, input))
    → count_by u (enumerate_from k inputs) ≡ count_by v (enumerate_from k inputs)
count_agree u v k [] h = refl
count_agree u v k (x ∷ xs) h =
    let first : one_if (u (k, x)) ≡ one_if (v (k, x)) = ap one_if (h k x (omega arith) (omega arith)) in
    omega (
      arith,
      count-cons u (k, x) (enumerate_from (k + 1) xs),
      count-cons v (k, x) (enumerate_from (k + 1) xs),
      count_agree u v (k + 1) xs (λ g input l b. h g input (omega (arith, l)) (omega (arith, b))),
    )

numbered-append : (k : ℕ) (xs ys : List ℕ)
    → enumerate_from k (xs ++ ys) ≡ enumerate_from k xs ++ enumerate_from (k + length xs) ys
numbered-append k [] ys =
    let same : k ≡ k + 0 = omega arith in ap (λ (n : ℕ). enumerate_from n ys) same
numbered-append k (x ∷ xs) ys =
    let same : k + 1 + length xs ≡ k + length (x ∷ xs) = omega arith in
    ap (λ (ps : List (ℕ × ℕ)). (k, x) ∷ ps) (numbered-append (k + 1) xs ys)
    ∙ ap (λ (n : ℕ). enumerate_from k (x ∷ xs) ++ enumerate_from n ys) same

-- how many groups pass a test
abbrev pub among : (ℕ × ℕ → Bool) → List Entry → ℕ
among w es = count_by w (enumerate_from 0 (group_inputs es))

-- how many of those that begin at an entry pass it
abbrev pub among_new : (ℕ × ℕ → Bool) → List Entry → Entry → ℕ
among_new w es e = count_by w (enumerate_from (groups es) (group_inputs_said (gather_of e)))

pub among-push : (w : ℕ × ℕ → Bool) (es : List Entry) (e : Entry)
    → among w (es ++ e ∷ []) ≡ among w es + among_new w es e
among-push w es e =
    let new : List ℕ = group_inputs_said (gather_of e) in
    let same : 0 + groups es ≡ groups es = omega arith in
    ap (λ (inputs : List ℕ). count_by w (enumerate_from 0 inputs)) (group_inputs-push es e)
    ∙ ap (count_by w) (numbered-append 0 (group_inputs es) new)
    ∙ count-append w (enumerate_from 0 (group_inputs es)) (enumerate_from (0 + groups es) new)
    ∙ ap (λ (n : ℕ). among w es + count_by w (enumerate_from n new)) same

-- ---- the reports of an entry

count_passed : (f : ℕ × ℕ → Report) (q : Report → Bool) (s : ℕ × ℕ → Bool) (xs : List (ℕ × ℕ))
    → count_by q (map f (filter s xs)) ≡ count_by (λ (p : ℕ × ℕ). s p && q (f p)) xs
count_passed f q s [] = refl
count_passed f q s (x ∷ xs) = next (s x) refl (count_passed f q s xs)
  where
    whole : count_by (λ (p : ℕ × ℕ). s p && q (f p)) (x ∷ xs)
        ≡ one_if (s x && q (f x)) + count_by (λ (p : ℕ × ℕ). s p && q (f p)) xs
    whole = count-cons (λ (p : ℕ × ℕ). s p && q (f p)) x xs

    next : (b : Bool) → s x ≡ b
        → count_by q (map f (filter s xs)) ≡ count_by (λ (p : ℕ × ℕ). s p && q (f p)) xs
        → count_by q (map f (filter s (x ∷ xs))) ≡ count_by (λ (p : ℕ × ℕ). s p && q (f p)) (x ∷ xs)
    next true is rest =
        let here : map f (filter s (x ∷ xs)) ≡ f x ∷ map f (filter s xs) = rw is refl in
        omega (
          arith,
          ap (count_by q) here,
          count-cons q (f x) (map f (filter s xs)),
          rest,
          whole,
          ap (λ (b : Bool). one_if (b && q (f x))) is,
        )
    next false is rest =
        let here : map f (filter s (x ∷ xs)) ≡ map f (filter s xs) = rw is refl in
        omega (
          arith,
          ap (count_by q) here,
          rest,
          whole,
          ap (λ (b : Bool). one_if (b && q (f x))) is,
        )

-- how many of an entry's reports pass a test
pub reports_passed : (setup : Setup) (es : List Entry) (e : Entry) (q : Report → Bool)
    → count_by q (reports_at setup es e)
    ≡ among (λ (p : ℕ × ℕ). settles setup es e p.0 && q (report_of setup (es ++ e ∷ []) p)) (es ++ e ∷ [])
unfolding reports_at
reports_passed setup es e q =
    count_passed (report_of setup (es ++ e ∷ [])) q (λ (p : ℕ × ℕ). settles setup es e p.0)
    (enumerate_from 0 (group_inputs (es ++ e ∷ [])))

-- what settles among the groups before
pub settles_before : (setup : Setup) (es : List Entry) (e : Entry) (g : ℕ) → g < groups es
    → settles setup es e g ≡ (not (is_live setup (es ++ e ∷ []) g) && is_live setup es g)
settles_before setup es e g low =
    let f : nat_le (groups es) g ≡ false = grind (arith, nat_tests) in
    ap (λ (b : Bool). not (is_live setup (es ++ e ∷ []) g) && (b || is_live setup es g)) f

-- and among those that begin
pub settles_new : (setup : Setup) (es : List Entry) (e : Entry) (g : ℕ) → groups es ≤ g
    → settles setup es e g ≡ not (is_live setup (es ++ e ∷ []) g)
settles_new setup es e g high =
    let t : nat_le (groups es) g ≡ true = grind (arith, nat_tests) in
    ap (λ (b : Bool). not (is_live setup (es ++ e ∷ []) g) && (b || is_live setup es g)) t
    ∙ and_yes (not (is_live setup (es ++ e ∷ []) g))
  where
    and_yes : (b : Bool) → (b && true) ≡ b
    and_yes true = refl
    and_yes false = refl

-- what is known of a number of copies that is tested
no_copies_left : (n : ℕ) → not (n == 0) ≡ false → n ≡ 0
no_copies_left zero is = refl
no_copies_left (suc n) is =
    let f : (suc n == 0) ≡ false = differs (suc n) 0 (λ e. omega (arith, e)) in
    absurd (let x : true ≡ false = sym (ap not f) ∙ is in cc)

-- a group that isn't live isn't live again
pub stays_dead : (setup : Setup) (es : List Entry) (e : Entry) (g : ℕ) → HasSizes setup → IsLegal setup es
    → MeetsLine setup es e → g < groups es → is_live setup es g ≡ false → is_live setup (es ++ e ∷ []) g ≡ false
stays_dead setup es e g sizes h m low dead =
    let stays : StaysSettled setup es e g =
    stays_settled setup es e g sizes h m low (no_copies_left (copies setup es g) dead) in
    ap (λ (n : ℕ). not (n == 0)) stays.none

-- and it is unharmed, or not, as it was
pub stays_unharmed : (setup : Setup) (es : List Entry) (e : Entry) (g : ℕ) → HasSizes setup → IsLegal setup es
    → MeetsLine setup es e → g < groups es → is_live setup es g ≡ false
    → is_unharmed setup (es ++ e ∷ []) g ≡ is_unharmed setup es g
stays_unharmed setup es e g sizes h m low dead =
    let stays : StaysSettled setup es e g =
    stays_settled setup es e g sizes h m low (no_copies_left (copies setup es g) dead) in
    ap (λ (n : ℕ). n == 0) stays.marks

-- ---- live groups with one entry more

-- one where a Gather of an input has a group
abbrev pub begun_said : ℕ → Option GatherSays → ℕ
begun_said input None = 0
begun_said input (Some says) = if says.input == input then group_count says.group else 0

abbrev pub begun_by : ℕ → Entry → ℕ
begun_by input e = begun_said input (gather_of e)

abbrev is_group_of : ℕ → ℕ × ℕ → Bool
is_group_of input p = p.1 == input

begun_one : (input k number : ℕ) (group : Option ℕ)
    → count_by (is_group_of input) (enumerate_from k (input_among number group))
    ≡ (if number == input then group_count group else 0)
begun_one input k number None = sym (none_or (number == input) 0)
begun_one input k number (Some g) = omega (arith, count-cons (is_group_of input) (k, number) [])

begun_counted : (input k : ℕ) (said : Option GatherSays)
    → count_by (is_group_of input) (enumerate_from k (group_inputs_said said)) ≡ begun_said input said
begun_counted input k None = refl
begun_counted input k (Some says) = begun_one input k says.input says.group

live_old : (a l m : Bool) → (l ≡ false → m ≡ false)
    → one_if ((not m && l) && a) + one_if (a && m) ≡ one_if (a && l)
live_old true true true h = refl
live_old true true false h = refl
live_old true false true h = absurd (let x : true ≡ false = h refl in cc)
live_old true false false h = refl
live_old false true true h = refl
live_old false true false h = refl
live_old false false true h = refl
live_old false false false h = refl

live_new : (a m : Bool) → one_if (not m && a) + one_if (a && m) ≡ one_if a
live_new true true = refl
live_new true false = refl
live_new false true = refl
live_new false false = refl

-- The groups of an input that are live, and those that begin, are reported, or they are live then.
pub reports_counted : (setup : Setup) (es : List Entry) (e : Entry) (input : ℕ) → HasSizes setup → IsLegal setup es
    → MeetsLine setup es e
    → count_by (is_report_of input) (reports_at setup es e) + live_count setup (es ++ e ∷ []) input
    ≡ live_count setup es input + begun_by input e
reports_counted setup es e input sizes h m =
    let next : List Entry = es ++ e ∷ [] in
    let u : ℕ × ℕ → Bool = λ (p : ℕ × ℕ). settles setup es e p.0 && (p.1 == input) in
    let v : ℕ × ℕ → Bool = λ (p : ℕ × ℕ). p.1 == input && is_live setup next p.0 in
    let w : ℕ × ℕ → Bool = λ (p : ℕ × ℕ). p.1 == input && is_live setup es p.0 in
    let told : count_by (is_report_of input) (reports_at setup es e) ≡ among u next =
    reports_passed setup es e (is_report_of input) in
    let old : among u es + among v es ≡ among w es =
    count_sum u v w 0 (group_inputs es)
    (λ g number l b. let low : g < groups es = omega (arith, b) in omega (
      arith,
      ap (λ (s : Bool). one_if (s && (number == input))) (settles_before setup es e g low),
      live_old (number == input) (is_live setup es g) (is_live setup next g)
          (λ dead. stays_dead setup es e g sizes h m low dead),
    )) in
    let new : among_new u es e + among_new v es e ≡ among_new (is_group_of input) es e =
    count_sum u v (is_group_of input) (groups es) (group_inputs_said (gather_of e))
    (λ g number l b. omega (
      arith,
      ap (λ (s : Bool). one_if (s && (number == input))) (settles_new setup es e g l),
      live_new (number == input) (is_live setup next g),
    )) in
    let begun : among_new (is_group_of input) es e ≡ begun_by input e =
    begun_counted input (groups es) (gather_of e) in
    let a : among u next ≡ among u es + among_new u es e = among-push u es e in
    let b : live_count setup next input ≡ among v es + among_new v es e = among-push v es e in
    let c : live_count setup es input ≡ among w es = refl in
    omega (arith, told, old, new, begun, a, b, c)

-- ---- groups that have settled, by what is reported of them

-- whether a group of an input has settled, and a test passes whether no item of it is dropped
abbrev pub is_settled_as : (Bool → Bool) → Setup → List Entry → ℕ → ℕ × ℕ → Bool
is_settled_as t setup es input p =
    p.1 == input && (not (is_live setup es p.0) && t (is_unharmed setup es p.0))

-- whether a report is of an input, and what it says passes a test
abbrev pub is_report_as : (Bool → Bool) → ℕ → Report → Bool
is_report_as t input report = is_report_of input report && t report.delivered

settled_old : (t : Bool → Bool) (a l m x y : Bool) → (l ≡ false → m ≡ false) → (l ≡ false → y ≡ x)
    → one_if (a && (not l && t x)) + one_if ((not m && l) && (a && t y)) ≡ one_if (a && (not m && t y))
settled_old t true true true x y h k = omega arith
settled_old t true true false x y h k = omega arith
settled_old t false true true x y h k = omega arith
settled_old t false true false x y h k = omega arith
settled_old t true false true x y h k = absurd (let z : true ≡ false = h refl in cc)
settled_old t true false false x y h k = omega (arith, ap (λ (b : Bool). one_if (t b)) (k refl))
settled_old t false false true x y h k = omega arith
settled_old t false false false x y h k = omega arith

settled_new : (a m z : Bool) → (not m && (a && z)) ≡ (a && (not m && z))
settled_new true m z = refl
settled_new false true z = refl
settled_new false false z = refl

-- Those that have settled are those that had, and those that are reported.
pub settled_counted : (t : Bool → Bool) (setup : Setup) (es : List Entry) (e : Entry) (input : ℕ) → HasSizes setup
    → IsLegal setup es → MeetsLine setup es e
    → among (is_settled_as t setup es input) es + count_by (is_report_as t input) (reports_at setup es e)
    ≡ among (is_settled_as t setup (es ++ e ∷ []) input) (es ++ e ∷ [])
settled_counted t setup es e input sizes h m =
    let next : List Entry = es ++ e ∷ [] in
    let u : ℕ × ℕ → Bool = λ (p : ℕ × ℕ).
    settles setup es e p.0 && (p.1 == input && t (is_unharmed setup next p.0)) in
    let v : ℕ × ℕ → Bool = is_settled_as t setup es input in
    let w : ℕ × ℕ → Bool = is_settled_as t setup next input in
    let told : count_by (is_report_as t input) (reports_at setup es e) ≡ among u next =
    reports_passed setup es e (is_report_as t input) in
    let old : among v es + among u es ≡ among w es =
    count_sum v u w 0 (group_inputs es)
    (λ g number l b. let low : g < groups es = omega (arith, b) in omega (
      arith,
      ap (λ (s : Bool). one_if (s && (number == input && t (is_unharmed setup next g))))
          (settles_before setup es e g low),
      settled_old t (number == input) (is_live setup es g) (is_live setup next g) (is_unharmed setup es g)
          (is_unharmed setup next g) (λ dead. stays_dead setup es e g sizes h m low dead)
          (λ dead. stays_unharmed setup es e g sizes h m low dead),
    )) in
    let new : among_new u es e ≡ among_new w es e =
    count_agree u w (groups es) (group_inputs_said (gather_of e))
    (λ g number l b. ap (λ (s : Bool). s && (number == input && t (is_unharmed setup next g)))
    (settles_new setup es e g l)
    ∙ settled_new (number == input) (is_live setup next g) (t (is_unharmed setup next g))) in
    omega (arith, told, old, new, among-push u es e, among-push w es e)

-- ---- an input's numbers

-- what reports make of them
record Reported (input : ℕ) (x y : InputNumbers) (reports : List Report) : Type 0 where
  undelivered : y.undelivered ≡ x.undelivered - count_by (is_report_of input) reports
  delivered : y.delivered ≡ x.delivered + count_by (is_report_as (λ b. b) input) reports
  rejected : y.rejected ≡ x.rejected + count_by (is_report_as not input) reports

abbrev counted_one : InputNumbers → Bool → Bool → InputNumbers
counted_one x own delivered = if own then settled_more x delivered else x

record OneReported (x y : InputNumbers) (own well : Bool) : Type 0 where
  undelivered : y.undelivered ≡ x.undelivered - one_if own
  delivered : y.delivered ≡ x.delivered + one_if (own && well)
  rejected : y.rejected ≡ x.rejected + one_if (own && not well)

one_reported : (x : InputNumbers) (own delivered : Bool) → OneReported x (counted_one x own delivered) own delivered
one_reported x true true = record { undelivered = refl; delivered = refl; rejected = omega arith }
one_reported x true false = record { undelivered = refl; delivered = omega arith; rejected = refl }
one_reported x false delivered = record {
  undelivered = omega arith;
  delivered = omega arith;
  rejected = omega arith;
}

reported : (input : ℕ) (x : InputNumbers) (reports : List Report)
    → Reported input x (reported_with input x reports) reports
unfolding reported_with
reported input x [] = record { undelivered = omega arith; delivered = omega arith; rejected = omega arith }
reported input x (r ∷ rs) =
    let own : Bool = r.input == input in
    let one : OneReported x (counted_one x own r.delivered) own r.delivered = one_reported x own r.delivered in
    let y : InputNumbers = reported_with input (counted_one x own r.delivered) rs in
    let rest : Reported input (counted_one x own r.delivered) y rs =
    reported input (counted_one x own r.delivered) rs in
    record {
      undelivered = omega (arith, one.undelivered, rest.undelivered, count-cons (is_report_of input) r rs);
      delivered = omega (arith, one.delivered, rest.delivered, count-cons (is_report_as (λ b. b) input) r rs);
      rejected = omega (arith, one.rejected, rest.rejected, count-cons (is_report_as not input) r rs);
    }

-- what the entry itself makes of them
record Said (input : ℕ) (x y : InputNumbers) (e : Entry) : Type 0 where
  undelivered : y.undelivered ≡ x.undelivered + begun_by input e
  delivered : y.delivered ≡ x.delivered
  rejected : y.rejected ≡ x.rejected

said_same : (input : ℕ) (x : InputNumbers) (e : Entry) → begun_by input e ≡ 0 → Said input x x e
said_same input x e none = record { undelivered = omega (arith, none); delivered = refl; rejected = refl }

-- the same of a Gather's undelivered groups
gathered_said : (input : ℕ) (x : InputNumbers) (says : GatherSays) (own : Bool)
    → (if own then gathers_too x says else x).undelivered
    ≡ x.undelivered + (if own then group_count says.group else 0)
gathered_said input x says true = refl
gathered_said input x says false = omega arith

gathered_kept : {X : Type 0} (f : InputNumbers → X) (x y : InputNumbers) (own : Bool) → f y ≡ f x
    → f (if own then y else x) ≡ f x
gathered_kept f x y true is = is
gathered_kept f x y false is = refl

said_gather : (input : ℕ) (x : InputNumbers) (e : Entry) (says : GatherSays) → gather_of e ≡ Some says
    → Said input x (gathered_with input x (gather_of e)) e
said_gather input x e says is =
    let own : Bool = says.input == input in
    let y : InputNumbers = gathers_too x says in
    let same : gathered_with input x (gather_of e) ≡ (if own then y else x) = ap (gathered_with input x) is in
    record {
      undelivered = ap (λ (z : InputNumbers). z.undelivered) same ∙ gathered_said input x says own
          ∙ ap (λ (s : Option GatherSays). x.undelivered + begun_said input s) (sym is);
      delivered = ap (λ (z : InputNumbers). z.delivered) same
          ∙ gathered_kept (λ (z : InputNumbers). z.delivered) x y own refl;
      rejected = ap (λ (z : InputNumbers). z.rejected) same
          ∙ gathered_kept (λ (z : InputNumbers). z.rejected) x y own refl;
    }

said : (input : ℕ) (x : InputNumbers) (e : Entry) → Said input x (said_with input x e) e
said input x (Gather number moment pieces refused passed filtered metrics group reports) =
    said_gather input x _ _ refl
said input x (Ended number) = ended (number == input)
  where
    ended : (own : Bool) → Said input x (if own then record x { has_ended = true } else x) (Ended number)
    ended true = record { undelivered = omega arith; delivered = refl; rejected = refl }
    ended false = record { undelivered = omega arith; delivered = refl; rejected = refl }
said input x (Take item) = said_same input x _ refl
said input x (Route item whole verdict aggs outs reports) = said_same input x _ refl
said input x (Tick moment all) = said_same input x _ refl
said input x (Stop moment all) = said_same input x _ refl
said input x (Begin output from to) = said_same input x _ refl
said input x (Done output ok reports) = said_same input x _ refl

input_total-push : (input : ℕ) (x : InputNumbers) (es : List Entry) (e : Entry)
    → input_total_from input x (es ++ e ∷ []) ≡ input_with input (input_total_from input x es) e
unfolding input_total_from
input_total-push input x [] e = refl
input_total-push input x (y ∷ es) e = input_total-push input (input_with input x y) es e

counts_first : (setup : Setup) (input : ℕ) (tracked : Bool) → CountsGroups setup [] input (input_total input tracked [])
unfolding input_total_from group_inputs
counts_first setup input tracked = record { undelivered = refl; delivered = refl; rejected = refl }

-- an input's numbers count its groups with one entry more
pub counts-push : (setup : Setup) (es : List Entry) (e : Entry) (input : ℕ) (x : InputNumbers) → HasSizes setup
    → IsLegal setup es → MeetsLine setup es e → reports_of e ≡ reports_at setup es e → CountsGroups setup es input x
    → CountsGroups setup (es ++ e ∷ []) input (input_with input x e)
counts-push setup es e input x sizes h m told counts =
    let says : Said input x (said_with input x e) e = said input x e in
    let reports : List Report = reports_at setup es e in
    let y : InputNumbers = reported_with input (said_with input x e) reports in
    let all : Reported input (said_with input x e) y reports = reported input (said_with input x e) reports in
    let now : CountsGroups setup (es ++ e ∷ []) input y = record {
      undelivered = omega (
        arith,
        all.undelivered,
        says.undelivered,
        counts.undelivered,
        reports_counted setup es e input sizes h m,
      );
      delivered = omega (
        arith,
        all.delivered,
        says.delivered,
        counts.delivered,
        settled_counted (λ b. b) setup es e input sizes h m,
      );
      rejected = omega (
        arith,
        all.rejected,
        says.rejected,
        counts.rejected,
        settled_counted not setup es e input sizes h m,
      );
    } in
    subst (λ (rs : List Report). CountsGroups setup (es ++ e ∷ []) input (reported_with input (said_with input x e) rs))
    (sym told) now

pub group_totals : GroupTotals
group_totals setup journal input sizes h low =
    let tracked : Bool = is_some (get_or setup.inputs input None) in
    subst (CountsGroups setup journal input) (sym (inputs-at setup journal input low))
    (legal_induction setup (λ (es : List Entry). CountsGroups setup es input (input_total input tracked es))
    (counts_first setup input tracked)
    (λ es e legal m counts. subst (CountsGroups setup (es ++ e ∷ []) input)
    (sym (input_total-push input (unread_input tracked) es e))
    (counts-push setup es e input (input_total input tracked es) sizes legal m.line m.reports counts)) journal h)

-- ---- there are no more than groups

count_few : (w : ℕ × ℕ → Bool) (k : ℕ) (inputs : List ℕ) → count_by w (enumerate_from k inputs) ≤ length inputs
count_few w k [] = omega arith
count_few w k (x ∷ xs) =
    omega (
      arith,
      count-cons w (k, x) (enumerate_from (k + 1) xs),
      one_few (w (k, x)),
      count_few w (k + 1) xs,
    )
  where
    one_few : (b : Bool) → one_if b ≤ 1
    one_few true = omega arith
    one_few false = omega arith

two_ways : (a l z : Bool) → one_if (a && (not l && z)) + one_if (a && (not l && not z)) ≡ one_if (a && not l)
two_ways true true z = omega arith
two_ways true false true = omega arith
two_ways true false false = omega arith
two_ways false l z = omega arith

live_or_not : (a l : Bool) → one_if (a && not l) + one_if (a && l) ≡ one_if a
live_or_not true true = omega arith
live_or_not true false = omega arith
live_or_not false l = omega arith

-- each group of an input is delivered, rejected or live
pub groups_of_input : (setup : Setup) (es : List Entry) (input : ℕ)
    → delivered_count setup es input + rejected_count setup es input + live_count setup es input
    ≡ among (λ (p : ℕ × ℕ). p.1 == input) es
groups_of_input setup es input =
    let settled : ℕ × ℕ → Bool = λ (p : ℕ × ℕ). p.1 == input && not (is_live setup es p.0) in
    let live : ℕ × ℕ → Bool = λ (p : ℕ × ℕ). p.1 == input && is_live setup es p.0 in
    let a : delivered_count setup es input + rejected_count setup es input ≡ among settled es =
    count_sum (is_settled_as (λ b. b) setup es input) (is_settled_as not setup es input) settled 0 (group_inputs es)
    (λ g number l b. two_ways (number == input) (is_live setup es g) (is_unharmed setup es g)) in
    let b : among settled es + live_count setup es input ≡ among (λ (p : ℕ × ℕ). p.1 == input) es =
    count_sum settled live (λ (p : ℕ × ℕ). p.1 == input) 0 (group_inputs es)
    (λ g number l b. live_or_not (number == input) (is_live setup es g)) in
    omega (arith, a, b)

-- so an input's numbers of groups are few
pub few_counted : (setup : Setup) (journal : List Entry) (input : ℕ) (x : InputNumbers)
    → CountsGroups setup journal input x → x.delivered + x.rejected + x.undelivered ≤ groups journal
few_counted setup journal input x counts =
    omega (
      arith,
      counts.delivered,
      counts.rejected,
      counts.undelivered,
      groups_of_input setup journal input,
      count_few (λ (p : ℕ × ℕ). p.1 == input) 0 (group_inputs journal),
    )

pub few_totals : (setup : Setup) (journal : List Entry) (input : ℕ) → HasSizes setup → IsLegal setup journal
    → input < length setup.inputs →
    let x : InputNumbers = input_numbers (totals setup journal) input in
    x.delivered + x.rejected + x.undelivered ≤ groups journal
few_totals setup journal input sizes h low =
    few_counted setup journal input (input_numbers (totals setup journal) input)
    (group_totals setup journal input sizes h low)
