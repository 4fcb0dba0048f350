-- What the calls of a server make of the text that it serves of what is to come.
use Rattle.std.proofs.Common.{◌≡◌, ◌<◌, ◌+◌, ◌==◌, ℕ, true, false, cond, Bool, List, [], ◌∷◌, ◌++◌, length, nat_lt}
use Rattle.std.proofs.Common.{refl, sym, ap, subst, ◌∙◌, arith, length-append}
use Rattle.std.proofs.Math.Logic.{∥∥₁_elim}
use Rattle.std.proofs.lemmas.Bool.{ne_eqb}
use Rattle.std.specs.Prelude.{codes, Result, Ok, Err, IfOk, OnOk, OnErr}
use Rattle.std.specs.Coded.{Coded-set, coded_list, coded_ℕ, le_prop}
use Rattle.metric.specs.declared.metric.Content.{Content}
use Rattle.line_proto.specs.LineText.{head_text, untimed_text}
use Rattle.statsd_server.specs.declared.datagrams.Dgram.{Dgram}
use Rattle.statsd_server.specs.declared.datagrams.Dgram.TheVariants as datagrams
use Rattle.statsd_server.specs.Groups.{behind_packet, groups, groups_of, lines_text, served_text, Growing}
use Rattle.statsd_server.specs.Groups.{Rule, Whole}
use Rattle.statsd_server.specs.Packets.{Packet}
use Rattle.statsd_server.specs.Served.{served}
use Rattle.statsd_server.specs.Server.{ServerMemory, StandsFor}
use Rattle.statsd_server.specs.Serving.{serving_prop, Serving}
use Rattle.statsd_server.specs.Standing.{HasGathered, HasTaken, IsAsBefore}
use Rattle.statsd_server.proofs.NextLemmas.{serving_for}

-- a server that stands for something where another one did serves one text
pub serving_after : (old new : ServerMemory) → Serving old
    → ((earlier : List (List Packet)) (hand : List Packet) → StandsFor earlier hand old → Serving new) → Serving new
serving_after old new a f = ∥∥₁_elim a.1.0 (serving_prop new) (λ x. f x.0 x.1 x.2)

abbrev TakesIn : ServerMemory → ServerMemory → Packet → Type 0
TakesIn old new packet = (earlier : List (List Packet)) (hand : List Packet) → StandsFor earlier hand old
    → StandsFor earlier (hand ++ packet ∷ []) new

abbrev Stays : ServerMemory → ServerMemory → Type 0
Stays old new = (earlier : List (List Packet)) (hand : List Packet) → StandsFor earlier hand old
    → StandsFor earlier hand new

abbrev Begins : ServerMemory → ServerMemory → Type 0
Begins old new = (earlier : List (List Packet)) (hand : List Packet) → StandsFor earlier hand old
    → StandsFor (earlier ++ hand ∷ []) [] new

pub serving_taken : (old new : ServerMemory) (packet : Packet) → Serving old → TakesIn old new packet → Serving new
serving_taken old new packet a f =
    serving_after old new a (λ earlier hand h. serving_for earlier (hand ++ packet ∷ []) new (f earlier hand h))

pub serving_stays : (old new : ServerMemory) → Serving old → Stays old new → Serving new
serving_stays old new a f = serving_after old new a (λ earlier hand h. serving_for earlier hand new (f earlier hand h))

pub serving_begins : (old new : ServerMemory) → Serving old → Begins old new → Serving new
serving_begins old new a f =
    serving_after old new a (λ earlier hand h. serving_for (earlier ++ hand ∷ []) [] new (f earlier hand h))

-- ---- a packet more

behind_is : (earlier : List (List Packet)) (hand : List Packet) (packet : Packet) (n : ℕ) (rule : Rule) (quiets : ℕ)
    (left : List Dgram) → n ≡ length hand + 1
    → served_text earlier (groups rule hand quiets (datagrams.Packet packet ∷ left))
    ≡ served_text earlier (groups_of (behind_packet rule n left) (hand ++ packet ∷ []))
unfolding groups
behind_is earlier hand packet n rule quiets left e =
    ap (λ (m : ℕ). served_text earlier (cond (nat_lt m rule.packets) (groups rule (hand ++ packet ∷ []) 0 left)
    ((hand ++ packet ∷ []) ∷ groups rule [] 0 left))) (sym e)
    ∙ by_cases (nat_lt n rule.packets)
  where
    by_cases : (t : Bool) → served_text earlier (cond t (groups rule (hand ++ packet ∷ []) 0 left)
        ((hand ++ packet ∷ []) ∷ groups rule [] 0 left))
        ≡ served_text earlier (groups_of (cond t (Growing rule 0 left) (Whole rule left)) (hand ++ packet ∷ []))
    by_cases true = refl
    by_cases false = refl

pub taken : (old new : ServerMemory) (a : Serving old) (b : Serving new) (packet : Packet) → TakesIn old new packet
    → HasTaken a.0 b.0 packet new.packets
taken old new a b packet f = λ rule quiets left. ∥∥₁_elim a.1.0 (Coded-set (coded_list coded_ℕ) _ _) (λ x.
    let now = f x.0 x.1 x.2 in
    a.1.1 x.0 x.1 x.2 (Growing rule quiets (datagrams.Packet packet ∷ left))
    ∙ behind_is x.0 x.1 packet new.packets rule quiets left (now.packets ∙ length-append x.1 (packet ∷ []))
    ∙ sym (b.1.1 x.0 (x.1 ++ packet ∷ []) now (behind_packet rule new.packets left)))

pub taken_count : (old new : ServerMemory) (a : Serving old) (packet : Packet) → TakesIn old new packet
    → new.packets ≡ old.packets + 1
taken_count old new a packet f = ∥∥₁_elim a.1.0 (Coded-set coded_ℕ _ _) (λ x.
    (f x.0 x.1 x.2).packets ∙ length-append x.1 (packet ∷ []) ∙ ap (λ (n : ℕ). n + 1) (sym x.2.packets))

pub as_before : (old new : ServerMemory) (a : Serving old) (b : Serving new) → Stays old new → IsAsBefore a.0 b.0
as_before old new a b f = λ coming. ∥∥₁_elim a.1.0 (Coded-set (coded_list coded_ℕ) _ _) (λ x.
    b.1.1 x.0 x.1 (f x.0 x.1 x.2) coming ∙ sym (a.1.1 x.0 x.1 x.2 coming))

pub count_stays : (old new : ServerMemory) (a : Serving old) → Stays old new → new.packets ≡ old.packets
count_stays old new a f = ∥∥₁_elim a.1.0 (Coded-set coded_ℕ _ _) (λ x.
    (f x.0 x.1 x.2).packets ∙ sym x.2.packets)

-- ---- a group more

pub gathered_so : (old new : ServerMemory) (a : Serving old) (b : Serving new) (metrics : List Content)
    → ((earlier : List (List Packet)) (hand : List Packet) → StandsFor earlier hand old
    → metrics ≡ served earlier hand) → Begins old new → HasGathered a.0 b.0 metrics
unfolding served_text
gathered_so old new a b metrics is f = λ rule left. ∥∥₁_elim a.1.0 (Coded-set (coded_list coded_ℕ) _ _) (λ x.
    a.1.1 x.0 x.1 x.2 (Whole rule left)
    ∙ ap (λ (ms : List Content). lines_text ms ++ served_text (x.0 ++ x.1 ∷ []) (groups rule [] 0 left))
    (sym (is x.0 x.1 x.2))
    ∙ ap (λ (text : List ℕ). lines_text metrics ++ text)
    (sym (b.1.1 (x.0 ++ x.1 ∷ []) [] (f x.0 x.1 x.2) (Growing rule 0 left))))

pub line_some : (m : Content) (ms : List Content) → 0 < length (lines_text (m ∷ ms))
unfolding untimed_text
line_some m ms =
    omega (arith, length-append (untimed_text m) (lines_text ms), length-append (head_text m) (codes "\n"))

pub gathered_some : (old : ServerMemory) (a : Serving old) (metrics : List Content)
    → ((earlier : List (List Packet)) (hand : List Packet) → StandsFor earlier hand old
    → metrics ≡ served earlier hand) → 0 < length (lines_text metrics)
gathered_some old a metrics is = ∥∥₁_elim a.1.0 le_prop (λ x.
    subst (λ (ms : List Content). 0 < length (lines_text ms)) (sym (is x.0 x.1 x.2)) (line_some _ _))

-- ---- quiets, and the end

none_left : (hand : List Packet) → length hand ≡ 0 → hand ≡ []
none_left [] e = refl
none_left (packet ∷ hand) e = absurd (omega arith)

-- a quiet before a group
quiet_before : (earlier : List (List Packet)) (hand : List Packet) (rule : Rule) (quiets : ℕ) (left : List Dgram)
    → hand ≡ [] → served_text earlier (groups rule hand quiets (datagrams.Quiet ∷ left))
    ≡ cond (nat_lt (quiets + 1) rule.quiet_limit) (served_text earlier (groups rule hand (quiets + 1) left)) []
unfolding groups served_text
quiet_before earlier hand rule quiets left e =
    subst (λ (h : List Packet). served_text earlier (groups rule h quiets (datagrams.Quiet ∷ left))
    ≡ cond (nat_lt (quiets + 1) rule.quiet_limit) (served_text earlier (groups rule h (quiets + 1) left)) []) (sym e)
    (by_cases (nat_lt (quiets + 1) rule.quiet_limit))
  where
    by_cases : (t : Bool) → served_text earlier (cond t (groups rule [] (quiets + 1) left) [])
        ≡ cond t (served_text earlier (groups rule [] (quiets + 1) left)) []
    by_cases true = refl
    by_cases false = refl

pub quiet_none : (memory : ServerMemory) (a : Serving memory) (rule : Rule) (quiets : ℕ) (left : List Dgram)
    → memory.packets ≡ 0 → a.0 (Growing rule quiets (datagrams.Quiet ∷ left))
    ≡ cond (nat_lt (quiets + 1) rule.quiet_limit) (a.0 (Growing rule (quiets + 1) left)) []
quiet_none memory a rule quiets left e = ∥∥₁_elim a.1.0 (Coded-set (coded_list coded_ℕ) _ _) (λ x.
    a.1.1 x.0 x.1 x.2 (Growing rule quiets (datagrams.Quiet ∷ left))
    ∙ quiet_before x.0 x.1 rule quiets left (none_left x.1 (sym x.2.packets ∙ e))
    ∙ ap (λ (text : List ℕ). cond (nat_lt (quiets + 1) rule.quiet_limit) text [])
    (sym (a.1.1 x.0 x.1 x.2 (Growing rule (quiets + 1) left))))

some_eqb : (hand : List Packet) → 0 < length hand → (length hand == 0) ≡ false
some_eqb hand some = ne_eqb (length hand) 0 (λ e. absurd (omega arith))

-- a quiet that closes a group
quiet_closes : (earlier : List (List Packet)) (hand : List Packet) (rule : Rule) (quiets : ℕ) (left : List Dgram)
    → 0 < length hand → served_text earlier (groups rule hand quiets (datagrams.Quiet ∷ left))
    ≡ served_text earlier (hand ∷ groups rule [] 0 left)
unfolding groups
quiet_closes earlier hand rule quiets left some = rw (some_eqb hand some) refl

pub quiet_some : (memory : ServerMemory) (a : Serving memory) (rule : Rule) (quiets : ℕ) (left : List Dgram)
    → 0 < memory.packets → a.0 (Growing rule quiets (datagrams.Quiet ∷ left)) ≡ a.0 (Whole rule left)
quiet_some memory a rule quiets left some = ∥∥₁_elim a.1.0 (Coded-set (coded_list coded_ℕ) _ _) (λ x.
    a.1.1 x.0 x.1 x.2 (Growing rule quiets (datagrams.Quiet ∷ left))
    ∙ quiet_closes x.0 x.1 rule quiets left (subst (λ (n : ℕ). 0 < n) x.2.packets some)
    ∙ sym (a.1.1 x.0 x.1 x.2 (Whole rule left)))

end_before : (earlier : List (List Packet)) (hand : List Packet) (rule : Rule) (quiets : ℕ) → hand ≡ []
    → served_text earlier (groups rule hand quiets []) ≡ []
unfolding groups served_text
end_before earlier hand rule quiets e =
    subst (λ (h : List Packet). served_text earlier (groups rule h quiets []) ≡ []) (sym e) refl

pub end_none : (memory : ServerMemory) (a : Serving memory) (rule : Rule) (quiets : ℕ) → memory.packets ≡ 0
    → a.0 (Growing rule quiets []) ≡ []
end_none memory a rule quiets e = ∥∥₁_elim a.1.0 (Coded-set (coded_list coded_ℕ) _ _) (λ x.
    a.1.1 x.0 x.1 x.2 (Growing rule quiets [])
    ∙ end_before x.0 x.1 rule quiets (none_left x.1 (sym x.2.packets ∙ e)))

end_closes : (earlier : List (List Packet)) (hand : List Packet) (rule : Rule) (quiets : ℕ) → 0 < length hand
    → served_text earlier (groups rule hand quiets []) ≡ served_text earlier (hand ∷ groups rule [] 0 [])
unfolding groups
end_closes earlier hand rule quiets some = rw (some_eqb hand some) refl

pub end_some : (memory : ServerMemory) (a : Serving memory) (rule : Rule) (quiets : ℕ) → 0 < memory.packets
    → a.0 (Growing rule quiets []) ≡ a.0 (Whole rule [])
end_some memory a rule quiets some = ∥∥₁_elim a.1.0 (Coded-set (coded_list coded_ℕ) _ _) (λ x.
    a.1.1 x.0 x.1 x.2 (Growing rule quiets [])
    ∙ end_closes x.0 x.1 rule quiets (subst (λ (n : ℕ). 0 < n) x.2.packets some)
    ∙ sym (a.1.1 x.0 x.1 x.2 (Whole rule [])))

-- ---- the same by what a call answers

pub packet_serving : {E : Type 0} (result : Result (Unit {0}) E) (old new : ServerMemory) (packet : Packet)
    → Serving old
    → ((earlier : List (List Packet)) (hand : List Packet) → StandsFor earlier hand old
    → OnOk result (StandsFor earlier (hand ++ packet ∷ []) new))
    → ((earlier : List (List Packet)) (hand : List Packet) → StandsFor earlier hand old
    → OnErr result (StandsFor earlier hand new)) → Serving new
packet_serving (Ok done) old new packet a ok err = serving_taken old new packet a ok
packet_serving (Err fault) old new packet a ok err = serving_stays old new a err

pub packet_taken : {E : Type 0} (result : Result (Unit {0}) E) (old new : ServerMemory) (a : Serving old)
    (b : Serving new) (packet : Packet)
    → ((earlier : List (List Packet)) (hand : List Packet) → StandsFor earlier hand old
    → OnOk result (StandsFor earlier (hand ++ packet ∷ []) new)) → OnOk result (HasTaken a.0 b.0 packet new.packets)
packet_taken (Ok done) old new a b packet f = taken old new a b packet f
packet_taken (Err fault) old new a b packet f = tt

pub packet_count : {E : Type 0} (result : Result (Unit {0}) E) (old new : ServerMemory) (a : Serving old)
    (packet : Packet)
    → ((earlier : List (List Packet)) (hand : List Packet) → StandsFor earlier hand old
    → OnOk result (StandsFor earlier (hand ++ packet ∷ []) new)) → OnOk result (new.packets ≡ old.packets + 1)
packet_count (Ok done) old new a packet f = taken_count old new a packet f
packet_count (Err fault) old new a packet f = tt

pub failed_same : {T E : Type 0} (result : Result T E) (old new : ServerMemory) (a : Serving old) (b : Serving new)
    → ((earlier : List (List Packet)) (hand : List Packet) → StandsFor earlier hand old
    → OnErr result (StandsFor earlier hand new)) → OnErr result (IsAsBefore a.0 b.0)
failed_same (Ok done) old new a b f = tt
failed_same (Err fault) old new a b f = as_before old new a b f

pub gather_serving : {T E : Type 0} (result : Result T E) (old new : ServerMemory) → Serving old
    → ((earlier : List (List Packet)) (hand : List Packet) → StandsFor earlier hand old
    → OnOk result (StandsFor (earlier ++ hand ∷ []) [] new))
    → ((earlier : List (List Packet)) (hand : List Packet) → StandsFor earlier hand old
    → OnErr result (StandsFor earlier hand new)) → Serving new
gather_serving (Ok metrics) old new a ok err = serving_begins old new a ok
gather_serving (Err fault) old new a ok err = serving_stays old new a err

pub gather_given : {T E : Type 0} (items : T → List Content) (result : Result T E) (old new : ServerMemory)
    (a : Serving old) (b : Serving new)
    → ((earlier : List (List Packet)) (hand : List Packet) → StandsFor earlier hand old
    → IfOk result (λ metrics. items metrics ≡ served earlier hand))
    → ((earlier : List (List Packet)) (hand : List Packet) → StandsFor earlier hand old
    → OnOk result (StandsFor (earlier ++ hand ∷ []) [] new))
    → IfOk result (λ metrics. HasGathered a.0 b.0 (items metrics))
gather_given items (Ok metrics) old new a b is ok = gathered_so old new a b (items metrics) is ok
gather_given items (Err fault) old new a b is ok = tt

pub gather_some : {T E : Type 0} (items : T → List Content) (result : Result T E) (old : ServerMemory) (a : Serving old)
    → ((earlier : List (List Packet)) (hand : List Packet) → StandsFor earlier hand old
    → IfOk result (λ metrics. items metrics ≡ served earlier hand))
    → IfOk result (λ metrics. 0 < length (lines_text (items metrics)))
gather_some items (Ok metrics) old a is = gathered_some old a (items metrics) is
gather_some items (Err fault) old a is = tt

pub failed_count : {T E : Type 0} (result : Result T E) (old new : ServerMemory) (a : Serving old)
    → ((earlier : List (List Packet)) (hand : List Packet) → StandsFor earlier hand old
    → OnErr result (StandsFor earlier hand new)) → OnErr result (new.packets ≡ old.packets)
failed_count (Ok done) old new a f = tt
failed_count (Err fault) old new a f = count_stays old new a f
