-- What groups of packets and quiets are.
use Rattle.std.proofs.Common.{◌≡◌, ◌≤◌, ◌<◌, ◌+◌, ◌==◌, ℕ, true, false, cond, List, [], ◌∷◌, ◌++◌, length, nat_lt}
use Rattle.std.proofs.Common.{refl, sym, ap, ◌∙◌, arith, append_assoc, length-append}
use Rattle.std.proofs.lemmas.Bool.{eqb-false, eqb-true, ltb-true}
use Rattle.std.specs.List.{AllByRecursion}
use Rattle.statsd_server.specs.declared.datagrams.Dgram.{Dgram}
use Rattle.statsd_server.specs.declared.datagrams.Dgram.TheVariants as datagrams
use Rattle.statsd_server.specs.GroupLaws.{packets_among, packets_of, GroupsHold, IsGroup}
use Rattle.statsd_server.specs.Groups.{groups, Rule}
use Rattle.statsd_server.specs.Packets.{Packet}

-- ---- each is a group

-- one that is closed, and those behind it
closed : (rule : Rule) (hand : List Packet) (behind : List (List Packet)) → (length hand == 0) ≡ false
    → length hand < rule.packets → AllByRecursion (IsGroup rule) behind → AllByRecursion (IsGroup rule) (hand ∷ behind)
closed rule hand behind e few rest = let some = eqb-false (length hand) 0 e in ((omega arith, omega arith), rest)

each_group : (rule : Rule) (left : List Dgram) (hand : List Packet) (quiets : ℕ) → 1 ≤ rule.packets
    → length hand < rule.packets → AllByRecursion (IsGroup rule) (groups rule hand quiets left)
unfolding groups
each_group rule [] hand quiets some few =
    elim (length hand == 0) as (λ t. (length hand == 0) ≡ t
    → AllByRecursion (IsGroup rule) (cond t [] (hand ∷ [])))
    [ true ↦ λ e. tt | false ↦ λ e. closed rule hand [] e few tt ] refl
each_group rule (datagrams.Packet packet ∷ left) hand quiets some few =
    let more = length-append hand (packet ∷ []) in
    elim (nat_lt (length hand + 1) rule.packets) as (λ t. nat_lt (length hand + 1) rule.packets ≡ t
    → AllByRecursion (IsGroup rule) (cond t (groups rule (hand ++ packet ∷ []) 0 left)
    ((hand ++ packet ∷ []) ∷ groups rule [] 0 left))) [
      | true ↦ λ e.
          let below : length hand + 1 < rule.packets = ltb-true (length hand + 1) rule.packets e in
          each_group rule left (hand ++ packet ∷ []) 0 some (omega arith)
      | false ↦ λ e. ((omega arith, omega arith), each_group rule left [] 0 some (omega arith))
    ] refl
each_group rule (datagrams.Quiet ∷ left) hand quiets some few =
    elim (length hand == 0) as (λ t. (length hand == 0) ≡ t → AllByRecursion (IsGroup rule) (cond t
    (cond (nat_lt (quiets + 1) rule.quiet_limit) (groups rule [] (quiets + 1) left) [])
    (hand ∷ groups rule [] 0 left))) [
      | true ↦ λ e. elim (nat_lt (quiets + 1) rule.quiet_limit) as (λ t. AllByRecursion (IsGroup rule)
          (cond t (groups rule [] (quiets + 1) left) []))
          [ true ↦ each_group rule left [] (quiets + 1) some (omega arith) | false ↦ tt ]
      | false ↦ λ e. closed rule hand (groups rule [] 0 left) e few (each_group rule left [] 0 some (omega arith))
    ] refl

-- ---- all packets

-- packets that are those of groups, and others behind them
abbrev Holds : List Packet → List (List Packet) → Type 0
Holds packets groups = (rest : List Packet) × (packets ≡ packets_of groups ++ rest)

-- behind a group
behind : (group packets : List Packet) (groups : List (List Packet)) → Holds packets groups
    → Holds (group ++ packets) (group ∷ groups)
behind group packets groups h =
    (h.0, ap (λ (rest : List Packet). group ++ rest) h.1 ∙ sym (append_assoc group (packets_of groups) h.0))

same_packets : (packets others : List Packet) (groups : List (List Packet)) → others ≡ packets → Holds packets groups
    → Holds others groups
same_packets packets others groups e h = (h.0, e ∙ h.1)

none_in : (hand : List Packet) → length hand ≡ 0 → hand ≡ []
none_in [] e = refl
none_in (packet ∷ hand) e = absurd (omega arith)

all_packets : (rule : Rule) (left : List Dgram) (hand : List Packet) (quiets : ℕ)
    → Holds (hand ++ packets_among left) (groups rule hand quiets left)
unfolding groups
all_packets rule [] hand quiets =
    elim (length hand == 0) as (λ t. (length hand == 0) ≡ t → Holds (hand ++ []) (cond t [] (hand ∷ []))) [
      | true ↦ λ e. (hand ++ [], refl)
      | false ↦ λ e. behind hand [] [] ([], refl)
    ] refl
all_packets rule (datagrams.Packet packet ∷ left) hand quiets =
    let one = sym (append_assoc hand (packet ∷ []) (packets_among left)) in
    elim (nat_lt (length hand + 1) rule.packets) as (λ t. Holds (hand ++ packet ∷ packets_among left)
    (cond t (groups rule (hand ++ packet ∷ []) 0 left) ((hand ++ packet ∷ []) ∷ groups rule [] 0 left))) [
      | true ↦ same_packets ((hand ++ packet ∷ []) ++ packets_among left) (hand ++ packet ∷ packets_among left)
          (groups rule (hand ++ packet ∷ []) 0 left) one (all_packets rule left (hand ++ packet ∷ []) 0)
      | false ↦ same_packets ((hand ++ packet ∷ []) ++ packets_among left) (hand ++ packet ∷ packets_among left)
          ((hand ++ packet ∷ []) ∷ groups rule [] 0 left) one
          (behind (hand ++ packet ∷ []) (packets_among left) (groups rule [] 0 left) (all_packets rule left [] 0))
    ]
all_packets rule (datagrams.Quiet ∷ left) hand quiets =
    elim (length hand == 0) as (λ t. (length hand == 0) ≡ t → Holds (hand ++ packets_among left) (cond t
    (cond (nat_lt (quiets + 1) rule.quiet_limit) (groups rule [] (quiets + 1) left) [])
    (hand ∷ groups rule [] 0 left))) [
      | true ↦ λ e. elim (nat_lt (quiets + 1) rule.quiet_limit) as (λ t. Holds (hand ++ packets_among left)
          (cond t (groups rule [] (quiets + 1) left) [])) [
            | true ↦ same_packets (packets_among left) (hand ++ packets_among left)
                (groups rule [] (quiets + 1) left)
                (ap (λ (packets : List Packet). packets ++ packets_among left)
                (none_in hand (eqb-true (length hand) 0 e))) (all_packets rule left [] (quiets + 1))
            | false ↦ (hand ++ packets_among left, refl)
          ]
      | false ↦ λ e. behind hand (packets_among left) (groups rule [] 0 left) (all_packets rule left [] 0)
    ] refl

pub groups_hold : GroupsHold
groups_hold = λ rule left some.
    let all = all_packets rule left [] 0 in
    record { each = each_group rule left [] 0 some (omega arith); rest = all.0; all = all.1 }
