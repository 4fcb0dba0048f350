-- What a server stands for with a packet more, and once a group was served.
use Rattle.std.proofs.Common.{◌≡◌, ◌≤◌, ◌+◌, ℕ, true, false, cond, List, [], ◌∷◌, ◌++◌, length, map, refl, sym, ap}
use Rattle.std.proofs.Common.{subst, ◌∙◌, arith, append-nil, length-append}
use Rattle.std.specs.Prelude.{is_err, option_and_then, Err, Ok, OnErr, Option, Result}
use Rattle.std.specs.List.{fold, AllByRecursion}
use Rattle.std.proofs.lemmas.Grind.{flat_map-append}
use Rattle.std.proofs.lemmas.List.Sums.{fold-append, sum_by-append}
use Rattle.metric.specs.declared.metric.Content.{Content}
use Rattle.statsd_server.specs.Counting.{counted, counted_in, does_count, refused_in, with_group, with_part}
use Rattle.statsd_server.specs.declared.placed.First.{First}
use Rattle.statsd_server.specs.Kept.{first_series, made_of, served_of, sum_held, HasPlace, Keeps, Memory}
use Rattle.statsd_server.specs.Table.{value_at}
use Rattle.statsd_server.specs.Packets.{line_read, lines_in, lines_of, parts_in, parts_of_lines, parts_read}
use Rattle.statsd_server.specs.Packets.{refused_lines, Packet}
use Rattle.statsd_server.specs.Served.{metric_of, own_metric, served}
use Rattle.statsd_server.specs.Server.{ServerMemory, StandsFor}
use Rattle.statsd_server.proofs.KeepLemmas.{summary_is}

-- ---- a packet more

lines-push : (hand : List Packet) (packet : Packet) → lines_in (hand ++ packet ∷ []) ≡ lines_in hand ++ lines_of packet
lines-push hand packet =
    flat_map-append lines_of hand (packet ∷ [])
    ∙ ap (λ (rest : List (List ℕ)). lines_in hand ++ rest) (append-nil (lines_of packet))

parts-push : (hand : List Packet) (packet : Packet)
    → parts_in (hand ++ packet ∷ []) ≡ parts_in hand ++ parts_of_lines (lines_of packet)
parts-push hand packet =
    ap parts_of_lines (lines-push hand packet)
    ∙ flat_map-append (λ (line : List ℕ). parts_read (line_read line)) (lines_in hand) (lines_of packet)

refused-push : (hand : List Packet) (packet : Packet)
    → refused_lines (lines_in (hand ++ packet ∷ [])) ≡ refused_lines (lines_in hand) + refused_lines (lines_of packet)
refused-push hand packet =
    ap refused_lines (lines-push hand packet)
    ∙ sum_by-append (λ (line : List ℕ). cond {A = ℕ} (is_err (line_read line)) 1 0) (lines_in hand) (lines_of packet)

counted-push : (past : List Content) (hand : List Packet) (packet : Packet)
    → fold (with_part past) (counted past (parts_in hand)) (parts_of_lines (lines_of packet))
    ≡ counted past (parts_in (hand ++ packet ∷ []))
unfolding counted
counted-push past hand packet =
    sym (fold-append (with_part past) [] (parts_in hand) (parts_of_lines (lines_of packet)))
    ∙ ap (fold (with_part past) []) (sym (parts-push hand packet))

pub packet_more : (earlier : List (List Packet)) (hand : List Packet) (packet : Packet) (old new : ServerMemory)
    (parts : List Content) (refused : ℕ) → StandsFor earlier hand old → parts ≡ parts_of_lines (lines_of packet)
    → refused ≡ refused_lines (lines_of packet) → new.packets ≡ old.packets + 1
    → ((past now : List Content) → Keeps past now old.tally → Keeps past (fold (with_part past) now parts) new.tally)
    → new.tally.counted + new.tally.refused ≡ old.tally.counted + old.tally.refused + refused + length parts
    → StandsFor earlier (hand ++ packet ∷ []) new
packet_more earlier hand packet old new parts refused h parts_are refused_is packets keeps all =
    let past = counted_in earlier in
    let now = counted past (parts_in hand) in
    let lines = refused-push hand packet in
    let more = ap (λ (ms : List Content). length ms) (parts-push hand packet) in
    let sum = length-append (parts_in hand) (parts_of_lines (lines_of packet)) in
    let len = ap (λ (ms : List Content). length ms) parts_are in
    record {
      packets = packets ∙ ap (λ (n : ℕ). n + 1) h.packets ∙ sym (length-append hand (packet ∷ []));
      keeps = subst (λ (ms : List Content). Keeps past ms new.tally)
          (ap (fold (with_part past) now) parts_are ∙ counted-push past hand packet) (keeps past now h.keeps);
      all = omega (arith, all, h.all, lines, more, sum, len, refused_is);
    }

-- where room was made, and nothing else
pub still_stands : (earlier : List (List Packet)) (hand : List Packet) (old new : ServerMemory)
    → StandsFor earlier hand old → new.packets ≡ old.packets
    → ((past now : List Content) → Keeps past now old.tally → Keeps past now new.tally)
    → new.tally.counted ≡ old.tally.counted → new.tally.refused ≡ old.tally.refused → StandsFor earlier hand new
still_stands earlier hand old new h packets keeps counted_same refused = record {
  packets = packets ∙ h.packets;
  keeps = keeps (counted_in earlier) (counted (counted_in earlier) (parts_in hand)) h.keeps;
  all = rw (counted_same, refused) h.all;
}

pub stands_new : (memory : ServerMemory) → memory.packets ≡ 0 → Keeps [] [] memory.tally → memory.tally.counted ≡ 0
    → memory.tally.refused ≡ 0 → StandsFor [] [] memory
unfolding counted counted_in
stands_new memory packets keeps counted_none refused = record {
  packets = packets;
  keeps = keeps;
  all = rw (counted_none, refused) refl;
}

-- ---- a group that was served

pub gathered : (earlier : List (List Packet)) (hand : List Packet) (old new : ServerMemory) → StandsFor earlier hand old
    → new.packets ≡ 0 → ((past now : List Content) → Keeps past now old.tally → Keeps (past ++ now) [] new.tally)
    → new.tally.counted ≡ 0 → new.tally.refused ≡ 0 → StandsFor (earlier ++ hand ∷ []) [] new
unfolding counted counted_in
gathered earlier hand old new h packets keeps counted_none refused = record {
  packets = packets;
  keeps = subst (λ (ms : List Content). Keeps ms [] new.tally) (sym (fold-append with_group [] earlier (hand ∷ [])))
      (keeps (counted_in earlier) (counted (counted_in earlier) (parts_in hand)) h.keeps);
  all = rw (counted_none, refused) refl;
}

counted-le : (past now parts : List Content) → length (fold (with_part past) now parts) ≤ length now + length parts
counted-le past now [] = omega arith
counted-le past now (part ∷ parts) =
    let rest = counted-le past (with_part past now part) parts in
    let one = with_one (does_count past now part) in
    omega arith
  where
    with_one : (t : _) → length (cond t (now ++ part ∷ []) now) ≤ length now + 1
    with_one true = omega (arith, length-append now (part ∷ []))
    with_one false = omega arith

refused_is : (earlier : List (List Packet)) (hand : List Packet) (memory : ServerMemory) → StandsFor earlier hand memory
    → memory.tally.refused ≡ refused_in (counted_in earlier) hand
unfolding counted
refused_is earlier hand memory h =
    let few = counted-le (counted_in earlier) [] (parts_in hand) in
    let kept = h.keeps.counted in
    omega (arith, few, kept, h.all)

each_served : (past now : List Content) (memory : Memory) → Keeps past now memory → (order : List First)
    → AllByRecursion (HasPlace memory.sums) order
    → map (served_of memory) order ≡ map (metric_of past now) (map first_series order)
each_served past now memory h [] placed = refl
each_served past now memory h (first ∷ order) placed =
    let s = first_series first in
    let held : value_at memory.sums.values first.sum ≡ sum_held memory.sums s =
    sym (ap (λ (found : Option ℕ). option_and_then (value_at memory.sums.values) found) placed.0) in
    let here : served_of memory first ≡ metric_of past now s =
    rw (held, summary_is past now memory s h, h.levels s) refl in
    ap (λ (m : Content). m ∷ map (served_of memory) order) here
    ∙ ap (λ (rest : List Content). metric_of past now s ∷ rest) (each_served past now memory h order placed.1)

pub served_is : (earlier : List (List Packet)) (hand : List Packet) (memory : ServerMemory)
    → StandsFor earlier hand memory → made_of memory.packets memory.tally ≡ served earlier hand
served_is earlier hand memory h =
    let past = counted_in earlier in
    let now = counted past (parts_in hand) in
    rw (h.packets, refused_is earlier hand memory h)
    (ap (λ (rest : List Content). own_metric (length hand) (refused_in past hand) ∷ rest)
    (each_served past now memory.tally h.keeps memory.tally.order h.keeps.placed
    ∙ ap (map (metric_of past now)) h.keeps.ordered))

-- what holds in any case holds behind an error
pub on_err : {T E : Type 0} (result : Result T E) (P : Type 0) → P → OnErr result P
on_err (Ok x) P h = tt
on_err (Err e) P h = h
