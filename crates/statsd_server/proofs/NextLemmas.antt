-- What a server serves of what is to come follows from its memory: the memory behind a packet more, and behind a group.
use Rattle.std.proofs.Common.{◌≡◌, ◌+◌, ◌||◌, ◌==◌, ℕ, ℤ, true, false, cond, Bool, List, [], ◌∷◌, ◌++◌, length}
use Rattle.std.proofs.Common.{refl, sym, ap, subst, ◌∙◌, arith, length-append, Some, None, nat_lt, Decides}
use Rattle.std.specs.Prelude.{pos, map, option_and_then, option_map, unwrap_or, is_some, IsSome, Option}
use Rattle.std.specs.List.{fold, AllByRecursion}
use Rattle.std.specs.Map.{lookup}
use Rattle.std.specs.Ordering.{is_eq}
use Rattle.std.specs.declared.cmp.Ordering.{Ordering}
use Rattle.std.proofs.lemmas.Bool.{ltb-false, ltb-true, ne_eqb}
use Rattle.std.proofs.lemmas.Option.{slice_get_past}
use Rattle.metric.specs.Series.{series_eq, Series}
use Rattle.metric.specs.declared.metric.Content.{Content}
use Rattle.agg_keep.specs.Spot.{series_of, series_same}
use Rattle.agg_keep.proofs.KeyLemmas.{turned}
use Rattle.statsd_server.specs.declared.datagrams.Dgram.{Dgram}
use Rattle.statsd_server.specs.declared.datagrams.Dgram.TheVariants as datagrams
use Rattle.statsd_server.specs.declared.summary.Summary.{Summary}
use Rattle.statsd_server.specs.Counting.{does_count, is_in_range, taken_to, with_part}
use Rattle.statsd_server.specs.Folding.{with_amount}
use Rattle.statsd_server.specs.Groups.{groups, groups_of, lines_text, served_text, Coming, Growing, Rule, Whole}
use Rattle.statsd_server.specs.declared.placed.First.{First}
use Rattle.statsd_server.specs.Kept.{first_series, is_it, is_named, is_new, level_for, level_held, summary_held}
use Rattle.statsd_server.specs.Kept.{HasPlace, Keeps, Levels, Members, Memory, Sums}
use Rattle.statsd_server.specs.Marked.{marked_cmp, marked_ties}
use Rattle.statsd_server.specs.Member.{member_cmp, member_eq, member_named, member_same, member_ties}
use Rattle.statsd_server.specs.declared.member.Member.{Member}
use Rattle.statsd_server.specs.Packets.{lines_of, parts_of_lines, refused_lines, Packet}
use Rattle.statsd_server.specs.Parts.{amount_of, change_of, changes_of, level_with, summary_of}
use Rattle.statsd_server.specs.Served.{served}
use Rattle.statsd_server.specs.Server.{ServerMemory, StandsFor}
use Rattle.statsd_server.specs.Serving.{Serving}
use Rattle.statsd_server.proofs.FoldLemmas.{summary-push}
use Rattle.statsd_server.specs.Table.{held_by, place_by, value_at, Table}
use Rattle.statsd_server.proofs.KeepLemmas.{begins, counts_is, fresh_is, level_taken, levels_more, members_more}
use Rattle.statsd_server.proofs.KeepLemmas.{ordered_more, sums_more, summary_is}
use Rattle.statsd_server.proofs.ServerLemmas.{gathered, packet_more, served_is}
use Rattle.statsd_server.proofs.TableLemmas.{front_get, last_get}

-- ---- a value in front of those that are held

-- a place stays; one at which no value stands is one at which none will
moved : {K : Type 0} → ℕ → K × ℕ → K × ℕ
moved end entry = (entry.0, cond (nat_lt entry.1 end) entry.1 (end + 1))

with_value : {K V : Type 0} → Table K V → K → V → Table K V
with_value table k value = record {
  places = (k, length table.values) ∷ map (moved (length table.values)) table.places;
  values = table.values ++ Some value ∷ [];
}

lookup_moved : {K : Type 0} (test : K → Bool) (end : ℕ) (es : List (K × ℕ)) → lookup test (map (moved end) es)
    ≡ option_map (λ at. cond (nat_lt at end) at (end + 1)) (lookup test es)
unfolding moved
lookup_moved test end [] = refl
lookup_moved test end (e ∷ es) =
    elim (test e.0) as (λ t. cond t (Some (cond (nat_lt e.1 end) e.1 (end + 1))) (lookup test (map (moved end) es))
    ≡ option_map (λ at. cond (nat_lt at end) at (end + 1)) (cond t (Some e.1) (lookup test es)))
    [ true ↦ refl | false ↦ lookup_moved test end es ]

value_moved : {V : Type 0} (values : List (Option V)) (value : V) (at : ℕ)
    → value_at (values ++ Some value ∷ []) (cond (nat_lt at (length values)) at (length values + 1))
    ≡ value_at values at
value_moved {V = V} values value at =
    elim (nat_lt at (length values)) as (λ t. nat_lt at (length values) ≡ t
    → value_at (values ++ Some value ∷ []) (cond t at (length values + 1)) ≡ value_at values at) [
      | true ↦ λ e. ap (λ (found : Option (Option V)). option_and_then (λ value. value) found)
          (front_get values (Some value ∷ []) at (ltb-true at (length values) e))
      | false ↦ λ e. ap (λ (found : Option (Option V)). option_and_then (λ value. value) found)
          (slice_get_past (values ++ Some value ∷ []) (length values + 1)
          (omega (arith, length-append values (Some value ∷ [])))
          ∙ sym (slice_get_past values at (ltb-false at (length values) e)))
    ] refl

module _ {K : Type 0} (same : K → K → Bool) (cmp : K → K → Ordering)
    (decides : (a b : K) → Decides (same a b) (a ≡ b)) (ties : (a b : K) → same a b ≡ is_eq (cmp a b)) where
  ties_turned : (k q : K) (t : Bool) → same k q ≡ t → is_eq (cmp q k) ≡ t
  ties_turned k q t e = sym (ties q k) ∙ turned same (λ (x : K). x) decides k q t e

  with_held : {V : Type 0} (table : Table K V) (k : K) (value : V) (q : K)
      → held_by cmp (with_value table k value) q ≡ cond (same k q) (Some value) (held_by cmp table q)
  unfolding with_value
  with_held {V = V} table k value q =
      elim (same k q) as (λ t. same k q ≡ t
      → held_by cmp (with_value table k value) q ≡ cond t (Some value) (held_by cmp table q)) [
        | true ↦ λ e. rw (ties_turned k q true e) (ap (λ (found : Option (Option V)). option_and_then
            (λ value. value) found)
            (last_get table.values (Some value)))
        | false ↦ λ e. rw (ties_turned k q false e) (ap
            (λ (found : Option ℕ). option_and_then (value_at (table.values ++ Some value ∷ [])) found)
            (lookup_moved (λ other. is_eq (cmp q other)) (length table.values) table.places)
            ∙ there (place_by cmp table q))
      ] refl
    where
      there : (found : Option ℕ) → option_and_then (value_at (table.values ++ Some value ∷ []))
          (option_map (λ at. cond (nat_lt at (length table.values)) at (length table.values + 1)) found)
          ≡ option_and_then (value_at table.values) found
      there None = refl
      there (Some at) = value_moved table.values value at

  -- a key that has a place keeps one, and its own key has one
  with_place : {V : Type 0} (table : Table K V) (k : K) (value : V) (q : K) (at : ℕ) → place_by cmp table q ≡ Some at
      → IsSome (place_by cmp (with_value table k value) q)
  unfolding with_value
  with_place table k value q at is =
      elim (is_eq (cmp q k)) as (λ t. IsSome (cond t (Some (length table.values))
      (lookup (λ other. is_eq (cmp q other)) (map (moved (length table.values)) table.places)))) [
        | true ↦ refl
        | false ↦ subst IsSome (sym (lookup_moved (λ other. is_eq (cmp q other)) (length table.values) table.places
            ∙ ap (λ (found : Option ℕ). option_map (λ at. cond (nat_lt at (length table.values)) at
            (length table.values + 1)) found) is)) refl
      ]

  own_place : {V : Type 0} (table : Table K V) (k : K) (value : V) → IsSome (place_by cmp (with_value table k value) k)
  unfolding with_value
  own_place table k value = rw (ties_turned k k true ((decides k k).1 refl)) refl

-- ---- the memory behind a part more

with_member : Option Member → Members → Members
with_member None members = members
with_member (Some member) members = with_value members member tt

named_with : (member : Option Member) (members : Members) (m : Member)
    → is_named (with_member member members) m ≡ (is_it member m || is_named members m)
unfolding with_member
named_with None members m = refl
named_with (Some member) members m =
    ap is_some (with_held member_eq member_cmp member_same member_ties members member tt m)
    ∙ or_held (member_eq member m) (held_by member_cmp members m)
  where
    or_held : (t : Bool) (held : Option (Unit {0})) → is_some (cond t (Some tt) held) ≡ (t || is_some held)
    or_held true held = refl
    or_held false held = refl

level_front : (levels : Levels) (s : Series) (level : ℤ) (q : Series)
    → level_held (with_value levels s level) q ≡ cond (series_eq s q) level (level_held levels q)
level_front levels s level q =
    ap (λ (held : Option ℤ). unwrap_or held (pos 0))
    (with_held series_eq marked_cmp series_same marked_ties levels s level q)
    ∙ of_cond (series_eq s q) (held_by marked_cmp levels q)
  where
    of_cond : (t : Bool) (held : Option ℤ) → unwrap_or (cond t (Some level) held) (pos 0)
        ≡ cond t level (unwrap_or held (pos 0))
    of_cond true held = refl
    of_cond false held = refl

-- first parts with the places of their series
placed_in : Sums → First → First
placed_in sums first = record {
  series = first.series;
  sum = unwrap_or (place_by marked_cmp sums (first_series first)) 0;
}

HasSome : Sums → First → Type 0
HasSome sums first = IsSome (place_by marked_cmp sums (first_series first))

placed_series : (sums : Sums) (order : List First) → map first_series (map (placed_in sums) order)
    ≡ map first_series order
unfolding placed_in
placed_series sums [] = refl
placed_series sums (first ∷ order) =
    ap (λ (rest : List Series). first_series first ∷ rest) (placed_series sums order)

all_placed : (sums : Sums) (order : List First) → AllByRecursion (HasSome sums) order
    → AllByRecursion (HasPlace sums) (map (placed_in sums) order)
unfolding placed_in HasSome
all_placed sums [] h = tt
all_placed sums (first ∷ order) h = (
  here (place_by marked_cmp sums
      (first_series first)) h.0,
  all_placed sums order h.1,
)
  where
    here : (found : Option ℕ) → IsSome found → found ≡ Some (unwrap_or found 0)
    here (Some at) is = refl
    here None is = absurd (let x : false ≡ true = is in cc)

-- behind one that counts
abbrev sum_with : Memory → Content → Summary
sum_with memory part = with_amount (summary_held memory.sums (series_of part)) (amount_of (change_of part))
    (is_new memory.members (member_named (series_of part) (change_of part)))

summed : Memory → Content → Sums
summed memory part = with_value memory.sums (series_of part) (sum_with memory part)

firsts_with : Memory → Content → List First
firsts_with memory part = cond ((summary_held memory.sums (series_of part)).count == 0)
    (memory.order ++ record { series = series_of part; sum = 0 } ∷ []) memory.order

counting : Memory → Content → Memory
counting memory part = record {
  sums = summed memory part;
  levels = with_value memory.levels (series_of part)
      (level_with (level_held memory.levels (series_of part)) (change_of part));
  members = with_member (member_named (series_of part) (change_of part)) memory.members;
  order = map (placed_in (summed memory part)) (firsts_with memory part);
  room = memory.room;
  counted = memory.counted + 1;
  refused = memory.refused;
}

firsts_have : (memory : Memory) (part : Content) → AllByRecursion (HasPlace memory.sums) memory.order
    → AllByRecursion (HasSome (summed memory part)) (firsts_with memory part)
unfolding summed firsts_with HasSome
firsts_have memory part h =
    by_cases ((summary_held memory.sums (series_of part)).count == 0)
  where
    kept : (order : List First) → AllByRecursion (HasPlace memory.sums) order
        → AllByRecursion (HasSome (summed memory part)) order
    kept [] h = tt
    kept (first ∷ order) h = (
      with_place series_eq marked_cmp series_same marked_ties memory.sums (series_of part) (sum_with memory part)
          (first_series first) first.sum h.0,
      kept order h.1,
    )

    more : (order : List First) → AllByRecursion (HasPlace memory.sums) order
        → AllByRecursion (HasSome (summed memory part)) (order ++ record { series = series_of part; sum = 0 } ∷ [])
    more [] h = (
      own_place series_eq marked_cmp series_same marked_ties memory.sums (series_of part)
          (sum_with memory part),
      tt,
    )
    more (first ∷ order) h = (
      with_place series_eq marked_cmp series_same marked_ties memory.sums (series_of part) (sum_with memory part)
          (first_series first) first.sum h.0,
      more order h.1,
    )

    by_cases : (t : Bool) → AllByRecursion (HasSome (summed memory part))
        (cond t (memory.order ++ record { series = series_of part; sum = 0 } ∷ []) memory.order)
    by_cases true = more memory.order h
    by_cases false = kept memory.order h

counting_keeps : (past now : List Content) (memory : Memory) (part : Content) → Keeps past now memory
    → Keeps past (now ++ part ∷ []) (counting memory part)
unfolding counting summed firsts_with
counting_keeps past now memory part h =
    let s = series_of part in
    let c = change_of part in
    let old_is : summary_held memory.sums s ≡ summary_of (changes_of s now) = summary_is past now memory s h in
    let amount_is : with_amount (summary_held memory.sums s) (amount_of c) (is_new memory.members (member_named s c))
    ≡ summary_of (changes_of s now ++ c ∷ []) =
    rw (old_is, fresh_is past now memory s c h) (sym (summary-push (changes_of s now) c)) in
    record {
      sums = sums_more past now part memory (counting memory part).sums _ h amount_is
          (with_held series_eq marked_cmp series_same marked_ties memory.sums s _);
      levels = levels_more past now part memory (counting memory part).levels _ h refl
          (level_front memory.levels s (level_with (level_held memory.levels s) c));
      members = members_more past now part memory (counting memory part).members h
          (named_with (member_named s c) memory.members);
      ordered = placed_series (summed memory part) (firsts_with memory part)
          ∙ ordered_more past now part memory (firsts_with memory part)
          (record { series = series_of part; sum = 0 }) _ h
          (ap (λ (x : Summary). x.count == 0) old_is) refl refl;
      placed = all_placed (summed memory part) (firsts_with memory part) (firsts_have memory part h.placed);
      counted = ap (λ (n : ℕ). n + 1) h.counted ∙ sym (length-append now (part ∷ []));
    }

-- what was left out says nothing
still_kept : (past now : List Content) (memory : Memory) (refused : ℕ) → Keeps past now memory
    → Keeps past now (record memory { refused = refused })
still_kept past now memory refused h = record {
  sums = h.sums;
  levels = h.levels;
  members = h.members;
  ordered = h.ordered;
  placed = h.placed;
  counted = h.counted;
}

-- behind one that counts or is left out
behind_part : Memory → Content → Memory
behind_part memory part =
    cond (is_in_range (taken_to (summary_held memory.sums (series_of part)).sum
    (level_held memory.levels (series_of part)) (change_of part)))
    (counting memory part) (record memory { refused = memory.refused + 1 })

part_keeps : (past now : List Content) (memory : Memory) (part : Content) → Keeps past now memory
    → Keeps past (with_part past now part) (behind_part memory part)
unfolding behind_part
part_keeps past now memory part h =
    let s = series_of part in
    let fits = is_in_range (taken_to (summary_held memory.sums s).sum (level_held memory.levels s) (change_of part)) in
    let is : does_count past now part ≡ fits =
    counts_is past now memory part (change_of part) (summary_held memory.sums s)
    (level_for memory.levels s (change_of part)) fits h refl refl refl
    (sym (ap is_in_range (level_taken memory.levels s (summary_held memory.sums s).sum (change_of part)))) in
    rw is (by_cases fits)
  where
    by_cases : (t : Bool) → Keeps past (cond t (now ++ part ∷ []) now)
        (cond t (counting memory part) (record memory { refused = memory.refused + 1 }))
    by_cases true = counting_keeps past now memory part h
    by_cases false = still_kept past now memory (memory.refused + 1) h

part_counts : (memory : Memory) (part : Content)
    → (behind_part memory part).counted + (behind_part memory part).refused ≡ memory.counted + memory.refused + 1
unfolding behind_part counting
part_counts memory part =
    by_cases (is_in_range (taken_to (summary_held memory.sums (series_of part)).sum
    (level_held memory.levels (series_of part)) (change_of part)))
  where
    by_cases : (t : Bool)
        → (cond t (counting memory part) (record memory { refused = memory.refused + 1 })).counted
        + (cond t (counting memory part) (record memory { refused = memory.refused + 1 })).refused
        ≡ memory.counted + memory.refused + 1
    by_cases true = omega arith
    by_cases false = omega arith

parts_keep : (past : List Content) (parts now : List Content) (memory : Memory) → Keeps past now memory
    → Keeps past (fold (with_part past) now parts) (fold behind_part memory parts)
parts_keep past [] now memory h = h
parts_keep past (part ∷ parts) now memory h =
    parts_keep past parts (with_part past now part) (behind_part memory part) (part_keeps past now memory part h)

parts_count : (parts : List Content) (memory : Memory) → (fold behind_part memory parts).counted
    + (fold behind_part memory parts).refused ≡ memory.counted + memory.refused + length parts
parts_count [] memory = omega arith
parts_count (part ∷ parts) memory =
    let here = part_counts memory part in
    let rest = parts_count parts (behind_part memory part) in
    omega arith

-- ---- a packet more

behind : ServerMemory → Packet → ServerMemory
behind memory packet = record {
  packets = memory.packets + 1;
  tally = fold behind_part (record memory.tally { refused = memory.tally.refused + refused_lines (lines_of packet) })
      (parts_of_lines (lines_of packet));
}

behind_stands : (earlier : List (List Packet)) (hand : List Packet) (packet : Packet) (memory : ServerMemory)
    → StandsFor earlier hand memory → StandsFor earlier (hand ++ packet ∷ []) (behind memory packet)
unfolding behind
behind_stands earlier hand packet memory h =
    let parts = parts_of_lines (lines_of packet) in
    let refused = refused_lines (lines_of packet) in
    let mid : Memory = record memory.tally { refused = memory.tally.refused + refused } in
    let keeps : (past now : List Content) → Keeps past now memory.tally
    → Keeps past (fold (with_part past) now parts) (fold behind_part mid parts) =
    λ past now kept. parts_keep past parts now mid
    (still_kept past now memory.tally (memory.tally.refused + refused) kept) in
    packet_more earlier hand packet memory (behind memory packet) parts refused h refl refl refl keeps
    (parts_count parts mid ∙ all_is memory.tally.counted memory.tally.refused refused (length parts))
  where
    all_is : (a b c d : ℕ) → a + (b + c) + d ≡ a + b + c + d
    all_is a b c d = omega arith

-- ---- a group more

emptied : ServerMemory → ServerMemory
emptied memory = record {
  packets = 0;
  tally = record memory.tally {
    sums = record { places = []; values = [] };
    members = record { places = []; values = [] };
    order = [];
    counted = 0;
    refused = 0;
  };
}

emptied_stands : (earlier : List (List Packet)) (hand : List Packet) (memory : ServerMemory)
    → StandsFor earlier hand memory → StandsFor (earlier ++ hand ∷ []) [] (emptied memory)
unfolding emptied
emptied_stands earlier hand memory h =
    gathered earlier hand memory (emptied memory) h refl
    (λ past now kept. begins past now memory.tally (emptied memory).tally kept (λ q. refl) (λ m. refl) refl refl refl)
    refl refl

-- ---- what is served of what is to come

-- a server stands for both
abbrev Both : List (List Packet) → List (List Packet) → List Packet → List Packet → ServerMemory → Type 0
Both earlier other hand held memory = StandsFor earlier hand memory × StandsFor other held memory

same_count : (earlier other : List (List Packet)) (hand held : List Packet) (memory : ServerMemory)
    → Both earlier other hand held memory → length hand ≡ length held
same_count earlier other hand held memory h = sym h.0.packets ∙ h.1.packets

same_served : (earlier other : List (List Packet)) (hand held : List Packet) (memory : ServerMemory)
    → Both earlier other hand held memory → served earlier hand ≡ served other held
same_served earlier other hand held memory h =
    sym (served_is earlier hand memory h.0) ∙ served_is other held memory h.1

both_behind : (earlier other : List (List Packet)) (hand held : List Packet) (packet : Packet) (memory : ServerMemory)
    → Both earlier other hand held memory
    → Both earlier other (hand ++ packet ∷ []) (held ++ packet ∷ []) (behind memory packet)
both_behind earlier other hand held packet memory h =
    (behind_stands earlier hand packet memory h.0, behind_stands other held packet memory h.1)

both_emptied : (earlier other : List (List Packet)) (hand held : List Packet) (memory : ServerMemory)
    → Both earlier other hand held memory
    → Both (earlier ++ hand ∷ []) (other ++ held ∷ []) [] [] (emptied memory)
both_emptied earlier other hand held memory h =
    (emptied_stands earlier hand memory h.0, emptied_stands other held memory h.1)

nothing : (earlier other : List (List Packet)) → served_text earlier [] ≡ served_text other []
unfolding served_text
nothing earlier other = refl

same_whole : (rule : Rule) (left : List Dgram) (earlier other : List (List Packet)) (hand held : List Packet)
    (memory : ServerMemory) → Both earlier other hand held memory
    → ((earlier other : List (List Packet)) (memory : ServerMemory) → Both earlier other [] [] memory
    → served_text earlier (groups rule [] 0 left) ≡ served_text other (groups rule [] 0 left))
    → served_text earlier (hand ∷ groups rule [] 0 left) ≡ served_text other (held ∷ groups rule [] 0 left)
unfolding served_text
same_whole rule left earlier other hand held memory h rest =
    ap (λ (ms : List Content). lines_text ms ++ served_text (earlier ++ hand ∷ []) (groups rule [] 0 left))
    (same_served earlier other hand held memory h)
    ∙ ap (λ (text : List ℕ). lines_text (served other held) ++ text)
    (rest (earlier ++ hand ∷ []) (other ++ held ∷ []) (emptied memory) (both_emptied earlier other hand held memory h))

either : (earlier other : List (List Packet)) (t : Bool) (a b c d : List (List Packet))
    → served_text earlier a ≡ served_text other c → served_text earlier b ≡ served_text other d
    → served_text earlier (cond t a b) ≡ served_text other (cond t c d)
either earlier other true a b c d first second = first
either earlier other false a b c d first second = second

alone : (earlier other : List (List Packet)) (hand held : List Packet) (memory : ServerMemory)
    → Both earlier other hand held memory → served_text earlier (hand ∷ []) ≡ served_text other (held ∷ [])
unfolding served_text
alone earlier other hand held memory h =
    ap (λ (ms : List Content). lines_text ms ++ []) (same_served earlier other hand held memory h)

some_eqb : (packet : Packet) (hand : List Packet) → (length (packet ∷ hand) == 0) ≡ false
some_eqb packet hand = ne_eqb (length (packet ∷ hand)) 0 (λ e. absurd (omega arith))

same_growing : (rule : Rule) (left : List Dgram) (quiets : ℕ) (earlier other : List (List Packet))
    (hand held : List Packet) (memory : ServerMemory) → Both earlier other hand held memory
    → served_text earlier (groups rule hand quiets left) ≡ served_text other (groups rule held quiets left)
unfolding groups
same_growing rule [] quiets earlier other hand held memory h =
    ap (λ (n : ℕ). served_text earlier (cond (n == 0) [] (hand ∷ []))) (same_count earlier other hand held memory h)
    ∙ either earlier other (length held == 0) [] (hand ∷ []) [] (held ∷ []) (nothing earlier other)
    (alone earlier other hand held memory h)
same_growing rule (datagrams.Packet packet ∷ left) quiets earlier other hand held memory h =
    let more = both_behind earlier other hand held packet memory h in
    ap (λ (n : ℕ). served_text earlier (cond (nat_lt (n + 1) rule.packets) (groups rule (hand ++ packet ∷ []) 0 left)
    ((hand ++ packet ∷ []) ∷ groups rule [] 0 left))) (same_count earlier other hand held memory h)
    ∙ either earlier other (nat_lt (length held + 1) rule.packets) (groups rule (hand ++ packet ∷ []) 0 left)
    ((hand ++ packet ∷ []) ∷ groups rule [] 0 left) (groups rule (held ++ packet ∷ []) 0 left)
    ((held ++ packet ∷ []) ∷ groups rule [] 0 left)
    (same_growing rule left 0 earlier other (hand ++ packet ∷ []) (held ++ packet ∷ []) (behind memory packet) more)
    (same_whole rule left earlier other (hand ++ packet ∷ []) (held ++ packet ∷ []) (behind memory packet) more
    (λ e o m both. same_growing rule left 0 e o [] [] m both))
same_growing rule (datagrams.Quiet ∷ left) quiets earlier other [] [] memory h =
    either earlier other (nat_lt (quiets + 1) rule.quiet_limit) (groups rule [] (quiets + 1) left) []
    (groups rule [] (quiets + 1) left) [] (same_growing rule left (quiets + 1) earlier other [] [] memory h)
    (nothing earlier other)
same_growing rule (datagrams.Quiet ∷ left) quiets earlier other (packet ∷ hand) (one ∷ held) memory h =
    rw (some_eqb packet hand, some_eqb one held)
    (same_whole rule left earlier other (packet ∷ hand) (one ∷ held) memory h
    (λ e o m both. same_growing rule left 0 e o [] [] m both))
same_growing rule (datagrams.Quiet ∷ left) quiets earlier other [] (one ∷ held) memory h =
    absurd (omega (arith, same_count earlier other [] (one ∷ held) memory h))
same_growing rule (datagrams.Quiet ∷ left) quiets earlier other (packet ∷ hand) [] memory h =
    absurd (omega (arith, same_count earlier other (packet ∷ hand) [] memory h))

determined : (earlier other : List (List Packet)) (hand held : List Packet) (memory : ServerMemory)
    → Both earlier other hand held memory → (coming : Coming)
    → served_text earlier (groups_of coming hand) ≡ served_text other (groups_of coming held)
determined earlier other hand held memory h (Growing rule quiets left) =
    same_growing rule left quiets earlier other hand held memory h
determined earlier other hand held memory h (Whole rule left) =
    same_whole rule left earlier other hand held memory h
    (λ e o m both. same_growing rule left 0 e o [] [] m both)

-- ---- so a server serves one text

pub serving_for : (earlier : List (List Packet)) (hand : List Packet) (memory : ServerMemory)
    → StandsFor earlier hand memory → Serving memory
serving_for earlier hand memory h = (
  λ coming. served_text earlier (groups_of coming hand),
  (∣ (earlier, hand, h) ∣₁, λ other held stands coming. determined earlier other hand held memory (h, stands) coming),
)
