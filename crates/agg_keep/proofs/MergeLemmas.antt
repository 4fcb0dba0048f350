-- What merge keeps of a list of members with one more.
use Rattle.std.proofs.Common.{◌≡◌, ◌<◌, ℕ, true, false, cond, not, Bool, List, [], ◌∷◌, ◌++◌, map, length, refl, sym}
use Rattle.std.proofs.Common.{ap, subst, ◌∙◌, append-nil, arith, Some, None}
use Rattle.std.specs.Prelude.{is_none, nat_eq, Option}
use Rattle.std.specs.Cmp.Lexicographic.{pointwise}
use Rattle.std.specs.List.{flat_map, AllByRecursion, IsDistinct}
use Rattle.std.specs.Map.{keys_of}
use Rattle.std.specs.Option.{option_to_list}
use Rattle.std.specs.Str.{bytes_eq}
use Rattle.std.proofs.lemmas.Grind.{flat_map-append}
use Rattle.metric.specs.Draft.{Field}
use Rattle.metric.specs.Metric.{IsField, IsMetric}
use Rattle.metric.specs.Pairs.{in_first_order, in_first_order_on, with_pair}
use Rattle.metric.specs.declared.metric.Content.{Content}
use Rattle.metric.specs.declared.value.Value.{Value}
use Rattle.metric.proofs.KeptPairs.{distinct_stay}
use Rattle.metric.proofs.MetricLemmas.{each_pair}
use Rattle.metric.proofs.PairLemmas.{with_pair-distinct}
use Rattle.agg_keep.specs.Keyed.{firsts}
use Rattle.agg_keep.specs.Merge.{fields_in, members_at, merged_at, merge_of, spots_in}
use Rattle.agg_keep.specs.MergeKept.{fields_with, held_at, made_at, merged_with, one_at}
use Rattle.agg_keep.specs.MergeKept.{IsMergeReady, MergeMemory, MergeStandsFor}
use Rattle.agg_keep.specs.Spot.{spot_eq, spot_of, spot_same}
use Rattle.agg_keep.specs.declared.spot.Spot.{Spot}
use Rattle.agg_keep.proofs.KeyLemmas.{all_have, any_other, any_own, firsts-push, has, no_elements}
use Rattle.agg_keep.proofs.KeyLemmas.{other_elements, own_elements, some_same, turned, turned_cond}

abbrev Entries : Type 0
Entries = List (Spot × Option Content)

abbrev has_at : Spot → List Content → Bool
has_at spot ms = has spot_eq spot_of spot_same spot ms

-- ---- what is merged

on_append : (kept front back : List Field)
    → in_first_order_on kept (front ++ back) ≡ in_first_order_on (in_first_order_on kept front) back
unfolding in_first_order_on
on_append kept [] back = refl
on_append kept (field ∷ front) back = on_append (with_pair kept field.0 field.1) front back

-- the fields with those of a metric behind the others of its series and time
fields_more : (ms : List Content) (m : Content)
    → in_first_order (fields_in (members_at (spot_of m) (ms ++ m ∷ [])))
    ≡ in_first_order_on (in_first_order (fields_in (members_at (spot_of m) ms))) m.fields
fields_more ms m =
    let own = own_elements spot_eq spot_of spot_same (spot_of m) ms m ((spot_same (spot_of m) (spot_of m)).1 refl) in
    let here = members_at (spot_of m) ms in
    let fields : fields_in (members_at (spot_of m) (ms ++ m ∷ [])) ≡ fields_in here ++ m.fields =
    ap fields_in own ∙ flat_map-append (λ (n : Content). n.fields) here (m ∷ [])
    ∙ ap (λ (fields : List Field). fields_in here ++ fields) (append-nil m.fields) in
    ap in_first_order fields ∙ on_append [] (fields_in here) m.fields

-- those of the first are as they are
fields_first : (ms : List Content) (m : Content) → IsMetric m → has_at (spot_of m) ms ≡ false
    → in_first_order (fields_in (members_at (spot_of m) (ms ++ m ∷ []))) ≡ m.fields
fields_first ms m h none =
    let own = own_elements spot_eq spot_of spot_same (spot_of m) ms m ((spot_same (spot_of m) (spot_of m)).1 refl) in
    let alone : members_at (spot_of m) (ms ++ m ∷ []) ≡ m ∷ [] =
    own ∙ ap (λ (front : List Content). front ++ m ∷ [])
    (no_elements spot_eq spot_of spot_same (spot_of m) ms none) in
    ap (λ (members : List Content). in_first_order (fields_in members)) alone
    ∙ ap in_first_order (append-nil m.fields) ∙ distinct_stay m.fields h.distinct

abbrev some_merged : Spot → List Content → Option Content
some_merged spot ms = Some (merged_at ms spot)

-- a metric with other fields
abbrev refilled : Content → List Field → Option Content
refilled m fields = Some (record m { fields = fields })

own-push : (ms : List Content) (m : Content) → IsMetric m
    → one_at (spot_of m) (ms ++ m ∷ []) ≡ Some (merged_with (one_at (spot_of m) ms) m)
own-push ms m h =
    let any = any_own spot_eq spot_of spot_same (spot_of m) ms m ((spot_same (spot_of m) (spot_of m)).1 refl) in
    rw any (elim (has_at (spot_of m) ms) as (λ t. has_at (spot_of m) ms ≡ t
    → some_merged (spot_of m) (ms ++ m ∷ [])
    ≡ refilled m (fields_with (cond t (some_merged (spot_of m) ms) None) m)) [
      | true ↦ λ e. ap (refilled m) (fields_more ms m)
      | false ↦ λ e. ap (refilled m) (fields_first ms m h e)
    ] refl)

other-push : (spot : Spot) (ms : List Content) (m : Content) → spot_eq spot (spot_of m) ≡ false
    → one_at spot (ms ++ m ∷ []) ≡ one_at spot ms
other-push spot ms m e =
    rw (any_other spot_eq spot_of spot_same spot ms m e, other_elements spot_eq spot_of spot_same spot ms m e) refl

-- ---- what it stands for

pub none_held : (memory : MergeMemory) → memory.kept ≡ [] → memory.order ≡ [] → MergeStandsFor [] memory
unfolding firsts
none_held memory kept order = record {
  ordered = order;
  each = λ spot. ap (λ (kept : Entries). held_at kept spot) kept;
}

is_new : (spot : Spot) (ms : List Content) → is_none (one_at spot ms) ≡ not (has_at spot ms)
is_new spot ms =
    elim (has_at spot ms) as (λ t. is_none (cond t (some_merged spot ms) None) ≡ not t) [ true ↦ refl | false ↦ refl ]

added : (ms : List Content) (m merged : Content) (old new : MergeMemory) → MergeStandsFor ms old → IsMetric m
    → merged ≡ merged_with (held_at old.kept (spot_of m)) m
    → ((q : Spot) → held_at new.kept q ≡ cond (spot_eq (spot_of m) q) (Some merged) (held_at old.kept q))
    → new.order ≡ cond (is_none (held_at old.kept (spot_of m))) (old.order ++ spot_of m ∷ []) old.order
    → MergeStandsFor (ms ++ m ∷ []) new
added ms m merged old new h is same put order = record {
  ordered = order ∙ rw (h.each (spot_of m), is_new (spot_of m) ms, h.ordered)
      (turned_cond (has_at (spot_of m) ms) (spots_in ms ++ spot_of m ∷ []) (spots_in ms)
      ∙ sym (firsts-push spot_eq spot_of spot_same ms m));
  each = λ q. put q ∙ elim (spot_eq (spot_of m) q) as (λ t. spot_eq (spot_of m) q ≡ t
      → cond t (Some merged) (held_at old.kept q) ≡ one_at q (ms ++ m ∷ [])) [
        | true ↦ λ e. subst (λ (s : Spot). Some merged ≡ one_at s (ms ++ m ∷ [])) ((spot_same (spot_of m) q).0 e)
            (ap (λ (n : Content). Some n) (same
            ∙ ap (λ (held : Option Content). merged_with held m) (h.each (spot_of m)))
            ∙ sym (own-push ms m is))
        | false ↦ λ e. h.each q ∙ sym (other-push q ms m (turned spot_eq spot_of spot_same (spot_of m) q false e))
      ] refl;
}

-- what was prepared is added
pub ready_added : (ms : List Content) (m : Content) (old new : MergeMemory) (merged : Content) → MergeStandsFor ms old
    → IsMergeReady m old → old.ready ≡ Some merged
    → ((q : Spot) → held_at new.kept q ≡ cond (spot_eq (spot_of merged) q) (Some merged) (held_at old.kept q))
    → new.order ≡ cond (is_none (held_at old.kept (spot_of merged))) (old.order ++ spot_of merged ∷ []) old.order
    → MergeStandsFor (ms ++ m ∷ []) new
ready_added ms m old new merged h ready is put order =
    let same : merged ≡ merged_with (held_at old.kept (spot_of m)) m =
    some_same merged (merged_with (held_at old.kept (spot_of m)) m) (sym is ∙ ready.merged) in
    let spot : spot_of merged ≡ spot_of m = ap spot_of same in
    added ms m merged old new h ready.metric same
    (subst (λ (s : Spot). (q : Spot) → held_at new.kept q ≡ cond (spot_eq s q) (Some merged) (held_at old.kept q)) spot
    put)
    (subst (λ (s : Spot). new.order ≡ cond (is_none (held_at old.kept s)) (old.order ++ s ∷ []) old.order) spot order)

-- ---- what is made

-- what is held of a series and time that has members
module _ (kept : Entries) (ms : List Content) (each : (q : Spot) → held_at kept q ≡ one_at q ms) where
  one_made : (spot : Spot) → has_at spot ms ≡ true → made_at kept spot ≡ merged_at ms spot ∷ []
  one_made spot e = ap (λ (held : Option Content). option_to_list held) (each spot)
      ∙ ap (λ (t : Bool). option_to_list (cond t (some_merged spot ms) None)) e

  pub all_made : (spots : List Spot) → AllByRecursion (λ spot. has_at spot ms ≡ true) spots
      → flat_map (made_at kept) spots ≡ map (merged_at ms) spots
  all_made [] h = refl
  all_made (spot ∷ spots) h =
      ap (λ (first : List Content). first ++ flat_map (made_at kept) spots) (one_made spot h.0)
      ∙ ap (λ (rest : List Content). merged_at ms spot ∷ rest) (all_made spots h.1)

pub made_is : (ms : List Content) (memory : MergeMemory) → MergeStandsFor ms memory
    → flat_map (made_at memory.kept) memory.order ≡ merge_of ms
made_is ms memory h =
    ap (flat_map (made_at memory.kept)) h.ordered
    ∙ all_made memory.kept ms h.each (spots_in ms) (all_have spot_eq spot_of spot_same ms)

-- ---- what is merged is a metric

with_pair-filled : (pairs : List Field) (key : List ℕ) (value : Value) → 0 < length (with_pair pairs key value)
unfolding with_pair
with_pair-filled [] key value = omega arith
with_pair-filled (pair ∷ pairs) key value =
    elim (bytes_eq pair.0 key) as (λ t. 0 < length (cond t ((key, value) ∷ pairs) (pair ∷ with_pair pairs key value)))
    [ true ↦ omega arith | false ↦ omega arith ]

filled_on : (kept given : List Field) → 0 < length kept → 0 < length (in_first_order_on kept given)
unfolding in_first_order_on
filled_on kept [] some = some
filled_on kept (field ∷ given) some =
    filled_on (with_pair kept field.0 field.1) given (with_pair-filled kept field.0 field.1)

fields_on : (kept given : List Field) → AllByRecursion IsField kept → AllByRecursion IsField given
    → AllByRecursion IsField (in_first_order_on kept given)
unfolding in_first_order_on
fields_on kept [] h g = h
fields_on kept (field ∷ given) h g =
    fields_on (with_pair kept field.0 field.1) given (each_pair IsField kept field.0 field.1 g.0 h) g.1

distinct_on : (kept given : List Field) → IsDistinct (pointwise nat_eq) (keys_of kept)
    → IsDistinct (pointwise nat_eq) (keys_of (in_first_order_on kept given))
unfolding in_first_order_on
distinct_on kept [] h = h
distinct_on kept (field ∷ given) h =
    distinct_on (with_pair kept field.0 field.1) given (with_pair-distinct kept field.0 field.1 h)

pub is_merged : (held m new : Content) → IsMetric held → IsMetric m → new.name ≡ m.name → new.tags ≡ m.tags
    → new.fields ≡ in_first_order_on held.fields m.fields → new.time ≡ m.time → IsMetric new
is_merged held m new h i name tags fields time = record {
  name = rw name i.name;
  tags = rw tags i.tags;
  sorted = rw tags i.sorted;
  some = rw fields (filled_on held.fields m.fields h.some);
  fields = rw fields (fields_on held.fields m.fields h.fields i.fields);
  distinct = rw fields (distinct_on held.fields m.fields h.distinct);
  time = rw time i.time;
}

-- fields that were read and copied, with others put over them
pub fields_put : (held own read copied other new : List Field) → copied ≡ read → read ≡ held → other ≡ own
    → new ≡ in_first_order_on copied other → new ≡ in_first_order_on held own
fields_put held own read copied other new same is its put =
    put ∙ ap (λ (fields : List Field). in_first_order_on fields other) (same ∙ is) ∙ ap (in_first_order_on held) its
