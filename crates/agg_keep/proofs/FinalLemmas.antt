-- What final keeps of a list of members with one more, and once a closing gave what it gives.
use Rattle.std.proofs.Common.{◌≡◌, ◌<◌, ◌≤◌, ◌+◌, ◌&&◌, ◌||◌, ℕ, ℤ, true, false, cond, not, Bool, List, [], ◌∷◌, ◌++◌}
use Rattle.std.proofs.Common.{filter, length, get_or, drop, reverse, refl, sym, ap, subst, ◌∙◌, Some, None}
use Rattle.std.specs.Prelude.{is_none, is_some, slice_get, Option}
use Rattle.std.specs.List.{flat_map, list_any, AllByRecursion}
use Rattle.std.specs.Ordering.{is_eq}
use Rattle.std.proofs.lemmas.List.{at_drop_all, at_drop_more, reverse-append}
use Rattle.metric.specs.Series.{series_cmp, series_eq, series_ties, Series}
use Rattle.metric.specs.declared.metric.Content.{Content}
use Rattle.agg_keep.specs.Final.{finals_of, given, gives, is_given, last_of, left_of, members_of, series_in}
use Rattle.agg_keep.specs.FinalKept.{given_at, held, left_held, FinalMemory, FinalStandsFor, IsFinalReady}
use Rattle.agg_keep.specs.Keyed.{entry_by, firsts}
use Rattle.agg_keep.specs.Spot.{series_of, series_same}
use Rattle.agg_keep.specs.declared.closing.Closing.{Closing}
use Rattle.agg_keep.proofs.KeyLemmas.{all_have, any_first, filter_each, firsts-filter, firsts-push, has}
use Rattle.agg_keep.proofs.KeyLemmas.{other_elements, own_elements, some_same, turned, turned_cond, with_key-filter}

abbrev Entries : Type 0
Entries = List (Series × Option Content)

abbrev has_one : Series → List Content → Bool
has_one series ms = has series_eq series_of series_same series ms

-- ---- the last of a list

last-push : (ms : List Content) (m : Content) → last_of (ms ++ m ∷ []) ≡ Some m
last-push ms m = ap (λ (back : List Content). slice_get back 0) (reverse-append ms (m ∷ []))

-- a list with an element has a last one
last_some : (m : Content) (ms : List Content) → is_some (last_of (m ∷ ms)) ≡ true
last_some m ms = ap (λ (back : List Content). is_some (slice_get back 0)) (reverse-append (m ∷ []) ms)
    ∙ front (reverse ms)
  where
    front : (back : List Content) → is_some (slice_get (back ++ m ∷ []) 0) ≡ true
    front [] = refl
    front (one ∷ back) = refl

-- a series has a last member where it has one
last_has : (series : Series) (ms : List Content) → is_some (last_of (members_of series ms)) ≡ has_one series ms
last_has series [] = refl
last_has series (m ∷ ms) =
    elim (series_eq series (series_of m)) as (λ t. is_some (last_of (cond t (m ∷ members_of series ms)
    (members_of series ms))) ≡ (t || has_one series ms))
    [ true ↦ last_some m (members_of series ms) | false ↦ last_has series ms ]

none_not : (o : Option Content) → is_none o ≡ not (is_some o)
none_not None = refl
none_not (Some m) = refl

-- ---- a member more

pub none_held : (timeout : ℤ) (memory : FinalMemory) → memory.timeout ≡ timeout → memory.kept ≡ [] → memory.order ≡ []
    → FinalStandsFor timeout [] memory
unfolding firsts
none_held timeout memory same kept order = record {
  same = same;
  ordered = order;
  each = λ series. ap (λ (kept : Entries). held kept series) kept;
}

-- where room was made, and nothing else
pub still_stands : (timeout : ℤ) (ms : List Content) (old new : FinalMemory) → FinalStandsFor timeout ms old
    → new.timeout ≡ old.timeout → ((q : Series) → held new.kept q ≡ held old.kept q) → new.order ≡ old.order
    → FinalStandsFor timeout ms new
still_stands timeout ms old new h same kept order = record {
  same = same ∙ h.same;
  ordered = order ∙ h.ordered;
  each = λ q. kept q ∙ h.each q;
}

added : (timeout : ℤ) (ms : List Content) (m : Content) (old new : FinalMemory) → FinalStandsFor timeout ms old
    → new.timeout ≡ old.timeout
    → ((q : Series) → held new.kept q ≡ cond (series_eq (series_of m) q) (Some m) (held old.kept q))
    → new.order ≡ cond (is_none (held old.kept (series_of m))) (old.order ++ series_of m ∷ []) old.order
    → FinalStandsFor timeout (ms ++ m ∷ []) new
added timeout ms m old new h same put order = record {
  same = same ∙ h.same;
  ordered = order ∙ rw (
    h.each (series_of m),
    none_not (last_of (members_of (series_of m) ms)),
    last_has (series_of m) ms,
    h.ordered,
  )
      (turned_cond (has_one (series_of m) ms) (series_in ms ++ series_of m ∷ []) (series_in ms)
      ∙ sym (firsts-push series_eq series_of series_same ms m));
  each = λ q. put q ∙ elim (series_eq (series_of m) q) as (λ t. series_eq (series_of m) q ≡ t
      → cond t (Some m) (held old.kept q) ≡ last_of (members_of q (ms ++ m ∷ []))) [
        | true ↦ λ e. sym (ap last_of (own_elements series_eq series_of series_same q ms m
            (turned series_eq series_of series_same (series_of m) q true e)) ∙ last-push (members_of q ms) m)
        | false ↦ λ e. h.each q ∙ sym (ap last_of (other_elements series_eq series_of series_same q ms m
            (turned series_eq series_of series_same (series_of m) q false e)))
      ] refl;
}

-- what was prepared is added
pub ready_added : (timeout : ℤ) (ms : List Content) (m last : Content) (old new : FinalMemory)
    → FinalStandsFor timeout ms old → IsFinalReady m old → old.ready ≡ Some last → new.timeout ≡ old.timeout
    → ((q : Series) → held new.kept q ≡ cond (series_eq (series_of last) q) (Some last) (held old.kept q))
    → new.order ≡ cond (is_none (held old.kept (series_of last))) (old.order ++ series_of last ∷ []) old.order
    → FinalStandsFor timeout (ms ++ m ∷ []) new
ready_added timeout ms m last old new h ready is kind put order =
    let same : last ≡ m = some_same last m (sym is ∙ ready.last) in
    added timeout ms m old new h kind
    (subst (λ (n : Content). (q : Series) → held new.kept q ≡ cond (series_eq (series_of n) q) (Some n)
    (held old.kept q)) same put)
    (subst (λ (n : Content). new.order ≡ cond (is_none (held old.kept (series_of n))) (old.order ++ series_of n ∷ [])
    old.order) same order)

-- ---- what is made

module _ (timeout : ℤ) (closing : Closing) (kept : Entries) (ms : List Content) where
  each_made : ((q : Series) → held kept q ≡ last_of (members_of q ms)) → (order : List Series)
      → flat_map (given_at timeout closing kept) order
      ≡ flat_map (λ series. given timeout closing (last_of (members_of series ms))) order
  each_made each [] = refl
  each_made each (series ∷ order) =
      ap (λ (last : Option Content). given timeout closing last ++ flat_map (given_at timeout closing kept) order)
      (each series)
      ∙ ap (λ (rest : List Content). given timeout closing (last_of (members_of series ms)) ++ rest)
      (each_made each order)

pub made_is : (timeout : ℤ) (closing : Closing) (ms : List Content) (memory : FinalMemory)
    → FinalStandsFor timeout ms memory
    → flat_map (given_at memory.timeout closing memory.kept) memory.order ≡ finals_of timeout closing ms
made_is timeout closing ms memory h =
    each_made memory.timeout closing memory.kept ms h.each memory.order ∙ rw (h.same, h.ordered) refl

-- ---- what is left

module _ (timeout : ℤ) (closing : Closing) where
  abbrev among : Series → List Series → Bool
  among series order = list_any (λ one. series_eq one series) order

  -- a series that isn't given stays
  stays : (order : List Series) (series : Series) (last : Option Content) → gives timeout closing last ≡ false
      → left_held timeout closing order series last ≡ last
  unfolding left_held
  stays [] series last e = refl
  stays (one ∷ order) series last e =
      rw e (elim (series_eq one series) as (λ t. left_held timeout closing order series
      (cond (t && false) None last) ≡ last)
      [ true ↦ stays order series last e | false ↦ stays order series last e ])

  -- one that is given goes, where it is in the order
  goes : (order : List Series) (series : Series) (last : Option Content) → gives timeout closing last ≡ true
      → among series order ≡ true → left_held timeout closing order series last ≡ None
  unfolding left_held
  goes [] series last e here = absurd cc
  goes (one ∷ order) series last e here =
      rw e (elim (series_eq one series) as (λ t. (t || among series order) ≡ true
      → left_held timeout closing order series (cond (t && true) None last) ≡ None) [
        | true ↦ λ here. stays order series None refl
        | false ↦ λ here. goes order series last e here
      ] here)

  given_some : (last : Option Content) → gives timeout closing last ≡ true → is_some last ≡ true
  given_some None e = absurd cc
  given_some (Some m) e = refl

  abbrev stay : List Content → Series → Bool
  stay ms series = not (is_given timeout closing ms series)

  -- the last member that is left of a series
  last_left : (ms : List Content) (series : Series) → left_held timeout closing (series_in ms) series
      (last_of (members_of series ms)) ≡ last_of (members_of series (left_of timeout closing ms))
  last_left ms series =
      let last = last_of (members_of series ms) in
      elim (gives timeout closing last) as (λ t. gives timeout closing last ≡ t
      → left_held timeout closing (series_in ms) series last ≡ last_of (cond (not t) (members_of series ms) [])) [
        | true ↦ λ e. goes (series_in ms) series last e (any_first series_eq series_of series_same series ms
            (sym (last_has series ms) ∙ given_some last e))
        | false ↦ λ e. stays (series_in ms) series last e
      ] refl
      ∙ sym (ap last_of (with_key-filter series_eq series_of series_same (stay ms) series ms))

  -- the series of which something is left
  some_left : (ms : List Content) (series : Series) → has_one series ms ≡ true
      → is_some (last_of (members_of series (left_of timeout closing ms))) ≡ stay ms series
  some_left ms series here =
      ap (λ (list : List Content). is_some (last_of list))
      (with_key-filter series_eq series_of series_same (stay ms) series ms)
      ∙ elim (stay ms series) as (λ t. is_some (last_of (cond t (members_of series ms) [])) ≡ t)
      [ true ↦ last_has series ms ∙ here | false ↦ refl ]

  each_left : (ms : List Content) (all : List Series) → AllByRecursion (λ series. has_one series ms ≡ true) all
      → AllByRecursion (λ series. is_some (last_of (members_of series (left_of timeout closing ms)))
      ≡ stay ms series) all
  each_left ms [] h = tt
  each_left ms (series ∷ all) h = (some_left ms series h.0, each_left ms all h.1)

  held_left : (ms : List Content) (new : FinalMemory)
      → ((q : Series) → held new.kept q ≡ last_of (members_of q (left_of timeout closing ms)))
      → (all : List Series)
      → AllByRecursion (λ series. is_some (last_of (members_of series (left_of timeout closing ms)))
      ≡ stay ms series) all
      → AllByRecursion (λ series. is_some (held new.kept series) ≡ stay ms series) all
  held_left ms new each [] h = tt
  held_left ms new each (series ∷ all) h = (
    ap (λ (last : Option Content). is_some last) (each series) ∙ h.0,
    held_left ms new each all h.1,
  )

  pub left : (ms : List Content) (old new : FinalMemory) → FinalStandsFor timeout ms old
      → new.timeout ≡ old.timeout
      → ((q : Series) → held new.kept q ≡ left_held old.timeout closing old.order q (held old.kept q))
      → new.order ≡ filter (λ series. is_some (held new.kept series)) old.order
      → FinalStandsFor timeout (left_of timeout closing ms) new
  left ms old new h kind kept order =
      let each : (q : Series) → held new.kept q ≡ last_of (members_of q (left_of timeout closing ms)) =
      λ q. kept q ∙ rw (h.same, h.ordered, h.each q) (last_left ms q) in
      record {
        same = kind ∙ h.same;
        ordered = order ∙ ap (filter (λ series. is_some (held new.kept series))) h.ordered
            ∙ filter_each (λ series. is_some (held new.kept series)) (stay ms) (series_in ms)
            (held_left ms new each (series_in ms) (each_left ms (series_in ms)
            (all_have series_eq series_of series_same ms)))
            ∙ sym (firsts-filter series_eq series_of series_same (stay ms) ms);
        each = each;
      }

-- ---- what stands in the map

-- a series that is given is dropped
pub dropped : (timeout : ℤ) (closing : Closing) (old new : Entries) (k : Series)
    → gives timeout closing (held old k) ≡ true
    → ((q : Series) → entry_by series_cmp new q ≡ cond (is_eq (series_cmp k q)) None (entry_by series_cmp old q))
    → (q : Series) → held new q ≡ cond (series_eq k q && gives timeout closing (held old q)) None (held old q)
dropped timeout closing old new k due put q =
    elim (series_eq k q) as (λ t. series_eq k q ≡ t
    → held new q ≡ cond (t && gives timeout closing (held old q)) None (held old q)) [
      | true ↦ λ e.
          let at : is_eq (series_cmp k q) ≡ true = sym (series_ties k q) ∙ e in
          let here : gives timeout closing (held old q) ≡ true =
          ap (λ (s : Series). gives timeout closing (held old s)) (sym ((series_same k q).0 e)) ∙ due in
          rw (put q, at, here) refl
      | false ↦ λ e.
          let at : is_eq (series_cmp k q) ≡ false = sym (series_ties k q) ∙ e in
          rw (put q, at) refl
    ] refl

pub undropped : (timeout : ℤ) (closing : Closing) (old : Entries) (k : Series)
    → gives timeout closing (held old k) ≡ false
    → (q : Series) → held old q ≡ cond (series_eq k q && gives timeout closing (held old q)) None (held old q)
undropped timeout closing old k due q =
    elim (series_eq k q) as (λ t. series_eq k q ≡ t
    → held old q ≡ cond (t && gives timeout closing (held old q)) None (held old q)) [
      | true ↦ λ e.
          let here : gives timeout closing (held old q) ≡ false =
          ap (λ (s : Series). gives timeout closing (held old s)) (sym ((series_same k q).0 e)) ∙ due in
          rw here refl
      | false ↦ λ e. refl
    ] refl

-- ---- steps over the order

abbrev pub closing_at : ℤ → Bool → Closing
closing_at moment all = record { moment = moment; all = all }

pub left_step : (timeout : ℤ) (closing : Closing) (order : List Series) (i : ℕ) (one series : Series)
    (last : Option Content) → i < length order → one ≡ get_or order i one
    → left_held timeout closing (drop i order) series last
    ≡ left_held timeout closing (drop (i + 1) order) series
    (cond (series_eq one series && gives timeout closing last) None last)
unfolding left_held
left_step timeout closing order i one series last below is =
    at_drop_more (λ (rest : List Series). left_held timeout closing rest series last) order i one below
    ∙ ap (λ (s : Series). left_held timeout closing (s ∷ drop (i + 1) order) series last) (sym is)

pub left_end : (timeout : ℤ) (closing : Closing) (order : List Series) (i : ℕ) (series : Series)
    (last : Option Content) → length order ≤ i → left_held timeout closing (drop i order) series last ≡ last
unfolding left_held
left_end timeout closing order i series last past =
    at_drop_all (λ (rest : List Series). left_held timeout closing rest series last) order i past
