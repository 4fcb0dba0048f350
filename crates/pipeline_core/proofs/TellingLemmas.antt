-- Reports are counted and kept, one after the other.
use Rattle.std.proofs.Common.{◌≡◌, ◌≢◌, ◌<◌, ◌≤◌, ◌^◌, ℕ, suc, ◌+◌, ◌-◌, Bool, true, false, cond, List, [], ◌∷◌, ◌++◌}
use Rattle.std.proofs.Common.{length, map, take, drop, refl, sym, ap, ◌∙◌, subst, inl, inr, arith, get_or, set}
use Rattle.std.proofs.Common.{if◌then◌else◌}
use Rattle.std.proofs.Common.{append_assoc, append-nil, length-append, length-drop}
use Rattle.std.proofs.lemmas.Bool.{cases_eq}
use Rattle.std.proofs.lemmas.Bool.Decides.{nat_tests}
use Rattle.std.proofs.lemmas.List.{get_or-set_same, get_or-set_other, ext_get_or, length-set, get_or-map}
use Rattle.std.proofs.lemmas.List.{get_or_default, length-map, map-set}
use Rattle.std.proofs.lemmas.List.FromFn.{get_or-enumerate_from, length-enumerate_from}
use Rattle.std.proofs.Math.Seq.{drop-cons, map-set_same}
use Rattle.std.proofs.lemmas.List.Elements.{filter-append}
use Rattle.std.proofs.lemmas.List.Sums.{sum_by-cons}
use Rattle.std.specs.List.{count_by, enumerate_from, filter}
use Rattle.account.specs.Numbers.{Numbers, input_numbers, with_input, settled_more, unread_input}
use Rattle.account.specs.declared.numbers.InputNumbers.{InputNumbers}
use Rattle.account.specs.declared.entry.Report.{Report}
use Rattle.track_groups.specs.Settling.{is_report_of}
use Rattle.pipeline_core.specs.Steps.{told_with, with_reports}
use Rattle.pipeline_core.specs.Letting.{groups_in, told_in}
use Rattle.pipeline_core.specs.ToldView.{ToldState, no_reports, reports_in}

pub with_reports-push : (n : Numbers) (reports : List Report) (r : Report) →
    with_reports n (reports ++ r ∷ []) ≡ with_input (with_reports n reports) r.input
    (settled_more (input_numbers (with_reports n reports) r.input) r.delivered)
unfolding with_reports
with_reports-push n [] r = refl
with_reports-push n (x ∷ reports) r =
    with_reports-push (with_input n x.input (settled_more (input_numbers n x.input) x.delivered)) reports r

-- some of the reports are counted and kept, and the others may be
pub record Telling (account₀ : Numbers) (told₀ : List ToldState) (done left : List Report) (account : Numbers)
    (told : List ToldState) : Type 0 where
  pub numbers : account ≡ with_reports account₀ done
  pub inputs : length account.inputs ≡ length account₀.inputs
  pub known : (i : ℕ) → 0 < count_by (is_report_of i) left → (i < length told₀) × (i < length account₀.inputs)
  pub some : (i : ℕ) → i < length account₀.inputs →
      count_by (is_report_of i) left ≤ (input_numbers account i).undelivered
  pub few : (i : ℕ) → i < length account₀.inputs → groups_in (input_numbers account i) < 2 ^ 64
  pub as_many : length told ≡ length told₀
  pub kept : (i : ℕ) → i < length told₀ →
      (told_in told i).reports ≡ (told_in told₀ i).reports ++ filter (is_report_of i) done
  pub places : (i : ℕ) → i < length told₀ → (told_in told i).places ≡ (told_in told₀ i).places
  pub room : (i : ℕ) → i < length told₀ →
      length (told_in told i).reports + count_by (is_report_of i) left ≤ (told_in told i).places

count-cons : (i : ℕ) (r : Report) (rest : List Report) →
    count_by (is_report_of i) (r ∷ rest) ≡ cond (is_report_of i r) 1 0 + count_by (is_report_of i) rest
count-cons i r rest = sum_by-cons (λ (x : Report). cond (is_report_of i x) 1 0) r rest

is_own : (r : Report) → is_report_of r.input r ≡ true
is_own r = grind (arith, nat_tests)

is_other : (i : ℕ) (r : Report) → i ≢ r.input → is_report_of i r ≡ false
is_other i r n = grind (arith, nat_tests)

own_counts : (r : Report) (rest : List Report) →
    count_by (is_report_of r.input) (r ∷ rest) ≡ 1 + count_by (is_report_of r.input) rest
own_counts r rest =
    count-cons r.input r rest
    ∙ ap (λ (b : Bool). cond b 1 0 + count_by (is_report_of r.input) rest) (is_own r)

other_counts : (i : ℕ) (r : Report) (rest : List Report) → i ≢ r.input →
    count_by (is_report_of i) (r ∷ rest) ≡ count_by (is_report_of i) rest
other_counts i r rest n =
    let none : cond {A = ℕ} (is_report_of i r) 1 0 ≡ 0 = ap (λ (b : Bool). cond {A = ℕ} b 1 0) (is_other i r n) in
    omega (arith, count-cons i r rest)

own_kept : (done : List Report) (r : Report) →
    filter (is_report_of r.input) (done ++ r ∷ []) ≡ filter (is_report_of r.input) done ++ r ∷ []
own_kept done r =
    filter-append (is_report_of r.input) done (r ∷ [])
    ∙ ap (λ (xs : List Report). filter (is_report_of r.input) done ++ xs)
    (ap (λ (b : Bool). if b then r ∷ [] else []) (is_own r))

other_kept : (i : ℕ) (done : List Report) (r : Report) → i ≢ r.input →
    filter (is_report_of i) (done ++ r ∷ []) ≡ filter (is_report_of i) done
other_kept i done r d =
    filter-append (is_report_of i) done (r ∷ [])
    ∙ ap (λ (xs : List Report). filter (is_report_of i) done ++ xs)
    (ap (λ (b : Bool). if b then r ∷ [] else []) (is_other i r d))
    ∙ append-nil (filter (is_report_of i) done)

-- an input's numbers, once a group of it settled
settled_groups : (x : InputNumbers) (ok : Bool) → 0 < x.undelivered →
    groups_in (settled_more x ok) ≡ groups_in x
settled_groups x true some = omega (arith, some)
settled_groups x false some = omega (arith, some)

settled_fewer : (x : InputNumbers) (ok : Bool) → (settled_more x ok).undelivered ≡ x.undelivered - 1
settled_fewer x true = refl
settled_fewer x false = refl

module _ (account₀ : Numbers) (told₀ : List ToldState) (done rest : List Report) (r : Report)
    (account : Numbers) (told : List ToldState) (h : Telling account₀ told₀ done (r ∷ rest) account told) where
  -- the next report is one of a known input, of which a group is undelivered, and there is a place for it
  pub next_known : (r.input < length told₀) × (r.input < length account₀.inputs)
  next_known = h.known r.input (omega (arith, own_counts r rest))

  pub next_some : 0 < (input_numbers account r.input).undelivered
  next_some = omega (arith, own_counts r rest, h.some r.input next_known.1)

  pub next_delivered : (input_numbers account r.input).delivered + 1 < 2 ^ 64
  next_delivered = omega (arith, next_some, h.few r.input next_known.1)

  pub next_rejected : (input_numbers account r.input).rejected + 1 < 2 ^ 64
  next_rejected = omega (arith, next_some, h.few r.input next_known.1)

  pub next_place : length (told_in told r.input).reports < (told_in told r.input).places
  next_place = omega (arith, own_counts r rest, h.room r.input next_known.0)

  -- the numbers and the reports behind it
  module _ (account' : Numbers) (told' : List ToldState)
      (n : account' ≡ with_input account r.input (settled_more (input_numbers account r.input) r.delivered))
      (t : told' ≡ set told r.input (record (told_in told r.input)
      { reports = (told_in told r.input).reports ++ r ∷ [] })) where
    here : input_numbers account' r.input ≡ settled_more (input_numbers account r.input) r.delivered
    here =
        ap (λ (m : Numbers). input_numbers m r.input) n
        ∙ get_or-set_same account.inputs r.input (settled_more (input_numbers account r.input) r.delivered)
        (unread_input false) (omega (arith, next_known.1, h.inputs))

    elsewhere : (i : ℕ) → i ≢ r.input → input_numbers account' i ≡ input_numbers account i
    elsewhere i d =
        ap (λ (m : Numbers). input_numbers m i) n
        ∙ get_or-set_other account.inputs r.input i (settled_more (input_numbers account r.input) r.delivered)
        (unread_input false) d

    told_here : told_in told' r.input ≡ record (told_in told r.input) {
      reports =
          (told_in told r.input).reports ++ r ∷ [];
    }
    told_here =
        ap (λ (all : List ToldState). told_in all r.input) t
        ∙ get_or-set_same told r.input (record (told_in told r.input)
        { reports = (told_in told r.input).reports ++ r ∷ [] }) no_reports (omega (arith, next_known.0, h.as_many))

    told_elsewhere : (i : ℕ) → i ≢ r.input → told_in told' i ≡ told_in told i
    told_elsewhere i d =
        ap (λ (all : List ToldState). told_in all i) t
        ∙ get_or-set_other told r.input i (record (told_in told r.input)
        { reports = (told_in told r.input).reports ++ r ∷ [] }) no_reports d

    some_left : (i : ℕ) → i < length account₀.inputs →
        count_by (is_report_of i) rest ≤ (input_numbers account' i).undelivered
    some_left i b = elim (cases_eq i r.input) [
      | inl e ↦ subst (λ (j : ℕ). count_by (is_report_of j) rest ≤ (input_numbers account' j).undelivered) (sym e)
          (omega (
            arith,
            own_counts r rest,
            h.some r.input next_known.1,
            ap (λ (x : InputNumbers). x.undelivered) here,
            settled_fewer (input_numbers account r.input) r.delivered,
          ))
      | inr d ↦ omega (
        arith,
        other_counts i r rest d,
        h.some i b,
        ap (λ (x : InputNumbers). x.undelivered) (elsewhere i d),
      )
    ]

    few_left : (i : ℕ) → i < length account₀.inputs → groups_in (input_numbers account' i) < 2 ^ 64
    few_left i b = elim (cases_eq i r.input) [
      | inl e ↦ subst (λ (j : ℕ). groups_in (input_numbers account' j) < 2 ^ 64) (sym e)
          (omega (
            arith,
            h.few r.input next_known.1,
            ap groups_in here,
            settled_groups (input_numbers account r.input) r.delivered next_some,
          ))
      | inr d ↦ omega (arith, h.few i b, ap groups_in (elsewhere i d))
    ]

    kept_now : (i : ℕ) → i < length told₀ →
        (told_in told' i).reports ≡ (told_in told₀ i).reports ++ filter (is_report_of i) (done ++ r ∷ [])
    kept_now i b = elim (cases_eq i r.input) [
      | inl e ↦ subst (λ (j : ℕ). (told_in told' j).reports ≡ (told_in told₀ j).reports ++ filter (is_report_of j)
          (done ++ r ∷ [])) (sym e)
          (ap (λ (x : ToldState). x.reports) told_here
          ∙ ap (λ (xs : List Report). xs ++ r ∷ []) (h.kept r.input next_known.0)
          ∙ append_assoc (told_in told₀ r.input).reports (filter (is_report_of r.input) done) (r ∷ [])
          ∙ ap (λ (xs : List Report). (told_in told₀ r.input).reports ++ xs) (sym (own_kept done r)))
      | inr d ↦ ap (λ (x : ToldState). x.reports) (told_elsewhere i d) ∙ h.kept i b
          ∙ ap (λ (xs : List Report). (told_in told₀ i).reports ++ xs) (sym (other_kept i done r d))
    ]

    places_now : (i : ℕ) → i < length told₀ → (told_in told' i).places ≡ (told_in told₀ i).places
    places_now i b = elim (cases_eq i r.input) [
      | inl e ↦ subst (λ (j : ℕ). (told_in told' j).places ≡ (told_in told₀ j).places) (sym e)
          (ap (λ (x : ToldState). x.places) told_here ∙ h.places r.input next_known.0)
      | inr d ↦ ap (λ (x : ToldState). x.places) (told_elsewhere i d) ∙ h.places i b
    ]

    room_now : (i : ℕ) → i < length told₀ →
        length (told_in told' i).reports + count_by (is_report_of i) rest ≤ (told_in told' i).places
    room_now i b = elim (cases_eq i r.input) [
      | inl e ↦ subst (λ (j : ℕ). length (told_in told' j).reports + count_by (is_report_of j) rest
          ≤ (told_in told' j).places) (sym e)
          (omega (
            arith,
            ap (λ (x : ToldState). length x.reports) told_here,
            ap (λ (x : ToldState). x.places) told_here,
            length-append (told_in told r.input).reports (r ∷ []),
            own_counts r rest,
            h.room r.input next_known.0,
          ))
      | inr d ↦ omega (
        arith,
        ap (λ (x : ToldState). length x.reports) (told_elsewhere i d),
        ap (λ (x : ToldState). x.places) (told_elsewhere i d),
        other_counts i r rest d,
        h.room i b,
      )
    ]

    pub telling_more : Telling account₀ told₀ (done ++ r ∷ []) rest account' told'
    telling_more = record {
      numbers = n ∙ ap (λ (m : Numbers). with_input m r.input (settled_more (input_numbers m r.input) r.delivered))
          h.numbers ∙ sym (with_reports-push account₀ done r);
      inputs = ap (λ (m : Numbers). length m.inputs) n ∙ length-set account.inputs r.input _ ∙ h.inputs;
      known = λ i s. h.known i (omega (arith, count-cons i r rest, s));
      some = some_left;
      few = few_left;
      as_many = ap length t ∙ length-set told r.input _ ∙ h.as_many;
      kept = kept_now;
      places = places_now;
      room = room_now;
    }

-- at first none are, and at last all
pub telling_none : (account : Numbers) (told : List ToldState) (reports : List Report) →
    ((i : ℕ) → 0 < count_by (is_report_of i) reports → (i < length told) × (i < length account.inputs)) →
    ((i : ℕ) → i < length told →
    length (told_in told i).reports + count_by (is_report_of i) reports ≤ (told_in told i).places) →
    ((i : ℕ) → i < length account.inputs →
    count_by (is_report_of i) reports ≤ (input_numbers account i).undelivered) →
    ((i : ℕ) → i < length account.inputs → groups_in (input_numbers account i) < 2 ^ 64) →
    Telling account told [] reports account told
unfolding with_reports
telling_none account told reports known room some few = record {
  numbers = refl;
  inputs = refl;
  known = known;
  some = some;
  few = few;
  as_many = refl;
  kept = λ i b. sym (append-nil (told_in told i).reports);
  places = λ i b. refl;
  room = room;
}

pub told_with-at : (told : List (List Report)) (reports : List Report) (i : ℕ) → i < length told →
    get_or (told_with told reports) i [] ≡ get_or told i [] ++ filter (is_report_of i) reports
told_with-at told reports i h =
    get_or-map (λ (x : ℕ × List Report). x.1 ++ filter (is_report_of x.0) reports) (enumerate_from 0 told) i (0, []) []
    (omega (arith, length-enumerate_from 0 told))
    ∙ ap (λ (x : ℕ × List Report). x.1 ++ filter (is_report_of x.0) reports)
    (get_or-enumerate_from 0 told i (0, []) h)
    ∙ ap (λ (n : ℕ). get_or told i [] ++ filter (is_report_of n) reports) (omega arith)

pub length-told_with : (told : List (List Report)) (reports : List Report) →
    length (told_with told reports) ≡ length told
length-told_with told reports = length-map _ _ ∙ length-enumerate_from 0 told

pub told_all : (account₀ : Numbers) (told₀ : List ToldState) (done left : List Report) (account : Numbers)
    (told : List ToldState) → Telling account₀ told₀ done left account told →
    map reports_in told ≡ told_with (map reports_in told₀) done
told_all account₀ told₀ done left account told h =
    ext_get_or [] (map reports_in told) (told_with (map reports_in told₀) done)
    (length-map told reports_in ∙ h.as_many ∙ sym (length-map told₀ reports_in)
    ∙ sym (length-told_with (map reports_in told₀) done))
    (λ i b. (let c : i < length told = omega (arith, b, length-map told reports_in) in
    let d : i < length told₀ = omega (arith, c, h.as_many) in
    get_or-map reports_in told i no_reports [] c ∙ h.kept i d
    ∙ ap (λ (xs : List Report). xs ++ filter (is_report_of i) done)
    (sym (get_or-map reports_in told₀ i no_reports [] d))
    ∙ sym (told_with-at (map reports_in told₀) done i (omega (arith, d, length-map told₀ reports_in)))))

-- what stands where a list of reports has none
abbrev pub no_report : Report
no_report = record { group = 0; input = 0; delivered = false }

-- the next one of a list
pub next_of : (account₀ : Numbers) (told₀ : List ToldState) (reports : List Report) (k : ℕ) (account : Numbers)
    (told : List ToldState) → k < length reports →
    Telling account₀ told₀ (take k reports) (drop k reports) account told →
    Telling account₀ told₀ (take k reports) (get_or reports k no_report ∷ drop (suc k) reports) account told
next_of account₀ told₀ reports k account told b h =
    subst (λ (left : List Report). Telling account₀ told₀ (take k reports) left account told)
    (drop-cons reports k no_report b) h

-- the reports stay where room was made for more
pub same_told : (told : List ToldState) (i : ℕ) (x : ToldState) → i < length told →
    x.reports ≡ (told_in told i).reports → map reports_in (set told i x) ≡ map reports_in told
same_told told i x b e = map-set_same reports_in told i x no_reports e

-- the oldest report of an input was handed out
pub told_next : (told : List ToldState) (i : ℕ) (x new : ToldState) → i < length told → x ≡ get_or told i x →
    new.reports ≡ drop 1 x.reports →
    map reports_in (set told i new) ≡ set (map reports_in told) i (drop 1 (get_or (map reports_in told) i []))
told_next told i x new b at next =
    map-set reports_in told i new
    ∙ ap (set (map reports_in told) i) (next ∙ ap (drop 1) (sym (get_or-map reports_in told i no_reports [] b
    ∙ ap reports_in (get_or_default told i no_reports x b ∙ sym at))))

-- there are places for the others
pub places_next : (told : List ToldState) (i : ℕ) (x new : ToldState) (live : ℕ → ℕ) → i < length told →
    x ≡ get_or told i x → new.reports ≡ drop 1 x.reports → new.places ≡ x.places →
    ((k : ℕ) → k < length told → length (told_in told k).reports + live k ≤ (told_in told k).places) →
    (k : ℕ) → k < length (set told i new) →
    length (told_in (set told i new) k).reports + live k ≤ (told_in (set told i new) k).places
places_next told i x new live b at next room h k c = elim (cases_eq k i) [
  | inl e ↦ subst (λ (j : ℕ). length (told_in (set told i new) j).reports + live j
      ≤ (told_in (set told i new) j).places) (sym e)
      (subst (λ (y : ToldState). length y.reports + live i ≤ y.places) (sym (get_or-set_same told i new no_reports b))
      (omega (
        arith,
        ap length next,
        length-drop 1 x.reports,
        room,
        h i b,
        ap (λ (y : ToldState). length y.reports) (get_or_default told i no_reports x b ∙ sym at),
        ap (λ (y : ToldState). y.places) (get_or_default told i no_reports x b ∙ sym at),
      )))
  | inr d ↦ subst (λ (y : ToldState). length y.reports + live k ≤ y.places)
      (sym (get_or-set_other told i k new no_reports d)) (h k (omega (arith, c, length-set told i new)))
]
