-- Lists of parts that are opened at their places, or given back, one after the other.
use Rattle.std.proofs.Common.{◌≡◌, ◌≢◌, ◌<◌, ◌+◌, ◌++◌, ℕ, zero, suc, Bool, true, false, List, [], ◌∷◌, length, take}
use Rattle.std.proofs.Common.{get_or, map, refl, sym, ap, ◌∙◌, subst, inl, inr, arith}
use Rattle.std.specs.Prelude.{◌⊎◌, Contains, IfErr, IsErrAnd}
use Rattle.std.specs.declared.result.Result.{Result}
use Rattle.std.specs.declared.result.Result.TheVariants.{Ok, Err}
use Rattle.std.specs.List.{IsDistinct}
use Rattle.std.specs.Str.{bytes_eq}
use Rattle.std.proofs.lemmas.Bool.{cases_lt}
use Rattle.std.proofs.lemmas.List.{length_push, length-take, get_or_append_left, get_or_push, get_or-take}
use Rattle.std.proofs.lemmas.List.{get_or_default, get_or-map, map-append, take-map, take_more, take_all}
use Rattle.std.proofs.lemmas.List.Elements.{Contains-append_left, Contains-append_right, Contains-append_cases}
use Rattle.std.proofs.lemmas.Map.Made.{AllPairs-from_IsDistinct, IsDistinct-from_AllPairs}
use Rattle.std.proofs.lemmas.Slice.Eq.{bytes_eq-Decides}
use Rattle.agent_base.specs.Places.{Place, Refuses, SameBut, SameAtAll, AreHome}
use Rattle.agent_base.specs.declared.world.OpenFault.{OpenFault}
use Rattle.agent_base.specs.declared.world.OpenFault.TheVariants as faults
use Rattle.agent_run.specs.PlaceLists.{GoEach, AreOpened, AreGiven, AreHomeBut, PartsAreOut, AreRefused, IsRefusedAt}
use Rattle.agent_run.specs.PlaceLists.{IsUnopenedBy, StopsAt, carried_at, place_at}
use Rattle.agent_base.specs.Carried.{no_part, Carried}
use Rattle.agent_run.specs.Places.{IsUnopened}
use Rattle.agent_run.specs.declared.places.Unopened.{Unopened}
use Rattle.agent_run.specs.declared.places.Unopened.TheVariants.{Failed, OutOfMemory}
use Rattle.agent_run.proofs.PlaceLemmas.{at_each, same_place, same_home, unopened_home}

never : false ≡ true → ⊥
never e = cc

-- ---- the places of a list

-- a place of a list of distinct places is none of those before it
pub not_before : (places : List (List ℕ)) (n : ℕ) → IsDistinct bytes_eq places → n < length places
    → Contains (take n places) (place_at places n) → ⊥
not_before places n apart l c =
    let k : c.0 < n = omega (arith, c.1, length-take n places) in
    AllPairs-from_IsDistinct bytes_eq-Decides places apart c.0 n [] k l
    (sym (get_or-take n places c.0 [] k) ∙ get_or_default (take n places) c.0 [] (place_at places n) c.1 ∙ c.2)

-- a place of a number is of the list
pub at_contained : (places : List (List ℕ)) (k : ℕ) → k < length places → Contains places (place_at places k)
at_contained places k l = (k, l, get_or_default places k (place_at places k) [] l)

first_contained : (place : List ℕ) (places : List (List ℕ)) → Contains (place ∷ places) place
first_contained place places = at_contained (place ∷ places) 0 (omega arith)

-- the list of one place has no other
alone : (place q : List ℕ) → Contains (place ∷ []) q → place ≡ q
alone place q c = go c.0 c.1 c.2
  where
    go : (k : ℕ) → k < 1 → get_or (place ∷ []) k q ≡ q → place ≡ q
    go zero l e = e
    go (suc k) l e = absurd (omega (arith, l))

-- a place is of the list, or not
pub in_or_not : (places : List (List ℕ)) (q : List ℕ) → Contains places q ⊎ (Contains places q → ⊥)
in_or_not [] q = inr (λ c. absurd (omega (arith, c.1)))
in_or_not (p ∷ places) q = go (bytes_eq p q) refl (in_or_not places q)
  where
    go : (b : Bool) → bytes_eq p q ≡ b → Contains places q ⊎ (Contains places q → ⊥)
        → Contains (p ∷ places) q ⊎ (Contains (p ∷ places) q → ⊥)
    go true e behind = inl (subst (Contains (p ∷ places)) ((bytes_eq-Decides p q).0 e) (first_contained p places))
    go false e behind =
        elim behind [
          | inl c ↦ inl (Contains-append_right (p ∷ []) places q c)
          | inr away ↦ inr (λ c. absurd (elim (Contains-append_cases (p ∷ []) places q c) [
            | inl one ↦ never (sym e ∙ (bytes_eq-Decides p q).1 (alone p q one))
            | inr more ↦ away more
          ]))
        ]

-- what holds at each place of a list, and at every other place, holds at each
each_place : (P : List ℕ → Type 0) (places : List (List ℕ)) → ((k : ℕ) → k < length places → P (place_at places k))
    → ((q : List ℕ) → (Contains places q → ⊥) → P q) → (q : List ℕ) → P q
each_place P places here away q =
    elim (in_or_not places q) [
      | inl c ↦ subst P (get_or_default places c.0 [] q c.1 ∙ c.2) (here c.0 c.1)
      | inr none ↦ away q none
    ]

-- ---- one after the other

-- nothing happened yet
pub go_none : (Goes : Carried → Place → Place → Type 0) (told : List ℕ → Place) → GoEach Goes [] [] told told
go_none Goes told = record { count = refl; each = λ k l. absurd (omega (arith, l)); others = λ q away. refl }

-- one part more, at the place behind
go_more : (Goes : Carried → Place → Place → Type 0) (places : List (List ℕ)) (parts : List Carried) (place : List ℕ)
    (part : Carried) (w0 w1 w2 : List ℕ → Place)
    → GoEach Goes places parts w0 w1 → (Contains places place → ⊥) → Goes part (w1 place) (w2 place)
    → SameBut place w1 w2 → GoEach Goes (places ++ place ∷ []) (parts ++ part ∷ []) w0 w2
go_more Goes places parts place part w0 w1 w2 h new g same = record {
  count = length_push parts part ∙ ap (λ (n : ℕ). n + 1) h.count ∙ sym (length_push places place);
  each = λ k l. elim (cases_lt k (length places)) [
    | inl before ↦
        let elsewhere : place_at places k ≢ place = λ e. new
        (subst (Contains places) e (at_contained places k before)) in
        rw (
          get_or_append_left parts (part ∷ []) no_part k (omega (arith, before, h.count)),
          get_or_append_left places (place ∷ []) [] k before,
          same (place_at places k) elsewhere,
        ) (h.each k before)
    | inr behind ↦
        let here : length places ≡ k = omega (arith, behind, l, length_push places place) in
        rw (get_or_push parts part no_part k (h.count ∙ here), get_or_push places place [] k here, ← h.others place new)
        g
  ];
  others = λ q away. same q (λ e. away (subst (Contains (places ++ place ∷ [])) (sym e)
      (Contains-append_right places (place ∷ []) place (first_contained place []))))
      ∙ h.others q (λ c. away (Contains-append_left places (place ∷ []) q c));
}

-- one part more, at the place before the others
pub go_first : (Goes : Carried → Place → Place → Type 0) (places : List (List ℕ)) (parts : List Carried)
    (place : List ℕ) (part : Carried) (w0 w1 w2 : List ℕ → Place)
    → GoEach Goes places parts w0 w1 → (Contains places place → ⊥) → Goes part (w1 place) (w2 place)
    → SameBut place w1 w2 → GoEach Goes (place ∷ places) (part ∷ parts) w0 w2
go_first Goes places parts place part w0 w1 w2 h new g same = record {
  count = ap (λ (n : ℕ). suc n) h.count;
  each = each;
  others = λ q away. same q (λ e. away (subst (Contains (place ∷ places)) (sym e) (first_contained place places)))
      ∙ h.others q (λ c. away (Contains-append_right (place ∷ []) places q c));
}
  where
    each : (k : ℕ) → k < length (place ∷ places) → Goes (carried_at (part ∷ parts) k) (w0 (place_at (place ∷ places) k))
        (w2 (place_at (place ∷ places) k))
    each zero l = rw (← h.others place new) g
    each (suc k) l =
        let b : k < length places = omega (arith, l) in
        rw (same (place_at places k) (λ e. new (subst (Contains places) e (at_contained places k b)))) (h.each k b)

-- the same, where all places were as before before it and after it
pub go_along : (Goes : Carried → Place → Place → Type 0) (places : List (List ℕ)) (parts : List Carried)
    (w0 w1 w2 w3 : List ℕ → Place) → SameAtAll w0 w1 → GoEach Goes places parts w1 w2 → SameAtAll w2 w3
    → GoEach Goes places parts w0 w3
go_along Goes places parts w0 w1 w2 w3 before h after = record {
  count = h.count;
  each = λ k l. rw (after (place_at places k), ← before (place_at places k)) (h.each k l);
  others = λ q away. after q ∙ h.others q away ∙ before q;
}

module _ {P : Type 0} (told : P → Carried) (Goes : Carried → Place → Place → Type 0) (places : List (List ℕ))
    (apart : IsDistinct bytes_eq places) (n : ℕ) (l : n < length places) where
  -- the part of the next number
  pub go_next : (parts : List P) (part : P) (place : List ℕ) (w0 w1 w2 : List ℕ → Place) → place ≡ place_at places n
      → GoEach Goes (take n places) (map told parts) w0 w1
      → Goes (told part) (w1 place) (w2 place) → SameBut place w1 w2
      → GoEach Goes (take (n + 1) places) (map told (parts ++ part ∷ [])) w0 w2
  go_next parts part place w0 w1 w2 e h g same =
      rw (take_more places n [] l, map-append told parts (part ∷ []))
      (go_more Goes (take n places) (map told parts) (place_at places n) (told part) w0 w1 w2 h
      (not_before places n apart l)
      (subst (λ (p : List ℕ). Goes (told part) (w1 p) (w2 p)) e g) (subst (λ (p : List ℕ). SameBut p w1 w2) e same))

-- the same of parts that were there before
pub give_next : {P : Type 0} (told : P → Carried) (Goes : Carried → Place → Place → Type 0) (places : List (List ℕ))
    (apart : IsDistinct bytes_eq places) (n m : ℕ) → m ≡ n + 1 → n < length places
    → (parts : List P) (part : P) (place : List ℕ) (w0 w1 w2 : List ℕ → Place)
    → n < length parts → part ≡ get_or parts n part → place ≡ place_at places n
    → GoEach Goes (take n places) (take n (map told parts)) w0 w1 → Goes (told part) (w1 place) (w2 place)
    → SameBut place w1 w2
    → GoEach Goes (take m places) (take m (map told parts)) w0 w2
give_next told Goes places apart n m next l parts part place w0 w1 w2 b is here h g same =
    let more : map told (take n parts ++ part ∷ []) ≡ take (n + 1) (map told parts) =
    ap (map told) (ap (λ p. take n parts ++ p ∷ []) is ∙ sym (take_more parts n part b))
    ∙ sym (take-map told (n + 1) parts) in
    rw (next, ← more) (go_next told Goes places apart n l (take n parts) part place w0 w1 w2 here
    (subst (λ (cs : List Carried). GoEach Goes (take n places) cs w0 w1) (take-map told n parts) h) g same)

-- all parts went
pub go_all : (Goes : Carried → Place → Place → Type 0) (places : List (List ℕ)) (parts : List Carried) (n : ℕ)
    (w0 w1 : List ℕ → Place) → n ≡ length places → length parts ≡ length places
    → GoEach Goes (take n places) (take n parts) w0 w1 → GoEach Goes places parts w0 w1
go_all Goes places parts n w0 w1 e len h =
    subst (λ (cs : List Carried). GoEach Goes places cs w0 w1) (take_all n parts (omega (arith, e, len)))
    (subst (λ (ps : List (List ℕ)). GoEach Goes ps (take n parts) w0 w1) (take_all n places (omega (arith, e))) h)

-- the next place is as it was
pub next_same : (Goes : Carried → Place → Place → Type 0) (places : List (List ℕ)) (apart : IsDistinct bytes_eq places)
    (n : ℕ) (l : n < length places) (parts : List Carried) (place : List ℕ) (w0 w1 : List ℕ → Place)
    → place ≡ place_at places n → GoEach Goes (take n places) parts w0 w1 → w1 place ≡ w0 place
next_same Goes places apart n l parts place w0 w1 e h = rw e
    (h.others (place_at places n) (not_before places n apart l))

-- the place of what has a number
pub place_here : {X : Type 0} (place_of : X → List ℕ) (xs : List X) (i : ℕ) (x : X) → i < length xs → x ≡ get_or xs i x
    → place_of x ≡ place_at (map place_of xs) i
place_here place_of xs i x l e = ap place_of e ∙ sym (get_or-map place_of xs i x [] l)

-- ---- parts that are given back unused

module _ (places : List (List ℕ)) (parts : List Carried) (w0 w1 w2 w3 : List ℕ → Place) (home : AreHome w0)
    (opened : AreOpened places parts w0 w1) (given : AreGiven places parts w2 w3) where
  -- a place of which nothing changed in between is as before
  back : (k : ℕ) → k < length places → w2 (place_at places k) ≡ w1 (place_at places k)
      → w3 (place_at places k) ≡ w0 (place_at places k)
  back k l between =
      let o = opened.each k l in
      let g = given.each k l in
      same_place (w3 (place_at places k)) (w0 (place_at places k)) (g.bytes ∙ o.bytes)
      (g.open_faults ∙ ap (λ (p : Place). p.open_faults) between ∙ o.open_faults) (g.faults ∙ o.faults)
      (g.is_out ∙ sym (home (place_at places k)))

  -- nothing changed in between
  pub unused_same : SameAtAll w1 w2 → SameAtAll w0 w3
  unused_same same = each_place (λ q. w3 q ≡ w0 q) places (λ k l. back k l (same (place_at places k)))
      (λ q away. given.others q away ∙ same q ∙ opened.others q away)

  -- one other place wasn't opened in between
  pub unused_refused : (unopened : Unopened) (place : List ℕ) → (Contains places place → ⊥)
      → IsRefusedAt unopened place w1 w2 → IsRefusedAt unopened place w0 w3
  unused_refused OutOfMemory place new r = unused_same r
  unused_refused (Failed named) place new r = (r.0, still place new r.1)
    where
      still : (p : List ℕ) → (Contains places p → ⊥) → IsUnopened p w1 w2 → IsUnopened p w0 w3
      still p away h = record {
        failed = rw (given.others p away, ← opened.others p away) h.failed;
        others = λ q ne. each_place (λ (x : List ℕ). x ≢ p → w3 x ≡ w0 x) places
            (λ k l k_ne. back k l (h.others (place_at places k) k_ne))
            (λ x x_away x_ne. given.others x x_away ∙ h.others x x_ne ∙ opened.others x x_away) q ne;
      }

-- a place of which the world refused a part, as it is told
pub refused_at : (fault : OpenFault) (unopened : Unopened) (place : List ℕ) (old new : List ℕ → Place)
    → IsUnopenedBy fault place unopened → Refuses fault (old place) (new place) → SameBut place old new
    → IsRefusedAt unopened place old new
refused_at faults.Failed (Failed named) place old new e r same = (e, record { failed = r; others = same })
refused_at faults.Failed OutOfMemory place old new e r same = absurd e
refused_at faults.OutOfMemory (Failed named) place old new e r same = absurd e
refused_at faults.OutOfMemory OutOfMemory place old new e r same = at_each (λ q. new q ≡ old q) place r same

-- what a refusal says of one place of a list, it says of the list
pub among : (unopened : Unopened) (places : List (List ℕ)) (place : List ℕ) (old new : List ℕ → Place)
    → Contains places place → IsRefusedAt unopened place old new → AreRefused unopened places old new
among OutOfMemory places place old new c r = r
among (Failed named) places place old new c r = (
  subst (Contains places) (sym r.0) c,
  subst (λ (p : List ℕ). IsUnopened p old new) (sym r.0) r.1,
)

-- ---- parts that are out, and at home

-- where parts were opened they are out
pub opened_out : (places : List (List ℕ)) (parts : List Carried) (w0 w1 w2 : List ℕ → Place)
    → AreOpened places parts w0 w1 → ((k : ℕ) → k < length places → w2 (place_at places k) ≡ w1 (place_at places k))
    → PartsAreOut places w2
opened_out places parts w0 w1 w2 h same = λ k l. ap (λ (p : Place). p.is_out) (same k l) ∙ (h.each k l).is_out

-- a place that wasn't opened leaves every other as it was
pub refused_others : (unopened : Unopened) (place : List ℕ) (old new : List ℕ → Place)
    → IsRefusedAt unopened place old new → SameBut place old new
refused_others OutOfMemory place old new r = λ q ne. r q
refused_others (Failed named) place old new r = r.1.others

-- the first places of a list of distinct places are distinct
pub distinct_take : (n : ℕ) (places : List (List ℕ)) → IsDistinct bytes_eq places → IsDistinct bytes_eq (take n places)
distinct_take n places apart =
    IsDistinct-from_AllPairs bytes_eq-Decides (take n places) (λ i j d before l.
    let b : j < n = omega (arith, l, length-take n places) in
    rw (get_or-take n places i d (omega (arith, before, b)), get_or-take n places j d b)
    (AllPairs-from_IsDistinct bytes_eq-Decides places apart i j d before (omega (arith, l, length-take n places))))

module _ (unopened : Unopened) (places : List (List ℕ)) (parts : List Carried) (n : ℕ) (w0 w1 : List ℕ → Place)
    (apart : IsDistinct bytes_eq places) (stopped : StopsAt unopened places parts w0 w1) (len : n ≡ length parts) where
  -- the parts that were opened are out where the next place wasn't opened
  pub stopped_out : PartsAreOut (take n places) w1
  stopped_out = rw len (opened_out (take (length parts) places) parts w0 stopped.mid w1 stopped.opened
      (λ k l. refused_others unopened (place_at places (length parts)) stopped.mid w1 stopped.refused
      (place_at (take (length parts) places) k)
      (λ e. not_before places (length parts) apart stopped.within
      (subst (Contains (take (length parts) places)) e (at_contained (take (length parts) places) k l)))))

  -- and once they were given back all is as before but the place that wasn't opened
  pub stopped_refused : (w2 : List ℕ → Place) → AreHome w0 → AreGiven (take n places) parts w1 w2
      → AreRefused unopened places w0 w2
  stopped_refused w2 home given =
      among unopened places (place_at places (length parts)) w0 w2 (at_contained places (length parts) stopped.within)
      (unused_refused (take (length parts) places) parts w0 stopped.mid w1 w2 home stopped.opened
      (subst (λ (m : ℕ). AreGiven (take m places) parts w1 w2) len given) unopened (place_at places (length parts))
      (not_before places (length parts) apart stopped.within) stopped.refused)

-- where all parts but these are at home, they are all once these were given back
pub given_home : (places : List (List ℕ)) (parts : List Carried) (w0 w1 : List ℕ → Place) → AreGiven places parts w0 w1
    → AreHomeBut places w0 → AreHome w1
given_home places parts w0 w1 h home = each_place (λ q. (w1 q).is_out ≡ false) places (λ k l. (h.each k l).is_out)
    (λ q away. ap (λ (p : Place). p.is_out) (h.others q away) ∙ home q away)

-- where one place wasn't opened no part is out
pub refused_home : (unopened : Unopened) (places : List (List ℕ)) (old new : List ℕ → Place) → AreHome old
    → AreRefused unopened places old new → AreHome new
refused_home OutOfMemory places old new home r = same_home old new home r
refused_home (Failed named) places old new home r = unopened_home named.now old new home r.1

-- the next place wasn't opened
pub stops_at : (fault : OpenFault) (unopened : Unopened) (places : List (List ℕ)) (parts : List Carried) (n : ℕ)
    (place : List ℕ) (w0 w1 w2 : List ℕ → Place) → n < length places → place ≡ place_at places n
    → AreOpened (take n places) parts w0 w1
    → IsUnopenedBy fault place unopened → Refuses fault (w1 place) (w2 place) → SameBut place w1 w2
    → StopsAt unopened places parts w0 w2
stops_at fault unopened places parts n place w0 w1 w2 l here h e r same =
    let len : n ≡ length parts = omega (arith, l, h.count, length-take n places) in
    record {
      within = subst (λ (k : ℕ). k < length places) len l;
      mid = w1;
      opened = subst (λ (k : ℕ). AreOpened (take k places) parts w0 w1) len h;
      refused = subst (λ (p : List ℕ). IsRefusedAt unopened p w1 w2) (here ∙ ap (place_at places) len)
          (refused_at fault unopened place w1 w2 e r same);
    }

-- what is left of the places behind the first
pub refused_behind : (unopened : Unopened) (place : List ℕ) (places : List (List ℕ)) (old new : List ℕ → Place)
    → AreRefused unopened places old new → AreRefused unopened (place ∷ places) old new
refused_behind (Failed named) place places old new r = (Contains-append_right (place ∷ []) places named.now r.0, r.1)
refused_behind OutOfMemory place places old new r = r

-- the first place is none of those behind it
pub first_apart : (place : List ℕ) (places : List (List ℕ)) → IsDistinct bytes_eq (place ∷ places)
    → Contains places place → ⊥
first_apart place places apart c =
    AllPairs-from_IsDistinct bytes_eq-Decides (place ∷ places) apart 0 (suc c.0) [] (omega arith) (omega (arith, c.1))
    (sym (get_or_default places c.0 [] place c.1 ∙ c.2))

-- the parts behind the first place are out
pub out_behind : (place : List ℕ) (places : List (List ℕ)) (told : List ℕ → Place) → PartsAreOut (place ∷ places) told
    → PartsAreOut places told
out_behind place places told out = λ k l. out (suc k) (omega (arith, l))

-- an answer that is handed on
pub err_behind : {T : Type 0} (result : Result T Unopened) (Q : Unopened → Type 0) (unopened : Unopened)
    → ((x : Unopened) → Q x → x ≡ unopened) → (place : List ℕ) (seen places : List (List ℕ)) (old new : List ℕ → Place)
    → seen ≡ places
    → IsErrAnd result Q → AreRefused unopened seen old new → IfErr result (λ x. AreRefused x (place ∷ places) old new)
err_behind (Ok value) Q unopened is place seen places old new e h r = tt
err_behind (Err x) Q unopened is place seen places old new e h r =
    refused_behind x place places old new (subst (λ (ps : List (List ℕ)). AreRefused x ps old new) e
    (subst (λ (u : Unopened). AreRefused u seen old new) (sym (is x h)) r))

-- one part more at the place before the others, by other terms
pub go_before : (Goes : Carried → Place → Place → Type 0) (seen places : List (List ℕ)) (parts : List Carried)
    (named place : List ℕ) (part : Carried) (w0 w1 w2 : List ℕ → Place) → seen ≡ places → named ≡ place
    → IsDistinct bytes_eq (place ∷ places)
    → GoEach Goes seen parts w0 w1 → Goes part (w1 named) (w2 named) → SameBut named w1 w2
    → GoEach Goes (place ∷ places) (part ∷ parts) w0 w2
go_before Goes seen places parts named place part w0 w1 w2 e d apart h g same =
    go_first Goes places parts place part w0 w1 w2 (subst (λ (ps : List (List ℕ)). GoEach Goes ps parts w0 w1) e h)
    (first_apart place places apart)
    (subst (λ (p : List ℕ). Goes part (w1 p) (w2 p)) d g) (subst (λ (p : List ℕ). SameBut p w1 w2) d same)

-- a place before others is as it was once parts went at those
pub before_same : (Goes : Carried → Place → Place → Type 0) (seen places : List (List ℕ)) (parts : List Carried)
    (named place : List ℕ) (w0 w1 : List ℕ → Place) → seen ≡ places → named ≡ place
    → IsDistinct bytes_eq (place ∷ places) → GoEach Goes seen parts w0 w1 → w1 named ≡ w0 named
before_same Goes seen places parts named place w0 w1 e d apart h =
    h.others named (λ c. first_apart place places apart (subst (λ (ps : List (List ℕ)). Contains ps place) e
    (subst (Contains seen) d c)))

-- all behind the first were opened, by other terms; the first wasn't
module _ (place : List ℕ) (places seen again : List (List ℕ)) (named : List ℕ) (parts : List Carried)
    (w0 w1 w2 : List ℕ → Place) (e : seen ≡ places) (f : again ≡ places) (d : named ≡ place)
    (apart : IsDistinct bytes_eq (place ∷ places)) (opened : AreOpened seen parts w0 w1)
    (same : SameBut named w1 w2) where
  -- the parts are out
  pub opened_out_still : PartsAreOut again w2
  opened_out_still = subst (λ (ps : List (List ℕ)). PartsAreOut ps w2) (e ∙ sym f)
      (opened_out seen parts w0 w1 w2 opened (λ k l. same (place_at seen k)
      (λ x. first_apart place places apart (subst (λ (ps : List (List ℕ)). Contains ps place) e
      (subst (Contains seen) (x ∙ d) (at_contained seen k l))))))

  -- and they were given back
  pub first_refused : (fault : OpenFault) (unopened : Unopened) (w3 : List ℕ → Place) → AreHome w0
      → IsUnopenedBy fault named unopened → Refuses fault (w1 named) (w2 named) → AreGiven again parts w2 w3
      → AreRefused unopened (place ∷ places) w0 w3
  first_refused fault unopened w3 home by r given =
      among unopened (place ∷ places) place w0 w3 (first_contained place places)
      (unused_refused places parts w0 w1 w2 w3 home (subst (λ (ps : List (List ℕ)). AreOpened ps parts w0 w1) e opened)
      (subst (λ (ps : List (List ℕ)). AreGiven ps parts w2 w3) f given) unopened place (first_apart place places apart)
      (subst (λ (p : List ℕ). IsRefusedAt unopened p w1 w2) d (refused_at fault unopened named w1 w2 by r same)))
