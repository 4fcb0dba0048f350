-- Drawing a number, splitting and joining keep the rule.
use Rattle.std.proofs.Common.{◌≡◌, ◌⊎◌, ℕ, ◌+◌, ◌%◌, ◌^◌, ◌<◌, ◌≤◌, List, [], ◌∷◌, ◌++◌, length, get_or, set, sym}
use Rattle.std.proofs.Common.{refl, ap, ◌∙◌, subst, ⊎_elim, arith, Option, Bool, true, false, length-set}
use Rattle.std.proofs.Common.{get_or-set_other, get_or-set_same, inr, nat_lt, if◌then◌else◌}
use mathlib.Core.Option.{none, some}
use lib.ListN.{get_elem?}
use Rattle.std.proofs.Math.Nat.{mod-eq_of_lt}
use Rattle.atomic_table.specs.Table.{Me, step, keeps, Allows, Splits, Joins}
use Rattle.atomic_table.proofs.Lists.{set_else, at_longer}
use Rattle.turnstile.specs.declared.history.Call.{Call}
use Rattle.turnstile.specs.declared.history.View.{View}
use Rattle.turnstile.specs.declared.history.Phase.TheVariants.{Idle, Drawn, Holding, Publishing}
use Rattle.turnstile.specs.History.{longer, replay}
use Rattle.turnstile.specs.View.{has_turn, is_live, at_rest, split_view, joined_with, spent_view}
use Rattle.turnstile.specs.Numbers.{Numbers, Drew, IsUnused}
use Rattle.turnstile.specs.Turns.{Turns}
use Rattle.turnstile.specs.Dials.{Dials}
use Rattle.turnstile.specs.Rule.{IsKept}
use Rattle.turnstile.proofs.ListLemmas.{length-greater, greater_at, at_end}
use Rattle.turnstile.proofs.TurnLemmas.{turns_still}
use Rattle.turnstile.proofs.DialLemmas.{shows_still}
use Rattle.turnstile.proofs.RuleLemmas.{goes_on}
use Rattle.turnstile.proofs.PassNumbers.{first_index, is_first, draws_number, splits_number, joins_number}

module _ {S O A : Type 0} (allows : S → O → A → Type 0) (next : S → O → A → S) (dial_of : S → ℕ
    → ℕ) (start : S) (dials : ℕ) where
  -- a number is drawn
  pub draws : (slots id : ℕ) (me : Me (Option S) (View O A)) → me.0.phase ≡ Idle → me.0.number ≡ 0
      → length me.0.split + length me.0.joined < 2 ^ 32
      → Allows (IsKept allows next dial_of start dials) slots id me 2
      (λ n. (n + 1) % 2 ^ 64) (Drew (step slots 2 1 0 none) me)
  draws slots id me idle zero_is few s r long at small =
      let v : View O A = me.0 in let n : ℕ = get_or s.words 2 0 in let x : ℕ = (n + 1) % 2 ^ 64 in
      let w : View O A = record v { split = v.split ++ n ∷ []; phase = Drawn } in
      let live : is_live v.phase ≡ true = ap is_live idle in
      let no_turn : has_turn v.phase ≡ false = ap has_turn idle in let wide = r.wide in
      let here : id ≡ 0 = first_index r.history n s.views r.numbers id v (at, live) zero_is in
      let top : v ≡ r.numbers.top = is_first r.history n s.views r.numbers id v (at, live) zero_is in
      let count : length v.split + length v.joined ≡ length r.numbers.top.split + length r.numbers.top.joined =
      ap (λ (z : View O A). length z.split + length z.joined) top in
      let room = r.numbers.room in let fits : n + 1 < 2 ^ 64 = omega arith in
      let none_has = r.numbers.not_given n (inr (omega arith)) in
      let unused : IsUnused r.numbers.top n = record {
        above = omega (arith, room);
        not_split =
            omega (arith, none_has);
        not_joined = omega (arith, none_has);
      } in
      let x_is : x ≡ n + 1 = mod-eq_of_lt fits in
      let o = r.shows.low id v (at, live) in
      let far : (i : ℕ)
      → get_or (set s.words 2 x) (3 + i) 0 ≡ get_or s.words (3 + i) 0 = λ i.
      get_or-set_other s.words 2 (3 + i) x 0 (λ e. omega arith) in (
        w,
        keeps,
        tt,
        goes_on r (length-set s.words 2 x)
            (subst
            (λ (z : ℕ × ℕ × View O A).
            Numbers r.history z.0
            (set s.views z.1 (record z.2 { split = z.2.split ++ n ∷ []; phase = Drawn })))
            (λ k. (sym (get_or-set_same s.words 2 x 0 (omega arith) ∙ x_is) k, sym here k, sym top k))
            (draws_number r.history n s.views r.numbers))
            (turns_still next start r.turns id v w at no_turn refl
            (get_or-set_other s.words 2 0 x 0 (λ e. omega arith)) (get_or-set_other s.words 2 1 x 0
            (λ e. omega arith)))
            (shows_still next dial_of start dials r.shows id w refl (get_or-set_other s.words 2 0 x 0
            (λ e. omega arith)) (λ i h. far i) (λ _. o) (λ _ i h. r.shows.behind id v (at, live) no_turn i h)),
        (refl, refl, subst (λ (z : View O A). IsUnused z n) (sym top) unused),
      )

  -- a pass is split off with the number that was drawn
  pub splits : (id : ℕ) (v : View O A) → v.phase ≡ Drawn → v.number ≡ 0
      → Splits (IsKept allows next dial_of start dials) id v (at_rest v) (split_view v)
  splits id v drawn zero_is s r at = let live : is_live v.phase ≡ true = ap is_live drawn in
      let no_turn : has_turn v.phase ≡ false = ap has_turn drawn in let a : View O A = at_rest v in
      let b : View O A = split_view v in
      let here = first_index r.history (get_or s.words 2 0) s.views r.numbers id v (at, live) zero_is in
      let top = is_first r.history (get_or s.words 2 0) s.views r.numbers id v (at, live) zero_is in
      let o = r.shows.low id v (at, live) in let vs : List (View O A) = set s.views id a in
      let t : Turns next start r.history r.owner (get_or s.words 0 0) (get_or s.words 1 0) s.homes vs =
      turns_still next start r.turns id v a at no_turn refl refl refl in
      let d : Dials next dial_of start dials r.history r.before r.done s.words vs =
      shows_still next dial_of start dials r.shows id a refl refl (λ i h. refl) (λ _. o)
      (λ _ i h. r.shows.behind id v (at, live) no_turn i h) in goes_on r refl
      (subst
      (λ (z : ℕ × View O A). Numbers r.history (get_or s.words 2 0)
      (set s.views z.0 (at_rest z.1) ++ split_view z.1 ∷ []))
      (λ k. (sym here k, sym top k)) (splits_number r.history (get_or s.words 2 0) s.views r.numbers
      (ap (λ (z : View O A). z.phase) (sym top) ∙ drawn)))
      record {
        deep = t.deep;
        counted = t.counted;
        free = t.free;
        busy = λ nz. let q = t.busy nz in
            (q.0, (q.1.0, (at_longer vs (b ∷ []) r.owner q.1.0 q.1.1.0, q.1.1.1), q.1.2));
        held = λ j u l h. ⊎_elim (λ (p : (j < length vs) × (get_elem? vs j ≡ some u)). t.held j u (p.1, l.1) h)
            (λ (p : (j ≡ length vs) × (b ≡ u)). let no : false ≡ true = ap
            (λ (z : View O A). has_turn z.phase) p.1 ∙ h in absurd (cc)) (at_end vs b u j l.0);
      }
      record {
        grows = d.grows;
        shown = d.shown;
        quiet = d.quiet;
        holding = λ j u l h. ⊎_elim (λ (p : (j < length vs) × (get_elem? vs j ≡ some u)). d.holding j u (
          p.1,
          l.1,
        ) h)
            (λ (p : (j ≡ length vs) × (b ≡ u)). let no : Idle ≡ Holding = ap (λ (z : View O A). z.phase) p.1
            ∙ h in absurd (cc)) (at_end vs b u j l.0);
        publishing = λ j q u l h. ⊎_elim
            (λ (p : (j < length vs) × (get_elem? vs j ≡ some u)). d.publishing j q u (p.1, l.1) h)
            (λ (p : (j ≡ length vs) × (b ≡ u)). let no : Idle ≡ Publishing q = ap
            (λ (z : View O A). z.phase) p.1 ∙ h in absurd (cc)) (at_end vs b u j l.0);
        low = λ j u l. ⊎_elim (λ (p : (j < length vs) × (get_elem? vs j ≡ some u)). d.low j u (p.1, l.1))
            (λ (p : (j ≡ length vs) × (b ≡ u)). subst
            (λ (z : View O A). (length z.lowest ≡ dials) × ((i : ℕ) → i < dials
            → get_or z.lowest i 0 ≤ get_or s.words (3 + i) 0)) p.1 o) (at_end vs b u j l.0);
        behind = λ j u l h. ⊎_elim (λ (p : (j < length vs) × (get_elem? vs j ≡ some u)). d.behind j u (p.1, l.1) h)
            (λ (p : (j ≡ length vs) × (b ≡ u)). subst (λ (z : View O A). (i : ℕ) → i < dials
            → dial_of (replay next start z.seen) i ≤ get_or s.words (3 + i) 0) p.1
            (r.shows.behind id v (at, live) no_turn)) (at_end vs b u j l.0);
      }

  -- a pass is joined back
  pub joins : (id other : ℕ) (v w : View O A) → v.phase ≡ Idle → v.number ≡ 0 → w.phase ≡ Idle
      → Joins (IsKept allows next dial_of start dials) id v other w (joined_with v w) spent_view
  joins id other v w idle zero_is idle' s r at apart at' = let live : is_live v.phase ≡ true =
      ap is_live idle in let no_turn : has_turn v.phase ≡ false = ap has_turn idle in
      let b : View O A = joined_with v w in
      let here = first_index r.history (get_or s.words 2 0) s.views r.numbers id v (at, live) zero_is in
      let top = is_first r.history (get_or s.words 2 0) s.views r.numbers id v (at, live) zero_is in
      let at_w : get_elem? s.views other ≡ some w = sym (set_else s.views id other b apart) ∙ at' in
      let live' : is_live w.phase ≡ true = ap is_live idle' in
      let no_turn' : has_turn w.phase ≡ false = ap has_turn idle' in
      let o = r.shows.low id v (at, live) in let o' = r.shows.low other w (at_w, live') in
      let vs : List (View O A) = set s.views id b in
      let lens : length v.lowest ≡ length w.lowest = o.0 ∙ sym o'.0 in
      let t : Turns next start r.history r.owner (get_or s.words 0 0) (get_or s.words 1 0) s.homes vs =
      turns_still next start r.turns id v b at no_turn no_turn refl refl in
      let d : Dials next dial_of start dials r.history r.before r.done s.words vs =
      shows_still next dial_of start dials r.shows id b no_turn refl (λ i h. refl)
      (λ _. (
        length-greater v.lowest w.lowest lens ∙ o'.0,
        λ i h. let e = greater_at v.lowest w.lowest i lens in
            let p = o.1 i h in let q = o'.1 i h in omega arith,
      ))
      (λ _ i h. longer_dial i v.seen w.seen (get_or s.words (3 + i) 0) (r.shows.behind id v (
        at,
        live,
      ) no_turn i h) (r.shows.behind other w (at_w, live') no_turn' i h)) in goes_on r refl
      (subst
      (λ (z : ℕ × View O A). Numbers r.history (get_or s.words 2 0)
      (set (set s.views z.0 (joined_with z.1 w)) other spent_view)) (λ k. (sym here k, sym top k))
      (joins_number r.history (get_or s.words 2 0) s.views r.numbers other w (at_w, live')
      (λ e. apart (e ∙ sym here)) (ap (λ (z : View O A). z.phase) (sym top) ∙ idle)))
      (turns_still next start t other w spent_view at' no_turn' refl refl refl)
      (shows_still next dial_of start dials d other spent_view refl refl (λ i h. refl)
      (λ l. absurd (cc)) (λ l. absurd (cc)))
    where
      longer_dial : (i : ℕ) (xs ys : List (Call O A)) (n : ℕ) → dial_of (replay next start xs) i ≤ n
          → dial_of (replay next start ys) i ≤ n → dial_of (replay next start (longer xs ys)) i ≤ n
      longer_dial i xs ys n p q = either_way (Rattle.std.proofs.Common.nat_lt (length xs) (length ys))
        where
          either_way : (b : Bool) → dial_of (replay next start (if b then ys else xs)) i ≤ n
          either_way true = q
          either_way false = p
