-- The numbers of passes stay as they are where one pass goes on.
use Rattle.std.proofs.Common.{◌≡◌, ◌≢◌, ◌⊎◌, ℕ, ◌+◌, ◌<◌, ◌≤◌, List, [], length, get_or, set, sym, ap, ◌∙◌, subst}
use Rattle.std.proofs.Common.{⊎_elim, inl, inr, arith, true, get_or-set_other}
use mathlib.Core.Option.{some}
use mathlib.Core.Logic.{dite}
use native.Mathlib.Decide.{ℕ_discrete, dec_le}
use lib.ListN.{get_elem?}
use Rattle.atomic_table.proofs.Lists.{set_here, set_else}
use Rattle.turnstile.specs.declared.history.Call.{Call}
use Rattle.turnstile.specs.declared.history.View.{View}
use Rattle.turnstile.specs.declared.history.Phase.TheVariants.{Drawn}
use Rattle.turnstile.specs.History.{calls_by, IsPrefix, longer}
use Rattle.turnstile.specs.View.{is_live, last_of, LivesAt}
use Rattle.turnstile.specs.Numbers.{times, numbers_of, Fits, Numbers}
use Rattle.turnstile.proofs.CountLemmas.{times_has}
use Rattle.turnstile.proofs.ViewLemmas.{live_set, there, same_view}

module _ {O A : Type 0} where
  -- each live number is below the next one
  pub below : (history : List (Call O A)) (drawn : ℕ) (views : List (View O A))
      (r : Numbers history drawn views) (id : ℕ) (v : View O A) → LivesAt views id v → v.number < drawn
  below history drawn views r id v l = dite (ℕ_discrete id 0)
      (λ z. let e : v.number ≡ 0 = ap
      (λ (x : View O A). x.number)
      (same_view views 0 v r.top (subst (λ (k : ℕ). get_elem? views k ≡ some v) z l.0) r.top_is.0)
      ∙ r.top_zero in let h = r.room in omega arith)
      (λ nz. dite (dec_le drawn v.number) (λ h. let p = r.parted id v l nz in
      let q = r.not_given v.number (inr h) in absurd (omega arith)) (λ h. omega arith))

  -- numbers stay apart where one view keeps its number
  pub apart_set : (history : List (Call O A)) (drawn : ℕ) (views : List (View O A))
      (r : Numbers history drawn views) (id : ℕ) (v w : View O A) → LivesAt views id v → w.number ≡ v.number
      → (i j : ℕ) (a b : View O A) → LivesAt (set views id w) i a → LivesAt (set views id w) j b → i ≢ j
      → a.number ≢ b.number
  apart_set history drawn views r id v w l num i j a b p q ne = ⊎_elim
      (λ (t : (i ≡ id) × (w ≡ a)). ⊎_elim (λ (u : (j ≡ id) × (w ≡ b)). absurd (ne (t.0 ∙ sym u.0)))
      (λ (u : (j ≢ id) × LivesAt views j b). λ e. r.apart id j v b l u.1
      (λ z. u.0 (sym z)) (sym num ∙ (ap (λ (x : View O A). x.number) t.1 ∙ e))) (live_set views id j w b q))
      (λ (t : (i ≢ id) × LivesAt views i a). ⊎_elim
      (λ (u : (j ≡ id) × (w ≡ b)). λ e. r.apart i id a v t.1 l t.0 (e
      ∙ (ap (λ (x : View O A). x.number) (sym u.1) ∙ num)))
      (λ (u : (j ≢ id) × LivesAt views j b). r.apart i j a b t.1 u.1 ne) (live_set views id j w b q))
      (live_set views id i w a p)

  -- a view changes what it has seen and its phase, and calls of its number may be added
  pub moves : (history history' : List (Call O A)) (drawn : ℕ) (views : List (View O A))
      (r : Numbers history drawn views) (id : ℕ) (v w : View O A) → LivesAt views id v
      → w.number ≡ v.number → w.joined ≡ v.joined → w.split ≡ v.split → is_live w.phase ≡ true → (w.phase ≡ Drawn → ⊥)
      → ((xs : List (Call O A)) → IsPrefix xs history → IsPrefix xs history') → Fits history' w
      → ((n : ℕ) → n ≢ v.number → calls_by n history' ≡ calls_by n history)
      → ((n : ℕ) (cs : List (Call O A)) → n ≢ v.number → calls_by n history ≡ cs → calls_by n v.seen ≡ cs
      → calls_by n w.seen ≡ cs)
      → Numbers history' drawn (set views id w)
  moves history history' drawn views r id v w l num joi spl liv undrawn longer fit others seen =
      dite (ℕ_discrete id 0) first other
    where
      fits' : (j : ℕ) (u : View O A) → LivesAt (set views id w) j u → Fits history' u
      fits' j u h = ⊎_elim (λ (t : (j ≡ id) × (w ≡ u)). subst (λ (x : View O A). Fits history' x) t.1 fit)
          (λ (t : (j ≢ id) × LivesAt views j u). let f = r.fits j u t.1 in
          record {
            prefix = longer u.seen f.prefix;
            mine_is = others u.number (r.apart j id u v t.1 l t.0)
                ∙ f.mine_is;
            mine_seen = f.mine_seen;
          })
          (live_set views id j w u h)

      unused' : (n : ℕ) → drawn ≤ n → calls_by n history' ≡ []
      unused' n h = let b = below history drawn views r id v l in others n (λ e. omega arith) ∙ r.unused n h

      parted' : (j : ℕ) (u : View O A) → LivesAt (set views id w) j u → j ≢ 0
          → (times u.number r.top.split ≡ 1) × (u.joined ≡ []) × (u.split ≡ [])
      parted' j u h nz = ⊎_elim (λ (t : (j ≡ id) × (w ≡ u)). let p = r.parted id v l (λ z. nz (t.0 ∙ z)) in
          subst (λ (x : View O A). (times x.number r.top.split ≡ 1) × (x.joined ≡ []) × (x.split ≡ [])) t.1
          (ap (λ (n : ℕ). times n r.top.split) num ∙ p.0, joi ∙ p.1, spl ∙ p.2))
          (λ (t : (j ≢ id) × LivesAt views j u). r.parted j u t.1 nz) (live_set views id j w u h)

      inside : (n : ℕ) (cs : List (Call O A)) (k : ℕ) → get_elem? r.top.joined k ≡ some (n, cs) → 0 < n
      inside n cs k e = dite (ℕ_discrete n 0) (λ z. let a = times_has r.top.joined k n cs e in
          let b = r.not_given n (inl z) in absurd (omega arith)) (λ nz. omega arith)

      other : id ≢ 0 → Numbers history' drawn (set views id w)
      other nz = record {
        top = r.top;
        top_is = (set_else views id 0 w (λ e. nz (sym e)) ∙ r.top_is.0, r.top_is.1);
        top_zero = r.top_zero;
        room = r.room;
        given = r.given;
        not_given = r.not_given;
        parted = parted';
        apart = apart_set history drawn views r id v w l num;
        fits = fits';
        lists = λ k n cs e. let a = r.lists k n cs e in (
          others n (λ z. let p = r.parted id v l nz in
              let q = r.given n (inside n cs k e) (subst
              (λ (m : ℕ). m < drawn) (sym z) (below history drawn views r id v l)) in
              let has = times_has r.top.joined k n cs e in
              let p' : times n r.top.split ≡ 1 = ap (λ (m : ℕ). times m r.top.split) z ∙ p.0 in omega arith)
              ∙ a.0,
          a.1,
        );
        unused = unused';
        fresh = λ d. let f = r.fresh d in (
          (λ j u h. ⊎_elim
              (λ (t : (j ≡ id) × (w ≡ u)). λ e. f.0 id v l (sym num
              ∙ (ap (λ (x : View O A). x.number) t.1 ∙ e)))
              (λ (t : (j ≢ id) × LivesAt views j u). f.0 j u t.1) (live_set views id j w u h)),
          f.1,
          others (last_of r.top.split) (λ e. f.0 id v l (sym e)) ∙ f.2,
        );
      }

      first : id ≡ 0 → Numbers history' drawn (set views id w)
      first z = let same : v ≡ r.top =
          same_view views 0 v r.top (subst (λ (k : ℕ). get_elem? views k ≡ some v) z l.0) r.top_is.0 in
          let js : w.joined ≡ r.top.joined = joi ∙ ap (λ (x : View O A). x.joined) same in
          let ss : w.split ≡ r.top.split = spl ∙ ap (λ (x : View O A). x.split) same in
          let zero_is : v.number ≡ 0 = ap (λ (x : View O A). x.number) same ∙ r.top_zero in
          let Sums : List ℕ → List (ℕ × List (Call O A)) → Type 0 = λ xs ys. (n : ℕ) → 0 < n → n < drawn
          → times n xs + times n (numbers_of ys) ≡ 1 in
          let Outs : List ℕ → List (ℕ × List (Call O A)) → Type 0 = λ xs ys. (n : ℕ) → (n ≡ 0) ⊎ (drawn ≤ n)
          → times n xs + times n (numbers_of ys) ≡ 0 in record {
            top = w;
            top_is = (
              subst
                  (λ (k : ℕ). get_elem? (set views id w) k ≡ some w) z
                  (set_here views id w (there views id v l.0)),
              liv,
            );
            top_zero = num ∙ zero_is;
            room = r.room ∙ ap (λ (t : List ℕ × List (ℕ × List (Call O A))). 1 + (length t.0 + length t.1))
                (λ i. (sym ss i, sym js i));
            given = subst (λ (t : List ℕ × List (ℕ × List (Call O A))). Sums t.0 t.1)
                (λ i. (sym ss i, sym js i)) r.given;
            not_given = subst (λ (t : List ℕ × List (ℕ × List (Call O A))). Outs t.0 t.1)
                (λ i. (sym ss i, sym js i)) r.not_given;
            parted = λ j u h nz. let p = parted' j u h nz in
                (ap (λ (xs : List ℕ). times u.number xs) ss ∙ p.0, p.1, p.2);
            apart = apart_set history drawn views r id v w l num;
            fits = fits';
            lists = λ k n cs e. let e' : get_elem? r.top.joined k ≡ some (n, cs) = subst
                (λ (ys : List (ℕ × List (Call O A))). get_elem? ys k ≡ some (n, cs)) js e in
                let a = r.lists k n cs e' in
                let pos = inside n cs k e' in let ne : n ≢ v.number = λ q. omega arith in
                (others n ne ∙ a.0, seen n cs ne a.0 (ap (λ (x : View O A). calls_by n x.seen) same ∙ a.1));
            unused = unused';
            fresh = λ d. absurd (undrawn d);
          }

  -- a word changes that isn't the next number
  pub renumber : (words : List ℕ) (history : List (Call O A)) (i x : ℕ) (views : List (View O A)) → 2 ≢ i
      → Numbers history (get_or words 2 0) views → Numbers history (get_or (set words i x) 2 0) views
  renumber words history i x views ne r = subst
      (λ (k : ℕ). Numbers history k views) (sym (get_or-set_other words i 2 x 0 ne)) r
