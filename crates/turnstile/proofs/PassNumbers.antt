-- The numbers of passes after one is drawn, split off or joined back.
use Rattle.std.proofs.Common.{◌≡◌, ◌≢◌, ◌⊎◌, ℕ, ◌+◌, ◌<◌, ◌≤◌, List, [], ◌∷◌, ◌++◌, length, set, sym, refl, ap, ◌∙◌}
use Rattle.std.proofs.Common.{subst, ⊎_elim, inl, inr, arith, Bool, true, false, length-append, nat_lt}
use Rattle.std.proofs.Common.{if◌then◌else◌}
use mathlib.Core.Option.{some}
use mathlib.Core.Logic.{dite}
use native.Mathlib.Decide.{ℕ_discrete, dec_le}
use lib.ListN.{get_elem?}
use Rattle.std.proofs.lemmas.Bool.{ltb-true, ltb-false}
use Rattle.atomic_table.proofs.Lists.{set_here, set_else, at_longer}
use Rattle.turnstile.specs.declared.history.Call.{Call}
use Rattle.turnstile.specs.declared.history.View.{View}
use Rattle.turnstile.specs.declared.history.Phase.TheVariants.{Idle, Drawn}
use Rattle.turnstile.specs.History.{calls_by, IsPrefix, longer}
use Rattle.turnstile.specs.View.{is_live, last_of, at_rest, split_view, joined_with, spent_view, LivesAt}
use Rattle.turnstile.specs.Numbers.{times, numbers_of, Fits, Numbers}
use Rattle.turnstile.proofs.HistoryLemmas.{nil_before, between}
use Rattle.turnstile.proofs.ListLemmas.{at_end}
use Rattle.turnstile.proofs.CountLemmas.{one_if, one_if-same, one_if-other, times-snoc, numbers_of-snoc}
use Rattle.turnstile.proofs.CountLemmas.{last_of-snoc, times_last, times-without, length-without}
use Rattle.turnstile.proofs.ViewLemmas.{live_set, there, same_view, live_end}
use Rattle.turnstile.proofs.NumberLemmas.{below, apart_set}

module _ {O A : Type 0} (history : List (Call O A)) (drawn : ℕ) (views : List (View O A))
    (r : Numbers history drawn views) where
  -- the pass with the number 0 is the first
  pub first_index : (id : ℕ) (v : View O A) → LivesAt views id v → v.number ≡ 0 → id ≡ 0
  first_index id v l z = dite (ℕ_discrete id 0) (λ e. e) (λ nz. let p = r.parted id v l nz in
      let q = r.not_given 0 (inl refl) in
      let e : times v.number r.top.split ≡ times 0 r.top.split = ap (λ (n : ℕ). times n r.top.split) z in
      absurd (omega arith))

  -- and its view is that of the first pass
  pub is_first : (id : ℕ) (v : View O A) → LivesAt views id v → v.number ≡ 0 → v ≡ r.top
  is_first id v l z =
      same_view views 0 v r.top (subst (λ (k : ℕ). get_elem? views k ≡ some v) (first_index id v l z) l.0) r.top_is.0

  -- each view fits the history where the changed one does
  fits_set : (id : ℕ) (w : View O A) → Fits history w → (j : ℕ) (u : View O A) → LivesAt (set views id w) j u
      → Fits history u
  fits_set id w f j u h = ⊎_elim (λ (t : (j ≡ id) × (w ≡ u)). subst (λ (x : View O A). Fits history x) t.1 f)
      (λ (t : (j ≢ id) × LivesAt views j u). r.fits j u t.1) (live_set views id j w u h)

  -- the first pass with one number more drawn
  abbrev drawer : View O A
  drawer = record r.top { split = r.top.split ++ drawn ∷ []; phase = Drawn }

  -- after a number was drawn
  pub draws_number : Numbers history (drawn + 1) (set views 0 drawer)
  draws_number = let t = r.top in let at = r.top_is.0 in let room = r.room in let f = r.fits 0 t r.top_is in
      let tz : t.number ≡ 0 = r.top_zero in record {
        top = drawer;
        top_is = (set_here views 0 drawer (there views 0 t at), refl);
        top_zero = r.top_zero;
        room = let e = length-append t.split (drawn ∷ []) in omega arith;
        given = λ n pos lt. let s = times-snoc n drawn t.split in dite (ℕ_discrete drawn n)
            (λ e. let o = one_if-same drawn n e in let z = r.not_given n (inr (omega arith)) in omega arith)
            (λ ne. let o = one_if-other drawn n ne in let z = r.given n pos (omega arith) in omega arith);
        not_given = λ n h. let s = times-snoc n drawn t.split in ⊎_elim
            (λ (z : n ≡ 0). let o = one_if-other drawn n (λ e. omega arith) in let q = r.not_given n (inl z) in
            omega arith)
            (λ (z : drawn + 1 ≤ n). let o = one_if-other drawn n (λ e. omega arith) in
            let q = r.not_given n (inr (omega arith)) in omega arith) h;
        parted = λ j u l nz. ⊎_elim (λ (p : (j ≡ 0) × (drawer ≡ u)). absurd (nz p.0))
            (λ (p : (j ≢ 0) × LivesAt views j u). let o = r.parted j u p.1 nz in
            let b = below history drawn views r j u p.1 in let s = times-snoc u.number drawn t.split in
            let z = one_if-other drawn u.number (λ e. omega arith) in
            (let a = o.0 in omega arith, o.1, o.2)) (live_set views 0 j drawer u l);
        apart = apart_set history drawn views r 0 t drawer r.top_is refl;
        fits = fits_set 0 drawer record { prefix = f.prefix; mine_is = f.mine_is; mine_seen = f.mine_seen };
        lists = r.lists;
        unused = λ n h. r.unused n (omega arith);
        fresh = λ _. let last = last_of-snoc t.split drawn in (
          (λ j u l. ⊎_elim (λ (p : (j ≡ 0) × (drawer ≡ u)). λ e. let z : 0 ≡ u.number = sym r.top_zero
              ∙ ap (λ (x : View O A). x.number) p.1 in omega arith)
              (λ (p : (j ≢ 0) × LivesAt views j u). λ e. let b = below history drawn views r j u p.1 in
              omega arith) (live_set views 0 j drawer u l)),
          (let e = length-append t.split (drawn ∷ []) in omega arith),
          ap (λ (n : ℕ). calls_by n history) last ∙ r.unused drawn (omega arith),
        );
      }

  -- after the pass with this number was split off
  pub splits_number : r.top.phase ≡ Drawn
      → Numbers history drawn (set views 0 (at_rest r.top) ++ split_view r.top ∷ [])
  splits_number ph = let t = r.top in let a : View O A = at_rest t in let b : View O A = split_view t in
      let vs : List (View O A) = set views 0 a in let x : ℕ = last_of t.split in let fr = r.fresh ph in
      let f = r.fits 0 t r.top_is in
      let in_split = times_last t.split fr.1 in
      let once : times x t.split ≡ 1 = dite (ℕ_discrete x 0) (λ z. let q = r.not_given x (inl z) in
      absurd (omega arith))
      (λ nz. dite (dec_le drawn x) (λ h. let q = r.not_given x (inr h) in
      absurd (omega arith)) (λ h. let q = r.given x (omega arith) (omega arith) in omega arith)) in record {
        top = a;
        top_is = (at_longer vs (b ∷ []) 0 a (set_here views 0 a (there views 0 t r.top_is.0)), refl);
        top_zero = r.top_zero;
        room = r.room;
        given = r.given;
        not_given = r.not_given;
        parted = λ j u l nz. ⊎_elim
            (λ (p : (j < length vs) × LivesAt vs j u). ⊎_elim (λ (q : (j ≡ 0) × (a ≡ u)). absurd (nz q.0))
            (λ (q : (j ≢ 0) × LivesAt views j u). r.parted j u q.1 nz) (live_set views 0 j a u p.1))
            (λ (p : (j ≡ length vs) × (b ≡ u)). subst
            (λ (z : View O A). (times z.number t.split ≡ 1) × (z.joined ≡ []) × (z.split ≡ [])) p.1 (
              once,
              refl,
              refl,
            )) (live_end vs b j u l);
        apart = λ i j u w l m ne. ⊎_elim
            (λ (p : (i < length vs) × LivesAt vs i u). ⊎_elim
            (λ (q : (j < length vs) × LivesAt vs j w).
            apart_set history drawn views r 0 t a r.top_is refl i j u w p.1 q.1 ne)
            (λ (q : (j ≡ length vs) × (b ≡ w)). λ e. not_new i u p.1 (e
            ∙ ap (λ (z : View O A). z.number) (sym q.1))) (live_end vs b j w m))
            (λ (p : (i ≡ length vs) × (b ≡ u)). ⊎_elim
            (λ (q : (j < length vs) × LivesAt vs j w). λ e. not_new j w q.1 (sym e
            ∙ ap (λ (z : View O A). z.number) (sym p.1)))
            (λ (q : (j ≡ length vs) × (b ≡ w)). absurd (ne (p.0 ∙ sym q.0))) (live_end vs b j w m))
            (live_end vs b i u l);
        fits = λ j u l. ⊎_elim
            (λ (p : (j < length vs) × LivesAt vs j u). fits_set 0 a record {
              prefix = f.prefix;
              mine_is = f.mine_is;
              mine_seen = f.mine_seen;
            } j u p.1)
            (λ (p : (j ≡ length vs) × (b ≡ u)). subst
            (λ (z : View O A). Fits history z) p.1 record {
              prefix = f.prefix;
              mine_is = fr.2;
              mine_seen = nil_before x t.seen history f.prefix fr.2;
            }) (live_end vs b j u l);
        lists = r.lists;
        unused = r.unused;
        fresh = λ d. absurd (cc);
      }
    where
      not_new : (j : ℕ) (u : View O A) → LivesAt (set views 0 (at_rest r.top)) j u → u.number ≢ last_of r.top.split
      not_new j u l = ⊎_elim
          (λ (q : (j ≡ 0) × (at_rest r.top ≡ u)). λ e. (r.fresh ph).0 0 r.top r.top_is
          (ap (λ (z : View O A). z.number) q.1 ∙ e))
          (λ (q : (j ≢ 0) × LivesAt views j u). (r.fresh ph).0 j u q.1) (live_set views 0 j (at_rest r.top) u l)

  -- a live view after a join
  live_join : (b : View O A) (other j : ℕ) (u : View O A) → LivesAt (set (set views 0 b) other spent_view) j u
      → ((j ≡ 0) × (b ≡ u)) ⊎ ((j ≢ 0) × (j ≢ other) × LivesAt views j u)
  live_join b other j u l = ⊎_elim (λ (t : (j ≡ other) × (spent_view ≡ u)). let no : false ≡ true = ap
      (λ (x : View O A). is_live x.phase) t.1 ∙ l.1 in absurd (cc))
      (λ (t : (j ≢ other) × LivesAt (set views 0 b) j u). ⊎_elim (λ (s : (j ≡ 0) × (b ≡ u)). inl s)
      (λ (s : (j ≢ 0) × LivesAt views j u). inr (s.0, t.0, s.1)) (live_set views 0 j b u t.1))
      (live_set (set views 0 b) other j spent_view u l)

  -- the longer of two beginnings
  longer_prefix : (xs ys : List (Call O A)) → IsPrefix xs history → IsPrefix ys history
      → IsPrefix (longer xs ys) history
  longer_prefix xs ys p q = either_way (Rattle.std.proofs.Common.nat_lt (length xs) (length ys))
    where
      either_way : (b : Bool) → IsPrefix (if b then ys else xs) history
      either_way true = q
      either_way false = p

  -- a pass whose calls stand all in the first of two beginnings has them all in the longer
  longer_left : (n : ℕ) (xs ys cs : List (Call O A)) → IsPrefix xs history → IsPrefix ys history
      → calls_by n xs ≡ cs → calls_by n history ≡ cs → calls_by n (longer xs ys) ≡ cs
  longer_left n xs ys cs p q e f = either_way (Rattle.std.proofs.Common.nat_lt (length xs) (length ys)) refl
    where
      either_way : (b : Bool) → Rattle.std.proofs.Common.nat_lt (length xs) (length ys) ≡ b
          → calls_by n (if b then ys else xs) ≡ cs
      either_way true h = let lt : length xs < length ys = ltb-true (length xs) (length ys) h in
          between n xs ys history cs p q (omega arith) e f
      either_way false h = e

  -- and so where they stand all in the second
  longer_right : (n : ℕ) (xs ys cs : List (Call O A)) → IsPrefix xs history → IsPrefix ys history
      → calls_by n ys ≡ cs → calls_by n history ≡ cs → calls_by n (longer xs ys) ≡ cs
  longer_right n xs ys cs p q e f = either_way (Rattle.std.proofs.Common.nat_lt (length xs) (length ys)) refl
    where
      either_way : (b : Bool) → Rattle.std.proofs.Common.nat_lt (length xs) (length ys) ≡ b
          → calls_by n (if b then ys else xs) ≡ cs
      either_way true h = e
      either_way false h = let le : length ys ≤ length xs = ltb-false (length xs) (length ys) h in
          between n ys xs history cs q p le e f

  -- after a pass was joined back
  pub joins_number : (other : ℕ) (w : View O A) → LivesAt views other w → other ≢ 0 → r.top.phase ≡ Idle
      → Numbers history drawn (set (set views 0 (joined_with r.top w)) other spent_view)
  joins_number other w l nz idle = let t = r.top in let b : View O A = joined_with t w in
      let f = r.fits 0 t r.top_is in let g = r.fits other w l in let x : ℕ = w.number in
      let once = (r.parted other w l nz).0 in
      let pos : 0 < times x t.split = omega arith in let live_b : is_live b.phase ≡ true = ap is_live idle in
      let sums : (n : ℕ)
      → times n b.split + times n (numbers_of b.joined) ≡ times n t.split + times n (numbers_of t.joined) =
      λ n. let a = times-without n x t.split pos in
      let c : times n (numbers_of b.joined) ≡ times n (numbers_of t.joined) + one_if x n =
      ap (times n) (numbers_of-snoc t.joined (x, w.mine)) ∙ times-snoc n x (numbers_of t.joined) in omega arith in
      let vs : List (View O A) = set views 0 b in record {
        top = b;
        top_is = (
          set_else vs other 0 spent_view (λ e. nz (sym e))
              ∙ set_here views 0 b (there views 0 t r.top_is.0),
          live_b,
        );
        top_zero = r.top_zero;
        room = let a = length-without x t.split pos in let c = length-append t.joined ((x, w.mine) ∷ []) in
            let h = r.room in omega arith;
        given = λ n p q. sums n ∙ r.given n p q;
        not_given = λ n p. sums n ∙ r.not_given n p;
        parted = λ j u m n0. ⊎_elim (λ (p : (j ≡ 0) × (b ≡ u)). absurd (n0 p.0))
            (λ (p : (j ≢ 0) × (j ≢ other) × LivesAt views j u). let o = r.parted j u p.2 n0 in
            let a = times-without u.number x t.split pos in
            let z = one_if-other x u.number (λ e. r.apart j other u w p.2 l p.1 (sym e)) in
            (let k = o.0 in omega arith, o.1, o.2)) (live_join b other j u m);
        apart = λ i j u v m k ne. ⊎_elim
            (λ (p : (i ≡ 0) × (b ≡ u)). ⊎_elim (λ (q : (j ≡ 0) × (b ≡ v)). absurd (ne (p.0 ∙ sym q.0)))
            (λ (q : (j ≢ 0) × (j ≢ other) × LivesAt views j v). λ e. r.apart 0 j t v r.top_is q.2
            (λ z. q.0 (sym z)) (ap (λ (z : View O A). z.number) p.1 ∙ e)) (live_join b other j v k))
            (λ (p : (i ≢ 0) × (i ≢ other) × LivesAt views i u). ⊎_elim
            (λ (q : (j ≡ 0) × (b ≡ v)). λ e. r.apart i 0 u t p.2 r.top_is p.0 (e
            ∙ ap (λ (z : View O A). z.number) (sym q.1)))
            (λ (q : (j ≢ 0) × (j ≢ other) × LivesAt views j v). r.apart i j u v p.2 q.2 ne)
            (live_join b other j v k)) (live_join b other i u m);
        fits = λ j u m. ⊎_elim (λ (p : (j ≡ 0) × (b ≡ u)). subst (λ (z : View O A). Fits history z) p.1 record {
          prefix = longer_prefix t.seen w.seen f.prefix g.prefix;
          mine_is = f.mine_is;
          mine_seen = longer_left t.number t.seen w.seen t.mine f.prefix g.prefix f.mine_seen f.mine_is;
        })
            (λ (p : (j ≢ 0) × (j ≢ other) × LivesAt views j u). r.fits j u p.2) (live_join b other j u m);
        lists = λ k n cs e. ⊎_elim
            (λ (p : (k < length t.joined) × (get_elem? t.joined k ≡ some (n, cs))). let o =
            r.lists k n cs p.1 in (o.0, longer_left n t.seen w.seen cs f.prefix g.prefix o.1 o.0))
            (λ (p : (k ≡ length t.joined) × ((x, w.mine) ≡ (n, cs))). subst
            (λ (z : ℕ × List (Call O A)). (calls_by z.0 history ≡ z.1) × (calls_by z.0 b.seen ≡ z.1)) p.1
            (g.mine_is, longer_right x t.seen w.seen w.mine f.prefix g.prefix g.mine_seen g.mine_is))
            (at_end t.joined (x, w.mine) (n, cs) k e);
        unused = r.unused;
        fresh = λ d. let no : Idle ≡ Drawn = sym idle ∙ d in absurd (cc);
      }
