-- Looking at a dial and publishing one keep the rule.
use Rattle.std.proofs.Common.{◌≡◌, ◌≢◌, ℕ, ◌+◌, ◌%◌, ◌^◌, ◌<◌, ◌≤◌, List, length, get_or, set, sym, refl, ap}
use Rattle.std.proofs.Common.{◌∙◌, subst, ⊎_elim, arith, Option, Some, true, false, length-set, get_or-set_other}
use Rattle.std.proofs.Common.{get_or-set_same}
use mathlib.Core.Option.{none, some}
use mathlib.Core.Logic.{dite}
use native.Mathlib.Decide.{ℕ_discrete}
use lib.ListN.{get_elem?}
use lib.Seq.{set-get_or}
use Rattle.std.proofs.Math.Nat.{mod-eq_of_lt}
use Rattle.atomic_table.specs.Table.{State, Me, step, Act, keeps, stepped, carried_after, Valid, Allows}
use Rattle.atomic_table.proofs.Lists.{set_here, set_again}
use Rattle.turnstile.specs.declared.history.Call.{Call}
use Rattle.turnstile.specs.declared.history.View.{View}
use Rattle.turnstile.specs.declared.history.Phase.TheVariants.{Idle, Drawn, Holding, Publishing}
use Rattle.turnstile.specs.History.{but_last, replay}
use Rattle.turnstile.specs.View.{has_turn, is_live, LivesAt}
use Rattle.turnstile.specs.Dials.{Found, Published, Glanced}
use Rattle.turnstile.specs.Rule.{IsKept}
use Rattle.turnstile.proofs.ViewLemmas.{live_set, there}
use Rattle.turnstile.proofs.NumberLemmas.{moves, renumber}
use Rattle.turnstile.proofs.RuleLemmas.{goes_on}
use Rattle.turnstile.proofs.TurnLemmas.{turns_still, alone}
use Rattle.turnstile.proofs.DialLemmas.{dial_word, low_set, behind_set, shows_still}

module _ {S O A : Type 0} (allows : S → O → A → Type 0) (next : S → O → A → S) (dial_of : S → ℕ
    → ℕ) (start : S) (dials : ℕ) where
  -- a word and a view that are written as they were change nothing
  same_state : (s : State (Option S) (View O A)) (r : IsKept allows next dial_of start dials s) (i id : ℕ)
      (v : View O A) → get_elem? s.views id ≡ some v
      → IsKept allows next dial_of start dials record {
        words = set s.words i (get_or s.words i 0);
        homes = s.homes;
        views = set s.views id v;
      }
  same_state s r i id v at = subst
      (λ (t : List ℕ × List (View O A)). IsKept allows next dial_of start dials record {
        words = t.0;
        homes = s.homes;
        views = t.1;
      }) (λ k. (sym (set-get_or s.words i 0) k, sym (set_again s.views id v at) k)) r

  -- a dial rises to what it is after the last call
  pub publishes : (slots id p k : ℕ) (me : Me (Option S) (View O A)) → me.0.phase ≡ Publishing p → p < dials
      → k + dial_of (replay next start (but_last me.0.seen)) p ≡ dial_of (replay next start me.0.seen) p
      → dial_of (replay next start me.0.seen) p < 2 ^ 64
      → Allows (IsKept allows next dial_of start dials) slots id me (3 + p)
      (λ n. (n + k) % 2 ^ 64) (Published (step slots (3 + p) k 0 none) me)
  publishes slots id p k me publishing inside by fits s r long at small =
      let v : View O A = me.0 in let w : View O A = record v { phase = Publishing (p + 1) } in
      let live : is_live v.phase ≡ true = ap is_live publishing in
      let turn : has_turn v.phase ≡ true = ap has_turn publishing in
      let f = r.numbers.fits id v (at, live) in let mine = r.turns.held id v (at, live) turn in
      let d = r.shows.publishing id p v (at, live) publishing in let done_is : r.done ≡ p = d.0 in
      let n : ℕ = get_or s.words (3 + p) 0 in let x : ℕ = (n + k) % 2 ^ 64 in let wide = r.wide in
      let old : n ≡ dial_of (replay next start (but_last v.seen)) p = (r.shows.shown p inside).1 (omega arith)
      ∙ ap (λ (l : List (Call O A)). dial_of (replay next start l) p) (d.1
      ∙ ap (λ (l : List (Call O A)). but_last l) (sym mine.2)) in
      let new : x ≡ dial_of (replay next start v.seen) p = ap
      (λ (m : ℕ). m % 2 ^ 64) (let e : n + k ≡ dial_of (replay next start v.seen) p = omega arith in e)
      ∙ mod-eq_of_lt fits in
      let new' : x ≡ dial_of (replay next start r.history) p = new
      ∙ ap (λ (l : List (Call O A)). dial_of (replay next start l) p) mine.2 in
      let here : get_or (set s.words (3 + p) x) (3 + p) 0 ≡ x = get_or-set_same s.words (3 + p) x 0 (omega arith) in
      let up : (i : ℕ) → i < dials
      → get_or s.words (3 + i) 0 ≤ get_or (set s.words (3 + p) x) (3 + i) 0 = λ i h. dite (ℕ_discrete i p)
      (λ e. subst (λ (m : ℕ). get_or s.words (3 + m) 0 ≤ get_or (set s.words (3 + p) x) (3 + m) 0) (sym e)
      (omega arith))
      (λ ne. let a = get_or-set_other s.words (3 + p) (3 + i) x 0 (λ e. ne (omega arith)) in omega arith) in (
        w,
        keeps,
        tt,
        record {
          history = r.history;
          before = r.before;
          done = p + 1;
          owner = r.owner;
          legal = r.legal;
          wide = rw (length-set s.words (3 + p) x) r.wide;
          numbers = renumber s.words r.history (3 + p) x (set s.views id w)
              (λ e. omega arith) (moves r.history r.history (get_or s.words 2 0) s.views r.numbers id v w (
                at,
                live,
              ) refl refl refl refl (λ e. cc)
              (λ xs q. q) record { prefix = f.prefix; mine_is = f.mine_is; mine_seen = f.mine_seen }
              (λ m ne. refl) (λ m cs ne in_log in_seen. in_seen));
          turns = record {
            deep = r.turns.deep;
            counted = dial_word s.words p x 1 (omega arith) ∙ r.turns.counted;
            free = λ z. r.turns.free (sym (dial_word s.words p x 0 (omega arith)) ∙ z);
            busy = λ _. (
              dial_word s.words p x 0 (omega arith) ∙ mine.1,
              (
                w,
                subst (λ (m : ℕ). LivesAt (set s.views id w) m w) mine.0
                    (set_here s.views id w (there s.views id v at), refl),
                refl,
              ),
            );
            held = λ j u l h. ⊎_elim
                (λ (q : (j ≡ id) × (w ≡ u)). (
                  q.0 ∙ mine.0,
                  dial_word s.words p x 0 (omega arith) ∙ mine.1,
                  ap (λ (z : View O A). z.seen) (sym q.1) ∙ mine.2,
                ))
                (λ (q : (j ≢ id) × LivesAt s.views j u). absurd (q.0 ((r.turns.held j u q.1 h).0 ∙ sym mine.0)))
                (live_set s.views id j w u l);
          };
          shows = record {
            grows = r.shows.grows;
            shown = λ i h. (
              (λ below_it. dite (ℕ_discrete i p)
                  (λ e. subst (λ (m : ℕ). get_or (set s.words (3 + p) x) (3 + m) 0 ≡ dial_of
                  (replay next start r.history) m) (sym e) (here ∙ new'))
                  (λ ne. get_or-set_other s.words (3 + p) (3 + i) x 0 (λ e. ne (omega arith))
                  ∙ (r.shows.shown i h).0 (omega arith))),
              (λ above. get_or-set_other s.words (3 + p) (3 + i) x 0 (λ e. omega arith)
                  ∙ (r.shows.shown i h).1 (omega arith)),
            );
            quiet = λ z. r.shows.quiet (sym (dial_word s.words p x 0 (omega arith)) ∙ z);
            holding = λ j u l h. ⊎_elim (λ (q : (j ≡ id) × (w ≡ u)). let no : Publishing (p + 1) ≡ Holding = ap
                (λ (z : View O A). z.phase) q.1 ∙ h in absurd (cc))
                (λ (q : (j ≢ id) × LivesAt s.views j u). absurd
                (q.0 (alone next start r.turns id j v u (at, live) turn q.1 (ap has_turn h))))
                (live_set s.views id j w u l);
            publishing = λ j q u l h. ⊎_elim
                (λ (t : (j ≡ id) × (w ≡ u)). let same : Publishing (p + 1) ≡ Publishing q = ap
                (λ (z : View O A). z.phase) t.1 ∙ h in (cc, d.1))
                (λ (t : (j ≢ id) × LivesAt s.views j u). absurd
                (t.0 (alone next start r.turns id j v u (at, live) turn t.1 (ap has_turn h))))
                (live_set s.views id j w u l);
            low = low_set dials s.words (set s.words (3 + p) x) s.views id w up r.shows.low
                (λ _. let o = r.shows.low id v (at, live) in
                (o.0, λ i h. let a = o.1 i h in let b = up i h in omega arith));
            behind = behind_set next dial_of start dials s.words
                (set s.words (3 + p) x) s.views id w up r.shows.behind (λ _ h. absurd (cc));
          };
        },
        (
          refl,
          λ q h. let same : p ≡ q = cc in
              ap (λ (m : ℕ). let z : View O A = record v { phase = Publishing (m + 1) } in z) same,
        ),
      )

  -- the dial that is published next is looked at, and is published where it shows what it is to show
  pub finds : (slots id p new : ℕ) (me : Me (Option S) (View O A)) (told : Option S) (value : Option ℕ)
      → told ≡ Some start → value ≡ Some new → me.0.phase ≡ Publishing p → p < dials
      → new ≡ dial_of (replay next start me.0.seen) p → new < 2 ^ 64
      → Allows (IsKept allows next dial_of start dials) slots id me (3 + p) (λ n. n)
      (Found next dial_of told value (step slots (3 + p) 0 0 none) me)
  finds slots id p new me told value is aims publishing inside shows fits s r long at small =
      dite (ℕ_discrete n new) shown unshown
    where
      n : ℕ
      n = get_or s.words (3 + p) 0

      v : View O A
      v = me.0

      -- the word still shows the state before the last call
      old : n ≡ dial_of (replay next start (but_last v.seen)) p
      old =
          let live : is_live v.phase ≡ true = ap is_live publishing in
          let d = r.shows.publishing id p v (at, live) publishing in
          let seen : v.seen ≡ r.history = (r.turns.held id v (at, live) (ap has_turn publishing)).2 in
          let here : r.done ≤ p = let e : r.done ≡ p = d.0 in omega arith in
          (r.shows.shown p inside).1 here
          ∙ ap (λ (l : List (Call O A)). dial_of (replay next start l) p)
          (d.1 ∙ ap (λ (l : List (Call O A)). but_last l) (sym seen))

      Then : View O A → Act (Option S) → Type 0
      Then w a = Found next dial_of told value (step slots (3 + p) 0 0 none) me n (w, carried_after me.1 a)

      Goal : Type 0
      Goal = (w : View O A) × (a : Act (Option S)) × Valid s.homes me.1 a
          × IsKept allows next dial_of start dials (stepped s (3 + p) n id me.1 w a)
          × Found next dial_of told value (step slots (3 + p) 0 0 none) me n (w, carried_after me.1 a)

      -- what was found stands for the given state and dial
      found_at : (s' : S) (q new' : ℕ) → told ≡ Some s' → value ≡ Some new' → v.phase ≡ Publishing q → 3 + p ≡ 3 + q
          → (n ≡ dial_of (replay next s' (but_last v.seen)) q) × (p ≡ q) × (new ≡ new')
      found_at s' q new' is' aims' h at_word =
          let same : start ≡ s' = cc in
          let pq : p ≡ q = omega arith in
          let nn : new ≡ new' = cc in (
            subst (λ (z : S × ℕ). n ≡ dial_of (replay next z.0 (but_last v.seen)) z.1) (λ k. (same k, pq k)) old,
            pq,
            nn,
          )

      shown : n ≡ new → Goal
      shown e =
          let none_added : 0 + dial_of (replay next start (but_last v.seen)) p ≡ dial_of
          (replay next start v.seen) p =
          omega (arith, sym old ∙ (e ∙ shows)) in
          let q = publishes slots id p 0 me publishing inside none_added (omega (
            arith,
            sym shows,
          )) s r long at small in
          let same_word : (n + 0) % 2 ^ 64 ≡ n = mod-eq_of_lt (let z : n + 0 < 2 ^ 64 = omega arith in z)
          ∙ omega arith in (
            q.0,
            q.1,
            q.2,
            subst (λ (x : ℕ). IsKept allows next dial_of start dials
                (stepped s (3 + p) x id me.1 q.0 q.1)) same_word q.3,
            (
              q.4.0,
              λ s' j new' is' aims' h at_word. let f = found_at s' j new' is' aims' h at_word in
                  (f.0, λ hit. q.4.1 j h, λ miss. absurd (miss (e ∙ f.2))),
            ),
          )

      unshown : n ≢ new → Goal
      unshown ne = (
        v,
        keeps,
        tt,
        same_state s r (3 + p) id v at,
        (
          refl,
          λ s' j new' is' aims' h at_word. let f = found_at s' j new' is' aims' h at_word in
              (f.0, λ hit. absurd (ne (hit ∙ sym f.2)), λ miss. refl),
        ),
      )

  -- a dial is looked at without the turn
  pub glances : (slots id i : ℕ) (me : Me (Option S) (View O A)) (told : Option S) → told ≡ Some start
      → me.0.phase ≡ Idle → i < dials
      → Allows (IsKept allows next dial_of start dials) slots id me (3 + i)
      (λ n. n) (Glanced next dial_of told (step slots (3 + i) 0 0 none) me)
  glances slots id i me told is idle inside s r long at small =
      let v : View O A = me.0 in let n : ℕ = get_or s.words (3 + i) 0 in
      let w : View O A = record v { lowest = set v.lowest i n } in
      let live : is_live v.phase ≡ true = ap is_live idle in
      let no_turn : has_turn v.phase ≡ false = ap has_turn idle in
      let f = r.numbers.fits id v (at, live) in let o = r.shows.low id v (at, live) in
      let same_words : set s.words (3 + i) n ≡ s.words = set-get_or s.words (3 + i) 0 in
      let Goal : List ℕ → Type 0 = λ ws. IsKept allows next dial_of start dials record {
        words = ws;
        homes = s.homes;
        views = set s.views id w;
      } in (
        w,
        keeps,
        tt,
        subst Goal (sym same_words) (goes_on r refl
            (moves r.history r.history (get_or s.words 2 0) s.views r.numbers id v w (
              at,
              live,
            ) refl refl refl live (λ e. let no : Idle ≡ Drawn = sym idle ∙ e in absurd (cc))
            (λ xs q. q) record { prefix = f.prefix; mine_is = f.mine_is; mine_seen = f.mine_seen }
            (λ m ne. refl) (λ m cs ne in_log in_seen. in_seen))
            (turns_still next start r.turns id v w at no_turn no_turn refl refl)
            (shows_still next dial_of start dials r.shows id w no_turn refl (λ k h. refl)
            (λ _. (
              length-set v.lowest i n ∙ o.0,
              λ k h. dite (ℕ_discrete k i)
                  (λ e. subst (λ (m : ℕ). get_or (set v.lowest i n) m 0 ≤ get_or s.words (3 + m) 0) (sym e)
                  (let a = get_or-set_same v.lowest i n 0 (let len : length v.lowest ≡ dials = o.0 in
                  omega arith) in omega arith))
                  (λ ne. let a = get_or-set_other v.lowest i k n 0 ne in let b = o.1 k h in omega arith),
            ))
            (λ _ k h. r.shows.behind id v (at, live) no_turn k h))),
        (
          refl,
          λ s' j is' at_word. let same : start ≡ s' = cc in let ij : j ≡ i = omega arith in
              subst (λ (m : ℕ). (w ≡ record v { lowest = set v.lowest m n }) × (get_or v.lowest m 0 ≤ n)
              × (dial_of (replay next s' v.seen) m ≤ n)) (sym ij) (
                refl,
                o.1 i inside,
                subst (λ (z : S). dial_of (replay next z v.seen) i ≤ n) same (r.shows.behind id v (
                  at,
                  live,
                ) no_turn i inside),
              ),
        ),
      )
