-- Taking the turn, adding a call, giving the turn up, and counting who waits keep the rule.
use Rattle.std.proofs.Common.{◌≡◌, ◌≢◌, ℕ, ◌+◌, ◌%◌, ◌^◌, ◌<◌, ◌≤◌, eqb, List, [], ◌∷◌, ◌++◌, length, get_or}
use Rattle.std.proofs.Common.{set, sym, refl, ap, ◌∙◌, subst, ⊎_elim, arith, Option, Some, true, false, length-set}
use Rattle.std.proofs.Common.{length-append, get_or-set_other, get_or-set_same}
use mathlib.Core.Option.{none, some}
use mathlib.Core.Logic.{dite}
use native.Mathlib.Decide.{dec_le}
use lib.ListN.{get_elem?}
use lib.Seq.{set-get_or}
use Rattle.std.proofs.Math.Nat.{mod-add-mod}
use prog.Atomic.{either}
use Rattle.atomic_table.specs.Table.{State, Me, step, Act, keeps, takes, gives, stepped, carried_after, put_back}
use Rattle.atomic_table.specs.Table.{Valid, Allows, rest}
use Rattle.atomic_table.proofs.Lists.{set_here, set_again, exchanged}
use Rattle.turnstile.specs.declared.history.Call.{Call}
use Rattle.turnstile.specs.declared.history.View.{View}
use Rattle.turnstile.specs.declared.history.Phase.TheVariants.{Idle, Holding, Publishing}
use Rattle.turnstile.specs.History.{call_of, calls_by, IsPrefix, replay, IsLegal}
use Rattle.turnstile.specs.View.{has_turn, is_live, with_call, LivesAt}
use Rattle.turnstile.specs.Numbers.{Numbers}
use Rattle.turnstile.specs.Turns.{Acquired, Committed, Released, Waited}
use Rattle.turnstile.specs.Rule.{IsKept}
use Rattle.turnstile.proofs.CallerLemmas.{calls_by-append, prefix_more, append_nil, prefix_refl, replay-append}
use Rattle.turnstile.proofs.CallerLemmas.{legal-append}
use Rattle.turnstile.proofs.HistoryLemmas.{calls_by-own, calls_by-other, but_last-snoc}
use Rattle.turnstile.proofs.ListLemmas.{beyond}
use Rattle.turnstile.proofs.ViewLemmas.{live_set, there}
use Rattle.turnstile.proofs.NumberLemmas.{moves, renumber}
use Rattle.turnstile.proofs.RuleLemmas.{goes_on}
use Rattle.turnstile.proofs.TurnLemmas.{turns_still, alone}
use Rattle.turnstile.proofs.DialLemmas.{apart_words, unraised, low_set, behind_set, all_shown, shows_still}

module _ {S O A : Type 0} (allows : S → O → A → Type 0) (next : S → O → A → S) (dial_of : S → ℕ
    → ℕ) (start : S) (dials : ℕ) where
  -- the rule
  abbrev pub Ruled : State (Option S) (View O A) → Type 0
  Ruled = IsKept allows next dial_of start dials

  -- the turn is taken where it is free
  pub acquires : (slots id : ℕ) (me : Me (Option S) (View O A)) (told : Option S) → told ≡ Some start
      → is_live me.0.phase ≡ true → me.1 ≡ []
      → Allows (IsKept allows next dial_of start dials) slots id me 0
      (λ n. either (eqb n 0) 1 n) (Acquired allows next dial_of told (step slots 0 0 1 none) me)
  acquires slots id me told is live bare s r long at small = exchanged (get_or s.words 0 0) 0 1
      (λ (x : ℕ). (w : View O A) × (a : Act (Option S)) × Valid s.homes me.1 a × Ruled (stepped s 0 x id me.1 w a)
      × Acquired allows next dial_of told (step slots 0 0 1 none) me (get_or s.words 0 0) (
        w,
        carried_after me.1 a,
      )) hit miss
    where
      v : View O A
      v = me.0

      hit : get_or s.words 0 0 ≡ 0 → (w : View O A) × (a : Act (Option S)) × Valid s.homes me.1 a
          × Ruled (stepped s 0 1 id me.1 w a)
          × Acquired allows next dial_of told (step slots 0 0 1 none) me (get_or s.words 0 0) (
            w,
            carried_after me.1 a,
          )
      hit z = let f = r.numbers.fits id v (at, live) in let more : List (Call O A) = f.prefix.0 in
          let whole : r.history ≡ v.seen ++ more = f.prefix.1 in let quiet : r.before ≡ r.history = r.shows.quiet z in
          let w : View O A = record v { seen = v.seen ++ more; phase = Holding } in
          let y : S = replay next start r.history in (
            w,
            takes 0 (Some y),
            r.turns.free z,
            record {
              history = r.history;
              before = r.history;
              done = 0;
              owner = id;
              legal = r.legal;
              wide = rw (length-set s.words 0 1) r.wide;
              numbers = renumber s.words r.history 0 1 (set s.views id w)
                  (λ e. omega arith) (moves r.history r.history (get_or s.words 2 0) s.views r.numbers id v w
                  (at, live) refl refl refl refl (λ e. cc)
                  (λ xs p. p) record {
                    prefix = subst
                        (λ (l : List (Call O A)). IsPrefix l r.history) whole (prefix_refl r.history);
                    mine_is = f.mine_is;
                    mine_seen = ap (λ (l : List (Call O A)). calls_by v.number l) (sym whole) ∙ f.mine_is;
                  }
                  (λ n ne. refl) (λ n cs ne in_log in_seen. ap
                  (λ (l : List (Call O A)). calls_by n l) (sym whole) ∙ in_log));
              turns = record {
                deep = length-set s.homes 0 none ∙ r.turns.deep;
                counted = get_or-set_other s.words 0 1 1 0 (λ e. omega arith) ∙ r.turns.counted;
                free = λ e. let one : get_or (set s.words 0 1) 0 0 ≡ 1 = get_or-set_same s.words 0 1 0
                    (let h = r.wide in omega arith) in absurd (omega arith);
                busy = λ _. (
                  get_or-set_same s.words 0 1 0 (let h = r.wide in omega arith),
                  (w, (set_here s.views id w (there s.views id v at), refl), refl),
                );
                held = λ j u l h. ⊎_elim
                    (λ (t : (j ≡ id) × (w ≡ u)). (
                      t.0,
                      get_or-set_same s.words 0 1 0 (let h = r.wide in
                          omega arith),
                      ap (λ (x : View O A). x.seen) (sym t.1) ∙ sym whole,
                    ))
                    (λ (t : (j ≢ id) × LivesAt s.views j u). let old = r.turns.held j u t.1 h in
                    absurd (omega arith)) (live_set s.views id j w u l);
              };
              shows = record {
                grows = λ i. omega arith;
                shown = λ i h. (
                  (λ none_yet. absurd (omega arith)),
                  λ _. apart_words s.words 0 1 (omega arith) i
                      ∙ all_shown next dial_of start dials r.shows quiet i h,
                );
                quiet = λ _. refl;
                holding = λ j u l h. refl;
                publishing = λ j p u l h. ⊎_elim
                    (λ (t : (j ≡ id) × (w ≡ u)). let no : Holding ≡ Publishing p = ap
                    (λ (x : View O A). x.phase) t.1 ∙ h in absurd (cc))
                    (λ (t : (j ≢ id) × LivesAt s.views j u). let old = r.turns.held j u t.1 (ap has_turn h) in
                    absurd (omega arith)) (live_set s.views id j w u l);
                low = low_set dials s.words (set s.words 0 1) s.views id w
                    (unraised dials s.words 0 1 (omega arith)) r.shows.low
                    (λ _. let o = r.shows.low id v (at, live) in
                    (o.0, λ i h. let a = o.1 i h in let b = apart_words s.words 0 1 (omega arith) i in omega arith));
                behind = behind_set next dial_of start dials s.words (set s.words 0 1) s.views id w
                    (unraised dials s.words 0 1 (omega arith)) r.shows.behind (λ _ h. absurd (cc));
              };
            },
            λ s' is'. let same : start ≡ s' = cc in (
              λ _. record {
                more = more;
                machine = y;
                view_is = refl;
                holds = ap (λ (cs : List (ℕ × Option S)). (0, Some y) ∷ cs) bare;
                replayed = ap (λ (t : S × List (Call O A)). replay next t.0 t.1) (λ i. (same i, whole i));
                legal = subst (λ (t : S × List (Call O A)). IsLegal allows next t.0 t.1)
                    (λ i. (same i, whole i)) r.legal;
                own = ap (λ (l : List (Call O A)). calls_by v.number l) (sym whole) ∙ f.mine_is;
                glanced = λ i. let o = r.shows.low id v (at, live) in
                    dite (dec_le dials i)
                    (λ d. let e : get_or v.lowest i 0 ≡ 0 = beyond v.lowest i (omega arith) in omega arith)
                    (λ d. let a = o.1 i (omega arith) in
                    let b = all_shown next dial_of start dials r.shows quiet i (omega arith) in omega arith);
              },
              λ nz. absurd (nz z),
            ),
          )

      miss : get_or s.words 0 0 ≢ 0 → (w : View O A) × (a : Act (Option S)) × Valid s.homes me.1 a
          × Ruled (stepped s 0 (get_or s.words 0 0) id me.1 w a)
          × Acquired allows next dial_of told (step slots 0 0 1 none) me (get_or s.words 0 0) (
            w,
            carried_after me.1 a,
          )
      miss nz = (
        v,
        keeps,
        tt,
        subst (λ (t : List ℕ × List (View O A)). Ruled record { words = t.0; homes = s.homes; views = t.1 })
            (λ i. (sym (set-get_or s.words 0 0) i, sym (set_again s.views id v at) i)) r,
        λ s' is'. (λ z. absurd (nz z), λ _. refl),
      )

  -- a call is added to the history
  pub commits : (slots id : ℕ) (me : Me (Option S) (View O A)) (said : Option (O × A)) (t : O × A)
      → said ≡ Some t → me.0.phase ≡ Holding → allows (replay next start me.0.seen) t.0 t.1
      → ((x : S) (o : O) (a : A) (n : ℕ) → allows x o a → dial_of x n ≤ dial_of (next x o a) n)
      → Allows (IsKept allows next dial_of start dials) slots id me 1
      (λ n. (n + 1) % 2 ^ 64) (Committed said (step slots 1 1 0 none) me)
  commits slots id me said t is holding may dials_rise s r long at small =
      let v : View O A = me.0 in let c : Call O A = call_of v.number t in let w : View O A = with_call c v in
      let live : is_live v.phase ≡ true = ap is_live holding in
      let turn : has_turn v.phase ≡ true = ap has_turn holding in
      let f = r.numbers.fits id v (at, live) in let mine = r.turns.held id v (at, live) turn in
      let seen : v.seen ≡ r.history = mine.2 in
      let history' : List (Call O A) = r.history ++ c ∷ [] in
      let may' : allows (replay next start r.history) t.0 t.1 = subst
      (λ (l : List (Call O A)). allows (replay next start l) t.0 t.1) seen may in
      let same_before : r.before ≡ r.history = r.shows.holding id v (at, live) holding in
      let x : ℕ = (get_or s.words 1 0 + 1) % 2 ^ 64 in let wide = r.wide in
      let word : get_or (set s.words 1 x) 0 0 ≡ get_or s.words 0 0 = get_or-set_other s.words 1 0 x 0
      (λ e. omega arith) in
      let own : calls_by v.number (c ∷ []) ≡ c ∷ [] = calls_by-own v.number c refl in
      let none_of : (n : ℕ) → n ≢ v.number
      → calls_by n (c ∷ []) ≡ [] = λ n ne. calls_by-other n c (λ e. ne (sym e)) in (
        w,
        keeps,
        tt,
        record {
          history = history';
          before = r.history;
          done = 0;
          owner = r.owner;
          legal = legal-append allows next start r.history (c ∷ []) r.legal (may', tt);
          wide = rw (length-set s.words 1 x) r.wide;
          numbers = renumber s.words history' 1 x (set s.views id w)
              (λ e. omega arith) (moves r.history history' (get_or s.words 2 0) s.views r.numbers id v w (
                at,
                live,
              ) refl refl refl refl (λ e. cc)
              (λ xs p. prefix_more xs r.history (c ∷ []) p)
              record {
                prefix = subst (λ (l : List (Call O A)). IsPrefix (l ++ c ∷ []) history') (sym seen)
                    (prefix_refl history');
                mine_is = calls_by-append v.number r.history (c ∷ [])
                    ∙ ap (λ (p : List (Call O A) × List (Call O A)). p.0 ++ p.1) (λ i. (f.mine_is i, own i));
                mine_seen = calls_by-append v.number v.seen (c ∷ [])
                    ∙ ap (λ (p : List (Call O A) × List (Call O A)). p.0 ++ p.1) (λ i. (f.mine_seen i, own i));
              }
              (λ n ne. calls_by-append n r.history (c ∷ [])
              ∙ (ap (λ (l : List (Call O A)). calls_by n r.history ++ l) (none_of n ne)
              ∙ sym (append_nil (calls_by n r.history))))
              (λ n cs ne in_log in_seen. calls_by-append n v.seen (c ∷ [])
              ∙ (ap (λ (l : List (Call O A)). calls_by n v.seen ++ l) (none_of n ne)
              ∙ (sym (append_nil (calls_by n v.seen)) ∙ in_seen))));
          turns = record {
            deep = r.turns.deep;
            counted = get_or-set_same s.words 1 x 0 (omega arith)
                ∙ (ap (λ (k : ℕ). (k + 1) % 2 ^ 64) r.turns.counted
                ∙ (mod-add-mod (length r.history) (2 ^ 64) 1
                ∙ ap (λ (k : ℕ). k % 2 ^ 64) (sym (length-append r.history (c ∷ [])))));
            free = λ z. let one = mine.1 in absurd (omega arith);
            busy = λ _. (
              word ∙ mine.1,
              (
                w,
                subst (λ (k : ℕ). LivesAt (set s.views id w) k w) mine.0
                    (set_here s.views id w (there s.views id v at), refl),
                refl,
              ),
            );
            held = λ j u l h. ⊎_elim
                (λ (p : (j ≡ id) × (w ≡ u)). (
                  p.0 ∙ mine.0,
                  word ∙ mine.1,
                  ap (λ (x : View O A). x.seen) (sym p.1) ∙ ap (λ (l : List (Call O A)). l ++ c ∷ []) seen,
                ))
                (λ (p : (j ≢ id) × LivesAt s.views j u). absurd (p.0 ((r.turns.held j u p.1 h).0 ∙ sym mine.0)))
                (live_set s.views id j w u l);
          };
          shows = record {
            grows = λ i. let a = dials_rise (replay next start r.history) t.0 t.1 i may' in
                let e : dial_of (replay next start history') i ≡ dial_of
                (next (replay next start r.history) t.0 t.1) i = ap
                (λ (x : S). dial_of x i) (replay-append allows next start r.history (c ∷ [])) in omega arith;
            shown = λ i h. (
              (λ none_yet. absurd (omega arith)),
              λ _. apart_words s.words 1 x (omega arith) i
                  ∙ all_shown next dial_of start dials r.shows same_before i h,
            );
            quiet = λ z. let one = mine.1 in absurd (omega arith);
            holding = λ j u l h. ⊎_elim (λ (p : (j ≡ id) × (w ≡ u)). let no : Publishing 0 ≡ Holding = ap
                (λ (z : View O A). z.phase) p.1 ∙ h in absurd (cc))
                (λ (p : (j ≢ id) × LivesAt s.views j u). absurd
                (p.0 (alone next start r.turns id j v u (at, live) turn p.1 (ap has_turn h))))
                (live_set s.views id j w u l);
            publishing = λ j p u l h. ⊎_elim
                (λ (q : (j ≡ id) × (w ≡ u)). let same : Publishing 0 ≡ Publishing p = ap
                (λ (z : View O A). z.phase) q.1 ∙ h in (cc, sym (but_last-snoc r.history c)))
                (λ (q : (j ≢ id) × LivesAt s.views j u). absurd
                (q.0 (alone next start r.turns id j v u (at, live) turn q.1 (ap has_turn h))))
                (live_set s.views id j w u l);
            low = low_set dials s.words (set s.words 1 x) s.views id w
                (unraised dials s.words 1 x (omega arith)) r.shows.low
                (λ _. let o = r.shows.low id v (at, live) in
                (o.0, λ i h. let a = o.1 i h in let b = apart_words s.words 1 x (omega arith) i in omega arith));
            behind = behind_set next dial_of start dials s.words (set s.words 1 x) s.views id w
                (unraised dials s.words 1 x (omega arith)) r.shows.behind (λ _ h. absurd (cc));
          };
        },
        λ t' is'. let same : t ≡ t' = cc in (
          ap (λ (z : O × A). with_call (call_of v.number z) v) same,
          refl,
          r.turns.counted ∙ ap (λ (l : List (Call O A)). length l % 2 ^ 64) (sym seen),
        ),
      )

  -- the turn is given up, with the machine as the history left it
  pub releases : (slots id : ℕ) (me : Me (Option S) (View O A)) (y : S) (p n : ℕ) → me.0.phase ≡ Publishing p
      → dials ≤ p → me.1 ≡ (0, Some y) ∷ [] → y ≡ replay next start me.0.seen
      → Allows (IsKept allows next dial_of start dials) slots id me 0 (λ _. 0)
      (λ _. Released (step slots 0 0 0 none) me n)
  releases slots id me y p n publishing all carried right s r long at small =
      let v : View O A = me.0 in let w : View O A = record v { phase = Idle } in
      let live : is_live v.phase ≡ true = ap is_live publishing in
      let turn : has_turn v.phase ≡ true = ap has_turn publishing in
      let done = r.shows.publishing id p v (at, live) publishing in
      let f = r.numbers.fits id v (at, live) in let mine = r.turns.held id v (at, live) turn in let wide = r.wide in
      let zero_is : get_or (set s.words 0 0) 0 0 ≡ 0 = get_or-set_same s.words 0 0 0 (omega arith) in
      let deep = r.turns.deep in
      let published_all : (i : ℕ) → i < dials
      → get_or s.words (3 + i) 0 ≡ dial_of (replay next start r.history) i = λ i h. (r.shows.shown i h).0
      (let d : r.done ≡ p = done.0 in omega arith) in
      let y_is : y ≡ replay next start r.history = right
      ∙ ap (λ (l : List (Call O A)). replay next start l) mine.2 in (
        w,
        gives,
        tt,
        record {
          history = r.history;
          before = r.history;
          done = 0;
          owner = r.owner;
          legal = r.legal;
          wide = rw (length-set s.words 0 0) r.wide;
          numbers = renumber s.words r.history 0 0 (set s.views id w)
              (λ e. omega arith) (moves r.history r.history (get_or s.words 2 0) s.views r.numbers id v w (
                at,
                live,
              ) refl refl refl refl (λ e. cc)
              (λ xs p. p) record { prefix = f.prefix; mine_is = f.mine_is; mine_seen = f.mine_seen }
              (λ n ne. refl) (λ n cs ne in_log in_seen. in_seen));
          turns = record {
            deep = subst (λ (cs : List (ℕ × Option S)). length (put_back s.homes cs) ≡ 1) (sym carried)
                (length-set s.homes 0 (some (Some y)) ∙ r.turns.deep);
            counted = get_or-set_other s.words 0 1 0 0 (λ e. omega arith) ∙ r.turns.counted;
            free = λ _. subst
                (λ (cs : List (ℕ × Option S)). get_elem? (put_back s.homes cs) 0 ≡ some
                (some (Some (replay next start r.history)))) (sym carried)
                (set_here s.homes 0 (some (Some y)) (omega arith) ∙ ap (λ (x : S). some (some (Some x))) y_is);
            busy = λ nz. absurd (nz zero_is);
            held = λ j u l h. ⊎_elim
                (λ (p : (j ≡ id) × (w ≡ u)). let no : false ≡ true = ap (λ (x : View O A). has_turn x.phase) p.1
                ∙ h in absurd (cc))
                (λ (p : (j ≢ id) × LivesAt s.views j u). absurd (p.0 ((r.turns.held j u p.1 h).0 ∙ sym mine.0)))
                (live_set s.views id j w u l);
          };
          shows = record {
            grows = λ i. omega arith;
            shown = λ i h. (
              (λ none_yet. absurd (omega arith)),
              λ _. apart_words s.words 0 0 (omega arith) i
                  ∙ published_all i h,
            );
            quiet = λ _. refl;
            holding = λ j u l h. refl;
            publishing = λ j q u l h. ⊎_elim (λ (t : (j ≡ id) × (w ≡ u)). let no : Idle ≡ Publishing q = ap
                (λ (z : View O A). z.phase) t.1 ∙ h in absurd (cc))
                (λ (t : (j ≢ id) × LivesAt s.views j u). absurd
                (t.0 (alone next start r.turns id j v u (at, live) turn t.1 (ap has_turn h))))
                (live_set s.views id j w u l);
            low = low_set dials s.words (set s.words 0 0) s.views id w
                (unraised dials s.words 0 0 (omega arith)) r.shows.low
                (λ _. let o = r.shows.low id v (at, live) in
                (o.0, λ i h. let a = o.1 i h in let b = apart_words s.words 0 0 (omega arith) i in omega arith));
            behind = behind_set next dial_of start dials s.words (set s.words 0 0) s.views id w
                (unraised dials s.words 0 0 (omega arith)) r.shows.behind
                (λ _ _ i h. let e : dial_of (replay next start v.seen) i ≡ dial_of
                (replay next start r.history) i = ap
                (λ (l : List (Call O A)). dial_of (replay next start l) i) mine.2 in
                let a = apart_words s.words 0 0 (omega arith) i in let b = published_all i h in omega arith);
          };
        },
        (refl, subst (λ (cs : List (ℕ × Option S)). Rattle.atomic_table.specs.Table.rest cs ≡ []) (sym carried) refl),
      )

  -- the word that counts who waits changes, and the pass knows what it knew
  pub waits : (slots id word k : ℕ) (me : Me (Option S) (View O A)) (f : ℕ → ℕ) → word ≡ 3 + dials → me.0.phase ≡ Idle
      → Allows (IsKept allows next dial_of start dials) slots id me word f (Waited (step slots word k 0 none) me)
  waits slots id word k me f last idle s r long at small =
      let v : View O A = me.0 in let x : ℕ = f (get_or s.words word 0) in
      let live : is_live v.phase ≡ true = ap is_live idle in
      let no_turn : has_turn v.phase ≡ false = ap has_turn idle in
      let Numbered : List (View O A) → Type 0 = λ views. Numbers r.history (get_or s.words 2 0) views in
      let o = r.shows.low id v (at, live) in (
        v,
        keeps,
        tt,
        goes_on r (length-set s.words word x)
            (renumber s.words r.history word x (set s.views id v)
            (λ e. omega arith) (subst Numbered (sym (set_again s.views id v at)) r.numbers))
            (turns_still next start r.turns id v v at no_turn no_turn
            (get_or-set_other s.words word 0 x 0 (λ e. omega arith)) (get_or-set_other s.words word 1 x 0
            (λ e. omega arith)))
            (shows_still next dial_of start dials r.shows id v no_turn (get_or-set_other s.words word 0 x 0
            (λ e. omega arith))
            (λ i h. get_or-set_other s.words word (3 + i) x 0 (λ e. omega arith)) (λ _. o)
            (λ _ i h. r.shows.behind id v (at, live) no_turn i h)),
        refl,
      )
