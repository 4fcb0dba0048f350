-- What the dials show stays as it is, or is raised.
use Rattle.std.proofs.Common.{◌≡◌, ◌≢◌, ℕ, ◌+◌, ◌<◌, ◌≤◌, List, length, get_or, set, sym, ap, ◌∙◌, subst}
use Rattle.std.proofs.Common.{⊎_elim, arith, true, false, get_or-set_other}
use mathlib.Core.Logic.{dite}
use native.Mathlib.Decide.{dec_le}
use Rattle.turnstile.specs.declared.history.Call.{Call}
use Rattle.turnstile.specs.declared.history.View.{View}
use Rattle.turnstile.specs.History.{replay}
use Rattle.turnstile.specs.View.{has_turn, is_live, LivesAt}
use Rattle.turnstile.specs.Dials.{Dials}
use Rattle.turnstile.proofs.ViewLemmas.{live_set}

-- a word below 3 changes
pub apart_words : (words : List ℕ) (k x : ℕ) → k < 3 → (i : ℕ)
    → get_or (set words k x) (3 + i) 0 ≡ get_or words (3 + i) 0
apart_words words k x h i = get_or-set_other words k (3 + i) x 0 (λ e. omega arith)

-- and so no dial falls
pub unraised : (dials : ℕ) (words : List ℕ) (k x : ℕ) → k < 3 → (i : ℕ) → i < dials
    → get_or words (3 + i) 0 ≤ get_or (set words k x) (3 + i) 0
unraised dials words k x h i l = let e = apart_words words k x h i in omega arith

-- a word from 3 on changes
pub dial_word : (words : List ℕ) (p x i : ℕ) → i < 3 → get_or (set words (3 + p) x) i 0 ≡ get_or words i 0
dial_word words p x i h = get_or-set_other words (3 + p) i x 0 (λ e. omega arith)

module _ {O A : Type 0} (dials : ℕ) where
  -- what passes glanced at isn't above what is shown, where no dial falls
  pub low_set : (words words' : List ℕ) (views : List (View O A)) (id : ℕ) (w : View O A)
      → ((i : ℕ) → i < dials → get_or words (3 + i) 0 ≤ get_or words' (3 + i) 0)
      → ((j : ℕ) (v : View O A) → LivesAt views j v
      → (length v.lowest ≡ dials) × ((i : ℕ) → i < dials → get_or v.lowest i 0 ≤ get_or words (3 + i) 0))
      → (is_live w.phase ≡ true
      → (length w.lowest ≡ dials) × ((i : ℕ) → i < dials → get_or w.lowest i 0 ≤ get_or words' (3 + i) 0))
      → (j : ℕ) (v : View O A) → LivesAt (set views id w) j v
      → (length v.lowest ≡ dials) × ((i : ℕ) → i < dials → get_or v.lowest i 0 ≤ get_or words' (3 + i) 0)
  low_set words words' views id w up old mine j v l = ⊎_elim
      (λ (t : (j ≡ id) × (w ≡ v)). subst (λ (x : View O A). (length x.lowest ≡ dials) × ((i : ℕ) → i < dials
      → get_or x.lowest i 0 ≤ get_or words' (3 + i) 0)) t.1
      (mine (ap (λ (x : View O A). is_live x.phase) t.1 ∙ l.1)))
      (λ (t : (j ≢ id) × LivesAt views j v). let o = old j v t.1 in
      (o.0, λ i h. let a = o.1 i h in let b = up i h in omega arith)) (live_set views id j w v l)

module _ {S O A : Type 0} (next : S → O → A → S) (dial_of : S → ℕ → ℕ) (start : S) (dials : ℕ) where
  -- nor is what passes have seen
  pub behind_set : (words words' : List ℕ) (views : List (View O A)) (id : ℕ) (w : View O A)
      → ((i : ℕ) → i < dials → get_or words (3 + i) 0 ≤ get_or words' (3 + i) 0)
      → ((j : ℕ) (v : View O A) → LivesAt views j v → has_turn v.phase ≡ false → (i : ℕ) → i < dials
      → dial_of (replay next start v.seen) i ≤ get_or words (3 + i) 0)
      → (is_live w.phase ≡ true → has_turn w.phase ≡ false → (i : ℕ) → i < dials
      → dial_of (replay next start w.seen) i ≤ get_or words' (3 + i) 0)
      → (j : ℕ) (v : View O A) → LivesAt (set views id w) j v → has_turn v.phase ≡ false → (i : ℕ) → i < dials
      → dial_of (replay next start v.seen) i ≤ get_or words' (3 + i) 0
  behind_set words words' views id w up old mine j v l idle i h = ⊎_elim
      (λ (t : (j ≡ id) × (w ≡ v)). subst
      (λ (x : View O A). dial_of (replay next start x.seen) i ≤ get_or words' (3 + i) 0) t.1
      (mine (ap (λ (x : View O A). is_live x.phase) t.1 ∙ l.1) (ap (λ (x : View O A). has_turn x.phase) t.1
      ∙ idle) i h))
      (λ (t : (j ≢ id) × LivesAt views j v). let a = old j v t.1 idle i h in let b = up i h in
      omega arith) (live_set views id j w v l)

  -- where all is published, each dial word is the dial after the whole history
  pub all_shown : {history before : List (Call O A)} {done : ℕ} {words : List ℕ} {views : List (View O A)}
      (r : Dials next dial_of start dials history before done words views) → before ≡ history → (i : ℕ)
      → i < dials → get_or words (3 + i) 0 ≡ dial_of (replay next start history) i
  all_shown {done = done} r e i h = dite (dec_le done i)
      (λ d. (r.shown i h).1 d ∙ ap (λ (l : List (Call O A)). dial_of (replay next start l) i) e)
      (λ d. (r.shown i h).0 (omega arith))

  -- the same of what the dials show
  pub shows_still : {history before : List (Call O A)} {done : ℕ} {words words' : List ℕ} {views : List
      (View O A)} (r : Dials next dial_of start dials history before done words views) (id : ℕ) (w : View O A)
      → has_turn w.phase ≡ false
      → get_or words' 0 0 ≡ get_or words 0 0
      → ((i : ℕ) → i < dials → get_or words' (3 + i) 0 ≡ get_or words (3 + i) 0)
      → (is_live w.phase ≡ true
      → (length w.lowest ≡ dials) × ((i : ℕ) → i < dials → get_or w.lowest i 0 ≤ get_or words (3 + i) 0))
      → (is_live w.phase ≡ true → (i : ℕ) → i < dials → dial_of (replay next start w.seen) i ≤ get_or words (3 + i) 0)
      → Dials next dial_of start dials history before done words' (set views id w)
  shows_still {words = words} {words' = words'} {views = views} r id w idle ew es lows seen = record {
    grows = r.grows;
    shown = λ i h. let o = r.shown i h in ((λ d. es i h ∙ o.0 d), (λ d. es i h ∙ o.1 d));
    quiet = λ z. r.quiet (sym ew ∙ z);
    holding = λ j u l h. ⊎_elim (λ (t : (j ≡ id) × (w ≡ u)). let no : false ≡ true = sym idle
        ∙ (ap (λ (x : View O A). has_turn x.phase) t.1 ∙ ap has_turn h) in
        absurd (cc)) (λ (t : (j ≢ id) × LivesAt views j u). r.holding j u t.1 h) (live_set views id j w u l);
    publishing = λ j p u l h. ⊎_elim (λ (t : (j ≡ id) × (w ≡ u)). let no : false ≡ true = sym idle
        ∙ (ap (λ (x : View O A). has_turn x.phase) t.1 ∙ ap has_turn h) in
        absurd (cc)) (λ (t : (j ≢ id) × LivesAt views j u). r.publishing j p u t.1 h) (live_set views id j w u l);
    low = low_set dials words words' views id w (λ i h. let e = es i h in
        omega arith) r.low (λ l. let o = lows l in (o.0, λ i h. let a = o.1 i h in let e = es i h in omega arith));
    behind = behind_set words words' views id w (λ i h. let e = es i h in
        omega arith) r.behind (λ l _ i h. let a = seen l i h in let e = es i h in omega arith);
  }
