-- The turn stays where it is.
use Rattle.std.proofs.Common.{◌≡◌, ◌≢◌, ℕ, List, set, sym, ap, ◌∙◌, subst, ⊎_elim, Option, true, false}
use mathlib.Core.Option.{some}
use mathlib.Core.Option as maybe
use lib.ListN.{get_elem?}
use Rattle.atomic_table.proofs.Lists.{set_else}
use Rattle.turnstile.specs.declared.history.Call.{Call}
use Rattle.turnstile.specs.declared.history.View.{View}
use Rattle.turnstile.specs.View.{has_turn, LivesAt}
use Rattle.turnstile.specs.Turns.{Turns}
use Rattle.turnstile.proofs.ViewLemmas.{live_set, same_view}

module _ {S O A : Type 0} (next : S → O → A → S) (start : S) where
  -- a view without the turn becomes another without it
  pub turns_still : {history : List (Call O A)} {owner word count word' count' : ℕ} {homes : List
      (maybe.Option (Option S))} {views : List (View O A)}
      (r : Turns next start history owner word count homes views) (id : ℕ) (v w : View O A)
      → get_elem? views id ≡ some v → has_turn v.phase ≡ false → has_turn w.phase ≡ false → word' ≡ word
      → count' ≡ count → Turns next start history owner word' count' homes (set views id w)
  turns_still {owner = owner} {views = views} r id v w at idle idle' ew ec = record {
    deep = r.deep;
    counted = ec ∙ r.counted;
    free = λ z. r.free (sym ew ∙ z);
    busy = λ nz. let b = r.busy (λ z. nz (ew ∙ z)) in (
      ew ∙ b.0,
      (
        b.1.0,
        (
          set_else views id owner w
              (λ e. let same : b.1.0 ≡ v = same_view views id b.1.0 v (subst
              (λ (k : ℕ). get_elem? views k ≡ some b.1.0) e b.1.1.0) at in
              let no : true ≡ false = sym b.1.2 ∙ (ap (λ (x : View O A). has_turn x.phase) same ∙ idle) in
              absurd (cc)) ∙ b.1.1.0,
          b.1.1.1,
        ),
        b.1.2,
      ),
    );
    held = λ j u l h. ⊎_elim (λ (t : (j ≡ id) × (w ≡ u)). let no : false ≡ true = sym idle'
        ∙ (ap (λ (x : View O A). has_turn x.phase) t.1 ∙ h) in absurd (cc))
        (λ (t : (j ≢ id) × LivesAt views j u). let o = r.held j u t.1 h in
        (o.0, ew ∙ o.1, o.2)) (live_set views id j w u l);
  }

  -- no other pass has the turn
  pub alone : {history : List (Call O A)} {owner word count : ℕ} {homes : List
      (maybe.Option (Option S))} {views : List (View O A)}
      (r : Turns next start history owner word count homes views) (id j : ℕ) (v u : View O A)
      → LivesAt views id v → has_turn v.phase ≡ true → LivesAt views j u → has_turn u.phase ≡ true → j ≡ id
  alone r id j v u l t m q = (r.held j u m q).0 ∙ sym (r.held id v l t).0
