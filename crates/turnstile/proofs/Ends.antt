-- The first state keeps the rule, and at the end the machine is as the whole history left it.
use Rattle.std.proofs.Common.{◌≡◌, ◌≢◌, ℕ, ◌+◌, ◌<◌, ◌≤◌, List, [], ◌∷◌, ◌++◌, length, get_or, sym, refl, ap, ◌∙◌}
use Rattle.std.proofs.Common.{subst, arith, zero, suc, Option, Some, true, false, replicate}
use mathlib.Core.Option.{some, some-ne-none, some-injective}
use mathlib.Core.Logic.{dite}
use native.Mathlib.Decide.{ℕ_discrete, dec_le}
use lib.ListN.{get_elem?, length-replicate}
use Rattle.atomic_table.specs.Table.{State, opening, Seen}
use Rattle.turnstile.specs.declared.history.Call.{Call}
use Rattle.turnstile.specs.declared.history.View.{View}
use Rattle.turnstile.specs.declared.history.Phase.TheVariants.{Idle, Publishing}
use Rattle.turnstile.specs.History.{calls_by, IsPrefix, replay, IsLegal}
use Rattle.turnstile.specs.View.{has_turn, is_live, first_view}
use Rattle.turnstile.specs.Calls.{Accounts}
use Rattle.turnstile.specs.Numbers.{times, numbers_of, Fits}
use Rattle.turnstile.specs.Rule.{IsKept}
use Rattle.turnstile.proofs.CallerLemmas.{append_nil}
use Rattle.turnstile.proofs.HistoryLemmas.{nil_before, none_after, no_calls}
use Rattle.turnstile.proofs.CountLemmas.{has_times}
use Rattle.turnstile.proofs.ViewLemmas.{same_view}
use Rattle.turnstile.proofs.PassNumbers.{first_index, is_first}

module _ {S O A : Type 0} (allows : S → O → A → Type 0) (next : S → O → A → S) (dial_of : S → ℕ
    → ℕ) (start : S) (dials : ℕ) where
  -- at first there is one pass
  at_start : (id : ℕ) (v : View O A) → get_elem? (first_view {O = O} {A = A} dials ∷ []) id ≡ some v
      → (id ≡ 0) × (first_view dials ≡ v)
  at_start zero v e = (refl, some-injective (first_view dials) v e)
  at_start (suc id) v e = absurd (some-ne-none v (sym e))

  -- nothing was glanced at yet
  zeros : (n i : ℕ) → ◌≡◌ {A = ℕ} (get_or (replicate n 0) i 0) 0
  zeros zero i = refl
  zeros (suc n) zero = refl
  zeros (suc n) (suc i) = zeros n i

  -- a machine whose dials are all 0 begins a turnstile
  pub opens : (words : List ℕ) → length words ≡ 4 + dials → get_or words 0 0 ≡ 0 → get_or words 1 0 ≡ 0
      → get_or words 2 0 ≡ 1 → ((i : ℕ) → i < dials → get_or words (3 + i) 0 ≡ 0)
      → ((i : ℕ) → i < dials → dial_of start i ≡ 0)
      → IsKept allows next dial_of start dials (opening words (Some start ∷ []) (first_view dials))
  opens words wide w0 w1 w2 ws zero_at = record {
    history = [];
    before = [];
    done = 0;
    owner = 0;
    legal = tt;
    wide = wide;
    numbers = record {
      top = first_view dials;
      top_is = (refl, refl);
      top_zero = refl;
      room = w2;
      given = λ n p q. absurd (omega arith);
      not_given = λ n h. refl;
      parted = λ id v l nz. absurd (nz (at_start id v l.0).0);
      apart = λ i j v w l m ne. absurd (ne ((at_start i v l.0).0 ∙ sym (at_start j w m.0).0));
      fits = λ id v l. subst (λ (x : View O A). Fits [] x) (at_start id v l.0).1 record {
        prefix = ([], refl);
        mine_is = refl;
        mine_seen = refl;
      };
      lists = λ k n cs e. absurd (some-ne-none (n, cs) (sym e));
      unused = λ n h. refl;
      fresh = λ d. absurd (cc);
    };
    turns = record {
      deep = refl;
      counted = w1;
      free = λ _. refl;
      busy = λ nz. absurd (nz w0);
      held = λ id v l h. let no : false ≡ true = ap (λ (x : View O A). has_turn x.phase) (at_start id v l.0).1
          ∙ h in absurd (cc);
    };
    shows = record {
      grows = λ i. omega arith;
      shown = λ i h. ((λ n. absurd (omega arith)), λ _. ws i h ∙ sym (zero_at i h));
      quiet = λ _. refl;
      holding = λ id v l h. refl;
      publishing = λ id p v l h. let no : Idle ≡ Publishing p = ap
          (λ (x : View O A). x.phase) (at_start id v l.0).1 ∙ h in absurd (cc);
      low = λ id v l. subst (λ (x : View O A). (length x.lowest ≡ dials) × ((i : ℕ) → i < dials
          → get_or x.lowest i 0 ≤ get_or words (3 + i) 0)) (at_start id v l.0).1
          (length-replicate dials 0, λ i h. let z = zeros dials i in omega arith);
      behind = λ id v l h. subst (λ (x : View O A). (i : ℕ) → i < dials
          → dial_of (replay next start x.seen) i ≤ get_or words (3 + i) 0) (at_start id v l.0).1
          (λ i h. let z = zero_at i h in omega arith);
    };
  }

  -- the first pass, which has joined back every other, knows the whole history, and the machine is at home
  pub ends : (id : ℕ) (v : View O A) (s : State (Option S) (View O A))
      → Seen (IsKept allows next dial_of start dials) id v s → v.phase ≡ Idle → v.number ≡ 0 → v.split ≡ []
      → (get_elem? s.homes 0 ≡ some (some (Some (replay next start v.seen)))) × IsLegal allows next start v.seen
      × Accounts v
  ends id v s h idle zero_is all_back = let r = h.0 in let at = h.1 in
      let live : is_live v.phase ≡ true = ap is_live idle in let ns = r.numbers in
      let here = first_index r.history (get_or s.words 2 0) s.views ns id v (at, live) zero_is in
      let top = is_first r.history (get_or s.words 2 0) s.views ns id v (at, live) zero_is in
      let none_out : ns.top.split ≡ [] = ap (λ (x : View O A). x.split) (sym top) ∙ all_back in
      let free_word : get_or s.words 0 0 ≡ 0 = dite (ℕ_discrete (get_or s.words 0 0) 0) (λ e. e)
      (λ nz. let b = r.turns.busy nz in
      let only : r.owner ≡ 0 = dite (ℕ_discrete r.owner 0) (λ e. e)
      (λ n0. let p = (ns.parted r.owner b.1.0 b.1.1 n0).0 in
      let e : times b.1.0.number ns.top.split ≡ 0 = ap (times b.1.0.number) none_out in absurd (omega arith)) in
      let same : b.1.0 ≡ v = same_view s.views id b.1.0 v (subst
      (λ (k : ℕ). get_elem? s.views k ≡ some b.1.0) (only ∙ sym here) b.1.1.0) at in
      let no : true ≡ false = sym b.1.2 ∙ (ap (λ (x : View O A). has_turn x.phase) same ∙ ap has_turn idle) in
      absurd (cc)) in
      let f = ns.fits id v (at, live) in
      let nothing_left : f.prefix.0 ≡ [] = no_calls f.prefix.0 (λ n. dite (ℕ_discrete n 0)
      (λ e. subst (λ (k : ℕ). calls_by k f.prefix.0 ≡ []) (zero_is
      ∙ sym e) (none_after v.number v.seen r.history v.mine f.prefix f.mine_seen f.mine_is))
      (λ nz. dite (dec_le (get_or s.words 2 0) n)
      (λ d. known_none n v.seen r.history f.prefix (ns.unused n d))
      (λ d. let g = ns.given n (omega arith) (omega arith) in
      let z : times n ns.top.split ≡ 0 = ap (times n) none_out in
      let k = has_times ns.top.joined n (omega arith) in let l = ns.lists k.0 n k.1 k.2 in
      none_after n v.seen r.history k.1 f.prefix (ap (λ (x : View O A). calls_by n x.seen) top ∙ l.1) l.0))) in
      let whole : r.history ≡ v.seen = f.prefix.1
      ∙ (ap (λ (l : List (Call O A)). v.seen ++ l) nothing_left ∙ sym (append_nil v.seen)) in
      let accounts : Accounts v = record {
        own = f.mine_seen;
        theirs = λ k n cs e. ap (λ (x : View O A). calls_by n x.seen) top
            ∙ (ns.lists k n cs (subst (λ (x : View O A). get_elem? x.joined k ≡ some (n, cs)) top e)).1;
        others = λ n ne no. nil_before n v.seen r.history f.prefix
            (ns.unused n (dite (dec_le (get_or s.words 2 0) n) (λ d. d)
            (λ d. let g = ns.given n (positive n v.number ne zero_is) (omega arith) in
            let z : times n ns.top.split ≡ 0 = ap (times n) none_out in
            let j : times n (numbers_of ns.top.joined) ≡ 0 = ap
            (λ (x : View O A). times n (numbers_of x.joined)) (sym top) ∙ no in absurd (omega arith))));
      } in (
        r.turns.free free_word ∙ ap (λ (l : List (Call O A)). some (some (Some (replay next start l)))) whole,
        subst (λ (l : List (Call O A)). IsLegal allows next start l) whole r.legal,
        accounts,
      )
    where
      positive : (n m : ℕ) → n ≢ m → m ≡ 0 → 0 < n
      positive n m ne z = dite (ℕ_discrete n 0) (λ e. absurd (ne (e ∙ sym z))) (λ nz. omega arith)

      known_none : (n : ℕ) (xs history : List (Call O A)) (p : IsPrefix xs history) → calls_by n history ≡ []
          → calls_by n p.0 ≡ []
      known_none n xs history p e = none_after n xs history [] p (nil_before n xs history p e) e
