-- A whole call, over plain data.
use Rattle.std.proofs.Common.{◌≡◌, ℕ, ◌+◌, ◌-◌, ◌%◌, ◌^◌, ◌≤◌, List, [], ◌∷◌, ◌++◌, length, get_or, sym, refl, ap}
use Rattle.std.proofs.Common.{◌∙◌, subst, arith, Option, Some, None}
use Rattle.atomic_table.specs.Table.{Me, rest}
use Rattle.turnstile.specs.declared.history.Call.{Call}
use Rattle.turnstile.specs.declared.history.View.{View}
use Rattle.turnstile.specs.declared.history.Phase.TheVariants.{Idle, Holding, Publishing}
use Rattle.turnstile.specs.History.{call_of, calls_by, but_last, replay, IsLegal}
use Rattle.turnstile.specs.View.{with_call}
use Rattle.turnstile.specs.Calls.{HasTurn, Calls}
use Rattle.turnstile.specs.Dials.{NoneFell}
use Rattle.turnstile.proofs.CallerLemmas.{calls_by-append, replay-append, legal-append}
use Rattle.turnstile.proofs.HistoryLemmas.{calls_by-own, but_last-snoc}

-- the value of the slot that was taken last
first_value : {S : Type 0} → List (ℕ × Option S) → Option S
first_value [] = None
first_value (x ∷ xs) = x.1

-- the slot that was taken has the machine
same_head : {S : Type 0} (cs : List (ℕ × Option S)) (x : Option S) (y m : S) → cs ≡ (0, Some y) ∷ []
    → cs ≡ (0, x) ∷ rest cs → x ≡ Some m → y ≡ m
unfolding first_value
same_head cs x y m p q r = let e : Some y ≡ x = ap first_value (sym p ∙ q) in cc

-- who has the turn took the machine out of its home: the view has seen the whole history, and the machine is as that
-- left it
pub taken : {S O A : Type 0} {allows : S → O → A → Type 0} {next : S → O → A → S} {dial_of : S → ℕ → ℕ} {start : S}
    {v : View O A} {me me' : Me (Option S) (View O A)} {cs : List (ℕ × Option S)} {x : Option S} {y : S}
    (won : HasTurn allows next dial_of start v me) → me.1 ≡ (0, x) ∷ rest me.1 → me' ≡ (me.0, cs) → x ≡ Some y
    → (me'.0 ≡ record v { seen = v.seen ++ won.more; phase = Holding })
    × (y ≡ replay next start (v.seen ++ won.more))
taken won home now is =
    (ap (λ m. m.0) now ∙ won.view_is, sym (same_head _ _ _ _ won.holds home is) ∙ won.replayed)

module _ {S O A : Type 0} (allows : S → O → A → Type 0) (next : S → O → A → S) (dial_of : S → ℕ → ℕ) (start : S) where
  -- w1 is the view after the turn was taken, with the machine y; the machine is m' after it did o
  pub machine_after : (v w1 w2 : View O A) (more : List (Call O A)) (y m' : S) (o o' : O) (a : A)
      → w1 ≡ record v { seen = v.seen ++ more; phase = Holding } → y ≡ replay next start (v.seen ++ more)
      → o' ≡ o → m' ≡ next y o a → w2 ≡ with_call (call_of w1.number (o', a)) w1 → m' ≡ replay next start w2.seen
  machine_after v w1 w2 more y m' o o' a e1 ey eo em e2 =
      em ∙ (ap (λ (x : S). next x o a) ey
      ∙ (sym (replay-append allows next start (v.seen ++ more) (call_of v.number (o, a) ∷ []))
      ∙ sym (ap (λ (x : View O A). replay next start x.seen) e2
      ∙ (ap (λ (x : View O A). replay next start (x.seen ++ call_of x.number (o', a) ∷ [])) e1
      ∙ ap (λ (z : O). replay next start ((v.seen ++ more) ++ call_of v.number (z, a) ∷ [])) eo))))

  -- no dial falls
  pub dials_rise_after : (v w1 w2 : View O A) (more : List (Call O A)) (y m' : S) (o o' : O) (a : A)
      → w1 ≡ record v { seen = v.seen ++ more; phase = Holding } → y ≡ replay next start (v.seen ++ more)
      → o' ≡ o → m' ≡ next y o a → w2 ≡ with_call (call_of w1.number (o', a)) w1
      → ((i : ℕ) → dial_of y i ≤ dial_of (next y o a) i) → (i : ℕ)
      → dial_of (replay next start (but_last w2.seen)) i ≤ dial_of (replay next start w2.seen) i
  dials_rise_after v w1 w2 more y m' o o' a e1 ey eo em e2 up i = let m_is =
      machine_after v w1 w2 more y m' o o' a e1 ey eo em e2 in
      let before : but_last w2.seen ≡ v.seen ++ more = ap (λ (x : View O A). but_last x.seen) e2
      ∙ (but_last-snoc w1.seen (call_of w1.number (o', a)) ∙ ap (λ (x : View O A). x.seen) e1) in
      let low : dial_of (replay next start (but_last w2.seen)) i ≡ dial_of y i = ap
      (λ (l : List (Call O A)). dial_of (replay next start l) i) before ∙ ap (λ (x : S). dial_of x i) (sym ey) in
      let high : dial_of (replay next start w2.seen) i ≡ dial_of (next y o a) i = ap
      (λ (x : S). dial_of x i) (sym m_is ∙ em) in let u = up i in omega arith

  -- all steps of a call together
  pub called : (v w1 w2 w3 : View O A) (more : List (Call O A)) (o o' : O) (a : A) (number k : ℕ)
      → w1 ≡ record v { seen = v.seen ++ more; phase = Holding }
      → IsLegal allows next start (v.seen ++ more) → calls_by v.number (v.seen ++ more) ≡ v.mine
      → allows (replay next start (v.seen ++ more)) o a → o' ≡ o
      → w2 ≡ record (with_call (call_of w1.number (o', a)) w1) { phase = Publishing k }
      → number ≡ length w2.seen % 2 ^ 64 → w3 ≡ record w2 { phase = Idle }
      → ((i : ℕ) → get_or v.lowest i 0 ≤ dial_of (replay next start (v.seen ++ more)) i)
      → Calls allows next dial_of start v o a number w3
  called v w1 w2 w3 more o o' a number n e1 legal mine may eo e2 en e3 low =
      let k : Call O A = call_of v.number (o, a) in
      let w : View O A = record v { seen = (v.seen ++ more) ++ k ∷ []; mine = v.mine ++ k ∷ []; phase = Idle } in
      let whole : w3 ≡ w = e3 ∙ (ap (λ (x : View O A). let z : View O A = record x { phase = Idle } in z) e2
      ∙ (ap (λ (x : View O A). let z : View O A =
      record (with_call (call_of x.number (o', a)) x) { phase = Idle } in z) e1
      ∙ ap (λ (z : O). let u : View O A = record v {
        seen = (v.seen ++ more) ++ call_of v.number (z, a) ∷ [];
        mine = v.mine ++ call_of v.number (z, a) ∷ [];
        phase = Idle;
      } in u) eo)) in record {
        more = more;
        view_is = whole;
        allowed = may;
        legal = subst (λ (x : View O A). IsLegal allows next start x.seen) (sym whole)
            (legal-append allows next start (v.seen ++ more) (k ∷ []) legal (may, tt));
        own = subst (λ (x : View O A). calls_by v.number x.seen ≡ x.mine) (sym whole)
            (calls_by-append v.number (v.seen ++ more) (k ∷ [])
            ∙ ap (λ (p : List (Call O A) × List (Call O A)). p.0 ++ p.1)
            (λ i. (mine i, calls_by-own v.number k refl i)));
        counts = en ∙ ap (λ (x : View O A). length x.seen % 2 ^ 64) (sym e3);
        glanced = low;
      }

  -- w is v, and before a dial is published it rose from what was found by what is added
  pub rose : (v w : View O A) (p old new : ℕ) (m : S) → w ≡ v
      → old ≡ dial_of (replay next start (but_last v.seen)) p
      → new ≡ dial_of m p → m ≡ replay next start v.seen → NoneFell next dial_of start v.seen
      → ((new - old) + dial_of (replay next start (but_last w.seen)) p ≡ dial_of (replay next start w.seen) p)
      × (dial_of (replay next start w.seen) p ≡ new)
  rose v w p old new m same before now machine_is none_fell =
      let up = none_fell p in
      let after : new ≡ dial_of (replay next start v.seen) p = now ∙ ap (λ (x : S). dial_of x p) machine_is in
      let low : dial_of (replay next start (but_last w.seen)) p ≡ dial_of (replay next start (but_last v.seen)) p =
      ap (λ (x : View O A). dial_of (replay next start (but_last x.seen)) p) same in
      let high : dial_of (replay next start w.seen) p ≡ dial_of (replay next start v.seen) p =
      ap (λ (x : View O A). dial_of (replay next start x.seen) p) same in
      (omega arith, omega arith)
