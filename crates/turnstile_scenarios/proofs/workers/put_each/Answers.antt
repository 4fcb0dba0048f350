use Rattle.std.proofs.Common.{◌≡◌, ℕ, List, [], ◌∷◌, ◌++◌, refl, ap, ◌∙◌, rules, append_assoc}
use Rattle.turnstile.specs.declared.history.Call.{Call}
use Rattle.turnstile.specs.declared.history.View.{View}
use Rattle.turnstile.specs.Calls.{Calls}
use Rattle.turnstile_scenarios.specs.declared.shelf.Op.{Op}
use Rattle.turnstile_scenarios.specs.declared.shelf.Op.TheVariants.{Put}
use Rattle.turnstile_scenarios.specs.declared.shelf.Answer.{Answer}
use Rattle.turnstile_scenarios.specs.Stock.{Stock}
use Rattle.turnstile_scenarios.specs.Gained.{ArePuts, GainedPuts}
use Rattle.turnstile_scenarios.specs.Shelving.{shelf_allows, shelf_next, shelf_dial}
use Rattle.turnstile_scenarios.proofs.workers.put_each.Goals as goal

-- one put more
puts_more : (cs : List (Call Op Answer)) (c : Call Op Answer) (n : ℕ) → ArePuts cs → c.op ≡ Put n
    → ArePuts (cs ++ c ∷ [])
puts_more [] c n h e = ((n, e), tt)
puts_more (x ∷ xs) c n h e = (h.0, puts_more xs c n h.1 e)

-- a pass that gained puts alone calls a put
gains : (old v w : View Op Answer) (start : Stock) (n : ℕ) (answer : Answer) (number : ℕ) → GainedPuts old v
    → Calls shelf_allows shelf_next shelf_dial start v (Put n) answer number w → GainedPuts old w
gains old v w start n answer number p c =
    let call : Call Op Answer = record { pass = v.number; op = Put n; answer = answer } in (
      p.0 ++ call ∷ [],
      ap (λ (x : View Op Answer). x.mine) c.view_is
          ∙ (ap (λ (l : List (Call Op Answer)). l ++ call ∷ []) p.1 ∙ append_assoc old.mine p.0 (call ∷ [])),
      puts_more p.0 call n p.2 refl,
    )

pub returns-in-Put-Err-clause-gained : goal.returns-in-Put-Err-clause-gained
returns-in-Put-Err-clause-gained g c = gains c.args.pass.now.view c.loop.pass.view c.call-answer.new.pass.view _ _ _ _
    c.loop.invariant.gained c.call-answer.ensures.call

pub loop-preserved-in-Ok-1 : goal.loop-preserved-in-Ok-1
loop-preserved-in-Ok-1 g c = record {
  can = search rules;
  same_table = search rules;
  number = ap (λ v. v.number) c.call-answer.ensures.call.view_is ∙ c.loop.invariant.number;
  gained = gains c.args.pass.now.view c.loop.pass.view c.call-answer.new.pass.view _ _ _ _
      c.loop.invariant.gained c.call-answer.ensures.call;
}

pub loop-preserved : goal.loop-preserved
loop-preserved g c = record {
  can = search rules;
  same_table = search rules;
  number = ap (λ v. v.number) c.call-answer.ensures.call.view_is ∙ c.loop.invariant.number;
  gained = gains c.args.pass.now.view c.loop.pass.view c.call-answer.new.pass.view _ _ _ _
      c.loop.invariant.gained c.call-answer.ensures.call;
}
