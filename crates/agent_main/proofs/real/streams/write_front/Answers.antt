use Rattle.std.proofs.Common.{◌≤◌, ℕ, ◌+◌, ◌-◌, List, take, drop, length, sym, ap, ◌∙◌, subst, arith}
use Rattle.std.specs.Prelude.{Option}
use Rattle.std.specs.Io.KnownBytes.{Appends}
use Rattle.std.proofs.KnownBytes.{Appends-trans, Appends-kept}
use Rattle.std.proofs.Math.Seq.{take-add}
use Rattle.std.proofs.lemmas.List.{take_rest, length-drop}
use Rattle.agent_main.proofs.real.streams.write_front.Goals.{in-Ok, in-Err+else-not-is_made_again}
use Rattle.agent_main.proofs.real.streams.write_front.Goals as goal

-- the next bytes of the rest were written
moved : (a b c : Option (List ℕ)) (bytes : List ℕ) (count more : ℕ) → count ≤ length bytes
    → more ≤ length (take (length bytes - count) (drop count bytes)) → Appends a b (take count bytes)
    → Appends b c (take more (take (length bytes - count) (drop count bytes)))
    → (count + more ≤ length bytes) × Appends a c (take (count + more) bytes)
moved a b c bytes count more within most before now =
    let rest = take_rest bytes count in
    let written : Appends b c (take more (drop count bytes)) = subst (λ l. Appends b c (take more l)) rest now in
    let fewer : more ≤ length bytes - count = subst (λ n. more ≤ n) (ap length rest ∙ length-drop count bytes) most in
    (omega arith, subst (Appends a c) (sym (take-add count more bytes)) (Appends-trans a b c _ _ before written))

pub loop-preserved : goal.loop-preserved
loop-preserved g c =
    let bytes = c.args.bytes.now in
    let told = g.W.Write.contents in
    let Holds : ℕ → Type 0 = λ n. (n ≤ length bytes) × Appends (told c.args.to.now) (told c.write.new.self)
    (take n bytes) in
    elim c.match-write.branch [
      | in-Ok w ↦ subst Holds (sym w.count-is) (moved _ _ _ bytes c.loop.count w.in-Ok.more c.loop.invariant.0
          w.in-Ok.ensures.bound c.loop.invariant.1 w.in-Ok.ensures.bytes)
      | in-Err+else-not-is_made_again w ↦ subst Holds (sym w.count-is)
          (c.loop.invariant.0, Appends-kept _ _ _ _ c.loop.invariant.1 w.in-Err.ensures.bytes)
    ]
