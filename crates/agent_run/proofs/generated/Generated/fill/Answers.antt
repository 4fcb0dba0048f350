use Rattle.std.proofs.Common.{◌≡◌, ◌≤◌, ◌+◌, ◌-◌, ◌++◌, ◌∙◌, ℕ, List, [], length, take, drop, sym, ap, append_assoc}
use Rattle.std.proofs.Common.{arith, length-drop}
use Rattle.std.proofs.lemmas.List.{append-nil, drop-drop, drop_all, drop_at, length-take-le, take_all, take_at}
use Rattle.std.proofs.Math.Seq.{take-add}
use borrow.Rule.Slice.PartMut.{put_mid, mid_of}
use Rattle.agent_run.proofs.generated.Generated.fill.Goals as goal

-- the front of a buffer has the first bytes of all, and the rest of it is as it was
record IsFilled (all old : List ℕ) (done : ℕ) (buf : List ℕ) : Type 0 where
  pub is : buf ≡ take done all ++ drop done old
  pub within : done ≤ length all
  pub room : done ≤ length buf

-- all that is behind an index of a buffer
whole_rest : (done : ℕ) (buf : List ℕ) → mid_of done (length buf - done) buf ≡ drop done buf
whole_rest done buf = take_all (length buf - done) (drop done buf) (omega (arith, length-drop done buf))

-- the next bytes were moved to the front of the buffer's rest
filled : (all old buf rest part : List ℕ) (done count : ℕ) → IsFilled all old done buf → rest ≡ drop done all
    → count ≤ length rest → part ≡ take count rest ++ drop count (mid_of done (length buf - done) buf)
    → put_mid done (length buf - done) buf part ≡ take (done + count) all ++ drop (done + count) old
filled all old buf rest part done count f e le h =
    let front : List ℕ = take done all in
    let behind : List ℕ = drop done old in
    let more : List ℕ = take count (drop done all) in
    let after : List ℕ = drop (done + count) old in
    let long : length front ≡ done = length-take-le done all f.within in
    let first : take done buf ≡ front = ap (take done) f.is ∙ take_at front behind done long in
    let second : mid_of done (length buf - done) buf ≡ behind =
    whole_rest done buf ∙ ap (drop done) f.is ∙ drop_at front behind done long in
    let none : drop (length buf - done) (drop done buf) ≡ [] =
    drop_all (length buf - done) (drop done buf) (omega (arith, length-drop done buf)) in
    let given : part ≡ more ++ after =
    h ∙ ap (λ (l : List ℕ). take count rest ++ drop count l) second
    ∙ ap (λ (l : List ℕ). take count l ++ drop count behind) e
    ∙ ap (λ (l : List ℕ). more ++ l) (drop-drop count done old) in
    ap (λ (l : List ℕ). l ++ (part ++ drop (length buf - done) (drop done buf))) first
    ∙ ap (λ (l : List ℕ). front ++ (part ++ l)) none ∙ ap (λ (l : List ℕ). front ++ l) (append-nil part ∙ given)
    ∙ sym (append_assoc front more after) ∙ ap (λ (l : List ℕ). l ++ after) (sym (take-add done count all))

pub loop-done-preserved : goal.loop-done-preserved
loop-done-preserved c =
    let l = c.loop-done in
    let r = c.give-count in
    let i = c.loop-done.invariant in
    let all = c.args.self.now in
    let rest : length l.self ≡ length all - l.done = ap length i.left ∙ length-drop l.done all in
    let part : length (mid_of l.done (length l.buf - l.done) l.buf) ≡ length l.buf - l.done =
    ap length (whole_rest l.done l.buf) ∙ length-drop l.done l.buf in
    record {
      within = omega (arith, r.ensures.within);
      room = omega (arith, r.ensures.room);
      given = filled all c.args.buf.now l.buf l.self r.new.buf l.done r.result
          (record { is = i.given; within = i.within; room = omega arith }) i.left r.ensures.within r.ensures.given;
      left = r.ensures.left ∙ ap (drop r.result) i.left ∙ drop-drop r.result l.done all;
    }
