use Rattle.std.proofs.Common.{true, min, ◌≡◌, ◌-◌, ◌∙◌, refl, sym, ap, subst, List, [], ℕ, arith}
use Rattle.std.specs.List.{between}
use Rattle.agent_base.specs.Hand.{Hand}
use Rattle.agent_base.specs.Buffered.{hand_of, bytes_of}
use Rattle.agent_base.specs.Cut.{NoEnd, last_line}
use Rattle.agent_base.proofs.BufferLemmas.{kept_is, all_searched}
use Rattle.agent_base.proofs.Cuts.{kept_scanned}
use Rattle.agent_base.proofs.HandLemmas.{passes_over}
use Rattle.agent_base.proofs.buffer.Buffer.pass_over.Goals as goal

-- the hand afterwards
after : Hand → List ℕ → Hand
after old bytes = record { kind = old.kind; bytes = bytes; is_passing = true; taken = old.taken }

pub invariant_of-self-clause-clean : goal.invariant_of-self-clause-clean
invariant_of-self-clause-clean c =
    let s = c.args.self.now in
    let kept = kept_is s.buf.items c.copy_within.new.self.items s.kind s.start s.line s.searched s.end c.min-kept.result
    c.copy_within.ensures.items (c.min-kept.ensures ∙ ap (min (s.end - s.line)) c.sizes.ensures.kept) s.in_line
    c.requires.all (omega arith) s.last in
    subst (NoEnd s.kind) (sym kept) (kept_scanned s.kind (bytes_of s)).clean

pub invariant_of-self-clause-last : goal.invariant_of-self-clause-last
invariant_of-self-clause-last c =
    let s = c.args.self.now in
    let kept = kept_is s.buf.items c.copy_within.new.self.items s.kind s.start s.line s.searched s.end c.min-kept.result
    c.copy_within.ensures.items (c.min-kept.ensures ∙ ap (min (s.end - s.line)) c.sizes.ensures.kept) s.in_line
    c.requires.all (omega arith) s.last in
    subst (λ (l : List ℕ). last_line [] l ≡ l) (sym kept) (kept_scanned s.kind (bytes_of s)).begun

pub returns-clause-same : goal.returns-clause-same
unfolding after
returns-clause-same c =
    let s = c.args.self.now in
    let kept = kept_is s.buf.items c.copy_within.new.self.items s.kind s.start s.line s.searched s.end c.min-kept.result
    c.copy_within.ensures.items (c.min-kept.ensures ∙ ap (min (s.end - s.line)) c.sizes.ensures.kept) s.in_line
    c.requires.all (omega arith) s.last in
    passes_over (hand_of s) (after (hand_of s) (between 0 c.min-kept.result c.copy_within.new.self.items)) refl refl
    (all_searched s.kind s.buf.items s.start s.searched s.end c.requires.all s.clean) kept refl c.requires.long
