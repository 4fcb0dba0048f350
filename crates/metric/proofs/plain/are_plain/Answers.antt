use Rattle.std.proofs.Common.{◌≡◌, ◌<◌, ◌≤◌, ◌+◌, ◌&&◌, ℕ, Bool, true, false, cond, nat_eq, List, length, take, get_or}
use Rattle.std.proofs.Common.{refl, ap, ◌∙◌}
use Rattle.std.specs.List.{list_all}
use Rattle.std.specs.Int.Bits.{bit_or}
use Rattle.std.proofs.lemmas.List.{take_all}
use Rattle.std.proofs.lemmas.List.Folds.{list_all_more}
use Rattle.metric.specs.Plain.{is_plain}
use Rattle.metric.proofs.plain.are_plain.Goals as goal

-- two marks together
both : (s t : Bool) → bit_or (cond {A = ℕ} s 48 49) (cond {A = ℕ} t 48 49) ≡ cond {A = ℕ} (s && t) 48 49
both true true = refl
both true false = refl
both false true = refl
both false false = refl

-- what a mark says
says : (t : Bool) → nat_eq (cond {A = ℕ} t 48 49) 48 ≡ t
says true = refl
says false = refl

one_more : (bytes : List ℕ) (i old mark : ℕ) → i < length bytes
    → old ≡ cond {A = ℕ} (list_all is_plain (take i bytes)) 48 49
    → mark ≡ cond {A = ℕ} (is_plain (get_or bytes i 0)) 48 49
    → bit_or old mark ≡ cond {A = ℕ} (list_all is_plain (take (i + 1) bytes)) 48 49
one_more bytes i old mark lt kept is =
    rw (kept, is, list_all_more is_plain bytes i 0 lt) (both (list_all is_plain (take i bytes))
    (is_plain (get_or bytes i 0)))

all_seen : (bytes : List ℕ) (i marks : ℕ) → length bytes ≤ i
    → marks ≡ cond {A = ℕ} (list_all is_plain (take i bytes)) 48 49
    → nat_eq marks 48 ≡ list_all is_plain bytes
all_seen bytes i marks end kept =
    rw kept (says (list_all is_plain (take i bytes))) ∙ ap (list_all is_plain) (take_all i bytes end)

pub loop-b-preserved : goal.loop-b-preserved
loop-b-preserved c = one_more c.args.bytes.now c.loop-b.b-index c.loop-b.marks c.mark_of-marks.result c.loop-b-test.true
    c.loop-b.invariant c.mark_of-marks.ensures

pub returns : goal.returns
returns c = all_seen c.args.bytes.now c.loop-b.b-index c.loop-b.marks c.loop-b-test.false c.loop-b.invariant
