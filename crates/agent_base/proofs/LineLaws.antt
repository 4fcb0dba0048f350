-- The pieces of fronts, each with a newline behind it that ends a piece, and of a rest in which none ends.
use Rattle.std.proofs.Common.{◌≡◌, ℕ, true, List, [], ◌∷◌, ◌++◌, map, refl, ap, ◌∙◌, append_assoc}
use Rattle.std.specs.List.{AllByRecursion}
use Rattle.std.proofs.lemmas.List.Concat.{flat_map-cons}
use Rattle.agent_base.specs.declared.piece.CutKind.{CutKind}
use Rattle.agent_base.specs.declared.piece.CutKind.TheVariants.{Lines}
use Rattle.agent_base.specs.Cut.{Cut, cut, ended, unended, ends_piece, last_line, NoNewline, NoEnd}
use Rattle.agent_base.specs.Lines.{text_of}
use Rattle.agent_base.proofs.Cuts.{cut_end, last_hand, none_in_line}

-- no piece ends in a front, and a newline behind it ends one
pub record IsFront (kind : CutKind) (front : List ℕ) : Type 0 where
  pub clean : NoEnd kind front
  pub ends : ends_piece kind (last_line [] front) ≡ true

pub text_of-cons : (front : List ℕ) (fronts : List (List ℕ)) (rest : List ℕ)
    → text_of (front ∷ fronts) rest ≡ front ++ 10 ∷ text_of fronts rest
text_of-cons front fronts rest = rw (flat_map-cons, append_assoc, append_assoc) refl

pub cuts_fronts : (kind : CutKind) (fronts : List (List ℕ)) (rest : List ℕ) → AllByRecursion (IsFront kind) fronts
    → NoEnd kind rest → cut kind (text_of fronts rest) ≡ map (ended kind) fronts ++ unended kind rest
cuts_fronts kind [] rest h k = last_hand kind rest k
cuts_fronts kind (front ∷ fronts) rest h k =
    ap (cut kind) (text_of-cons front fronts rest) ∙ cut_end kind [] [] front (text_of fronts rest) h.0.clean h.0.ends
    ∙ ap (λ (r : List Cut). ended kind front ∷ r) (cuts_fronts kind fronts rest h.1 k)

-- each line ends a piece
pub lines_end : (kind : CutKind) (line : List ℕ) → kind ≡ Lines → ends_piece kind line ≡ true
unfolding ends_piece
lines_end kind line is = ap (λ (k : CutKind). ends_piece k line) is

pub lines_are : (lines : List (List ℕ)) → AllByRecursion NoNewline lines → AllByRecursion (IsFront Lines) lines
lines_are [] h = tt
lines_are (line ∷ lines) h = (
  record {
    clean = none_in_line Lines [] line h.0;
    ends = lines_end Lines (last_line [] line) refl;
  },
  lines_are lines h.1,
)

pub cuts_lines : (lines : List (List ℕ)) (rest : List ℕ) → AllByRecursion NoNewline lines → NoNewline rest
    → cut Lines (text_of lines rest) ≡ map (ended Lines) lines ++ unended Lines rest
cuts_lines lines rest h k = cuts_fronts Lines lines rest (lines_are lines h) (none_in_line Lines [] rest k)
