-- Texts as expositions and a rest.
use Rattle.std.proofs.Common.{◌≡◌, ℕ, Bool, true, false, List, [], ◌∷◌, ◌++◌, map, refl, sym, ap, ◌∙◌, append_assoc}
use Rattle.std.specs.Prelude.{codes}
use Rattle.std.specs.List.{AllByRecursion}
use Rattle.std.specs.Str.{bytes_eq}
use Rattle.std.proofs.lemmas.Slice.Eq.{bytes_eq-Decides}
use Rattle.agent_base.specs.declared.piece.CutKind.{CutKind}
use Rattle.agent_base.specs.declared.piece.CutKind.TheVariants.{Expositions}
use Rattle.agent_base.specs.Cut.{cut, ended, unended, ends_piece, has_end, last_line, NoNewline, Scanned}
use Rattle.agent_base.specs.Lines.{text_of, IsOtherLine, IsBehindOthers, IsExposition, IsOpen, HasExpositions}
use Rattle.agent_base.proofs.Cuts.{end_behind, last_behind, none_in_line, line_in_line}
use Rattle.agent_base.proofs.LineLaws.{IsFront, text_of-cons, cuts_fronts}
use Rattle.agent_base.proofs.RestLemmas.{has_lines}

-- ---- the pieces

-- a line that ends no piece before a text
line_first : (kind : CutKind) (line text last : List ℕ) → NoNewline line → ends_piece kind line ≡ false
    → Scanned kind text last → Scanned kind (line ++ 10 ∷ text) last
unfolding has_end last_line
line_first kind line text last clean other s = record {
  clean = end_behind kind [] line (10 ∷ text) (none_in_line kind [] line clean)
      ∙ rw (line_in_line [] line clean, other) s.clean;
  begun = last_behind [] line (10 ∷ text) ∙ s.begun;
}

other_ends : (line : List ℕ) → bytes_eq line (codes "# EOF") ≡ false → ends_piece Expositions line ≡ false
unfolding ends_piece
other_ends line h = h

others_scanned : (others : List (List ℕ)) (last : List ℕ) → AllByRecursion IsOtherLine others → NoNewline last
    → Scanned Expositions (text_of others last) last
others_scanned [] last h k = record { clean = none_in_line Expositions [] last k; begun = line_in_line [] last k }
others_scanned (line ∷ others) last h k = rw (text_of-cons line others last)
    (line_first Expositions line (text_of others last) last h.0.clean (other_ends line h.0.other)
    (others_scanned others last h.1 k))

pub scanned_behind : (text last : List ℕ) → NoNewline last → IsBehindOthers text last → Scanned Expositions text last
scanned_behind text last k h = rw (h.is) (others_scanned h.others last h.are_others k)

last_ends : ends_piece Expositions (codes "# EOF") ≡ true
unfolding ends_piece
last_ends = refl

pub fronts_are : (fronts : List (List ℕ)) → AllByRecursion IsExposition fronts
    → AllByRecursion (IsFront Expositions) fronts
fronts_are [] h = tt
fronts_are (front ∷ fronts) h =
    let s = scanned_behind front (codes "# EOF") refl h.0 in
    (record { clean = s.clean; ends = ap (ends_piece Expositions) s.begun ∙ last_ends }, fronts_are fronts h.1)

pub cuts_expositions : (fronts : List (List ℕ)) (rest : List ℕ) → AllByRecursion IsExposition fronts → IsOpen rest
    → cut Expositions (text_of fronts rest) ≡ map (ended Expositions) fronts ++ unended Expositions rest
cuts_expositions fronts rest h k = let s = scanned_behind rest k.last k.clean k.behind in
    cuts_fronts Expositions fronts rest (fronts_are fronts h) s.clean

-- ---- each text

-- an exposition of its last line alone
ends_at : (line text : List ℕ) → line ≡ codes "# EOF" → HasExpositions text → HasExpositions (line ++ 10 ∷ text)
ends_at line text e h = record {
  fronts = line ∷ h.fronts;
  rest = h.rest;
  are_expositions = (record { others = []; are_others = tt; is = e }, h.are_expositions);
  is_open = h.is_open;
  is = ap (λ (bs : List ℕ). line ++ 10 ∷ bs) h.is ∙ sym (text_of-cons line h.fronts h.rest);
}

-- another line before some others
other_first : (line text last : List ℕ) → IsOtherLine line → IsBehindOthers text last
    → IsBehindOthers (line ++ 10 ∷ text) last
other_first line text last o h = record {
  others = line ∷ h.others;
  are_others = (o, h.are_others);
  is = ap (λ (bs : List ℕ). line ++ 10 ∷ bs) h.is ∙ sym (text_of-cons line h.others last);
}

other_more : (line text : List ℕ) → IsOtherLine line → HasExpositions text → HasExpositions (line ++ 10 ∷ text)
other_more line text o h = go h.fronts h.are_expositions h.is
  where
    go : (fronts : List (List ℕ)) → AllByRecursion IsExposition fronts → text ≡ text_of fronts h.rest
        → HasExpositions (line ++ 10 ∷ text)
    go [] all is = record {
      fronts = [];
      rest = line ++ 10 ∷ h.rest;
      are_expositions = tt;
      is_open = record {
        last = h.is_open.last;
        clean = h.is_open.clean;
        behind = other_first line h.rest h.is_open.last o h.is_open.behind;
      };
      is = ap (λ (bs : List ℕ). line ++ 10 ∷ bs) is;
    }
    go (front ∷ fronts) all is = record {
      fronts = (line ++ 10 ∷ front) ∷ fronts;
      rest = h.rest;
      are_expositions = (other_first line front (codes "# EOF") o all.0, all.1);
      is_open = h.is_open;
      is = ap (λ (bs : List ℕ). line ++ 10 ∷ bs) (is ∙ text_of-cons front fronts h.rest)
          ∙ sym (append_assoc line (10 ∷ front) (10 ∷ text_of fronts h.rest))
          ∙ sym (text_of-cons (line ++ 10 ∷ front) fronts h.rest);
    }

one_line : (is_last : Bool) (line text : List ℕ) → bytes_eq line (codes "# EOF") ≡ is_last → NoNewline line
    → HasExpositions text → HasExpositions (line ++ 10 ∷ text)
one_line true line text e clean h = ends_at line text ((bytes_eq-Decides line (codes "# EOF")).0 e) h
one_line false line text e clean h = other_more line text (record { clean = clean; other = e }) h

of_lines : (lines : List (List ℕ)) (rest : List ℕ) → AllByRecursion NoNewline lines → NoNewline rest
    → HasExpositions (text_of lines rest)
of_lines [] rest h k = record {
  fronts = [];
  rest = rest;
  are_expositions = tt;
  is_open = record { last = rest; clean = k; behind = record { others = []; are_others = tt; is = refl } };
  is = refl;
}
of_lines (line ∷ lines) rest h k = rw (text_of-cons line lines rest)
    (one_line (bytes_eq line (codes "# EOF")) line (text_of lines rest) refl h.0 (of_lines lines rest h.1 k))

pub each_has_expositions : (text : List ℕ) → HasExpositions text
each_has_expositions text = let h = has_lines text in rw (h.is) (of_lines h.lines h.rest h.clean h.rest_clean)
