-- A text is its pieces, each with the newline behind it, and a rest in which no piece ends.
use Rattle.std.specs.Prelude.{◌≡◌, ℕ, List, [], ◌∷◌, ◌++◌, map, codes, false}
use Rattle.std.specs.List.{flat_map, AllByRecursion}
use Rattle.std.specs.Str.{bytes_eq}
use Rattle.agent_base.specs.declared.piece.CutKind.{CutKind}
use Rattle.agent_base.specs.declared.piece.CutKind.TheVariants.{Lines, Expositions}
use Rattle.agent_base.specs.Cut.{Cut, cut, ended, unended, NoNewline, NoEnd}

-- a line, or what else stands before a newline, and that newline
abbrev pub with_newline : List ℕ → List ℕ
with_newline line = line ++ 10 ∷ []

-- the lines, each with its newline, and the rest
abbrev pub text_of : List (List ℕ) → List ℕ → List ℕ
text_of lines rest = flat_map with_newline lines ++ rest

-- the pieces of a text are those of its lines, and that of the rest
abbrev pub CutsLines : Type 0
CutsLines = (lines : List (List ℕ)) (rest : List ℕ) → AllByRecursion NoNewline lines → NoNewline rest
    → cut Lines (text_of lines rest) ≡ map (ended Lines) lines ++ unended Lines rest

-- a line that is another than `# EOF`
pub record IsOtherLine (line : List ℕ) : Type 0 where
  pub clean : NoNewline line
  pub other : bytes_eq line (codes "# EOF") ≡ false

-- lines other than `# EOF`, each with its newline, and then a line, without one
pub record IsBehindOthers (text last : List ℕ) : Type 0 where
  pub others : List (List ℕ)
  pub are_others : AllByRecursion IsOtherLine others
  pub is : text ≡ text_of others last

-- lines other than `# EOF`, and then `# EOF`: all of an exposition but its last newline
abbrev pub IsExposition : List ℕ → Type 0
IsExposition front = IsBehindOthers front (codes "# EOF")

-- lines other than `# EOF`, and then a line that no newline ends, whatever it is
pub record IsOpen (rest : List ℕ) : Type 0 where
  pub last : List ℕ
  pub clean : NoNewline last
  pub behind : IsBehindOthers rest last

-- the pieces of a text are its expositions, each with its last newline, and that of the rest
abbrev pub CutsExpositions : Type 0
CutsExpositions = (fronts : List (List ℕ)) (rest : List ℕ) → AllByRecursion IsExposition fronts → IsOpen rest
    → cut Expositions (text_of fronts rest) ≡ map (ended Expositions) fronts ++ unended Expositions rest

-- a text as expositions, each with its last newline, and a rest
pub record HasExpositions (text : List ℕ) : Type 0 where
  pub fronts : List (List ℕ)
  pub rest : List ℕ
  pub are_expositions : AllByRecursion IsExposition fronts
  pub is_open : IsOpen rest
  pub is : text ≡ text_of fronts rest

-- each text is expositions and a rest
abbrev pub EachHasExpositions : Type 0
EachHasExpositions = (text : List ℕ) → HasExpositions text

-- some pieces are all of a text but perhaps that of its rest: those of a front, behind which no piece ends
pub record AreAllButRest (kind : CutKind) (text : List ℕ) (pieces : List Cut) : Type 0 where
  pub front : List ℕ
  pub rest : List ℕ
  pub parts : text ≡ front ++ rest
  pub clean : NoEnd kind rest
  pub of_front : cut kind front ≡ pieces
  pub of_text : cut kind text ≡ pieces ++ unended kind rest
