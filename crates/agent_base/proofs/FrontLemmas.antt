-- Texts as fronts that each end a piece and a rest, and the pieces that are all but that of the rest.
use Rattle.std.proofs.Common.{◌≡◌, ◌≤◌, ℕ, ◌+◌, Bool, true, false, cond, eqb, ltb, List, [], ◌∷◌, ◌++◌, length, take}
use Rattle.std.proofs.Common.{map, refl, sym, ap, ◌∙◌, append_assoc, append-nil, arith, inl, inr}
use Rattle.std.specs.Prelude.{◌⊎◌}
use Rattle.std.specs.List.{flat_map, AllByRecursion}
use Rattle.std.proofs.lemmas.Bool.{ne_eqb}
use Rattle.std.proofs.lemmas.List.{length-append, length-map}
use Rattle.std.proofs.Math.Seq.{take-append_seam}
use Rattle.agent_base.specs.declared.piece.CutKind.{CutKind}
use Rattle.agent_base.specs.declared.piece.CutKind.TheVariants.{Lines, Expositions}
use Rattle.agent_base.specs.Cut.{Cut, TooLong, Whole, cut, ended, unended, ends_piece, last_line, most_bytes, NoEnd}
use Rattle.agent_base.specs.Lines.{with_newline, text_of, AreAllButRest}
use Rattle.agent_base.proofs.Cuts.{none_in_line, scanned_line}
use Rattle.agent_base.proofs.LineLaws.{IsFront, cuts_fronts, lines_are}
use Rattle.agent_base.proofs.RestLemmas.{has_lines}
use Rattle.agent_base.proofs.ExpositionLaws.{fronts_are, scanned_behind, each_has_expositions}

-- a text as fronts, each with the newline behind it that ends a piece, and a rest in which none ends
pub record HasFronts (kind : CutKind) (text : List ℕ) : Type 0 where
  pub fronts : List (List ℕ)
  pub rest : List ℕ
  pub is : text ≡ text_of fronts rest
  pub are_fronts : AllByRecursion (IsFront kind) fronts
  pub clean : NoEnd kind rest

pub has_fronts : (kind : CutKind) (text : List ℕ) → HasFronts kind text
has_fronts Lines text =
    let h = has_lines text in
    record {
      fronts = h.lines;
      rest = h.rest;
      is = h.is;
      are_fronts = lines_are h.lines h.clean;
      clean = none_in_line Lines [] h.rest h.rest_clean;
    }
has_fronts Expositions text =
    let h = each_has_expositions text in
    record {
      fronts = h.fronts;
      rest = h.rest;
      is = h.is;
      are_fronts = fronts_are h.fronts h.are_expositions;
      clean = (scanned_behind h.rest h.is_open.last h.is_open.clean h.is_open.behind).clean;
    }

-- ---- the pieces of fronts and a rest

text_split : (fronts : List (List ℕ)) (rest : List ℕ) → text_of fronts rest ≡ text_of fronts [] ++ rest
text_split fronts rest = ap (λ (bs : List ℕ). bs ++ rest) (sym (append-nil (flat_map with_newline fronts)))

fronts_all : (kind : CutKind) (fronts : List (List ℕ)) → AllByRecursion (IsFront kind) fronts
    → cut kind (text_of fronts []) ≡ map (ended kind) fronts
fronts_all kind fronts all = cuts_fronts kind fronts [] all (none_in_line kind [] [] refl)
    ∙ append-nil (map (ended kind) fronts)

text_joined : (fronts : List (List ℕ)) (rest : List ℕ) → text_of fronts rest
    ++ 10 ∷ [] ≡ text_of fronts (rest ++ 10 ∷ [])
text_joined fronts rest = append_assoc (flat_map with_newline fronts) rest (10 ∷ [])

-- a newline behind the rest makes it a front, where it ends a piece
front_more : (fronts : List (List ℕ)) (rest : List ℕ) → text_of fronts rest
    ++ 10 ∷ [] ≡ text_of (fronts ++ rest ∷ []) []
front_more [] rest = sym (append-nil ((rest ++ 10 ∷ []) ++ []) ∙ append-nil (rest ++ 10 ∷ []))
front_more (front ∷ fronts) rest =
    ap (λ (bs : List ℕ). bs ++ 10 ∷ []) (append_assoc (with_newline front) (flat_map with_newline fronts) rest)
    ∙ append_assoc (with_newline front) (flat_map with_newline fronts ++ rest) (10 ∷ [])
    ∙ ap (λ (bs : List ℕ). with_newline front ++ bs) (front_more fronts rest)
    ∙ sym (append_assoc (with_newline front) (flat_map with_newline (fronts ++ rest ∷ [])) [])

fronts_more : (kind : CutKind) (fronts : List (List ℕ)) (rest : List ℕ) → AllByRecursion (IsFront kind) fronts
    → IsFront kind rest → AllByRecursion (IsFront kind) (fronts ++ rest ∷ [])
fronts_more kind [] rest all last = (last, tt)
fronts_more kind (front ∷ fronts) rest all last = (all.0, fronts_more kind fronts rest all.1 last)

rest_one : (kind : CutKind) (rest : List ℕ) → length (unended kind rest) ≤ 1
rest_one kind rest = elim (eqb (length rest) 0) as (λ (b : Bool). length
    (cond b [] (cond (ltb (most_bytes kind) (length rest)) TooLong (Whole rest) ∷ [])) ≤ 1)
    [ true ↦ omega arith | false ↦ omega arith ]

some_one : (kind : CutKind) (rest : List ℕ) → 1 ≤ length rest → length (unended kind rest) ≡ 1
some_one kind rest some = let e : eqb (length rest) 0 ≡ false =
    ne_eqb (length rest) 0 (λ z. absurd (omega (arith, some, z))) in rw e refl

-- with a newline behind it a text has one piece for each front, and one for its rest
count_ended : (kind : CutKind) (text : List ℕ) (h : HasFronts kind text) → ends_piece kind (last_line [] h.rest) ≡ true
    → length (cut kind (text ++ 10 ∷ [])) ≡ length h.fronts + 1
count_ended kind text h ends =
    ap (λ (bs : List ℕ). length (cut kind (bs ++ 10 ∷ []))) h.is
    ∙ ap (λ (bs : List ℕ). length (cut kind bs)) (front_more h.fronts h.rest)
    ∙ ap length (fronts_all kind (h.fronts ++ h.rest ∷ []) (fronts_more kind h.fronts h.rest h.are_fronts
    (record { clean = h.clean; ends = ends })))
    ∙ length-map (h.fronts ++ h.rest ∷ []) (ended kind)
    ∙ length-append h.fronts (h.rest ∷ [])

count_open : (kind : CutKind) (text : List ℕ) (h : HasFronts kind text) → ends_piece kind (last_line [] h.rest) ≡ false
    → length (cut kind (text ++ 10 ∷ [])) ≡ length h.fronts + 1
count_open kind text h open_still =
    let next : List ℕ = h.rest ++ 10 ∷ [] in
    let clean : NoEnd kind next = (scanned_line kind h.rest (last_line [] h.rest)
    (record { clean = h.clean; begun = refl }) open_still).clean in
    ap (λ (bs : List ℕ). length (cut kind (bs ++ 10 ∷ []))) h.is
    ∙ ap (λ (bs : List ℕ). length (cut kind bs)) (text_joined h.fronts h.rest)
    ∙ ap length (cuts_fronts kind h.fronts next h.are_fronts clean)
    ∙ length-append (map (ended kind) h.fronts) (unended kind next)
    ∙ omega (
      arith,
      length-map h.fronts (ended kind),
      some_one kind next
          (omega (arith, length-append h.rest (10 ∷ []))),
    )

count_with_newline : (kind : CutKind) (text : List ℕ) (h : HasFronts kind text)
    → length (cut kind (text ++ 10 ∷ [])) ≡ length h.fronts + 1
count_with_newline kind text h = go (ends_piece kind (last_line [] h.rest)) refl
  where
    go : (b : Bool) → ends_piece kind (last_line [] h.rest) ≡ b
        → length (cut kind (text ++ 10 ∷ [])) ≡ length h.fronts + 1
    go true e = count_ended kind text h e
    go false e = count_open kind text h e

pieces_of : (kind : CutKind) (text : List ℕ) (h : HasFronts kind text)
    → cut kind text ≡ map (ended kind) h.fronts ++ unended kind h.rest
pieces_of kind text h = ap (cut kind) h.is ∙ cuts_fronts kind h.fronts h.rest h.are_fronts h.clean

-- ---- all pieces but that of the rest

-- two lists that begin with as many elements
same_fronts : (xs ys us vs : List Cut) → xs ++ us ≡ ys ++ vs → length xs ≡ length ys → xs ≡ ys
same_fronts xs ys us vs e l = sym (take-append_seam xs us) ∙ ap (take (length xs)) e
    ∙ ap (λ (n : ℕ). take n (ys ++ vs)) l ∙ take-append_seam ys vs

all_named : (kind : CutKind) (text : List ℕ) (pieces : List Cut) → cut kind text ≡ pieces ++ []
    → AreAllButRest kind text pieces
all_named kind text pieces e =
    record {
      front = text;
      rest = [];
      parts = sym (append-nil text);
      clean = none_in_line kind [] [] refl;
      of_front = e
          ∙ append-nil pieces;
      of_text = e;
    }

but_rest : (kind : CutKind) (text : List ℕ) (pieces others : List Cut) (h : HasFronts kind text)
    → cut kind text ≡ pieces ++ others → length others ≤ 1 → 1 ≤ length others
    → length (cut kind (text ++ 10 ∷ [])) ≤ length pieces + 1 → AreAllButRest kind text pieces
but_rest kind text pieces others h e one some ends =
    let whole : map (ended kind) h.fronts ++ unended kind h.rest ≡ pieces ++ others = sym (pieces_of kind text h) ∙ e in
    let count : length (map (ended kind) h.fronts) + length (unended kind h.rest) ≡ length pieces + length others =
    sym (length-append (map (ended kind) h.fronts) (unended kind h.rest)) ∙ ap length whole
    ∙ length-append pieces others in
    let fronts : length (map (ended kind) h.fronts) ≡ length pieces =
    omega (
      arith,
      count,
      one,
      some,
      ends,
      count_with_newline kind text h,
      length-map h.fronts (ended kind),
      rest_one kind h.rest,
    ) in
    let same : map (ended kind) h.fronts ≡ pieces = same_fronts (map (ended kind) h.fronts) pieces
    (unended kind h.rest) others whole fronts in
    record {
      front = text_of h.fronts [];
      rest = h.rest;
      parts = h.is ∙ text_split h.fronts h.rest;
      clean = h.clean;
      of_front = fronts_all kind h.fronts h.are_fronts ∙ same;
      of_text = pieces_of kind text h ∙ ap (λ (ps : List Cut). ps ++ unended kind h.rest) same;
    }

-- pieces of a text, behind which one more is to come at most, also where a newline follows; or none is to come
pub all_but_rest : (kind : CutKind) (text : List ℕ) (pieces others : List Cut) → cut kind text ≡ pieces ++ others
    → length others ≤ 1 → (others ≡ []) ⊎ (length (cut kind (text ++ 10 ∷ [])) ≤ length pieces + 1)
    → AreAllButRest kind text pieces
all_but_rest kind text pieces [] e one ends = all_named kind text pieces e
all_but_rest kind text pieces (p ∷ others) e one (inl none) = absurd (omega (arith, ap length none))
all_but_rest kind text pieces (p ∷ others) e one (inr ends) =
    but_rest kind text pieces (p ∷ others) (has_fronts kind text) e one (omega arith) ends
