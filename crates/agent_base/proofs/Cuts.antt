-- The pieces of a text whose first end of a piece is known.
use Rattle.std.proofs.Common.{◌≡◌, ℕ, zero, suc, ◌+◌, ◌-◌, ◌<◌, ◌≤◌, Bool, true, false, cond, eqb, ltb, ◌||◌, List, []}
use Rattle.std.proofs.Common.{◌∷◌, ◌++◌, length, get_or, take, take_all, drop, refl, sym, ap, ◌∙◌, append_assoc, arith}
use Rattle.std.proofs.Common.{inl, inr, Option, Some, None, MatchOption}
use Rattle.std.specs.Prelude.{codes}
use Rattle.std.specs.Str.{bytes_eq}
use Rattle.std.proofs.lemmas.Slice.Eq.{bytes_eq-Decides}
use Rattle.std.proofs.lemmas.List.{append-nil, length-append, take-append-drop, drop-drop, drop-take, drop_more}
use Rattle.std.proofs.lemmas.List.{get_or-take, length-take}
use Rattle.std.proofs.lemmas.Bool.{lt-ltb, le-ltb, ne_eqb, eqb-true, cases_lt}
use Rattle.memchr.specs.Find.{IsFirstByte, is_byte}
use Rattle.agent_base.specs.declared.piece.CutKind.{CutKind}
use Rattle.agent_base.specs.declared.piece.CutKind.TheVariants.{Lines, Expositions}
use Rattle.agent_base.specs.Cut.{Cut, TooLong, Whole, cut, cut_from, passed, passed_from, ended, unended, content}
use Rattle.agent_base.specs.Cut.{ends_piece, most_before, most_bytes}
use Rattle.agent_base.specs.Cut.{has_newline, NoNewline, FirstNewline, has_end, last_line, NoEnd, FirstEnd, Scanned}
use Rattle.agent_base.specs.Room.{most_kept}

-- ---- lists

or_false : (x y : Bool) → (x || y) ≡ false → (x ≡ false) × (y ≡ false)
or_false true y h = absurd (let e : true ≡ false = h in cc)
or_false false y h = (refl, h)

-- no newline is the first byte or among the others
parts : (b : ℕ) (bs : List ℕ) → NoNewline (b ∷ bs) → (eqb b 10 ≡ false) × NoNewline bs
parts b bs h = or_false (eqb b 10) (has_newline bs) h

pub no_newline : (bs : List ℕ) → ((k : ℕ) → k < length bs → eqb (get_or bs k 0) 10 ≡ false) → NoNewline bs
no_newline [] h = refl
no_newline (b ∷ bs) h = rw (h 0 (omega arith)) (no_newline bs (λ k lt. h (suc k) (omega arith)))

-- newlines in two parts
pub no_newlines : (xs ys : List ℕ) → NoNewline xs → NoNewline ys → NoNewline (xs ++ ys)
no_newlines [] ys h k = k
no_newlines (b ∷ xs) ys h k = let p = parts b xs h in rw (p.0) (no_newlines xs ys p.1 k)

-- a front of bytes without a newline
pub no_newlines_front : (n : ℕ) (bytes : List ℕ) → NoNewline bytes → NoNewline (take n bytes)
no_newlines_front zero bytes h = refl
no_newlines_front (suc n) [] h = refl
no_newlines_front (suc n) (b ∷ bytes) h = let p = parts b bytes h in rw (p.0) (no_newlines_front n bytes p.1)

-- ---- lines among the bytes

-- a front without an end
pub end_behind : (kind : CutKind) (line front ys : List ℕ) → has_end kind line front ≡ false
    → has_end kind line (front ++ ys) ≡ has_end kind (last_line line front) ys
unfolding has_end last_line
end_behind kind line [] ys h = refl
end_behind kind line (b ∷ front) ys h =
    elim (eqb b 10) as (λ t. cond t (ends_piece kind line || has_end kind [] front)
    (has_end kind (line ++ b ∷ []) front) ≡ false
    → cond t (ends_piece kind line || has_end kind [] (front ++ ys)) (has_end kind (line ++ b ∷ []) (front ++ ys))
    ≡ has_end kind (cond t (last_line [] front) (last_line (line ++ b ∷ []) front)) ys) [
      | true ↦ λ e. let p = or_false (ends_piece kind line) (has_end kind [] front) e in
          rw (p.0) (end_behind kind [] front ys p.1)
      | false ↦ λ e. end_behind kind (line ++ b ∷ []) front ys e
    ] h

-- the last line of two parts
pub last_behind : (line xs ys : List ℕ) → last_line line (xs ++ ys) ≡ last_line (last_line line xs) ys
unfolding last_line
last_behind line [] ys = refl
last_behind line (b ∷ xs) ys =
    elim (eqb b 10) as (λ t. cond t (last_line [] (xs ++ ys)) (last_line (line ++ b ∷ []) (xs ++ ys)) ≡ last_line
    (cond t (last_line [] xs) (last_line (line ++ b ∷ []) xs)) ys) [
      | true ↦ last_behind [] xs ys
      | false ↦ last_behind (line ++ b ∷ []) xs ys
    ]

-- bytes without a newline
pub none_in_line : (kind : CutKind) (line bytes : List ℕ) → NoNewline bytes → has_end kind line bytes ≡ false
unfolding has_end
none_in_line kind line [] h = refl
none_in_line kind line (b ∷ bytes) h = let p = parts b bytes h in
    rw (p.0) (none_in_line kind (line ++ b ∷ []) bytes p.1)

pub line_in_line : (line bytes : List ℕ) → NoNewline bytes → last_line line bytes ≡ line ++ bytes
unfolding last_line
line_in_line line [] h = rw append-nil refl
line_in_line line (b ∷ bytes) h = let p = parts b bytes h in
    rw (p.0) (line_in_line (line ++ b ∷ []) bytes p.1 ∙ rw append_assoc refl)

-- no newline is in the last line
pub last_clean : (line bytes : List ℕ) → NoNewline line → NoNewline (last_line line bytes)
unfolding last_line
last_clean line [] h = h
last_clean line (b ∷ bytes) h =
    elim (eqb b 10) as
    (λ t. eqb b 10 ≡ t → NoNewline (cond t (last_line [] bytes) (last_line (line ++ b ∷ []) bytes))) [
      | true ↦ λ e. last_clean [] bytes refl
      | false ↦ λ e. last_clean (line ++ b ∷ []) bytes (no_newlines line (b ∷ []) h (rw e refl))
    ] refl

-- ---- what was searched

module _ (kind : CutKind) (bytes line : List ℕ) (s : Scanned kind bytes line) where
  -- bytes without a newline
  pub scanned_more : (ys : List ℕ) → NoNewline ys → Scanned kind (bytes ++ ys) (line ++ ys)
  scanned_more ys clean = record {
    clean = end_behind kind [] bytes ys s.clean ∙ none_in_line kind (last_line [] bytes) ys clean;
    begun = last_behind [] bytes ys ∙ ap (λ (l : List ℕ). last_line l ys) s.begun ∙ line_in_line line ys clean;
  }

  -- a newline behind a line that ends no piece
  pub scanned_line : ends_piece kind line ≡ false → Scanned kind (bytes ++ 10 ∷ []) []
  unfolding has_end last_line
  scanned_line other = record {
    clean = end_behind kind [] bytes (10 ∷ []) s.clean ∙ rw (s.begun, other) refl;
    begun = last_behind [] bytes (10 ∷ []);
  }

-- ---- the first end of a piece

pub cut_more : (kind : CutKind) (piece line front rest : List ℕ) → has_end kind line front ≡ false
    → cut_from kind piece line (front ++ rest) ≡ cut_from kind (piece ++ front) (last_line line front) rest
unfolding cut_from has_end last_line
cut_more kind piece line [] rest h = rw append-nil refl
cut_more kind piece line (b ∷ front) rest h =
    let e : piece ++ (b ∷ front) ≡ (piece ++ b ∷ []) ++ front = sym (append_assoc piece (b ∷ []) front) in
    elim (eqb b 10) as (λ t. cond t (ends_piece kind line || has_end kind [] front)
    (has_end kind (line ++ b ∷ []) front) ≡ false
    → cond t (cond (ends_piece kind line) (ended kind piece ∷ cut kind (front ++ rest))
    (cut_from kind (piece ++ b ∷ []) [] (front ++ rest))) (cut_from kind (piece ++ b ∷ []) (line ++ b ∷ [])
    (front ++ rest))
    ≡ cut_from kind (piece ++ (b ∷ front)) (cond t (last_line [] front) (last_line (line ++ b ∷ []) front)) rest) [
      | true ↦ λ k. let p = or_false (ends_piece kind line) (has_end kind [] front) k in
          rw (p.0, e) (cut_more kind (piece ++ b ∷ []) [] front rest p.1)
      | false ↦ λ k. rw e (cut_more kind (piece ++ b ∷ []) (line ++ b ∷ []) front rest k)
    ] h

pub cut_end : (kind : CutKind) (piece line front rest : List ℕ) → has_end kind line front ≡ false
    → ends_piece kind (last_line line front) ≡ true → cut_from kind piece line (front ++ 10 ∷ rest) ≡ ended kind
    (piece ++ front) ∷ cut kind rest
unfolding cut_from
cut_end kind piece line front rest h ends = cut_more kind piece line front (10 ∷ rest) h ∙ rw ends refl

pub passed_more : (kind : CutKind) (line front rest : List ℕ) → has_end kind line front ≡ false
    → passed_from kind line (front ++ rest) ≡ passed_from kind (last_line line front) rest
unfolding passed_from has_end last_line
passed_more kind line [] rest h = refl
passed_more kind line (b ∷ front) rest h =
    elim (eqb b 10) as (λ t. cond t (ends_piece kind line || has_end kind [] front)
    (has_end kind (line ++ b ∷ []) front) ≡ false
    → cond t (cond (ends_piece kind line) (cut kind (front ++ rest)) (passed_from kind [] (front ++ rest)))
    (passed_from kind (line ++ b ∷ []) (front ++ rest))
    ≡ passed_from kind (cond t (last_line [] front) (last_line (line ++ b ∷ []) front)) rest) [
      | true ↦ λ k. let p = or_false (ends_piece kind line) (has_end kind [] front) k in
          rw (p.0) (passed_more kind [] front rest p.1)
      | false ↦ λ k. passed_more kind (line ++ b ∷ []) front rest k
    ] h

pub passed_end : (kind : CutKind) (front rest : List ℕ) → NoEnd kind front → ends_piece kind (last_line [] front) ≡ true
    → passed kind (front ++ 10 ∷ rest) ≡ cut kind rest
unfolding passed_from
passed_end kind front rest h ends = passed_more kind [] front (10 ∷ rest) h ∙ rw ends refl

-- ---- pieces that are too long

pub before_fits : (kind : CutKind) → most_before kind ≤ most_bytes kind
before_fits Lines = omega arith
before_fits Expositions = omega arith

some_bytes : (kind : CutKind) (n : ℕ) → most_bytes kind < n → eqb n 0 ≡ false
some_bytes kind n h = ne_eqb n 0 (λ e. absurd (omega arith))

pub ended_long : (kind : CutKind) (front : List ℕ) → most_before kind < length front → ended kind front ≡ TooLong
ended_long kind front h = let long : ltb (most_before kind) (length front) ≡ true = lt-ltb _ _ h in rw long refl

pub ended_whole : (kind : CutKind) (front : List ℕ) → length front ≤ most_before kind
    → ended kind front ≡ Whole (content kind front)
ended_whole kind front h = let short : ltb (most_before kind) (length front) ≡ false = le-ltb _ _ h in rw short refl

-- a piece that is too long is passed over to its end
pub long_piece : (kind : CutKind) (piece line rest : List ℕ) → most_bytes kind < length piece
    → cut_from kind piece line rest ≡ TooLong ∷ passed_from kind line rest
unfolding cut_from passed_from
long_piece kind piece line [] h =
    let some : eqb (length piece) 0 ≡ false = some_bytes kind (length piece) h in
    let long : ltb (most_bytes kind) (length piece) ≡ true = lt-ltb _ _ h in
    rw (some, long) refl
long_piece kind piece line (b ∷ rest) h =
    let long : ended kind piece ≡ TooLong = ended_long kind piece (omega (arith, before_fits kind)) in
    let grows : most_bytes kind < length (piece ++ b ∷ []) = omega (arith, length-append piece (b ∷ [])) in
    let more = long_piece kind (piece ++ b ∷ []) (line ++ b ∷ []) rest grows in
    let others = long_piece kind (piece ++ b ∷ []) [] rest grows in
    elim (eqb b 10) as (λ t. cond t (cond (ends_piece kind line) (ended kind piece ∷ cut kind rest)
    (cut_from kind (piece ++ b ∷ []) [] rest)) (cut_from kind (piece ++ b ∷ []) (line ++ b ∷ []) rest)
    ≡ TooLong ∷ cond t (cond (ends_piece kind line) (cut kind rest) (passed_from kind [] rest))
    (passed_from kind (line ++ b ∷ []) rest)) [
      | true ↦ elim (ends_piece kind line) as (λ u. cond u (ended kind piece ∷ cut kind rest)
          (cut_from kind (piece ++ b ∷ []) [] rest) ≡ TooLong ∷ cond u (cut kind rest) (passed_from kind [] rest)) [
            | true ↦ ap (λ (p : Cut). p ∷ cut kind rest) long
            | false ↦ others
          ]
      | false ↦ more
    ]

-- ---- what is kept of a line

-- two lines that end a piece alike, whatever follows
pub alike : (kind : CutKind) (line other rest : List ℕ) → ((more : List ℕ)
    → ends_piece kind (line ++ more) ≡ ends_piece kind (other ++ more))
    → passed_from kind line rest ≡ passed_from kind other rest
unfolding passed_from
alike kind line other [] h = refl
alike kind line other (b ∷ rest) h =
    let now : ends_piece kind line ≡ ends_piece kind other =
    ap (ends_piece kind) (sym (append-nil line)) ∙ h [] ∙ ap (ends_piece kind) (append-nil other) in
    let more = alike kind (line ++ b ∷ []) (other ++ b ∷ []) rest
    (λ m. ap (ends_piece kind) (append_assoc line (b ∷ []) m) ∙ h (b ∷ m)
    ∙ ap (ends_piece kind) (sym (append_assoc other (b ∷ []) m))) in
    elim (eqb b 10) as (λ t. cond t (cond (ends_piece kind line) (cut kind rest) (passed_from kind [] rest))
    (passed_from kind (line ++ b ∷ []) rest) ≡ cond t (cond (ends_piece kind other) (cut kind rest)
    (passed_from kind [] rest)) (passed_from kind (other ++ b ∷ []) rest)) [
      | true ↦ rw now refl
      | false ↦ more
    ]

-- a line of six bytes or more isn't `# EOF`
other_line : (line : List ℕ) → 5 < length line → ends_piece Expositions line ≡ false
unfolding ends_piece
other_line line h = go (bytes_eq line (codes "# EOF")) refl
  where
    go : (t : Bool) → bytes_eq line (codes "# EOF") ≡ t → t ≡ false
    go true e = absurd (let same : length line ≡ 5 = ap length ((bytes_eq-Decides line (codes "# EOF")).0 e) in
        omega arith)
    go false e = refl

-- so many bytes of a line show whether it ends the piece
pub kept_alike : (kind : CutKind) (line more : List ℕ) → ends_piece kind (line ++ more) ≡ ends_piece kind
    (take (most_kept kind) line ++ more)
unfolding ends_piece
kept_alike Lines line more = refl
kept_alike Expositions line more = elim (cases_lt (length line) 6) [
  | inl short ↦ ap (λ (l : List ℕ). ends_piece Expositions (l ++ more)) (sym (take_all 6 line (omega arith)))
  | inr long ↦ other_line (line ++ more) (omega (arith, length-append line more))
      ∙ sym (other_line (take 6 line ++ more) (omega (arith, length-append (take 6 line) more, length-take 6 line)))
]

-- no newline is in what is kept of the last line
pub kept_scanned : (kind : CutKind) (bytes : List ℕ) → Scanned kind (take (most_kept kind) (last_line [] bytes))
    (take (most_kept kind) (last_line [] bytes))
kept_scanned kind bytes =
    let clean = no_newlines_front (most_kept kind) (last_line [] bytes) (last_clean [] bytes refl) in
    record {
      clean = none_in_line kind [] (take (most_kept kind) (last_line [] bytes)) clean;
      begun = line_in_line [] (take (most_kept kind) (last_line [] bytes)) clean;
    }

-- ---- what is in hand up to its first end of a piece

split_piece : (hand bytes : List ℕ) (i : ℕ) → drop i hand ≡ 10 ∷ drop (i + 1) hand
    → hand ++ bytes ≡ take i hand ++ 10 ∷ (drop (i + 1) hand ++ bytes)
split_piece hand bytes i e = ap (λ (h : List ℕ). h ++ bytes) (sym (take-append-drop i hand))
    ∙ append_assoc (take i hand) (drop i hand) bytes ∙ ap (λ (d : List ℕ). take i hand ++ (d ++ bytes)) e

pub takes_piece : (kind : CutKind) (hand bytes : List ℕ) (i : ℕ) → FirstEnd kind hand i
    → cut kind (hand ++ bytes) ≡ ended kind (take i hand) ∷ cut kind (drop (i + 1) hand ++ bytes)
takes_piece kind hand bytes i at = ap (cut kind) (split_piece hand bytes i at.stops)
    ∙ cut_end kind [] [] (take i hand) (drop (i + 1) hand ++ bytes) at.clean at.ends

pub passes_piece : (kind : CutKind) (hand bytes : List ℕ) (i : ℕ) → FirstEnd kind hand i
    → passed kind (hand ++ bytes) ≡ cut kind (drop (i + 1) hand ++ bytes)
passes_piece kind hand bytes i at = ap (passed kind) (split_piece hand bytes i at.stops)
    ∙ passed_end kind (take i hand) (drop (i + 1) hand ++ bytes) at.clean at.ends

not_true : (b : Bool) → (b ≡ true → ⊥) → b ≡ false
not_true true h = absurd (h refl)
not_true false h = refl

pub first_newline : (hand : List ℕ) (r : Option ℕ) → IsFirstByte (is_byte 10) hand r
    → MatchOption r (NoNewline hand) (FirstNewline hand)
first_newline hand None h = no_newline hand (λ k lt. not_true _ (h k (omega arith) lt))
first_newline hand (Some i) h =
    let low = h.0.high in
    record {
      within = low;
      clean = no_newline (take i hand) (λ k lt.
          let below : k < i = omega (arith, length-take i hand) in
          rw (get_or-take i hand k 0 below) (not_true _ (h.0.before k (omega arith) below)));
      stops = drop_more hand i 0 low ∙ ap (λ (b : ℕ). b ∷ drop (i + 1) hand) (eqb-true _ _ h.1);
    }

-- ---- places of the buffer

pub between_later : (xs : List ℕ) (start end j at : ℕ) → at ≡ start + j → j ≤ end - start
    → take (end - at) (drop at xs) ≡ drop j (take (end - start) (drop start xs))
between_later xs start end j at is h =
    let m : ℕ = end - at in
    let e : end - start ≡ j + m = omega arith in
    sym (ap (λ (n : ℕ). drop j (take n (drop start xs))) e ∙ drop-take j m (drop start xs)
    ∙ ap (take m) (drop-drop j start xs ∙ ap (λ (k : ℕ). drop k xs) (sym is)))

within_end : (xs : List ℕ) (start end i : ℕ) → i < length (take (end - start) (drop start xs)) → i < end - start
within_end xs start end i h = omega (arith, length-take (end - start) (drop start xs))

module _ (kind : CutKind) (xs : List ℕ) (start end i : ℕ) (first : FirstEnd kind
    (take (end - start) (drop start xs)) i) where
  pub piece_within : i < end - start
  piece_within = within_end xs start end i first.within

  pub piece_taken : (at : ℕ) (bytes : List ℕ) → at ≡ start + i + 1
      → cut kind (take (end - start) (drop start xs) ++ bytes) ≡ ended kind
      (take i (take (end - start) (drop start xs))) ∷ cut kind (take (end - at) (drop at xs) ++ bytes)
  piece_taken at bytes is = rw (between_later xs start end (i + 1) at (omega arith) (omega (arith, piece_within)))
      (takes_piece kind (take (end - start) (drop start xs)) bytes i first)

  pub piece_passed : (at : ℕ) (bytes : List ℕ) → at ≡ start + i + 1
      → passed kind (take (end - start) (drop start xs) ++ bytes) ≡ cut kind (take (end - at) (drop at xs) ++ bytes)
  piece_passed at bytes is = rw (between_later xs start end (i + 1) at (omega arith) (omega (arith, piece_within)))
      (passes_piece kind (take (end - start) (drop start xs)) bytes i first)

-- ---- a hand without an end of a piece

-- it is passed over
pub long_hand : (kind : CutKind) (hand bytes : List ℕ) → NoEnd kind hand → most_bytes kind < length hand
    → cut kind (hand ++ bytes) ≡ TooLong ∷ passed_from kind (last_line [] hand) bytes
long_hand kind hand bytes clean h = cut_more kind [] [] hand bytes clean
    ∙ long_piece kind hand (last_line [] hand) bytes h

pub last_passed : (kind : CutKind) (hand : List ℕ) → NoEnd kind hand → passed kind hand ≡ []
unfolding passed_from
last_passed kind hand clean = ap (passed kind) (sym (append-nil hand)) ∙ passed_more kind [] hand [] clean

-- at the end it is a piece
pub last_hand : (kind : CutKind) (hand : List ℕ) → NoEnd kind hand → cut kind hand ≡ unended kind hand
unfolding cut_from
last_hand kind hand clean = ap (cut kind) (sym (append-nil hand)) ∙ cut_more kind [] [] hand [] clean

pub last_piece : (kind : CutKind) (hand : List ℕ) → NoEnd kind hand → 0 < length hand → length hand ≤ most_bytes kind
    → cut kind hand ≡ Whole hand ∷ []
last_piece kind hand clean some h =
    let long : ltb (most_bytes kind) (length hand) ≡ false = le-ltb _ _ h in
    let not_empty : eqb (length hand) 0 ≡ false = ne_eqb (length hand) 0 (λ e. absurd (omega arith)) in
    last_hand kind hand clean ∙ rw (not_empty, long) refl

pub cut_nothing : (kind : CutKind) → cut kind [] ≡ []
unfolding cut_from
cut_nothing kind = refl
