-- Texts cut at a byte.
use Rattle.std.proofs.Common.{◌≡◌, ℕ, suc, ◌+◌, ◌<◌, Bool, true, false, cond, ltb, List, [], ◌∷◌, ◌++◌, length, get_or}
use Rattle.std.proofs.Common.{take, drop, take_all, Option, Some, None, refl, sym, ap, subst, ◌∙◌, arith}
use Rattle.std.specs.Prelude.{not, ◌==◌, ◌||◌}
use Rattle.std.specs.List.{position_or_len, before_first, after_first, slice_split, onto_first, join_with_byte}
use Rattle.std.specs.List.{AllByRecursion}
use Rattle.std.specs.Str.{IsUtf8, IsCharBoundary}
use Rattle.std.proofs.lemmas.Bool.{eqb-true, eq-eqb, lt-ltb, le-ltb, ltb-true, ltb-false}
use Rattle.std.proofs.lemmas.List.{length-append, append-nil, take_at}
use Rattle.std.proofs.lemmas.List.Sums.{passes_at_first, split_at_first}
use Rattle.std.proofs.lemmas.List.Splits.{slice_split_first, join_with_byte-slice_split}
use Rattle.std.proofs.lemmas.Str.{IsCharBoundary-after_ascii}
use Rattle.text_parts.specs.Stops.{is_any_of}
use Rattle.text_parts.specs.Part.{Kind}
use Rattle.text_parts.specs.Grammar.{HasNone}
use Rattle.text_parts.specs.Split.{is_byte, first_part, placed, parts_of, behind_first, JoinedAreSplit, SplitAreJoined}
use Rattle.text_parts.specs.Split.{FirstIsCut, CutIsFirst}
use Rattle.text_parts.specs.Parts.{parts_left}
use Rattle.text_parts.proofs.Utf8.{EndsLow}
use Rattle.text_parts.proofs.Spans.{unhidden_rest_boundary, position_or_len_le}

-- ---- the first such byte, as the code looks for it

four_times : (t : Bool) → (t || t || t || t) ≡ t
four_times true = refl
four_times false = refl

pub one_byte : (byte : ℕ) → is_any_of (byte ∷ byte ∷ byte ∷ byte ∷ []) ≡ is_byte byte
one_byte byte = λ i. λ b. four_times (b == byte) i

byte_kind : ℕ → Kind
byte_kind byte = record { ends = is_byte byte; escapes = λ b. false; means = λ b. b }

byte_low : (byte : ℕ) → byte < 128 → EndsLow (byte_kind byte)
unfolding byte_kind
byte_low byte low b e = omega (arith, eqb-true b byte e)

-- a character ends before the first such byte
pub before_boundary : (byte : ℕ) (text : List ℕ) → byte < 128
    → IsCharBoundary text (position_or_len (is_byte byte) text)
unfolding byte_kind
before_boundary byte text low = unhidden_rest_boundary (byte_kind byte) (λ b. refl) (byte_low byte low) text

-- and one behind it
pub behind_boundary : (byte : ℕ) (text : List ℕ) → byte < 128 → IsUtf8 text
    → position_or_len (is_byte byte) text < length text
    → IsCharBoundary text (position_or_len (is_byte byte) text + 1)
behind_boundary byte text low u lt =
    let is : get_or text (position_or_len (is_byte byte) text) 0 ≡ byte =
    eqb-true _ byte (passes_at_first (is_byte byte) text 0 lt) in
    IsCharBoundary-after_ascii text (position_or_len (is_byte byte) text) u lt (omega (arith, is))

pub none_first : (byte : ℕ) (text : List ℕ) → position_or_len (is_byte byte) text ≡ length text
    → first_part byte text ≡ (text, None)
unfolding first_part
none_first byte text e =
    let test : ltb (position_or_len (is_byte byte) text) (length text) ≡ false = le-ltb _ _ (omega arith) in
    let whole : take (position_or_len (is_byte byte) text) text ≡ text =
    take_all (position_or_len (is_byte byte) text) text (omega arith) in
    rw (test, whole) refl

pub some_first : (byte : ℕ) (text : List ℕ) → position_or_len (is_byte byte) text < length text
    → first_part byte text ≡ (before_first (is_byte byte) text, Some (after_first (is_byte byte) text))
unfolding first_part
some_first byte text lt =
    let test : ltb (position_or_len (is_byte byte) text) (length text) ≡ true = lt-ltb _ _ lt in
    rw test refl

-- ---- where a byte isn't

-- what stands before the first byte that passes has none
pub before_none : (p : ℕ → Bool) (bs : List ℕ) → HasNone p (before_first p bs)
before_none p [] = tt
before_none p (b ∷ bs) =
    elim (p b) as (λ t. p b ≡ t → HasNone p (take (cond (not t) (1 + position_or_len p bs) 0) (b ∷ bs))) [
      | true ↦ λ e. tt
      | false ↦ λ e.
          let m : 1 + position_or_len p bs ≡ suc (position_or_len p bs) = omega arith in
          rw m (e, before_none p bs)
    ] refl

pub none_at : (p : ℕ → Bool) (bs : List ℕ) → HasNone p bs → position_or_len p bs ≡ length bs
none_at p [] h = refl
none_at p (b ∷ bs) h = rw (h.0) (ap (λ (n : ℕ). 1 + n) (none_at p bs h.1) ∙ omega arith)

pub found_at : (p : ℕ → Bool) (bs : List ℕ) (y : ℕ) (ys : List ℕ) → HasNone p bs → p y ≡ true
    → position_or_len p (bs ++ y ∷ ys) ≡ length bs
found_at p [] y ys h e = rw e refl
found_at p (b ∷ bs) y ys h e = rw (h.0) (ap (λ (n : ℕ). 1 + n) (found_at p bs y ys h.1 e) ∙ omega arith)

same_byte : (byte : ℕ) → (byte == byte) ≡ true
same_byte byte = eq-eqb byte byte refl

behind : (xs : List ℕ) (y : ℕ) (ys : List ℕ) → drop (length xs + 1) (xs ++ y ∷ ys) ≡ ys
behind [] y ys = refl
behind (x ∷ xs) y ys = let m : length (x ∷ xs) + 1 ≡ suc (length xs + 1) = omega arith in rw m (behind xs y ys)

pub first_is_cut : FirstIsCut
first_is_cut byte text rest h = (none_first byte text (none_at (is_byte byte) text h), cut)
  where
    at : position_or_len (is_byte byte) (text ++ byte ∷ rest) ≡ length text
    at = found_at (is_byte byte) text byte rest h (same_byte byte)

    lt : position_or_len (is_byte byte) (text ++ byte ∷ rest) < length (text ++ byte ∷ rest)
    lt = omega (arith, at, length-append text (byte ∷ rest))

    cut : first_part byte (text ++ byte ∷ rest) ≡ (text, Some rest)
    cut =
        some_first byte (text ++ byte ∷ rest) lt
        ∙ rw (at, take_at text (byte ∷ rest) (length text) refl, behind text byte rest) refl

pub cut_is_first : CutIsFirst
cut_is_first byte text =
    elim (ltb (position_or_len (is_byte byte) text) (length text)) as
    (λ t. ltb (position_or_len (is_byte byte) text) (length text) ≡ t
    → (text ≡ (first_part byte text).0 ++ behind_first byte (first_part byte text).1)
    × HasNone (is_byte byte) (first_part byte text).0) [
      | true ↦ λ e.
          let lt : position_or_len (is_byte byte) text < length text = ltb-true _ _ e in
          let is : get_or text (position_or_len (is_byte byte) text) 0 ≡ byte =
          eqb-true _ byte (passes_at_first (is_byte byte) text 0 lt) in
          let whole : text ≡ before_first (is_byte byte) text
          ++ (get_or text (position_or_len (is_byte byte) text) 0 ∷ after_first (is_byte byte) text) =
          split_at_first (is_byte byte) text 0 lt in
          rw (some_first byte text lt) (rw is at whole, before_none (is_byte byte) text)
      | false ↦ λ e.
          let all : position_or_len (is_byte byte) text ≡ length text =
          omega (arith, ltb-false _ _ e, position_or_len_le (is_byte byte) text) in
          let front : take (position_or_len (is_byte byte) text) text ≡ text =
          take_all (position_or_len (is_byte byte) text) text (omega arith) in
          let none : HasNone (is_byte byte) text = subst (HasNone (is_byte byte)) front
          (before_none (is_byte byte) text) in
          rw (none_first byte text all) (sym (append-nil text), none)
    ] refl

-- ---- the parts

pub split_none : (p : ℕ → Bool) (bs : List ℕ) → HasNone p bs → slice_split p bs ≡ bs ∷ []
split_none p [] h = refl
split_none p (b ∷ bs) h = rw (h.0, split_none p bs h.1) refl

pub split_found : (p : ℕ → Bool) (bs : List ℕ) (y : ℕ) (ys : List ℕ) → HasNone p bs → p y ≡ true
    → slice_split p (bs ++ y ∷ ys) ≡ bs ∷ slice_split p ys
split_found p [] y ys h e = rw e refl
split_found p (b ∷ bs) y ys h e = rw (h.0, split_found p bs y ys h.1 e) refl

pub joined_are_split : JoinedAreSplit
joined_are_split c first [] h = split_none (is_byte c) first h.0
joined_are_split c first (next ∷ others) h =
    split_found (is_byte c) first c (join_with_byte c (next ∷ others)) h.0 (same_byte c)
    ∙ ap (λ (parts : List (List ℕ)). first ∷ parts) (joined_are_split c next others h.1)

onto_none : (p : ℕ → Bool) (b : ℕ) (parts : List (List ℕ)) → p b ≡ false → AllByRecursion (HasNone p) parts
    → AllByRecursion (HasNone p) (onto_first b parts)
onto_none p b [] e h = ((e, tt), tt)
onto_none p b (part ∷ parts) e h = ((e, h.0), h.1)

pub parts_none : (p : ℕ → Bool) (bs : List ℕ) → AllByRecursion (HasNone p) (slice_split p bs)
parts_none p [] = (tt, tt)
parts_none p (b ∷ bs) =
    elim (p b) as (λ t. p b ≡ t → AllByRecursion (HasNone p)
    (cond t ([] ∷ slice_split p bs) (onto_first b (slice_split p bs)))) [
      | true ↦ λ e. (tt, parts_none p bs)
      | false ↦ λ e. onto_none p b (slice_split p bs) e (parts_none p bs)
    ] refl

pub split_are_joined : SplitAreJoined
split_are_joined c text = (join_with_byte-slice_split c text, parts_none (is_byte c) text)

-- a text is split into its first part and the parts of what stands behind it
parts_are : (separator offset : ℕ) (text : List ℕ)
    → parts_of separator (offset, text)
    ≡ (offset, (first_part separator text).0) ∷ parts_left separator (offset + length (first_part separator text).0 + 1)
    (first_part separator text).1
unfolding parts_of
parts_are separator offset text =
    elim (ltb (position_or_len (is_byte separator) text) (length text)) as
    (λ t. ltb (position_or_len (is_byte separator) text) (length text) ≡ t
    → placed offset (slice_split (is_byte separator) text)
    ≡ (offset, (first_part separator text).0) ∷ parts_left separator (offset + length (first_part separator text).0 + 1)
    (first_part separator text).1) [
      | true ↦ λ e.
          let lt : position_or_len (is_byte separator) text < length text = ltb-true _ _ e in
          rw (some_first separator text lt, slice_split_first (is_byte separator) text 0 lt) refl
      | false ↦ λ e.
          let all : position_or_len (is_byte separator) text ≡ length text =
          omega (arith, ltb-false _ _ e, position_or_len_le (is_byte separator) text) in
          let front : take (position_or_len (is_byte separator) text) text ≡ text =
          take_all (position_or_len (is_byte separator) text) text (omega arith) in
          let none : HasNone (is_byte separator) text = subst (HasNone (is_byte separator)) front
          (before_none (is_byte separator) text) in
          rw (none_first separator text all, split_none (is_byte separator) text none) refl
    ] refl

pub next_part : (separator offset : ℕ) (text front : List ℕ) (rest : Option (List ℕ))
    → (front, rest) ≡ first_part separator text
    → parts_of separator (offset, text) ≡ (offset, front) ∷ parts_left separator (offset + length front + 1) rest
next_part separator offset text front rest e =
    subst (λ (x : List ℕ × Option (List ℕ)). parts_of separator (offset, text) ≡ (offset, x.0) ∷ parts_left separator
    (offset + length x.0 + 1) x.1) (sym e)
    (parts_are separator offset text)
