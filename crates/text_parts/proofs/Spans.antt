-- A part up to its first backslash.
use Rattle.std.proofs.Common.{◌≡◌, ℕ, suc, ◌+◌, ◌-◌, ◌<◌, ◌≤◌, Bool, true, false, cond, ltb, List, [], ◌∷◌}
use Rattle.std.proofs.Common.{length, get_or, take, drop, Option, Some, None, refl, sym, ap, subst, ◌∙◌, add-zero}
use Rattle.std.proofs.Common.{arith}
use Rattle.std.proofs.lemmas.List.{length-take, length-take-le, length-drop}
use Rattle.text_parts.specs.declared.span.Span.{Span}
use Rattle.text_parts.specs.Part.{len_at, text_at}
use Rattle.std.specs.Prelude.{◌&&◌, ◌==◌, ◌||◌, not, slice_range, unwrap_or}
use Rattle.std.specs.List.{list_any, position, position_or_len}
use Rattle.std.specs.Str.{IsCharBoundary}
use Rattle.std.proofs.lemmas.Bool.{ltb-false, ltb-true}
use Rattle.std.proofs.lemmas.List.{drop-drop, get_or-drop, get_or-take}
use Rattle.std.proofs.lemmas.List.Folds.{list_any_at}
use Rattle.std.proofs.lemmas.List.Sums.{prefix_len-le-length, passes_at_first}
use Rattle.text_parts.specs.Part.{Kind, part_len, plain}
use Rattle.text_parts.specs.Span.{IsSpan}
use Rattle.text_parts.proofs.Utf8.{EndsLow, part-IsCharBoundary, part-IsCharBoundary_at}
use Rattle.text_parts.proofs.Parts.{end_at, all_read}
use Rattle.text_parts.specs.Part.{is_escape, IsPartAt}

-- an end of the part, or a backslash
abbrev pub stops : Kind → ℕ → Bool
stops k b = k.ends b || b == 92

or_false : (a b : Bool) → (a || b) ≡ false → (a ≡ false) × (b ≡ false)
or_false true b e = absurd cc
or_false false b e = (refl, e)

or_first : (a b : Bool) → (a || b) ≡ true → b ≡ false → a ≡ true
or_first true b e f = refl
or_first false b e f = absurd cc

behind : (k : Kind) (b c : ℕ) (bs : List ℕ) (n : ℕ)
    → 1 + (n + part_len k (drop n (c ∷ bs))) ≡ (1 + n) + part_len k (drop (1 + n) (b ∷ c ∷ bs))
behind k b c bs n =
    let next : drop n (c ∷ bs) ≡ drop (1 + n) (b ∷ c ∷ bs) = drop-drop n 1 (b ∷ c ∷ bs) in
    rw next (omega arith)

-- up to a stop nothing ends the part and nothing is hidden
part_from : (k : Kind) (bs : List ℕ)
    → part_len k bs ≡ position_or_len (stops k) bs + part_len k (drop (position_or_len (stops k) bs) bs)
unfolding part_len
part_from k [] = refl
part_from k (b ∷ []) =
    elim (stops k b) as (λ t. stops k b ≡ t
    → cond (k.ends b) 0 1 ≡ cond (not t) (1 + 0) 0 + part_len k (drop (cond (not t) (1 + 0) 0) (b ∷ []))) [
      | true ↦ λ e. omega arith
      | false ↦ λ e. let both = or_false (k.ends b) (b == 92) e in rw both.0 refl
    ] refl
part_from k (b ∷ c ∷ bs) =
    elim (stops k b) as (λ t. stops k b ≡ t
    → part_len k (b ∷ c ∷ bs) ≡ cond (not t) (1 + position_or_len (stops k) (c ∷ bs)) 0
    + part_len k (drop (cond (not t) (1 + position_or_len (stops k) (c ∷ bs)) 0) (b ∷ c ∷ bs))) [
      | true ↦ λ e. omega arith
      | false ↦ λ e.
          let both = or_false (k.ends b) (b == 92) e in
          let one : part_len k (b ∷ c ∷ bs) ≡ 1 + part_len k (c ∷ bs) = rw (both.1, both.0) refl in
          one ∙ ap (λ (n : ℕ). 1 + n) (part_from k (c ∷ bs)) ∙ behind k b c bs (position_or_len (stops k) (c ∷ bs))
    ] refl

plain_cons : (k : Kind) (b : ℕ) (bs : List ℕ) → (b == 92) ≡ false → plain k (b ∷ bs) ≡ b ∷ plain k bs
unfolding plain
plain_cons k b [] e = refl
plain_cons k b (c ∷ bs) e = rw e refl

-- what stands before a stop means itself
front_plain : (k : Kind) (bs : List ℕ)
    → plain k (take (position_or_len (stops k) bs) bs) ≡ take (position_or_len (stops k) bs) bs
unfolding plain
front_plain k [] = refl
front_plain k (b ∷ bs) =
    elim (stops k b) as (λ t. stops k b ≡ t
    → plain k (take (cond (not t) (1 + position_or_len (stops k) bs) 0) (b ∷ bs))
    ≡ take (cond (not t) (1 + position_or_len (stops k) bs) 0) (b ∷ bs)) [
      | true ↦ λ e. refl
      | false ↦ λ e.
          let m : 1 + position_or_len (stops k) bs ≡ suc (position_or_len (stops k) bs) = omega arith in
          let both = or_false (k.ends b) (b == 92) e in
          rw m (plain_cons k b (take (position_or_len (stops k) bs) bs) both.1
          ∙ ap (λ (t : List ℕ). b ∷ t) (front_plain k bs))
    ] refl

no_escape : (k : Kind) (bs : List ℕ) → (get_or bs 0 0 == 92) ≡ false → is_escape k bs ≡ false
no_escape k [] e = refl
no_escape k (b ∷ []) e = refl
no_escape k (b ∷ c ∷ bs) e = rw e refl

-- where the stop is no backslash the part ends there
ends_there : (k : Kind) (bs : List ℕ) (n : ℕ) → n ≡ position_or_len (stops k) bs
    → (n < length bs → (get_or bs n 0 == 92) ≡ false) → part_len k bs ≡ n
ends_there k bs n is none =
    elim (ltb n (length bs)) as (λ t. ltb n (length bs) ≡ t → part_len k bs ≡ n) [
      | true ↦ λ e.
          let lt : n < length bs = ltb-true n (length bs) e in
          let stop : stops k (get_or bs n 0) ≡ true = rw is (passes_at_first (stops k) bs 0 (rw (← is) lt)) in
          let escape : is_escape k (drop n bs) ≡ false = no_escape k (drop n bs)
          (rw (get_or-drop, add-zero) (none lt)) in
          let zero : part_len k (drop n bs) ≡ 0 = end_at k bs n escape lt (or_first _ _ stop (none lt)) in
          rw (← is) at (part_from k bs) ∙ rw zero (omega arith)
      | false ↦ λ e.
          let zero : part_len k (drop n bs) ≡ 0 = all_read k bs n (ltb-false n (length bs) e) in
          rw (← is) at (part_from k bs) ∙ rw zero (omega arith)
    ] refl

-- an offset that is found is in the text, or its end
pub position_or_len_le : (p : ℕ → Bool) (bs : List ℕ) → position_or_len p bs ≤ length bs
position_or_len_le p bs = prefix_len-le-length (λ b. not (p b)) bs

-- the first offset that passes, or the length
pub position_or_all : (p : ℕ → Bool) (bs : List ℕ) → unwrap_or (position p bs) (length bs) ≡ position_or_len p bs
position_or_all p bs =
    elim (ltb (position_or_len p bs) (length bs)) as (λ t. ltb (position_or_len p bs) (length bs) ≡ t
    → unwrap_or (cond t (Some (position_or_len p bs)) None) (length bs) ≡ position_or_len p bs) [
      | true ↦ λ e. refl
      | false ↦ λ e. omega (
        arith,
        ltb-false (position_or_len p bs) (length bs) e,
        prefix_len-le-length (λ b. not (p b)) bs,
      )
    ] refl

-- the first offset that passes is found in what stands behind an offset
pub found_len : (p : ℕ → Bool) (piece rest bytes : List ℕ) (i r : ℕ) (found : Option ℕ) → rest ≡ drop i piece
    → bytes ≡ rest → found ≡ position p bytes → r ≡ unwrap_or found (length rest) → r ≡ position_or_len p (drop i piece)
found_len p piece rest bytes i r found behind same is unwrapped =
    unwrapped ∙ rw (is, same, behind) (position_or_all p (drop i piece))

-- ---- spans

pub unescaped_span : (k : Kind) → EndsLow k → (piece : List ℕ) (i first : ℕ) → IsCharBoundary piece i
    → first ≡ position_or_len (stops k) (drop i piece)
    → (first < length (drop i piece) → (get_or (drop i piece) first 0 == 92) ≡ false)
    → IsSpan k piece (record { start = i; end = i + first; escaped = false })
unescaped_span k low piece i first at is none =
    let len : part_len k (drop i piece) ≡ first = ends_there k (drop i piece) first is none in
    let le : part_len k (drop i piece) ≤ length (drop i piece) =
    omega (arith, len, is, prefix_len-le-length (λ b. not (stops k b)) (drop i piece)) in
    let size : i + first - i ≡ first = omega arith in
    let text : plain k (take first (drop i piece)) ≡ take first (drop i piece) = rw is (front_plain k (drop i piece)) in
    record {
      behind = ap (λ (n : ℕ). i + n) (sym len);
      plain = λ e. rw (len, size) text;
      first = at;
      last = subst (λ (n : ℕ). IsCharBoundary piece (i + n)) len (part-IsCharBoundary_at k low piece i at.0 le);
    }

pub escaped_span : (k : Kind) → EndsLow k → (piece : List ℕ) (i first len : ℕ) → IsCharBoundary piece i
    → first ≡ position_or_len (stops k) (drop i piece) → len ≡ part_len k (drop first (drop i piece))
    → first + len ≤ length (drop i piece)
    → IsSpan k piece (record { start = i; end = i + first + len; escaped = true })
escaped_span k low piece i first len at is same within =
    let whole : part_len k (drop i piece) ≡ first + len = part_from k (drop i piece) ∙ rw (← is, ← same) refl in
    let sum : i + first + len ≡ i + part_len k (drop i piece) = omega (arith, whole) in
    record {
      behind = sum;
      plain = λ e. absurd cc;
      first = at;
      last = subst (IsCharBoundary piece) (sym sum) (part-IsCharBoundary_at k low piece i at.0 (omega (arith, whole)));
    }

-- ---- whether a part has a backslash

-- a part that begins with a backslash isn't empty, where a backslash ends none
begins_some : (k : Kind) (bs : List ℕ) → k.ends 92 ≡ false → get_or bs 0 0 ≡ 92 → 0 < part_len k bs
unfolding part_len
begins_some k [] none e = absurd cc
begins_some k (b ∷ []) none e = rw (e, none) (omega arith)
begins_some k (b ∷ c ∷ bs) none e =
    elim (b == 92 && k.escapes c) as (λ t. 0 < cond t (2 + part_len k bs)
    (cond (k.ends b) 0 (1 + part_len k (c ∷ bs)))) [
      | true ↦ omega arith
      | false ↦ rw (e, none) (omega arith)
    ]

-- no backslash stands before a stop
none_before : (k : Kind) (bs : List ℕ) → list_any (λ b. b == 92) (take (position_or_len (stops k) bs) bs) ≡ false
none_before k [] = refl
none_before k (b ∷ bs) =
    elim (stops k b) as (λ t. stops k b ≡ t
    → list_any (λ b. b == 92) (take (cond (not t) (1 + position_or_len (stops k) bs) 0) (b ∷ bs)) ≡ false) [
      | true ↦ λ e. refl
      | false ↦ λ e.
          let m : 1 + position_or_len (stops k) bs ≡ suc (position_or_len (stops k) bs) = omega arith in
          let both = or_false (k.ends b) (b == 92) e in
          rw m (rw both.1 (none_before k bs))
    ] refl

pub unescaped_none : (k : Kind) (piece : List ℕ) (i first : ℕ) → first ≡ position_or_len (stops k) (drop i piece)
    → false ≡ list_any (λ b. b == 92) (slice_range piece i (i + first))
unescaped_none k piece i first is =
    let size : i + first - i ≡ first = omega arith in
    let none : list_any (λ b. b == 92) (take first (drop i piece)) ≡ false = rw is (none_before k (drop i piece)) in
    rw size (sym none)

pub escaped_some : (k : Kind) → k.ends 92 ≡ false → (piece : List ℕ) (i first len : ℕ) → first < length (drop i piece)
    → get_or (drop i piece) first 0 ≡ 92 → len ≡ part_len k (drop first (drop i piece))
    → true ≡ list_any (λ b. b == 92) (slice_range piece i (i + first + len))
escaped_some k none piece i first len lt here same =
    let head : get_or (drop first (drop i piece)) 0 0 ≡ 92 = rw (get_or-drop, add-zero) here in
    let some : 0 < len = rw same (begins_some k (drop first (drop i piece)) none head) in
    let size : i + first + len - i ≡ first + len = omega arith in
    let within : first < length (take (first + len) (drop i piece)) =
    omega (arith, some, lt, length-take (first + len) (drop i piece)) in
    let there : get_or (take (first + len) (drop i piece)) first 0 ≡ 92 =
    get_or-take (first + len) (drop i piece) first 0 (omega (arith, some)) ∙ here in
    rw size (sym (list_any_at (λ b. b == 92) (take (first + len) (drop i piece)) first 0 within (rw there refl)))

-- ---- parts in which nothing is hidden

and_no : (a b : Bool) → b ≡ false → (a && b) ≡ false
and_no true b e = e
and_no false b e = refl

turned : (t : Bool) (m n : ℕ) → m ≡ n → cond t 0 (1 + m) ≡ cond (not t) (1 + n) 0
turned true m n e = refl
turned false m n e = ap (λ (x : ℕ). 1 + x) e

-- no byte is hidden
abbrev pub HidesNone : Kind → Type 0
HidesNone k = (b : ℕ) → k.escapes b ≡ false

unhidden_len : (k : Kind) → HidesNone k → (bs : List ℕ) → part_len k bs ≡ position_or_len k.ends bs
unfolding part_len
unhidden_len k none [] = refl
unhidden_len k none (b ∷ []) = turned (k.ends b) 0 0 refl
unhidden_len k none (b ∷ c ∷ bs) =
    rw (and_no (b == 92) (k.escapes c) (none c))
    (turned (k.ends b) (part_len k (c ∷ bs)) (position_or_len k.ends (c ∷ bs)) (unhidden_len k none (c ∷ bs)))

unhidden_plain : (k : Kind) → HidesNone k → (bs : List ℕ) → plain k bs ≡ bs
unfolding plain
unhidden_plain k none [] = refl
unhidden_plain k none (b ∷ []) = refl
unhidden_plain k none (b ∷ c ∷ bs) =
    rw (and_no (b == 92) (k.escapes c) (none c)) (ap (λ (t : List ℕ). b ∷ t) (unhidden_plain k none (c ∷ bs)))

-- the bytes before the first one that ends such a part are the part
pub unhidden_part : (k : Kind) → HidesNone k → (piece text : List ℕ) (i : ℕ)
    → text ≡ take (position_or_len k.ends (drop i piece)) (drop i piece) → IsPartAt k piece i text
unhidden_part k none piece text i is =
    let n : part_len k (drop i piece) ≡ position_or_len k.ends (drop i piece) = unhidden_len k none (drop i piece) in
    let le : position_or_len k.ends (drop i piece) ≤ length (drop i piece) =
    prefix_len-le-length (λ b. not (k.ends b)) (drop i piece) in
    record {
      len = n ∙ sym (ap length is ∙ length-take-le (position_or_len k.ends (drop i piece)) (drop i piece) le);
      means = ap (λ (m : ℕ). plain k (take m (drop i piece))) n
          ∙ unhidden_plain k none (take (position_or_len k.ends (drop i piece)) (drop i piece)) ∙ sym is;
    }

-- a character ends before that byte
pub unhidden_boundary : (k : Kind) → HidesNone k → EndsLow k → (piece : List ℕ) (i : ℕ) → i ≤ length piece
    → IsCharBoundary piece (i + position_or_len k.ends (drop i piece))
unhidden_boundary k none low piece i within =
    let n : part_len k (drop i piece) ≡ position_or_len k.ends (drop i piece) = unhidden_len k none (drop i piece) in
    subst (λ (m : ℕ). IsCharBoundary piece (i + m)) n
    (part-IsCharBoundary_at k low piece i within (rw n (prefix_len-le-length (λ b. not (k.ends b)) (drop i piece))))

pub unhidden_end : (k : Kind) → HidesNone k → EndsLow k → (piece text : List ℕ) (i : ℕ) → i ≤ length piece
    → text ≡ take (position_or_len k.ends (drop i piece)) (drop i piece) → IsCharBoundary piece (i + length text)
unhidden_end k none low piece text i within is =
    let le : position_or_len k.ends (drop i piece) ≤ length (drop i piece) =
    prefix_len-le-length (λ b. not (k.ends b)) (drop i piece) in
    let size : length text ≡ position_or_len k.ends (drop i piece) =
    ap length is ∙ length-take-le (position_or_len k.ends (drop i piece)) (drop i piece) le in
    rw size (unhidden_boundary k none low piece i within)

pub unhidden_rest_boundary : (k : Kind) → HidesNone k → EndsLow k → (bs : List ℕ)
    → IsCharBoundary bs (position_or_len k.ends bs)
unhidden_rest_boundary k none low bs =
    let n : part_len k bs ≡ position_or_len k.ends bs = unhidden_len k none bs in
    subst (IsCharBoundary bs) n (part-IsCharBoundary k low bs (rw n (prefix_len-le-length (λ b. not (k.ends b)) bs)))

-- ---- the text of a span

pub plain_some : (k : Kind) (bs : List ℕ) → 0 < length bs → 0 < length (plain k bs)
unfolding plain
plain_some k [] some = some
plain_some k (b ∷ []) some = some
plain_some k (b ∷ c ∷ bs) some =
    elim (b == 92 && k.escapes c) as (λ t. 0 < length (cond t (k.means c ∷ plain k bs) (b ∷ plain k (c ∷ bs))))
    [ true ↦ omega arith | false ↦ omega arith ]

-- a span with a byte has a text with a byte
pub span_some : (k : Kind) (piece : List ℕ) (span : Span) → IsSpan k piece span → span.start < span.end
    → 0 < length (text_at k piece span.start)
span_some k piece span is some =
    let len : 0 < len_at k piece span.start = omega (arith, is.behind) in
    let within : len_at k piece span.start ≤ length (drop span.start piece) =
    omega (arith, is.behind, is.last.0, length-drop span.start piece) in
    plain_some k (take (len_at k piece span.start) (drop span.start piece))
    (omega (arith, length-take-le (len_at k piece span.start) (drop span.start piece) within))
