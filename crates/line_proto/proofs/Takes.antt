-- What is written as a line is read as it.
use Rattle.std.proofs.Common.{◌≡◌, ◌≢◌, ℕ, ℤ, zero, suc, ◌+◌, ◌<◌, ◌≤◌, Bool, true, false, eqb, List, [], ◌∷◌, ◌++◌}
use Rattle.std.proofs.Common.{length, get_or, take, drop, Ok, Option, Some, None, refl, sym, ap, subst, ◌∙◌, arith}
use Rattle.std.proofs.Common.{append_assoc}
use Rattle.std.specs.Prelude.{◌||◌, ◌==◌, not, ◌⊎◌}
use Rattle.std.proofs.Common.{inl, inr}
use Rattle.std.specs.List.{position_or_len}
use Rattle.std.specs.Str.{IsUtf8, is_utf8}
use Rattle.std.proofs.lemmas.Str.{is_utf8-from_IsUtf8}
use Rattle.std.proofs.lemmas.Bool.{ne_eqb, eq-eqb}
use Rattle.std.proofs.lemmas.List.{take_at, length-append, append-nil}
use Rattle.text_parts.specs.Part.{Kind, text_at}
use Rattle.text_parts.specs.Grammar.{Mark, Escaped, Bare, spelled, IsPart, HasNone, IsWritten}
use Rattle.text_parts.proofs.Takes.{At, at_start, step, over, at_byte, part_takes, not_none, Took}
use Rattle.text_parts.proofs.Spans.{unhidden_part}
use Rattle.text_parts.specs.Many.{Reader, many_at}
use Rattle.metric.specs.declared.value.Value.{Value}
use Rattle.metric.specs.Draft.{Tag, Field, has_too_many}
use Rattle.text_parts.specs.Pairs.{pair_text, pairs_text, Meaning, AllAre}
use Rattle.line_proto.specs.declared.fault.LineFault.{LineFault}
use Rattle.line_proto.specs.Kinds.{name_part, key_part, tag_value_part, text_part, value_part}
use Rattle.fixed_num.specs.Decimal.{decimal_of}
use Rattle.line_proto.specs.Values.{value_of, truth_of, number_of, time_of}
use Rattle.line_proto.specs.Reading.{is_value_end, text_value_at, Line, name_at, key_at, tag_value_at, tag_at}
use Rattle.line_proto.specs.Reading.{plain_value_at, value_at, field_at, tags_at, fields_at, behind_spaces}
use Rattle.line_proto.specs.Reading.{spaced_fields_at, written_time_at, time_at, time_len, line_at, content_of}
use Rattle.line_proto.specs.Reading.{metric_at, text_reading, reading}
use Rattle.line_proto.specs.Grammar.{ends_word, is_space, Written, spaces, time_text}
use Rattle.line_proto.specs.Grammar.{behind_fields, behind_tags, behind_name, line_spelling, IsTag, IsQuoted}
use Rattle.line_proto.specs.Grammar.{IsUnquoted, NoQuote, IsField}
use Rattle.line_proto.specs.Grammar.{IsTime, NoHash, IsLine}

-- the text begins with a byte that passes the test, or is empty
abbrev pub Meets : (ℕ → Bool) → List ℕ → Type 0
Meets p [] = Unit {0}
Meets p (b ∷ bs) = p b ≡ true

pub word_len : (p : ℕ → Bool) (w rest : List ℕ) → HasNone p w → Meets p rest → position_or_len p (w ++ rest) ≡ length w
word_len p [] [] none ends = refl
word_len p [] (b ∷ rest) none ends = rw ends refl
word_len p (b ∷ w) rest none ends = rw none.0 (ap (λ (n : ℕ). 1 + n) (word_len p w rest none.1 ends) ∙ omega arith)

name_takes : (piece : List ℕ) (i : ℕ) (w rest name : List ℕ) → At piece i (w ++ rest) → IsWritten name_part w rest name
    → Took (name_at piece i) piece rest name
unfolding name_at
name_takes piece i w rest name at is =
    let part = part_takes name_part piece i w rest is.marks at is.is is.part in
    let text : text_at name_part piece i ≡ name = part.1 ∙ is.says in
    (i + length w, rw (text, part.0, not_none w is.some) refl, step piece i w rest at)

tag_value_takes : (piece : List ℕ) (i : ℕ) (w rest value : List ℕ) → At piece i (w ++ rest)
    → IsWritten tag_value_part w rest value → Took (tag_value_at piece i) piece rest value
unfolding tag_value_at
tag_value_takes piece i w rest value at is =
    let part = part_takes tag_value_part piece i w rest is.marks at is.is is.part in
    let text : text_at tag_value_part piece i ≡ value = part.1 ∙ is.says in
    (i + length w, rw (text, part.0, not_none w is.some) refl, step piece i w rest at)

pub key_takes : (piece : List ℕ) (i : ℕ) (w rest key : List ℕ) → At piece i (w ++ 61 ∷ rest)
    → IsWritten key_part w (61 ∷ rest) key → Took (key_at piece i) piece rest key
unfolding key_at
key_takes piece i w rest key at is =
    let part = part_takes key_part piece i w (61 ∷ rest) is.marks at is.is is.part in
    let text : text_at key_part piece i ≡ key = part.1 ∙ is.says in
    let behind = step piece i w (61 ∷ rest) at in
    let equals : (get_or piece (i + length w) 0 == 61) ≡ true =
    eq-eqb _ _ (at_byte piece (i + length w) (61 ∷ rest) behind) in
    (i + length w + 1, rw (text, part.0, not_none w is.some, equals) refl, over piece (i + length w) 61 rest behind)

pair_at : (piece : List ℕ) (i : ℕ) (pair : List ℕ × List ℕ) (rest : List ℕ) → At piece i (pair_text pair ++ rest)
    → At piece i (pair.0 ++ 61 ∷ (pair.1 ++ rest))
pair_at piece i pair rest at = subst (At piece i) (append_assoc pair.0 (61 ∷ pair.1) rest) at

tag_takes : (piece : List ℕ) (i : ℕ) (w : List ℕ × List ℕ) (rest : List ℕ) (tag : Tag)
    → At piece i (pair_text w ++ rest)
    → IsTag w rest tag → Meets ends_word rest → Took (tag_at piece i) piece rest tag
unfolding tag_at
tag_takes piece i w rest tag at is ends =
    let key = key_takes piece i w.0 (w.1 ++ rest) tag.0 (pair_at piece i w rest at) is.key in
    let value = tag_value_takes piece key.0 w.1 rest tag.1 key.2 is.value in
    (value.0, rw (key.1, value.1) refl, value.2)

-- ---- values

empty_value : (value : Value) → value_of [] ≡ Ok value → ⊥
unfolding value_of truth_of number_of decimal_of
empty_value value e = cc

no_quote_at : (w rest : List ℕ) (value : Value) → value_of w ≡ Ok value → NoQuote w
    → (get_or (w ++ rest) 0 0 == 34) ≡ false
no_quote_at [] rest value is h = absurd (empty_value value is)
no_quote_at (b ∷ w) rest value is h = h

unquoted_takes : (piece : List ℕ) (i : ℕ) (w rest : List ℕ) (value : Value) → At piece i (w ++ rest)
    → IsUnquoted w value
    → Meets ends_word rest → Took (value_at piece i) piece rest value
unfolding value_at plain_value_at
unquoted_takes piece i w rest value at is ends =
    let n : position_or_len ends_word (drop i piece) ≡ length w =
    ap (position_or_len ends_word) at.is ∙ word_len ends_word w rest is.none ends in
    let cut : w ≡ take (position_or_len ends_word (drop i piece)) (drop i piece) =
    sym (ap (λ (m : ℕ). take m (drop i piece)) n ∙ ap (take (length w)) at.is ∙ take_at w rest (length w) refl) in
    let part = unhidden_part value_part (λ b. refl) piece w i cut in
    let plain_one : (get_or piece i 0 == 34) ≡ false = ap (λ (b : ℕ). b == 34) (at_byte piece i (w ++ rest) at)
    ∙ no_quote_at w rest value is.says is.no_quote in
    (i + length w, rw (plain_one, part.means, part.len, is.says) refl, step piece i w rest at)

value_end : (piece : List ℕ) (i : ℕ) (rest : List ℕ) → At piece i rest → Meets ends_word rest
    → is_value_end piece i ≡ true
value_end piece i [] at ends = let all : (i == length piece) ≡ true = eq-eqb _ _ (omega (arith, at.within)) in
    rw all refl
value_end piece i (b ∷ rest) at ends =
    let some : (i == length piece) ≡ false = ne_eqb _ _ (λ e. absurd (omega (arith, at.within))) in
    rw (some, at_byte piece i (b ∷ rest) at) ends

pub quoted_takes : (piece : List ℕ) (i : ℕ) (w rest : List ℕ) (value : Value) → At piece i (w ++ rest)
    → IsQuoted w rest value
    → Meets ends_word rest → Took (value_at piece i) piece rest value
unfolding value_at text_value_at
quoted_takes piece i w rest value at is ends =
    let here : At piece i (34 ∷ (spelled is.marks ++ 34 ∷ rest)) =
    subst (At piece i) (ap (λ (t : List ℕ). t ++ rest) is.is
    ∙ ap (λ (t : List ℕ). 34 ∷ t) (append_assoc (spelled is.marks) (34 ∷ []) rest)) at in
    let first : (get_or piece i 0 == 34) ≡ true = eq-eqb _ _
    (at_byte piece i (34 ∷ (spelled is.marks ++ 34 ∷ rest)) here) in
    let text = over piece i 34 (spelled is.marks ++ 34 ∷ rest) here in
    let part = part_takes text_part piece (i + 1) (spelled is.marks) (34 ∷ rest) is.marks text refl is.part in
    let close = step piece (i + 1) (spelled is.marks) (34 ∷ rest) text in
    let last : (get_or piece (i + 1 + length (spelled is.marks)) 0 == 34) ≡ true =
    eq-eqb _ _ (at_byte piece (i + 1 + length (spelled is.marks)) (34 ∷ rest) close) in
    let behind = over piece (i + 1 + length (spelled is.marks)) 34 rest close in
    let end = value_end piece (i + 1 + length (spelled is.marks) + 1) rest behind ends in
    (i + 1 + length (spelled is.marks) + 1, rw (first, part.1, part.0, last, end, is.says) refl, behind)

value_takes : (piece : List ℕ) (i : ℕ) (w rest : List ℕ) (value : Value) → At piece i (w ++ rest)
    → IsQuoted w rest value ⊎ IsUnquoted w value → Meets ends_word rest → Took (value_at piece i) piece rest value
value_takes piece i w rest value at (inl is) ends = quoted_takes piece i w rest value at is ends
value_takes piece i w rest value at (inr is) ends = unquoted_takes piece i w rest value at is ends

field_takes : (piece : List ℕ) (i : ℕ) (w : List ℕ × List ℕ) (rest : List ℕ) (field : Field)
    → At piece i (pair_text w ++ rest)
    → IsField w rest field → Meets ends_word rest → Took (field_at piece i) piece rest field
unfolding field_at
field_takes piece i w rest field at is ends =
    let key = key_takes piece i w.0 (w.1 ++ rest) field.0 (pair_at piece i w rest at) is.key in
    let value = value_takes piece key.0 w.1 rest field.1 key.2 is.value ends in
    (value.0, rw (key.1, value.1) refl, value.2)

pairs_meet : (ws : List (List ℕ × List ℕ)) (rest : List ℕ) → Meets ends_word rest
    → Meets ends_word (pairs_text ws ++ rest)
pairs_meet [] rest ends = ends
pairs_meet (w ∷ ws) rest ends = refl

-- the reader takes an item that stands in front of an end
abbrev pub Takes : {X : Type 0} → Reader X LineFault → Meaning X → List ℕ → Type 0
Takes {X} item_at Is piece = (i : ℕ) (w : List ℕ × List ℕ) (rest : List ℕ) (x : X) → At piece i (pair_text w ++ rest)
    → Is w rest x → Meets ends_word rest → Took (item_at piece i) piece rest x

many_take : {X : Type 0} (item_at : Reader X LineFault) (Is : Meaning X) (piece : List ℕ) → Takes item_at Is piece
    → (n i : ℕ) (ws : List (List ℕ × List ℕ)) (rest : List ℕ) (xs : List X) → length piece ≤ n + i
    → At piece i (pairs_text ws ++ rest) → AllAre Is ws rest xs → Meets ends_word rest → get_or rest 0 0 ≢ 44
    → Took (many_at item_at 44 n piece i) piece rest xs
unfolding many_at
many_take item_at Is piece takes zero i [] rest [] enough at all ends no_comma = (i, refl, at)
many_take item_at Is piece takes (suc n) i [] rest [] enough at all ends no_comma =
    let test : eqb (get_or piece i 0) 44 ≡ false = ne_eqb _ _ (λ e. no_comma (sym (at_byte piece i rest at) ∙ e)) in
    (i, rw test refl, at)
many_take item_at Is piece takes n i [] rest (x ∷ xs) enough at all ends no_comma = absurd all
many_take item_at Is piece takes n i (w ∷ ws) rest [] enough at all ends no_comma = absurd all
many_take item_at Is piece takes zero i (w ∷ ws) rest (x ∷ xs) enough at all ends no_comma =
    absurd (omega (arith, at.within))
many_take item_at Is piece takes (suc n) i (w ∷ ws) rest (x ∷ xs) enough at all ends no_comma =
    let test : eqb (get_or piece i 0) 44 ≡ true = eq-eqb _ _
    (at_byte piece i (44 ∷ ((pair_text w ++ pairs_text ws) ++ rest)) at) in
    let item : At piece (i + 1) (pair_text w ++ (pairs_text ws ++ rest)) =
    subst (At piece (i + 1)) (append_assoc (pair_text w) (pairs_text ws) rest)
    (over piece i 44 ((pair_text w ++ pairs_text ws) ++ rest) at) in
    let first = takes (i + 1) w (pairs_text ws ++ rest) x item all.0 (pairs_meet ws rest ends) in
    let others = many_take item_at Is piece takes n first.0 ws rest xs
    (omega (arith, item.within, (first.2).within, length-append (pair_text w) (pairs_text ws ++ rest))) first.2 all.1
    ends no_comma in
    (others.0, rw (test, first.1, others.1) refl, others.2)

-- ---- spaces

no_others : (n : ℕ) → HasNone (λ b. not (b == 32)) (spaces n)
no_others zero = tt
no_others (suc n) = (refl, no_others n)

pub spaces_take : (piece : List ℕ) (i n : ℕ) (rest : List ℕ) → At piece i (spaces n ++ rest)
    → Meets (λ b. not (b == 32)) rest → (behind_spaces piece i ≡ i + length (spaces n))
    × At piece (i + length (spaces n)) rest
spaces_take piece i n rest at ends =
    let len : position_or_len (λ b. not (b == 32)) (drop i piece) ≡ length (spaces n) =
    ap (position_or_len (λ b. not (b == 32))) at.is ∙ word_len (λ b. not (b == 32)) (spaces n) rest
    (no_others n) ends in
    (ap (λ (m : ℕ). i + m) len, step piece i (spaces n) rest at)

-- a text that has no space begins with none
no_space : (w rest : List ℕ) → 0 < length w → HasNone is_space w → Meets (λ b. not (b == 32)) (w ++ rest)
no_space [] rest some none = absurd (omega arith)
no_space (b ∷ w) rest some none = rw none.0 refl

-- nor does a part that ends before a space
marks_no_space : (k : Kind) → ((b : ℕ) → k.ends b ≡ false → (b == 32) ≡ false)
    → (w : List ℕ) (marks : List Mark) (rest more : List ℕ)
    → 0 < length w → w ≡ spelled marks → IsPart k marks rest → Meets (λ b. not (b == 32)) (w ++ more)
marks_no_space k h w [] rest more some is part = absurd (omega (arith, ap length is))
marks_no_space k h w (Escaped c ∷ marks) rest more some is part = rw is refl
marks_no_space k h w (Bare b ∷ marks) rest more some is part = rw (is, h b part.0) refl

or_second : (a b : Bool) → (a || b) ≡ false → b ≡ false
or_second true b e = absurd cc
or_second false b e = e

key_no_space : (b : ℕ) → key_part.ends b ≡ false → (b == 32) ≡ false
key_no_space b e = or_second (b == 61 || b == 44) (b == 32) e

name_no_space : (b : ℕ) → name_part.ends b ≡ false → (b == 32) ≡ false
name_no_space b e = or_second (b == 44) (b == 32) e

not_at_end : (piece : List ℕ) (i : ℕ) (text : List ℕ) → 0 < length text → At piece i text → (i == length piece) ≡ false
not_at_end piece i text some at = ne_eqb _ _ (λ e. absurd (omega (arith, at.within)))

at_end : (piece : List ℕ) (i : ℕ) → At piece i [] → (i == length piece) ≡ true
at_end piece i at = eq-eqb _ _ (omega (arith, at.within))

-- ---- fields

pub fields_take : (piece : List ℕ) (i : ℕ) (w : List ℕ × List ℕ) (ws : List (List ℕ × List ℕ)) (rest : List ℕ)
    (fields : List Field)
    → At piece i (pair_text w ++ (pairs_text ws ++ rest)) → AllAre IsField (w ∷ ws) rest fields → Meets ends_word rest
    → get_or rest 0 0 ≢ 44 → Took (fields_at piece i) piece rest fields
unfolding fields_at
fields_take piece i w ws rest [] at all ends no_comma = absurd all
fields_take piece i w ws rest (field ∷ fields) at all ends no_comma =
    let first = field_takes piece i w (pairs_text ws ++ rest) field at all.0 (pairs_meet ws rest ends) in
    let others = many_take field_at IsField piece (field_takes piece) (length piece) first.0 ws rest fields
    (omega arith) first.2 all.1 ends no_comma in
    (others.0, rw (first.1, others.1) refl, others.2)

pub spaced_fields_take : (piece : List ℕ) (i n : ℕ) (w : List ℕ × List ℕ) (ws : List (List ℕ × List ℕ)) (rest : List ℕ)
    (fields : List Field) → At piece i (spaces n ++ (pair_text w ++ (pairs_text ws ++ rest)))
    → AllAre IsField (w ∷ ws) rest fields → Meets ends_word rest → get_or rest 0 0 ≢ 44
    → Took (spaced_fields_at piece i) piece rest fields
unfolding spaced_fields_at
spaced_fields_take piece i n w ws rest [] at all ends no_comma = absurd all
spaced_fields_take piece i n w ws rest (field ∷ fields) at all ends no_comma =
    let key = (all.0).key in
    let begins : Meets (λ b. not (b == 32)) (pair_text w ++ (pairs_text ws ++ rest)) =
    rw (append_assoc w.0 (61 ∷ w.1) (pairs_text ws ++ rest))
    (marks_no_space key_part key_no_space w.0 key.marks _ (61 ∷ (w.1 ++ (pairs_text ws ++ rest))) key.some key.is
    key.part) in
    let s = spaces_take piece i n (pair_text w ++ (pairs_text ws ++ rest)) at begins in
    let more : 0 < length (pair_text w ++ (pairs_text ws ++ rest)) =
    omega (arith, length-append (pair_text w) (pairs_text ws ++ rest), length-append w.0 (61 ∷ w.1)) in
    let fs = fields_take piece (i + length (spaces n)) w ws rest (field ∷ fields) s.1 all ends no_comma in (
      fs.0,
      rw (s.0, not_at_end piece (i + length (spaces n)) (pair_text w ++ (pairs_text ws ++ rest)) more s.1) fs.1,
      fs.2,
    )

-- ---- the time

no_space_left : (n : ℕ) → Meets is_space (spaces n ++ [])
no_space_left zero = tt
no_space_left (suc n) = refl

time_some : (text : List ℕ) (time : ℤ) → time_of text ≡ Ok time → 0 < length text
time_some [] time e = absurd cc
time_some (b ∷ bs) time e = omega arith

pub written_time_takes : (piece : List ℕ) (i n : ℕ) (text : List ℕ) (time : ℤ) → At piece i (text ++ (spaces n ++ []))
    → HasNone is_space text → time_of text ≡ Ok time → written_time_at piece i ≡ Ok time
unfolding written_time_at
written_time_takes piece i n text time at none is =
    let len : time_len piece i ≡ length text = ap (position_or_len is_space) at.is
    ∙ word_len is_space text (spaces n ++ []) none (no_space_left n) in
    let cut : take (length text) (drop i piece) ≡ text = ap (take (length text)) at.is
    ∙ take_at text (spaces n ++ []) (length text) refl in
    let s = spaces_take piece (i + length text) n [] (step piece i text (spaces n ++ []) at) tt in
    rw (len, cut, is, s.0, at_end piece (i + length text + length (spaces n)) s.1) refl

pub time_takes : (piece : List ℕ) (i n : ℕ) (written : Option (ℕ × List ℕ)) (time moment : ℤ)
    → At piece i (time_text written ++ (spaces n ++ [])) → IsTime written time moment → time_at piece i moment ≡ Ok time
unfolding time_at
time_takes piece i n None time moment at is =
    let s = spaces_take piece i n [] at tt in
    rw (s.0, at_end piece (i + length (spaces n)) s.1) (ap (λ (z : ℤ). Ok z) (sym is))
time_takes piece i n (Some t) time moment at is =
    let some : 0 < length t.1 = time_some t.1 time is.2 in
    let behind : At piece i (spaces t.0 ++ (t.1 ++ (spaces n ++ []))) =
    subst (At piece i) (append_assoc (spaces t.0) t.1 (spaces n ++ [])) at in
    let s = spaces_take piece i t.0 (t.1 ++ (spaces n ++ [])) behind (no_space t.1 (spaces n ++ []) some is.1) in
    let more : 0 < length (t.1 ++ (spaces n ++ [])) = omega (arith, length-append t.1 (spaces n ++ [])) in
    rw (s.0, not_at_end piece (i + length (spaces t.0)) (t.1 ++ (spaces n ++ [])) more s.1)
    (written_time_takes piece (i + length (spaces t.0)) n t.1 time s.1 is.1 is.2)

-- ---- the line

spaces_meet : (n : ℕ) (rest : List ℕ) → 0 < n → Meets ends_word (spaces n ++ rest)
spaces_meet zero rest some = absurd (omega arith)
spaces_meet (suc n) rest some = refl

spaces_no_comma : (n : ℕ) (rest : List ℕ) → 0 < n → get_or (spaces n ++ rest) 0 0 ≢ 44
spaces_no_comma zero rest some e = absurd (omega arith)
spaces_no_comma (suc n) rest some e = absurd (omega arith)

tail_meets : (written : Option (ℕ × List ℕ)) (n : ℕ) (time moment : ℤ) → IsTime written time moment
    → Meets ends_word (time_text written ++ spaces n) × (get_or (time_text written ++ spaces n) 0 0 ≢ 44)
tail_meets None zero time moment is = (tt, λ e. absurd (omega arith))
tail_meets None (suc n) time moment is = (refl, λ e. absurd (omega arith))
tail_meets (Some t) n time moment is =
    let split = append_assoc (spaces t.0) t.1 (spaces n) in (
      rw split (spaces_meet t.0 (t.1 ++ spaces n) is.0),
      λ e. spaces_no_comma t.0 (t.1 ++ spaces n) is.0
          (ap (λ (l : List ℕ). get_or l 0 0) (sym split) ∙ e),
    )

no_hash_at : (w rest : List ℕ) → 0 < length w → NoHash w → (get_or (w ++ rest) 0 0 == 35) ≡ false
no_hash_at [] rest some h = absurd (omega arith)
no_hash_at (b ∷ w) rest some h = h

line_takes : (piece : List ℕ) (i : ℕ) (w : Written) (line : Line) (moment : ℤ) → IsLine w line moment
    → At piece i (w.name ++ behind_name w) → line_at piece i moment ≡ Ok line
unfolding line_at tags_at
line_takes piece i w line moment is at =
    let tail = tail_meets w.time w.after line.time moment is.time in
    let others = pair_text w.first ++ (pairs_text w.others ++ behind_fields w) in
    let gap = spaces_meet w.gap (pair_text w.first ++ (pairs_text w.others ++ behind_fields w)) is.gap in
    let no_comma = spaces_no_comma w.gap (pair_text w.first ++ (pairs_text w.others ++ behind_fields w)) is.gap in
    let name = name_takes piece i w.name (behind_name w) line.name at is.name in
    let tags = many_take tag_at IsTag piece (tag_takes piece) (length piece) name.0 w.tags (behind_tags w) line.tags
    (omega arith) name.2 is.tags gap no_comma in
    let fields = spaced_fields_take piece tags.0 w.gap w.first w.others (behind_fields w) line.fields tags.2 is.fields
    tail.0 tail.1 in
    let end : At piece fields.0 (time_text w.time ++ (spaces w.after ++ [])) =
    rw (append-nil (spaces w.after)) fields.2 in
    let time = time_takes piece fields.0 w.after w.time line.time moment end is.time in
    rw (name.1, tags.1, fields.1, time) refl

pub written_is_read : (w : Written) (line : Line) (moment : ℤ) → IsLine w line moment → IsUtf8 (line_spelling w)
    → has_too_many line.tags line.fields ≡ false → reading (line_spelling w) moment ≡ Ok (Some (content_of line))
unfolding reading text_reading metric_at
written_is_read w line moment is u few =
    let whole : is_utf8 (line_spelling w) ≡ true = is_utf8-from_IsUtf8 (line_spelling w) u in
    let name = is.name in
    let first : Meets (λ b. not (b == 32)) (w.name ++ behind_name w) =
    marks_no_space name_part name_no_space w.name name.marks (behind_name w)
    (behind_name w) name.some name.is name.part in
    let s = spaces_take (line_spelling w) 0 w.before (w.name ++ behind_name w) (at_start (line_spelling w)) first in
    let more : 0 < length (w.name ++ behind_name w) = omega (arith, length-append w.name (behind_name w), name.some) in
    let later : (0 + length (spaces w.before) == length (line_spelling w)) ≡ false =
    not_at_end (line_spelling w) (0 + length (spaces w.before)) (w.name ++ behind_name w) more s.1 in
    let no_comment : (get_or (line_spelling w) (0 + length (spaces w.before)) 0 == 35) ≡ false =
    ap (λ (b : ℕ). b == 35) (at_byte (line_spelling w) (0 + length (spaces w.before)) (w.name ++ behind_name w) s.1)
    ∙ no_hash_at w.name (behind_name w) name.some is.no_comment in
    let line_is = line_takes (line_spelling w) (0 + length (spaces w.before)) w line moment is s.1 in
    rw (whole, s.0, later, no_comment, line_is, few) refl
