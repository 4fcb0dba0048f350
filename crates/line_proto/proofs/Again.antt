-- What is read as a line is written as one.
use Rattle.std.proofs.Common.{◌≡◌, ◌≢◌, ℕ, ℤ, zero, suc, ◌+◌, ◌<◌, ◌≤◌, Bool, true, false, cond, eqb, List, [], ◌∷◌}
use Rattle.std.proofs.Common.{◌++◌, length, get_or, take, drop, Result, Ok, Err, Option, Some, None, refl, sym, ap}
use Rattle.std.proofs.Common.{subst, ◌∙◌, arith, add-zero, append_assoc, inl, inr}
use Rattle.std.specs.Prelude.{◌||◌, ◌==◌, not}
use Rattle.std.specs.List.{position_or_len}
use Rattle.std.specs.Str.{IsUtf8, is_utf8}
use Rattle.std.proofs.lemmas.Str.{IsUtf8-from_is_utf8}
use Rattle.std.proofs.lemmas.Bool.{eqb-true, eqb-false, or_parts}
use Rattle.std.proofs.lemmas.List.{drop-drop, get_or-drop, get_or_past, length-drop, length-take-le, append-nil}
use Rattle.std.proofs.lemmas.List.{take-append-drop, drop_all}
use Rattle.text_parts.specs.Part.{Kind}
use Rattle.text_parts.specs.Grammar.{Mark, Escaped, Bare, spelled, meant, IsPart, HasNone, IsWritten}
use Rattle.text_parts.proofs.Founds.{bind_ok, chosen_ok, ok_pair, not_false, some_of}
use Rattle.text_parts.proofs.Stands.{Spans, joins, none_spans, byte_at, byte_spans, Parted, part_again}
use Rattle.text_parts.proofs.Spans.{unhidden_part}
use Rattle.std.proofs.Common.{inl, inr, add-zero}
use Rattle.std.specs.Prelude.{◌⊎◌}
use Rattle.text_parts.specs.Chain.{◌>>=◌}
use Rattle.text_parts.specs.Many.{Reader, many_at, items_at}
use Rattle.text_parts.proofs.Utf8.{either}
use Rattle.text_parts.proofs.Spans.{position_or_len_le}
use Rattle.metric.specs.declared.value.Value.{Value}
use Rattle.metric.specs.declared.metric.Content.{Content}
use Rattle.metric.specs.Draft.{Tag, Field, has_too_many}
use Rattle.text_parts.specs.Pairs.{pair_text, pairs_text, Meaning, AllAre}
use Rattle.line_proto.specs.declared.fault.LineKind.{LineKind}
use Rattle.line_proto.specs.declared.fault.LineKind.TheVariants.{BadKey, BadValue}
use Rattle.line_proto.specs.declared.fault.LineFault.{LineFault}
use Rattle.line_proto.specs.Kinds.{name_part, key_part, tag_value_part, text_part, value_part}
use Rattle.line_proto.specs.Values.{value_of, time_of}
use Rattle.line_proto.specs.Reading.{is_value_end, text_value_at, Line, placed, filled_at, name_at, key_at}
use Rattle.line_proto.specs.Reading.{tag_value_at, keyed_at, tag_at, plain_value_at, value_at, field_at, fields_at}
use Rattle.line_proto.specs.Reading.{tags_at, behind_spaces, spaced_fields_at, time_len, written_time_at, time_at}
use Rattle.line_proto.specs.Reading.{line_at, metric_at, text_reading, reading, limited, content_of}
use Rattle.line_proto.specs.Reading.{is_blank_or_comment}
use Rattle.line_proto.specs.Grammar.{ends_word, is_space, Written, spaces, time_text}
use Rattle.line_proto.specs.Grammar.{behind_name, line_spelling, IsTag, IsQuoted, IsUnquoted, NoQuote, IsField}
use Rattle.line_proto.specs.Grammar.{IsTime, NoHash, IsLine}
use Rattle.line_proto.proofs.Takes.{Meets}

-- ---- readings and tests

pub placed_ok : {A : Type 0} (i : ℕ) (r : Result A LineKind) (x : A) → placed i r ≡ Ok x → r ≡ Ok x
placed_ok i (Ok y) x e = let same : y ≡ x = cc in ap Ok same
placed_ok i (Err kind) x e = absurd cc

-- ---- parts

pub word_split : (p : ℕ → Bool) (bs : List ℕ) → HasNone p (take (position_or_len p bs) bs)
    × Meets p (drop (position_or_len p bs) bs)
word_split p [] = (tt, tt)
word_split p (b ∷ bs) = elim (p b) as (λ t. p b ≡ t → HasNone p
    (take (cond (not t) (1 + position_or_len p bs) 0) (b ∷ bs))
    × Meets p (drop (cond (not t) (1 + position_or_len p bs) 0) (b ∷ bs))) [
      | true ↦ λ e. (tt, e)
      | false ↦ λ e. let m : 1 + position_or_len p bs ≡ suc (position_or_len p bs) = omega arith in
          let behind = word_split p bs in rw m ((e, behind.0), behind.1)
    ] refl

pub ends_meet : (k : Kind) (marks : List Mark) (rest : List ℕ) → IsPart k marks rest → Meets k.ends rest
ends_meet k [] [] h = tt
ends_meet k [] (b ∷ rest) h = h.0
ends_meet k (Escaped c ∷ marks) rest h = ends_meet k marks rest h.1
ends_meet k (Bare b ∷ marks) rest h = ends_meet k marks rest h.2

-- a word that was read
pub record WordRead (k : Kind) (piece : List ℕ) (i j : ℕ) (text : List ℕ) : Type 0 where
  pub word : List ℕ
  pub written : IsWritten k word (drop j piece) text
  pub spans : Spans piece i j word

word_read : (k : Kind) (piece : List ℕ) (i j : ℕ) (text : List ℕ) (part : Parted k piece i)
    → (length (spelled part.marks) == 0) ≡ false → meant k part.marks ≡ text → i + length (spelled part.marks) ≡ j
    → WordRead k piece i j text
word_read k piece i j text part some same offset = subst (λ (m : ℕ). WordRead k piece i m text) offset (record {
  word = spelled part.marks;
  written = record {
    some = some_of (spelled part.marks) some;
    marks = part.marks;
    is = refl;
    part = part.part;
    says = same;
  };
  spans = part.spans;
})

filled_again : (k : Kind) (kind : LineKind) (piece : List ℕ) (i j : ℕ) (text : List ℕ) → i ≤ length piece
    → filled_at k kind piece i ≡ Ok (text, j)
    → WordRead k piece i j text
filled_again k kind piece i j text le e =
    let part = part_again k piece i le in
    let read = rw (part.means, part.len) at e in
    let ok = chosen_ok (length (spelled part.marks) == 0) _ _ _ read in
    let pair = ok_pair _ _ _ _ ok.1 in
    word_read k piece i j text part ok.0 pair.0 pair.1

pub name_again : (piece : List ℕ) (i j : ℕ) (name : List ℕ) → i ≤ length piece → name_at piece i ≡ Ok (name, j)
    → WordRead name_part piece i j name
unfolding name_at
name_again piece i j name le e = filled_again name_part BadKey piece i j name le e

pub tag_value_again : (piece : List ℕ) (i j : ℕ) (value : List ℕ) → i ≤ length piece
    → tag_value_at piece i ≡ Ok (value, j)
    → WordRead tag_value_part piece i j value
unfolding tag_value_at
tag_value_again piece i j value le e = filled_again tag_value_part BadValue piece i j value le e

-- a key with its equals sign
pub record KeyRead (piece : List ℕ) (i j : ℕ) (key : List ℕ) : Type 0 where
  pub word : List ℕ
  pub written : IsWritten key_part word (61 ∷ drop j piece) key
  pub spans : Spans piece i j (word ++ 61 ∷ [])

key_read : (piece : List ℕ) (i j : ℕ) (key : List ℕ) (part : Parted key_part piece i)
    → (length (spelled part.marks) == 0) ≡ false
    → get_or piece (i + length (spelled part.marks)) 0 ≡ 61 → meant key_part part.marks ≡ key
    → i + length (spelled part.marks) + 1 ≡ j → KeyRead piece i j key
key_read piece i j key part some equals same offset =
    let behind = byte_at piece (i + length (spelled part.marks)) 61 (omega arith) equals in
    subst (λ (m : ℕ). KeyRead piece i m key) offset (record {
      word = spelled part.marks;
      written = record {
        some = some_of (spelled part.marks) some;
        marks = part.marks;
        is = refl;
        part = subst (IsPart key_part part.marks) behind part.part;
        says = same;
      };
      spans = joins piece i (i + length (spelled part.marks)) (i + length (spelled part.marks) + 1) (spelled part.marks)
          (61 ∷ []) part.spans
          (byte_spans piece (i + length (spelled part.marks)) 61 (omega arith) equals);
    })

pub key_again : (piece : List ℕ) (i j : ℕ) (key : List ℕ) → i ≤ length piece → key_at piece i ≡ Ok (key, j)
    → KeyRead piece i j key
unfolding key_at
key_again piece i j key le e =
    let part = part_again key_part piece i le in
    let read = rw (part.means, part.len) at e in
    let ok = chosen_ok (length (spelled part.marks) == 0 || not
    (get_or piece (i + length (spelled part.marks)) 0 == 61)) _ _ _ read in
    let both = or_parts (length (spelled part.marks) == 0) (not
    (get_or piece (i + length (spelled part.marks)) 0 == 61)) ok.0 in
    let pair = ok_pair _ _ _ _ ok.1 in
    key_read piece i j key part both.0 (eqb-true (get_or piece (i + length (spelled part.marks)) 0) 61
    (not_false (eqb (get_or piece (i + length (spelled part.marks)) 0) 61) both.1)) pair.0 pair.1

-- an item that was read: it is written as a pair in front of an end
pub record PairRead {X : Type 0} (Is : Meaning X) (piece : List ℕ) (i j : ℕ) (x : X) : Type 0 where
  pub pair : List ℕ × List ℕ
  pub is : Is pair (drop j piece) x
  pub ends : Meets ends_word (drop j piece)
  pub spans : Spans piece i j (pair_text pair)

-- a value that was read behind a key: they are written as a pair
record PairedRead {V : Type 0} (Is : Meaning (List ℕ × V)) (piece : List ℕ) (i j : ℕ) (value : V) : Type 0 where
  text : List ℕ
  is : (word key : List ℕ) → IsWritten key_part word (61 ∷ (text ++ drop j piece)) key
      → Is (word, text) (drop j piece) (key, value)
  ends : Meets ends_word (drop j piece)
  spans : Spans piece i j text

keyed_again : {V : Type 0} (value_at : List ℕ → ℕ → Result (V × ℕ) LineFault) (Is : Meaning (List ℕ × V))
    (piece : List ℕ) → ((k l : ℕ) (value : V) → k ≤ length piece → value_at piece k ≡ Ok (value, l)
    → PairedRead Is piece k l value)
    → (i j : ℕ) (pair : List ℕ × V) → i ≤ length piece → keyed_at value_at piece i ≡ Ok (pair, j)
    → PairRead Is piece i j pair
keyed_again {V} value_at Is piece again i j pair le e =
    let k = bind_ok (key_at piece i) _ (pair, j) e in
    let key = key_again piece i k.0.1 k.0.0 le k.1 in
    let v = bind_ok (value_at piece k.0.1) _ (pair, j) k.2 in
    let value = again k.0.1 v.0.1 v.0.0 key.spans.within v.1 in
    let same = ok_pair (k.0.0, v.0.0) pair v.0.1 j v.2 in
    let both : Spans piece i v.0.1 (pair_text (key.word, value.text)) =
    subst (Spans piece i v.0.1) (append_assoc key.word (61 ∷ []) value.text)
    (joins piece i k.0.1 v.0.1 (key.word ++ 61 ∷ []) value.text key.spans value.spans) in
    let front : IsWritten key_part key.word (61 ∷ (value.text ++ drop v.0.1 piece)) k.0.0 =
    subst (λ (t : List ℕ). IsWritten key_part key.word (61 ∷ t) k.0.0) value.spans.is key.written in
    subst (λ (x : List ℕ × V). PairRead Is piece i j x) same.0
    (subst (λ (m : ℕ). PairRead Is piece i m (k.0.0, v.0.0)) same.1 (record {
      pair = (key.word, value.text);
      is = value.is key.word k.0.0 front;
      ends = value.ends;
      spans = both;
    }))

paired_tag : (piece : List ℕ) (k l : ℕ) (text : List ℕ) → k ≤ length piece → tag_value_at piece k ≡ Ok (text, l)
    → PairedRead IsTag piece k l text
paired_tag piece k l text le e =
    let value = tag_value_again piece k l text le e in
    record {
      text = value.word;
      is = λ word key front. record { key = front; value = value.written };
      ends = ends_meet tag_value_part value.written.marks (drop l piece) value.written.part;
      spans = value.spans;
    }

pub tag_again : (piece : List ℕ) (i j : ℕ) (tag : Tag) → i ≤ length piece → tag_at piece i ≡ Ok (tag, j)
    → PairRead IsTag piece i j tag
unfolding tag_at
tag_again piece i j tag le e = keyed_again tag_value_at IsTag piece (paired_tag piece) i j tag le e

-- a value that was read
pub record ValueRead (piece : List ℕ) (i j : ℕ) (value : Value) : Type 0 where
  pub text : List ℕ
  pub is : IsQuoted text (drop j piece) value ⊎ IsUnquoted text value
  pub ends : Meets ends_word (drop j piece)
  pub spans : Spans piece i j text

no_quote : (w rest : List ℕ) → (get_or (w ++ rest) 0 0 == 34) ≡ false → NoQuote w
no_quote [] rest e = tt
no_quote (b ∷ w) rest e = e

first_there : (piece : List ℕ) (i : ℕ) → get_or (drop i piece) 0 0 ≡ get_or piece i 0
first_there piece i = get_or-drop i piece 0 0 ∙ rw add-zero refl

unquoted_again : (piece : List ℕ) (i j : ℕ) (value : Value) → i ≤ length piece → (get_or piece i 0 == 34) ≡ false
    → plain_value_at piece i ≡ Ok (value, j) → ValueRead piece i j value
unfolding plain_value_at
unquoted_again piece i j value le first e =
    let w = take (position_or_len ends_word (drop i piece)) (drop i piece) in
    let split = word_split ends_word (drop i piece) in
    let part = unhidden_part value_part (λ b. refl) piece (take (position_or_len ends_word (drop i piece))
    (drop i piece)) i refl in
    let short : position_or_len ends_word (drop i piece) ≤ length (drop i piece) =
    position_or_len_le ends_word (drop i piece) in
    let len : length (take (position_or_len ends_word (drop i piece)) (drop i piece)) ≡ position_or_len ends_word
    (drop i piece) = length-take-le _ _ short in
    let rest : drop (i + length (take (position_or_len ends_word (drop i piece)) (drop i piece))) piece ≡ drop
    (position_or_len ends_word (drop i piece)) (drop i piece) =
    ap (λ (m : ℕ). drop (i + m) piece) len ∙ sym (drop-drop (position_or_len ends_word (drop i piece)) i piece) in
    let whole = take-append-drop (position_or_len ends_word (drop i piece)) (drop i piece) in
    let read = rw (part.means, part.len) at e in
    let v = bind_ok (placed i (value_of (take (position_or_len ends_word (drop i piece)) (drop i piece)))) _
    (value, j) read in
    let same = ok_pair v.0 value (i + length (take (position_or_len ends_word (drop i piece)) (drop i piece))) j v.2 in
    subst (λ (m : ℕ). ValueRead piece i m value) same.1 (record {
      text = take (position_or_len ends_word (drop i piece)) (drop i piece);
      is = inr (record {
        none = split.0;
        no_quote = no_quote _ (drop (position_or_len ends_word (drop i piece)) (drop i piece))
            (ap (λ (l : List ℕ). get_or l 0 0 == 34) whole ∙ ap (λ (b : ℕ). b == 34) (first_there piece i) ∙ first);
        says = placed_ok i (value_of _) v.0 v.1 ∙ ap Ok same.0;
      });
      ends = subst (Meets ends_word) (sym rest) split.1;
      spans = record {
        is = sym whole ∙ ap (λ (t : List ℕ). take (position_or_len ends_word (drop i piece)) (drop i piece) ++ t)
            (sym rest);
        more = omega arith;
        within = omega (arith, len, short, length-drop i piece);
      };
    })

value_end_meets : (piece : List ℕ) (i : ℕ) → i ≤ length piece → is_value_end piece i ≡ true
    → Meets ends_word (drop i piece)
value_end_meets piece i le e = elim (i == length piece) as (λ t. (i == length piece) ≡ t
    → (t || get_or piece i 0 == 44 || get_or piece i 0 == 32) ≡ true → Meets ends_word (drop i piece)) [
      | true ↦ λ test e. subst (Meets ends_word) (sym (drop_all i piece
          (omega (arith, eqb-true i (length piece) test)))) tt
      | false ↦ λ test e. first_meets (drop i piece) (ap ends_word (first_there piece i) ∙ e)
    ] refl e
  where
    first_meets : (bs : List ℕ) → ends_word (get_or bs 0 0) ≡ true → Meets ends_word bs
    first_meets [] e = tt
    first_meets (b ∷ bs) e = e

quoted_again : (piece : List ℕ) (i j : ℕ) (value : Value) → get_or piece i 0 ≡ 34
    → text_value_at piece i ≡ Ok (value, j)
    → ValueRead piece i j value
unfolding text_value_at
quoted_again piece i j value first e =
    let open_quote = byte_spans piece i 34 (omega arith) first in
    let part = part_again text_part piece (i + 1) open_quote.within in
    let n = length (spelled part.marks) in
    let read = rw (part.means, part.len) at e in
    let ok = chosen_ok (not (get_or piece (i + 1 + length (spelled part.marks)) 0 == 34)
    || not (is_value_end piece (i + 1 + length (spelled part.marks) + 1))) _ _ _ read in
    let both = or_parts (not (get_or piece (i + 1 + length (spelled part.marks)) 0 == 34))
    (not (is_value_end piece (i + 1 + length (spelled part.marks) + 1))) ok.0 in
    let close : get_or piece (i + 1 + length (spelled part.marks)) 0 ≡ 34 =
    eqb-true (get_or piece (i + 1 + length (spelled part.marks)) 0) 34 (not_false _ both.0) in
    let close_quote = byte_spans piece (i + 1 + length (spelled part.marks)) 34 (omega arith) close in
    let same = ok_pair _ _ _ _ ok.1 in
    let ends = value_end_meets piece (i + 1 + length (spelled part.marks) + 1) close_quote.within
    (not_false _ both.1) in
    subst (λ (m : ℕ). ValueRead piece i m value) same.1 (record {
      text = 34 ∷ (spelled part.marks ++ 34 ∷ []);
      is = inl (record {
        marks = part.marks;
        is = refl;
        part = subst (IsPart text_part part.marks) (byte_at piece (i + 1 + length (spelled part.marks)) 34
            (omega arith) close) part.part;
        says = same.0;
      });
      ends = ends;
      spans = joins piece i (i + 1) (i + 1 + length (spelled part.marks) + 1) (34 ∷ [])
          (spelled part.marks ++ 34 ∷ []) open_quote
          (joins piece (i + 1) (i + 1 + length (spelled part.marks)) (i + 1 + length (spelled part.marks) + 1)
          (spelled part.marks) (34 ∷ []) part.spans close_quote);
    })

pub value_again : (piece : List ℕ) (i j : ℕ) (value : Value) → i ≤ length piece → value_at piece i ≡ Ok (value, j)
    → ValueRead piece i j value
unfolding value_at
value_again piece i j value le e = elim (get_or piece i 0 == 34) as (λ t. (get_or piece i 0 == 34) ≡ t
    → cond t (text_value_at piece i) (plain_value_at piece i) ≡ Ok (value, j) → ValueRead piece i j value) [
      | true ↦ λ test e. quoted_again piece i j value (eqb-true (get_or piece i 0) 34 test) e
      | false ↦ λ test e. unquoted_again piece i j value le test e
    ] refl e

paired_field : (piece : List ℕ) (k l : ℕ) (field : Value) → k ≤ length piece → value_at piece k ≡ Ok (field, l)
    → PairedRead IsField piece k l field
paired_field piece k l field le e =
    let value = value_again piece k l field le e in
    record {
      text = value.text;
      is = λ word key front. record { key = front; value = value.is };
      ends = value.ends;
      spans = value.spans;
    }

pub field_again : (piece : List ℕ) (i j : ℕ) (field : Field) → i ≤ length piece → field_at piece i ≡ Ok (field, j)
    → PairRead IsField piece i j field
unfolding field_at
field_again piece i j field le e = keyed_again value_at IsField piece (paired_field piece) i j field le e

-- ---- lists of pairs

pub record PairsRead {X : Type 0} (Is : Meaning X) (piece : List ℕ) (i j : ℕ) (xs : List X) : Type 0 where
  pub pairs : List (List ℕ × List ℕ)
  pub are : AllAre Is pairs (drop j piece) xs
  pub no_comma : get_or piece j 0 ≢ 44
  pub ends : Meets ends_word (drop j piece)
  pub spans : Spans piece i j (pairs_text pairs)

no_more : {X : Type 0} (Is : Meaning X) (piece : List ℕ) (i j : ℕ) (xs : List X) → i ≤ length piece
    → get_or piece i 0 ≢ 44 → Meets ends_word (drop i piece) → let l : Result (List X × ℕ) LineFault = Ok ([], i) in
    l ≡ Ok (xs, j) → PairsRead Is piece i j xs
no_more {X} Is piece i j xs le no_comma ends e =
    let same = ok_pair {F = LineFault} {A = List X} [] xs i j e in
    subst (λ (ys : List X). PairsRead Is piece i j ys) same.0
    (subst (λ (m : ℕ). PairsRead Is piece i m []) same.1 (record
    { pairs = []; are = tt; no_comma = no_comma; ends = ends; spans = none_spans piece i le }))

listed : {X : Type 0} → X → List X × ℕ → Result (List X × ℕ) LineFault
listed x others = Ok (x ∷ others.0, others.1)

-- the list in front of an item
one_again : {X : Type 0} (item_at : Reader X LineFault) (Is : Meaning X) (piece : List ℕ)
    → ((i j : ℕ) (x : X) → i ≤ length piece → item_at piece i ≡ Ok (x, j) → PairRead Is piece i j x)
    → (n i j : ℕ) (xs : List X) → ((k l : ℕ) (ys : List X) → i < k → k ≤ length piece → Meets ends_word (drop k piece)
    → many_at item_at 44 n piece k ≡ Ok (ys, l) → PairsRead Is piece k l ys)
    → get_or piece i 0 ≡ 44 → (item_at piece (i + 1) >>= λ first. many_at item_at 44 n piece first.1 >>= λ others.
    listed first.0 others) ≡ Ok (xs, j) → PairsRead Is piece i j xs
unfolding listed
one_again {X} item_at Is piece again n i j xs others_again comma e =
    let start = byte_spans piece i 44 (omega arith) comma in
    let f = bind_ok (item_at piece (i + 1)) _ (xs, j) e in
    let first = again (i + 1) f.0.1 f.0.0 start.within f.1 in
    let o = bind_ok (many_at item_at 44 n piece f.0.1) _ (xs, j) f.2 in
    let others = others_again f.0.1 o.0.1 o.0.0 (omega (arith, first.spans.more)) first.spans.within first.ends o.1 in
    let same = ok_pair (f.0.0 ∷ o.0.0) xs o.0.1 j o.2 in
    let all : Spans piece i o.0.1 (pairs_text (first.pair ∷ others.pairs)) =
    joins piece i (i + 1) o.0.1 (44 ∷ []) (pair_text first.pair ++ pairs_text others.pairs) start
    (joins piece (i + 1) f.0.1 o.0.1 (pair_text first.pair) (pairs_text others.pairs) first.spans others.spans) in
    subst (λ (ys : List X). PairsRead Is piece i j ys) same.0
    (subst (λ (m : ℕ). PairsRead Is piece i m (f.0.0 ∷ o.0.0)) same.1
    (record {
      pairs = first.pair ∷ others.pairs;
      are = (
        subst (λ (t : List ℕ). Is first.pair t f.0.0) others.spans.is
            first.is,
        others.are,
      );
      no_comma = others.no_comma;
      ends = others.ends;
      spans = all;
    }))

pub many_again : {X : Type 0} (item_at : Reader X LineFault) (Is : Meaning X) (piece : List ℕ)
    → ((i j : ℕ) (x : X) → i ≤ length piece → item_at piece i ≡ Ok (x, j) → PairRead Is piece i j x)
    → (n i j : ℕ) (xs : List X) → length piece ≤ n + i → i ≤ length piece → Meets ends_word (drop i piece)
    → many_at item_at 44 n piece i ≡ Ok (xs, j) → PairsRead Is piece i j xs
unfolding many_at listed
many_again item_at Is piece again zero i j xs enough le ends e =
    no_more Is piece i j xs le (λ comma. absurd (omega (arith, get_or_past piece i 0 (omega arith), comma))) ends e
many_again {X} item_at Is piece again (suc n) i j xs enough le ends e =
    elim (get_or piece i 0 == 44) as (λ t. (get_or piece i 0 == 44) ≡ t
    → cond t (item_at piece (i + 1) >>= λ first. many_at item_at 44 n piece first.1 >>= λ others. listed first.0 others)
    (Ok ([], i)) ≡ Ok (xs, j) → PairsRead Is piece i j xs) [
      | true ↦ λ test e. one_again item_at Is piece again n i j xs
          (λ k l ys more within ends read. many_again item_at Is piece again n k l ys (omega arith) within ends read)
          (eqb-true (get_or piece i 0) 44 test) e
      | false ↦ λ test e. no_more Is piece i j xs le (eqb-false (get_or piece i 0) 44 test) ends e
    ] refl e

-- ---- spaces

all_spaces : (w : List ℕ) → HasNone (λ b. not (b == 32)) w → w ≡ spaces (length w)
all_spaces [] none = refl
all_spaces (b ∷ w) none =
    let is : b ≡ 32 = eqb-true b 32 (not_false (b == 32) none.0) in
    rw is (ap (λ (t : List ℕ). 32 ∷ t) (all_spaces w none.1))

-- spaces that were passed
pub record SpacesRead (piece : List ℕ) (i j : ℕ) : Type 0 where
  pub count : ℕ
  pub counted : i + count ≡ j
  pub ends : Meets (λ b. not (b == 32)) (drop j piece)
  pub spans : Spans piece i j (spaces count)

pub spaces_again : (piece : List ℕ) (i : ℕ) → i ≤ length piece → SpacesRead piece i (behind_spaces piece i)
spaces_again piece i le =
    let n = position_or_len (λ b. not (b == 32)) (drop i piece) in
    let split = word_split (λ b. not (b == 32)) (drop i piece) in
    let short : position_or_len (λ b. not (b == 32)) (drop i piece) ≤ length (drop i piece) =
    position_or_len_le (λ b. not (b == 32)) (drop i piece) in
    let len : length (take (position_or_len (λ b. not (b == 32)) (drop i piece)) (drop i piece)) ≡ position_or_len
    (λ b. not (b == 32)) (drop i piece) = length-take-le _ _ short in
    let rest : drop (behind_spaces piece i) piece ≡ drop (position_or_len (λ b. not (b == 32)) (drop i piece))
    (drop i piece) = sym (drop-drop (position_or_len (λ b. not (b == 32)) (drop i piece)) i piece) in
    let front : take (position_or_len (λ b. not (b == 32)) (drop i piece)) (drop i piece) ≡ spaces
    (position_or_len (λ b. not (b == 32)) (drop i piece)) = all_spaces _ split.0 ∙ ap spaces len in
    record {
      count = position_or_len (λ b. not (b == 32)) (drop i piece);
      counted = refl;
      ends = subst (Meets (λ b. not (b == 32))) (sym rest) split.1;
      spans = record {
        is = sym (take-append-drop (position_or_len (λ b. not (b == 32)) (drop i piece)) (drop i piece))
            ∙ ap (λ (t : List ℕ). t ++ drop (position_or_len (λ b. not (b == 32)) (drop i piece)) (drop i piece)) front
            ∙ ap (λ (t : List ℕ). spaces (position_or_len (λ b. not (b == 32)) (drop i piece)) ++ t) (sym rest);
        more = omega arith;
        within = omega (arith, short, length-drop i piece);
      };
    }

-- ---- the time

-- a time that was read: what stands up to the end of the piece
pub record TimeRead (piece : List ℕ) (i : ℕ) (time moment : ℤ) : Type 0 where
  pub written : Option (ℕ × List ℕ)
  pub after : ℕ
  pub is : IsTime written time moment
  pub text : drop i piece ≡ time_text written ++ spaces after

pub at_end : (piece : List ℕ) (i j : ℕ) (n : ℕ) → Spans piece i j (spaces n) → (j == length piece) ≡ true
    → drop i piece ≡ spaces n
at_end piece i j n s e = let all : j ≡ length piece = eqb-true j (length piece) e in
    s.is ∙ ap (λ (t : List ℕ). spaces n ++ t) (drop_all j piece (omega arith)) ∙ append-nil (spaces n)

pub not_all : (piece : List ℕ) (i j : ℕ) → i ≤ j → j ≤ length piece → j ≢ length piece → i < length piece
not_all piece i j a b ne = omega arith

-- a byte that is no comma and ends a word, in front of the end or a space
pub space_there : (piece : List ℕ) (i : ℕ) → i < length piece → Meets ends_word (drop i piece) → get_or piece i 0 ≢ 44
    → get_or piece i 0 ≡ 32
space_there piece i lt ends no_comma =
    let is : ends_word (get_or piece i 0) ≡ true = rw (← first_of)
    (meets_first (drop i piece) (omega (arith, length-drop i piece)) ends) in
    elim (either (eqb (get_or piece i 0) 44) (eqb (get_or piece i 0) 32) is) [
      | inl x ↦ absurd (no_comma (eqb-true (get_or piece i 0) 44 x))
      | inr y ↦ eqb-true (get_or piece i 0) 32 y
    ]
  where
    first_of : get_or (drop i piece) 0 0 ≡ get_or piece i 0
    first_of = get_or-drop i piece 0 0 ∙ rw add-zero refl

    meets_first : (bs : List ℕ) → 0 < length bs → Meets ends_word bs → ends_word (get_or bs 0 0) ≡ true
    meets_first [] some e = absurd (omega arith)
    meets_first (b ∷ bs) some e = e

-- where a space stands, at least one is passed
pub passes_one : (piece : List ℕ) (i j : ℕ) → get_or piece i 0 ≡ 32 → (s : SpacesRead piece i j) → 0 < s.count
passes_one piece i j space s = some s.count refl
  where
    some : (n : ℕ) → s.count ≡ n → 0 < n
    some (suc n) e = omega arith
    some zero e =
        let same : j ≡ i = omega (arith, s.counted, e) in
        let ends : Meets (λ b. not (b == 32)) (32 ∷ drop (i + 1) piece) =
        subst (Meets (λ b. not (b == 32))) (byte_at piece i 32 (omega arith) space)
        (subst (λ (m : ℕ). Meets (λ b. not (b == 32)) (drop m piece)) same s.ends) in
        absurd cc

pub written_again : (piece : List ℕ) (i : ℕ) (time : ℤ) → i ≤ length piece → written_time_at piece i ≡ Ok time
    → (text : List ℕ) × (after : ℕ) × HasNone is_space text × (time_of text ≡ Ok time)
    × (drop i piece ≡ text ++ spaces after)
unfolding written_time_at
written_again piece i time le e =
    let split = word_split is_space (drop i piece) in
    let t = bind_ok (placed i (time_of (take (time_len piece i) (drop i piece)))) _ time e in
    let end = time_chosen (behind_spaces piece (i + time_len piece i) == length piece) t.0 time _ t.2 in
    let short : time_len piece i ≤ length (drop i piece) = position_or_len_le is_space (drop i piece) in
    let s = spaces_again piece (i + time_len piece i) (omega (arith, short, length-drop i piece)) in
    let rest : drop (i + time_len piece i) piece ≡ spaces s.count =
    at_end piece (i + time_len piece i) (behind_spaces piece (i + time_len piece i)) s.count s.spans end.0 in (
      take (time_len piece i) (drop i piece),
      s.count,
      split.0,
      placed_ok i _ t.0 t.1 ∙ ap Ok end.1,
      sym (take-append-drop (time_len piece i) (drop i piece))
          ∙ ap (λ (x : List ℕ). take (time_len piece i) (drop i piece) ++ x)
          (drop-drop (time_len piece i) i piece ∙ rest),
    )
  where
    time_chosen : (t : Bool) (a b : ℤ) (fault : LineFault) → cond t (Ok a) (Err fault) ≡ Ok b → (t ≡ true) × (a ≡ b)
    time_chosen true a b fault e = let same : a ≡ b = cc in (refl, same)
    time_chosen false a b fault e = absurd cc

pub time_again : (piece : List ℕ) (i : ℕ) (time moment : ℤ) → i ≤ length piece → Meets ends_word (drop i piece)
    → get_or piece i 0 ≢ 44 → time_at piece i moment ≡ Ok time → TimeRead piece i time moment
unfolding time_at
time_again piece i time moment le ends no_comma e = elim (behind_spaces piece i == length piece) as
    (λ t. (behind_spaces piece i == length piece) ≡ t → cond t (Ok moment)
    (written_time_at piece (behind_spaces piece i)) ≡ Ok time → TimeRead piece i time moment) [
      | true ↦ λ test e. let same : moment ≡ time = cc in record {
        written = None;
        after = (spaces_again piece i le).count;
        is = sym same;
        text = at_end piece i (behind_spaces piece i) (spaces_again piece i le).count
            (spaces_again piece i le).spans test;
      }
      | false ↦ λ test e. later test e
    ] refl e
  where
    later : (behind_spaces piece i == length piece) ≡ false → written_time_at piece (behind_spaces piece i) ≡ Ok time
        → TimeRead piece i time moment
    later test e =
        let s = spaces_again piece i le in
        let w = written_again piece (behind_spaces piece i) time s.spans.within e in
        let lt : i < length piece = not_all piece i (behind_spaces piece i) s.spans.more s.spans.within
        (eqb-false (behind_spaces piece i) (length piece) test) in
        record {
          written = Some (s.count, w.0);
          after = w.1;
          is = (passes_one piece i (behind_spaces piece i) (space_there piece i lt ends no_comma) s, w.2, w.3);
          text = s.spans.is ∙ ap (λ (t : List ℕ). spaces s.count ++ t) w.4
              ∙ sym (append_assoc (spaces s.count) w.0 (spaces w.1));
        }

-- ---- fields

pub record FieldsRead (piece : List ℕ) (i j : ℕ) (fields : List Field) : Type 0 where
  pub first : List ℕ × List ℕ
  pub others : List (List ℕ × List ℕ)
  pub are : AllAre IsField (first ∷ others) (drop j piece) fields
  pub no_comma : get_or piece j 0 ≢ 44
  pub ends : Meets ends_word (drop j piece)
  pub spans : Spans piece i j (pair_text first ++ pairs_text others)

pub fields_again : (piece : List ℕ) (i j : ℕ) (fields : List Field) → i ≤ length piece
    → fields_at piece i ≡ Ok (fields, j)
    → FieldsRead piece i j fields
unfolding fields_at
fields_again piece i j fields le e =
    let f = bind_ok (field_at piece i) _ (fields, j) e in
    let first = field_again piece i f.0.1 f.0.0 le f.1 in
    let o = bind_ok (items_at field_at 44 piece f.0.1) _ (fields, j) f.2 in
    let others = many_again field_at IsField piece (field_again piece) (length piece) f.0.1 o.0.1 o.0.0
    (omega arith) first.spans.within first.ends o.1 in
    let same = ok_pair (f.0.0 ∷ o.0.0) fields o.0.1 j o.2 in
    let all : Spans piece i o.0.1 (pair_text first.pair ++ pairs_text others.pairs) =
    joins piece i f.0.1 o.0.1 (pair_text first.pair) (pairs_text others.pairs) first.spans others.spans in
    subst (λ (fs : List Field). FieldsRead piece i j fs) same.0
    (subst (λ (m : ℕ). FieldsRead piece i m (f.0.0 ∷ o.0.0)) same.1 (record {
      first = first.pair;
      others = others.pairs;
      are = (subst (λ (t : List ℕ). IsField first.pair t f.0.0) others.spans.is first.is, others.are);
      no_comma = others.no_comma;
      ends = others.ends;
      spans = all;
    }))

-- the fields behind spaces
pub record SpacedRead (piece : List ℕ) (i j : ℕ) (fields : List Field) : Type 0 where
  pub gap : ℕ
  pub some : 0 < gap
  pub start : ℕ
  pub spaces_span : Spans piece i start (spaces gap)
  pub fields_read : FieldsRead piece start j fields

pub spaced_fields_again : (piece : List ℕ) (i j : ℕ) (fields : List Field) → i ≤ length piece
    → Meets ends_word (drop i piece)
    → get_or piece i 0 ≢ 44 → spaced_fields_at piece i ≡ Ok (fields, j) → SpacedRead piece i j fields
unfolding spaced_fields_at
spaced_fields_again piece i j fields le ends no_comma e =
    let s = spaces_again piece i le in
    let ok = chosen_ok (behind_spaces piece i == length piece) _ _ _ e in
    let lt : i < length piece = not_all piece i (behind_spaces piece i) s.spans.more s.spans.within
    (eqb-false (behind_spaces piece i) (length piece) ok.0) in
    record {
      gap = s.count;
      some = passes_one piece i (behind_spaces piece i) (space_there piece i lt ends no_comma) s;
      start = behind_spaces piece i;
      spaces_span = s.spans;
      fields_read = fields_again piece (behind_spaces piece i) j fields s.spans.within ok.1;
    }

-- ---- the line

ok_line : (a b : Line) → let l : Result Line LineFault = Ok a in l ≡ Ok b → a ≡ b
ok_line a b e = cc

no_hash : (w rest : List ℕ) → 0 < length w → (get_or (w ++ rest) 0 0 == 35) ≡ false → NoHash w
no_hash [] rest some e = tt
no_hash (b ∷ w) rest some e = e

-- a line that was read at an offset, behind some spaces
pub record LineRead (piece : List ℕ) (i before : ℕ) (line : Line) (moment : ℤ) : Type 0 where
  pub written : Written
  pub same : written.before ≡ before
  pub is : IsLine written line moment
  pub text : drop i piece ≡ written.name ++ behind_name written

pub line_again : (piece : List ℕ) (i before : ℕ) (line : Line) (moment : ℤ) → i ≤ length piece
    → (get_or piece i 0 == 35) ≡ false
    → line_at piece i moment ≡ Ok line → LineRead piece i before line moment
unfolding line_at tags_at
line_again piece i before line moment le no_comment e =
    let n = bind_ok (name_at piece i) _ line e in
    let name = name_again piece i n.0.1 n.0.0 le n.1 in
    let t = bind_ok (items_at tag_at 44 piece n.0.1) _ line n.2 in
    let tags = many_again tag_at IsTag piece (tag_again piece) (length piece) n.0.1 t.0.1 t.0.0
    (omega arith) name.spans.within
    (ends_meet name_part name.written.marks (drop n.0.1 piece) name.written.part) t.1 in
    let f = bind_ok (spaced_fields_at piece t.0.1) _ line t.2 in
    let spaced = spaced_fields_again piece t.0.1 f.0.1 f.0.0 tags.spans.within tags.ends tags.no_comma f.1 in
    let fields = spaced.fields_read in
    let m = bind_ok (time_at piece f.0.1 moment) _ line f.2 in
    let time = time_again piece f.0.1 m.0 moment fields.spans.within fields.ends fields.no_comma m.1 in
    let made : Line = record { name = n.0.0; tags = t.0.0; fields = f.0.0; time = m.0 } in
    let same : record { name = n.0.0; tags = t.0.0; fields = f.0.0; time = m.0 } ≡ line = ok_line made line m.2 in
    let w : Written = record {
      before = before;
      name = name.word;
      tags = tags.pairs;
      gap = spaced.gap;
      first = fields.first;
      others = fields.others;
      time = time.written;
      after = time.after;
    } in
    let behind : drop t.0.1 piece ≡ spaces spaced.gap ++ (pair_text fields.first
    ++ (pairs_text fields.others ++ (time_text time.written ++ spaces time.after))) =
    spaced.spaces_span.is ∙ ap (λ (x : List ℕ). spaces spaced.gap ++ x)
    (fields.spans.is ∙ ap (λ (x : List ℕ). (pair_text fields.first ++ pairs_text fields.others) ++ x) time.text
    ∙ append_assoc (pair_text fields.first) (pairs_text fields.others) (time_text time.written ++ spaces time.after)) in
    let behind_word : drop n.0.1 piece ≡ pairs_text tags.pairs
    ++ (spaces spaced.gap ++ (pair_text fields.first ++ (pairs_text fields.others
    ++ (time_text time.written ++ spaces time.after)))) =
    tags.spans.is ∙ ap (λ (x : List ℕ). pairs_text tags.pairs ++ x) behind in
    subst (λ (l : Line). LineRead piece i before l moment) same (record {
      written = w;
      same = refl;
      is = record {
        name = subst (λ (r : List ℕ). IsWritten name_part name.word r n.0.0) behind_word name.written;
        no_comment = no_hash name.word (drop n.0.1 piece) name.written.some
            (ap (λ (l : List ℕ). get_or l 0 0 == 35) (sym name.spans.is) ∙ ap (λ (b : ℕ). b == 35) (first_there piece i)
            ∙ no_comment);
        tags = subst (λ (r : List ℕ). AllAre IsTag tags.pairs r t.0.0) behind tags.are;
        gap = spaced.some;
        fields = subst (λ (r : List ℕ). AllAre IsField (fields.first ∷ fields.others) r f.0.0) time.text fields.are;
        time = time.is;
      };
      text = name.spans.is ∙ ap (λ (x : List ℕ). name.word ++ x) behind_word;
    })

some_ok : (r : Result Line LineFault) (content : Content) → (r >>= limited) ≡ Ok (Some content)
    → (line : Line) × (r ≡ Ok line) × (has_too_many line.tags line.fields ≡ false) × (content ≡ content_of line)
some_ok r content e =
    let l = bind_ok r limited (Some content) e in
    let c = chosen_ok (has_too_many l.0.tags l.0.fields) _ _ _ l.2 in
    (l.0, l.1, c.0, sym (some_same (content_of l.0) content c.1))
  where
    some_same : (a b : Content) → let l : Result (Option Content) LineFault = Ok (Some a) in l ≡ Ok (Some b) → a ≡ b
    some_same a b e = cc

not_none : (t : Bool) (r : Result (Option Content) LineFault) (content : Content)
    → cond t (Ok None) r ≡ Ok (Some content) → (t ≡ false) × (r ≡ Ok (Some content))
not_none true r content e = absurd cc
not_none false r content e = (refl, e)

pub read_is_written : (piece : List ℕ) (moment : ℤ) (content : Content) → reading piece moment ≡ Ok (Some content)
    → (w : Written) × (line : Line) × (piece ≡ line_spelling w) × IsUtf8 piece × IsLine w line moment
    × (has_too_many line.tags line.fields ≡ false) × (content ≡ content_of line)
unfolding reading text_reading metric_at
read_is_written piece moment content e =
    let whole = utf8_chosen (is_utf8 piece) _ _ (Some content) e in
    let text = not_none (is_blank_or_comment piece) _ content whole.1 in
    let first = or_parts (behind_spaces piece 0 == length piece) (get_or piece (behind_spaces piece 0) 0 == 35)
    text.0 in
    let read = some_ok (line_at piece (behind_spaces piece 0) moment) content text.1 in
    let s = spaces_again piece 0 (omega arith) in
    let line = line_again piece (behind_spaces piece 0) s.count read.0 moment s.spans.within first.1 read.1 in (
      line.written,
      read.0,
      s.spans.is ∙ ap (λ (t : List ℕ). spaces s.count ++ t) line.text
          ∙ ap (λ (n : ℕ). spaces n ++ (line.written.name ++ behind_name line.written)) (sym line.same),
      IsUtf8-from_is_utf8 piece whole.0,
      line.is,
      read.2,
      read.3,
    )
  where
    utf8_chosen : (t : Bool) (r : Result (Option Content) LineFault) (fault : LineFault) (y : Option Content)
        → cond t r (Err fault) ≡ Ok y → (t ≡ true) × (r ≡ Ok y)
    utf8_chosen true r fault y e = (refl, e)
    utf8_chosen false r fault y e = absurd cc
