-- A fault's offset is in the piece, or its length.
use Rattle.std.proofs.Common.{◌≡◌, ℕ, ℤ, zero, suc, ◌+◌, ◌≤◌, Bool, true, false, cond, List, [], ◌∷◌, length, get_or}
use Rattle.std.proofs.Common.{take, drop}
use Rattle.std.proofs.Common.{Result, Ok, Err, Some, None, refl, sym, ap, arith, inl, inr}
use Rattle.std.specs.Prelude.{◌||◌, ◌==◌, not, ◌⊎◌}
use Rattle.std.specs.Str.{is_utf8}
use Rattle.std.specs.Str.Lossy.{utf8_valid_len}
use Rattle.std.proofs.lemmas.Bool.{eqb-true}
use Rattle.std.proofs.lemmas.Str.{utf8_valid_len_le}
use Rattle.std.proofs.lemmas.List.{length-drop}
use Rattle.text_parts.specs.Chain.{◌>>=◌}
use Rattle.text_parts.specs.Part.{len_at, text_at}
use Rattle.text_parts.specs.Many.{Reader, many_at, items_at}
use Rattle.text_parts.proofs.Spans.{position_or_len_le}
use Rattle.text_parts.specs.Pairs.{Meaning}
use Rattle.metric.specs.Draft.{has_too_many}
use Rattle.line_proto.specs.declared.fault.LineKind.{LineKind}
use Rattle.line_proto.specs.declared.fault.LineKind.TheVariants.{NoFields, BadKey, BadValue, BadTime, NotUtf8, TooMany}
use Rattle.line_proto.specs.declared.fault.LineFault.{LineFault}
use Rattle.line_proto.specs.Kinds.{name_part, key_part, tag_value_part, text_part, value_part}
use Rattle.line_proto.specs.Values.{value_of, time_of}
use Rattle.line_proto.specs.Grammar.{IsTag, IsField, is_space}
use Rattle.line_proto.specs.Reading.{fault, placed, name_at, key_at, tag_value_at, keyed_at, tag_at, text_value_at}
use Rattle.line_proto.specs.Reading.{plain_value_at, value_at}
use Rattle.line_proto.specs.Reading.{field_at, tags_at, fields_at, behind_spaces, spaced_fields_at, time_len}
use Rattle.line_proto.specs.Reading.{written_time_at, time_at, line_at}
use Rattle.line_proto.specs.Reading.{limited, content_of, metric_at, is_blank_or_comment, is_value_end, text_reading}
use Rattle.line_proto.specs.Reading.{reading}
use Rattle.text_parts.proofs.Stands.{byte_spans}
use Rattle.line_proto.proofs.Again.{PairRead, ends_meet, name_again, key_again, tag_again, field_again, many_again}
use Rattle.line_proto.proofs.Again.{spaces_again, spaced_fields_again}

offset_or : {A : Type 0} → Result A LineFault → ℕ
offset_or (Ok x) = 0
offset_or (Err f) = f.offset

-- a fault at an offset, or none
one_err : {A : Type 0} (t : Bool) (kind : LineKind) (i : ℕ) (ok : A) (f : LineFault)
    → cond t (fault kind i) (Ok ok) ≡ Err f → f.offset ≡ i
unfolding offset_or
one_err true kind i ok f e = sym (ap offset_or e)
one_err false kind i ok f e = absurd cc

placed_err : {A : Type 0} (i : ℕ) (r : Result A LineKind) (f : LineFault) → placed i r ≡ Err f → f.offset ≡ i
unfolding offset_or
placed_err i (Ok x) f e = absurd cc
placed_err i (Err kind) f e = sym (ap offset_or e)

-- a chain that fails: its first step does, or the others behind it
bind_err : {A B : Type 0} (r : Result A LineFault) (next : A → Result B LineFault) (f : LineFault)
    → (r >>= next) ≡ Err f
    → (r ≡ Err f) ⊎ ((x : A) × (r ≡ Ok x) × (next x ≡ Err f))
bind_err (Ok x) next f e = inr (x, refl, e)
bind_err {A} (Err g) next f e = let same : g ≡ f = cc in inl (ap Err same)

ok_err : {A : Type 0} (x : A) (f : LineFault) → let l : Result A LineFault = Ok x in l ≡ Err f → ⊥
ok_err x f e = cc

name_err : (piece : List ℕ) (i : ℕ) (f : LineFault) → name_at piece i ≡ Err f → f.offset ≡ i
unfolding name_at
name_err piece i f e = one_err (len_at name_part piece i == 0) BadKey i _ f e

key_err : (piece : List ℕ) (i : ℕ) (f : LineFault) → key_at piece i ≡ Err f → f.offset ≡ i
unfolding key_at
key_err piece i f e = one_err (len_at key_part piece i == 0 || not (get_or piece (i + len_at key_part piece i) 0 == 61))
    BadKey i _ f e

tag_value_err : (piece : List ℕ) (i : ℕ) (f : LineFault) → tag_value_at piece i ≡ Err f → f.offset ≡ i
unfolding tag_value_at
tag_value_err piece i f e = one_err (len_at tag_value_part piece i == 0) BadValue i _ f e

-- a key, and a value behind it
keyed_err : {V : Type 0} (value_at : List ℕ → ℕ → Result (V × ℕ) LineFault) (piece : List ℕ)
    → ((k : ℕ) (f : LineFault) → value_at piece k ≡ Err f → f.offset ≡ k)
    → (i : ℕ) (f : LineFault) → i ≤ length piece → keyed_at value_at piece i ≡ Err f → f.offset ≤ length piece
keyed_err value_at piece value_err i f le e = elim (bind_err (key_at piece i) _ f e) [
  | inl x ↦ omega (arith, key_err piece i f x)
  | inr k ↦
      let key = key_again piece i k.0.1 k.0.0 le k.1 in
      elim (bind_err (value_at piece k.0.1) _ f k.2) [
        | inl x ↦ omega (arith, value_err k.0.1 f x, key.spans.within)
        | inr v ↦ absurd (ok_err _ f v.2)
      ]
]

tag_err : (piece : List ℕ) (i : ℕ) (f : LineFault) → i ≤ length piece → tag_at piece i ≡ Err f → f.offset ≤ length piece
unfolding tag_at
tag_err piece i f le e = keyed_err tag_value_at piece (tag_value_err piece) i f le e

value_err : (piece : List ℕ) (i : ℕ) (f : LineFault) → value_at piece i ≡ Err f → f.offset ≡ i
unfolding value_at text_value_at plain_value_at
value_err piece i f e = elim (get_or piece i 0 == 34) as (λ t. cond t (text_value_at piece i)
    (plain_value_at piece i) ≡ Err f → f.offset ≡ i) [
      | true ↦ λ e. one_err (not (get_or piece (i + 1 + len_at text_part piece (i + 1)) 0 == 34)
          || not (is_value_end piece (i + 1 + len_at text_part piece (i + 1) + 1))) BadValue i _ f e
      | false ↦ λ e. elim (bind_err (placed i (value_of (text_at value_part piece i))) _ f e) [
        | inl x ↦ placed_err i (value_of (text_at value_part piece i)) f x
        | inr v ↦ absurd (ok_err _ f v.2)
      ]
    ] e

field_err : (piece : List ℕ) (i : ℕ) (f : LineFault) → i ≤ length piece → field_at piece i ≡ Err f
    → f.offset ≤ length piece
unfolding field_at
field_err piece i f le e = keyed_err value_at piece (value_err piece) i f le e

many_err : {X : Type 0} (item_at : Reader X LineFault) (Is : Meaning X) (piece : List ℕ)
    → ((i j : ℕ) (x : X) → i ≤ length piece → item_at piece i ≡ Ok (x, j) → PairRead Is piece i j x)
    → ((i : ℕ) (f : LineFault) → i ≤ length piece → item_at piece i ≡ Err f → f.offset ≤ length piece)
    → (n i : ℕ) (f : LineFault) → i ≤ length piece → many_at item_at 44 n piece i ≡ Err f → f.offset ≤ length piece
unfolding many_at
many_err item_at Is piece again err zero i f le e = absurd (ok_err _ f e)
many_err {X} item_at Is piece again err (suc n) i f le e = elim (get_or piece i 0 == 44) as
    (λ t. (get_or piece i 0 == 44) ≡ t
    → let none : Result (List X × ℕ) LineFault = Ok ([], i) in
    cond t (item_at piece (i + 1) >>= λ first. many_at item_at 44 n piece first.1 >>= λ others. Ok
    (first.0 ∷ others.0, others.1)) none ≡ Err f → f.offset ≤ length piece) [
      | true ↦ λ test e.
          let start = byte_spans piece i 44 (omega arith) (eqb-true (get_or piece i 0) 44 test) in
          elim (bind_err (item_at piece (i + 1)) _ f e) [
            | inl x ↦ err (i + 1) f start.within x
            | inr k ↦
                let first = again (i + 1) k.0.1 k.0.0 start.within k.1 in
                elim (bind_err (many_at item_at 44 n piece k.0.1) _ f k.2) [
                  | inl x ↦ many_err item_at Is piece again err n k.0.1 f first.spans.within x
                  | inr o ↦ absurd (ok_err _ f o.2)
                ]
          ]
      | false ↦ λ test e. absurd (ok_err _ f e)
    ] refl e

fields_err : (piece : List ℕ) (i : ℕ) (f : LineFault) → i ≤ length piece → fields_at piece i ≡ Err f
    → f.offset ≤ length piece
unfolding fields_at
fields_err piece i f le e = elim (bind_err (field_at piece i) _ f e) [
  | inl x ↦ field_err piece i f le x
  | inr k ↦
      let first = field_again piece i k.0.1 k.0.0 le k.1 in
      elim (bind_err (items_at field_at 44 piece k.0.1) _ f k.2) [
        | inl x ↦ many_err field_at IsField piece (field_again piece) (field_err piece)
            (length piece) k.0.1 f first.spans.within x
        | inr o ↦ absurd (ok_err _ f o.2)
      ]
]

spaced_fields_err : (piece : List ℕ) (i : ℕ) (f : LineFault) → i ≤ length piece → spaced_fields_at piece i ≡ Err f
    → f.offset ≤ length piece
unfolding spaced_fields_at offset_or
spaced_fields_err piece i f le e = elim (behind_spaces piece i == length piece) as
    (λ t. cond t (fault NoFields (length piece)) (fields_at piece (behind_spaces piece i)) ≡ Err f
    → f.offset ≤ length piece) [
      | true ↦ λ e. omega (arith, ap offset_or e)
      | false ↦ λ e. fields_err piece (behind_spaces piece i) f (spaces_again piece i le).spans.within e
    ] e

written_time_err : (piece : List ℕ) (i : ℕ) (f : LineFault) → i ≤ length piece → written_time_at piece i ≡ Err f
    → f.offset ≤ length piece
unfolding written_time_at offset_or
written_time_err piece i f le e =
    let short = position_or_len_le is_space (drop i piece) in
    let end = (spaces_again piece (i + time_len piece i) (omega (arith, short, length-drop i piece))).spans.within in
    elim (bind_err (placed i (time_of (take (time_len piece i) (drop i piece)))) _ f e) [
      | inl x ↦ omega (arith, placed_err i (time_of (take (time_len piece i) (drop i piece))) f x)
      | inr t ↦ elim (behind_spaces piece (i + time_len piece i) == length piece) as
          (λ b. cond b (Ok t.0) (fault BadTime (behind_spaces piece (i + time_len piece i))) ≡ Err f
          → f.offset ≤ length piece) [
            | true ↦ λ e. absurd (ok_err _ f e)
            | false ↦ λ e. omega (arith, ap offset_or e, end)
          ] t.2
    ]

time_err : (piece : List ℕ) (i : ℕ) (moment : ℤ) (f : LineFault) → i ≤ length piece → time_at piece i moment ≡ Err f
    → f.offset ≤ length piece
unfolding time_at
time_err piece i moment f le e = elim (behind_spaces piece i == length piece) as
    (λ t. cond t (Ok moment) (written_time_at piece (behind_spaces piece i)) ≡ Err f → f.offset ≤ length piece) [
      | true ↦ λ e. absurd (ok_err _ f e)
      | false ↦ λ e. written_time_err piece (behind_spaces piece i) f (spaces_again piece i le).spans.within e
    ] e

line_err : (piece : List ℕ) (i : ℕ) (moment : ℤ) (f : LineFault) → i ≤ length piece → line_at piece i moment ≡ Err f
    → f.offset ≤ length piece
unfolding line_at tags_at
line_err piece i moment f le e = elim (bind_err (name_at piece i) _ f e) [
  | inl x ↦ omega (arith, name_err piece i f x)
  | inr n ↦
      let name = name_again piece i n.0.1 n.0.0 le n.1 in
      let ends = ends_meet name_part name.written.marks (drop n.0.1 piece) name.written.part in
      elim (bind_err (items_at tag_at 44 piece n.0.1) _ f n.2) [
        | inl x ↦ many_err tag_at IsTag piece (tag_again piece) (tag_err piece) (length piece) n.0.1 f name.spans.within
            x
        | inr t ↦
            let tags = many_again tag_at IsTag piece (tag_again piece) (length piece) n.0.1 t.0.1 t.0.0
            (omega arith) name.spans.within ends t.1 in
            elim (bind_err (spaced_fields_at piece t.0.1) _ f t.2) [
              | inl x ↦ spaced_fields_err piece t.0.1 f tags.spans.within x
              | inr s ↦
                  let fields = (spaced_fields_again piece t.0.1 s.0.1 s.0.0 tags.spans.within tags.ends tags.no_comma
                  s.1).fields_read in
                  elim (bind_err (time_at piece s.0.1 moment) _ f s.2) [
                    | inl x ↦ time_err piece s.0.1 moment f fields.spans.within x
                    | inr m ↦ absurd (ok_err _ f m.2)
                  ]
            ]
      ]
]

metric_err : (piece : List ℕ) (i : ℕ) (moment : ℤ) (f : LineFault) → i ≤ length piece → metric_at piece i moment ≡ Err f
    → f.offset ≤ length piece
unfolding metric_at
metric_err piece i moment f le e = elim (bind_err (line_at piece i moment) limited f e) [
  | inl x ↦ line_err piece i moment f le x
  | inr l ↦ omega (arith, one_err (has_too_many l.0.tags l.0.fields) TooMany 0 (Some (content_of l.0)) f l.2)
]

pub fault_is_within : (piece : List ℕ) (moment : ℤ) (f : LineFault) → reading piece moment ≡ Err f
    → f.offset ≤ length piece
unfolding reading text_reading offset_or
fault_is_within piece moment f e = elim (is_utf8 piece) as (λ t. cond t (text_reading piece moment)
    (fault NotUtf8 (utf8_valid_len piece)) ≡ Err f → f.offset ≤ length piece) [
      | true ↦ λ e. elim (is_blank_or_comment piece) as (λ t. cond t (Ok None)
          (metric_at piece (behind_spaces piece 0) moment) ≡ Err f → f.offset ≤ length piece) [
            | true ↦ λ e. absurd (ok_err _ f e)
            | false ↦ λ e. metric_err piece (behind_spaces piece 0) moment f
                (spaces_again piece 0 (omega arith)).spans.within e
          ] e
      | false ↦ λ e. omega (arith, ap offset_or e, utf8_valid_len_le piece)
    ] e
