-- A fault's offset is in the piece, or its length.
use Rattle.std.proofs.Common.{◌≡◌, ℕ, ℤ, ◌+◌, ◌<◌, ◌≤◌, Bool, true, false, cond, List, [], ◌∷◌, ◌++◌, length, map, drop}
use Rattle.std.proofs.Common.{Option, Result, Ok, Err, Some, None, refl, ap, subst, arith}
use Rattle.std.specs.Prelude.{◌==◌, ◌&&◌, not, filter}
use Rattle.std.specs.List.{AllByRecursion, slice_split, join_with_byte}
use Rattle.std.specs.Str.Lossy.{utf8_valid_len}
use Rattle.std.specs.Str.{is_utf8}
use Rattle.std.proofs.lemmas.Str.{utf8_valid_len_le}
use Rattle.std.proofs.lemmas.List.{length-append, length-drop, length-take-le}
use Rattle.std.proofs.lemmas.List.Splits.{join_with_byte-slice_split}
use Rattle.text_parts.specs.Chain.{◌>>=◌}
use Rattle.text_parts.specs.Split.{PartAt, is_byte, first_part, placed, parts_of, each, behind_first}
use Rattle.text_parts.proofs.Splits.{cut_is_first}
use Rattle.fixed_num.specs.declared.fixed.NumFault.{NumFault}
use Rattle.fixed_num.specs.declared.fixed.NumFault.TheVariants as numbers
use Rattle.fixed_num.specs.Fixed.{read_as}
use Rattle.metric.specs.declared.metric.Content.{Content}
use Rattle.statsd_text.specs.declared.fault.StatsdFault.{StatsdFault}
use Rattle.statsd_text.specs.declared.fault.StatsdKind.{StatsdKind}
use Rattle.statsd_text.specs.declared.fault.StatsdKind.TheVariants as kinds
use Rattle.statsd_text.specs.declared.said.MetricType.{MetricType}
use Rattle.statsd_text.specs.Sections.{fault, Sections, sections, sections_of, marker_len}
use Rattle.statsd_text.specs.Tags.{name_of, head_tag, valued, head_of, later_tag, later_tags, is_filled}
use Rattle.statsd_text.specs.Said.{Texts, texts_of, texts_from, typed, type_of, rate_text, value_of, placed_at}
use Rattle.statsd_text.specs.Said.{rate_from, rate_of, counted, part_of, is_positive}
use Rattle.statsd_text.specs.Reading.{content_of, limited, line_reading, is_blank, text_reading, reading}

-- a fault, if it is one, is at most at an offset
pub record Within {A : Type 0} (end : ℕ) (reading : Result A StatsdFault) : Type 0 where
  pub at : (f : StatsdFault) → reading ≡ Err f → f.offset ≤ end

offset_or : {A : Type 0} → Result A StatsdFault → ℕ
offset_or (Ok x) = 0
offset_or (Err f) = f.offset

ok_within : {A : Type 0} (end : ℕ) (x : A) → Within {A = A} end (Ok x)
ok_within end x = record { at = λ f e. absurd cc }

fault_within : {A : Type 0} (end : ℕ) (kind : StatsdKind) (offset : ℕ) → offset ≤ end
    → Within {A = A} end (fault {A = A} kind offset)
unfolding offset_or
fault_within {A = A} end kind offset le = record { at = λ f e. omega (arith, ap (offset_or {A = A}) e) }

next_within : {A B : Type 0} (end : ℕ) (r : Result A StatsdFault) (next : A → Result B StatsdFault)
    → Within end r → ((x : A) → r ≡ Ok x → Within end (next x)) → Within end (r >>= next)
next_within end (Ok x) next h k = k x refl
next_within {A = A} {B = B} end (Err g) next h k = fault_within end g.kind g.offset (h.at g refl)

test_within : {A : Type 0} (end : ℕ) (t : Bool) (a b : Result A StatsdFault) → Within end a → Within end b
    → Within end (cond t a b)
test_within end true a b h k = h
test_within end false a b h k = k

-- ---- parts

-- a part ends at most at an offset
abbrev EndsBy : ℕ → PartAt → Type 0
EndsBy end part = part.0 + length part.1 ≤ end

each_within : {A : Type 0} (end : ℕ) (read : PartAt → Result A StatsdFault)
    → ((part : PartAt) → EndsBy end part → Within end (read part))
    → (parts : List PartAt) → AllByRecursion (EndsBy end) parts → Within end (each read parts)
unfolding each
each_within end read one [] h = ok_within end []
each_within end read one (part ∷ parts) h =
    next_within end (read part) (λ first. each read parts >>= λ others. Ok (first ∷ others)) (one part h.0)
    (λ first e. next_within end (each read parts) (λ others. Ok (first ∷ others)) (each_within end read one parts h.1)
    (λ others f. ok_within end (first ∷ others)))

placed_end : (c end offset : ℕ) (texts : List (List ℕ)) → offset + length (join_with_byte c texts) ≤ end
    → AllByRecursion (EndsBy end) (placed offset texts)
placed_end c end offset [] le = tt
placed_end c end offset (text ∷ []) le = (le, tt)
placed_end c end offset (text ∷ next ∷ texts) le =
    let size = length-append text (c ∷ join_with_byte c (next ∷ texts)) in
    (omega (arith, size), placed_end c end (offset + length text + 1) (next ∷ texts) (omega (arith, size)))

parts_end : (c end : ℕ) (part : PartAt) → EndsBy end part → AllByRecursion (EndsBy end) (parts_of c part)
unfolding parts_of
parts_end c end part le =
    let whole : length (join_with_byte c (slice_split (is_byte c) part.1)) ≡ length part.1 =
    ap length (join_with_byte-slice_split c part.1) in
    placed_end c end part.0 (slice_split (is_byte c) part.1) (omega (arith, whole))

filled_end : (end : ℕ) (parts : List PartAt) → AllByRecursion (EndsBy end) parts
    → AllByRecursion (EndsBy end) (filter is_filled parts)
filled_end end [] h = tt
filled_end end (part ∷ parts) h =
    elim (length part.1 == 0) as (λ t. AllByRecursion (EndsBy end)
    (cond (not t) (part ∷ filter is_filled parts) (filter is_filled parts)))
    [ true ↦ filled_end end parts h.1 | false ↦ (h.0, filled_end end parts h.1) ]

-- ---- the head and the tags

valued_within : (end offset : ℕ) (key : List ℕ) (value : Option (List ℕ)) → offset ≤ end
    → Within end (valued offset key value)
valued_within end offset key None le = fault_within end kinds.BadTag offset le
valued_within end offset key (Some value) le =
    test_within end (length key == 0) (fault kinds.BadTag offset) (Ok (key, value))
    (fault_within end kinds.BadTag offset le) (ok_within end (key, value))

head_tag_within : (end : ℕ) (part : PartAt) → EndsBy end part → Within end (head_tag part)
unfolding head_tag
head_tag_within end part le = valued_within end part.0 (first_part 61 part.1).0 (first_part 61 part.1).1 (omega arith)

later_tag_within : (end : ℕ) (part : PartAt) → EndsBy end part → Within end (later_tag part)
unfolding later_tag
later_tag_within end part le =
    test_within end _ (fault kinds.BadTag part.0) _ (fault_within end kinds.BadTag part.0 (omega arith))
    (ok_within end _)

name_within : (end : ℕ) (parts : List PartAt) → Within end (name_of parts)
name_within end [] = fault_within end kinds.BadName 0 (omega arith)
name_within end (first ∷ others) =
    test_within end (length first.1 == 0) (fault kinds.BadName 0) (Ok (first.1, others))
    (fault_within end kinds.BadName 0 (omega arith)) (ok_within end (first.1, others))

others_of : Result (List ℕ × List PartAt) StatsdFault → List PartAt
others_of (Ok x) = x.1
others_of (Err f) = []

others_end : (end : ℕ) (parts : List PartAt) (x : List ℕ × List PartAt) → AllByRecursion (EndsBy end) parts
    → name_of parts ≡ Ok x → AllByRecursion (EndsBy end) x.1
unfolding others_of
others_end end [] x h e = absurd cc
others_end end (first ∷ others) x h e =
    elim (length first.1 == 0) as (λ t. cond {A = Result (List ℕ × List PartAt) StatsdFault} t (fault kinds.BadName 0)
    (Ok (first.1, others)) ≡ Ok x → AllByRecursion (EndsBy end) x.1) [
      | true ↦ λ is. absurd cc
      | false ↦ λ is. subst (AllByRecursion (EndsBy end)) (ap others_of is) h.1
    ] e

head_within : (end : ℕ) (head : List ℕ) → length head ≤ end → Within end (head_of head)
unfolding head_of
head_within end head le =
    let parts = parts_end 44 end (0, head) (omega arith) in
    next_within end (name_of (parts_of 44 (0, head))) (λ name. each head_tag name.1 >>= λ tags. Ok (name.0, tags))
    (name_within end (parts_of 44 (0, head)))
    (λ name e. next_within end (each head_tag name.1) (λ tags. Ok (name.0, tags))
    (each_within end head_tag (head_tag_within end) name.1 (others_end end (parts_of 44 (0, head)) name parts e))
    (λ tags f. ok_within end (name.0, tags)))

-- ---- a part

-- what stands before a byte and what stands behind it
cut_len : (byte : ℕ) (text front rest : List ℕ) → (first_part byte text).0 ≡ front
    → (first_part byte text).1 ≡ Some rest → length text ≡ length front + 1 + length rest
cut_len byte text front rest e f =
    let whole : text ≡ front ++ byte ∷ rest = rw (e, f) at (cut_is_first byte text).0 in
    omega (arith, length-append front (byte ∷ rest), ap length whole)

front_len : (byte : ℕ) (text : List ℕ) → length (first_part byte text).0 ≤ length text
front_len byte text =
    let size = length-append (first_part byte text).0 (behind_first byte (first_part byte text).1) in
    omega (arith, size, ap length (cut_is_first byte text).0)

-- the `|` before a rate is in the piece
abbrev RateEnds : ℕ → Option PartAt → Type 0
RateEnds end None = Unit {0}
RateEnds end (Some rate) = rate.0 ≤ end

texts_or : Result Texts StatsdFault → Option PartAt
texts_or (Ok x) = x.rate
texts_or (Err f) = None

typed_within : (end offset : ℕ) (value name : List ℕ) (rate : Option (List ℕ)) (named : Option MetricType)
    → offset ≤ end → Within end (typed offset value name rate named)
typed_within end offset value name rate None le = fault_within end kinds.BadType offset le
typed_within end offset value name rate (Some metric_type) le = ok_within end _

typed_rate : (end offset : ℕ) (value name : List ℕ) (rate : Option (List ℕ)) (named : Option MetricType) (x : Texts)
    → offset + length name ≤ end
    → typed offset value name rate named ≡ Ok x → RateEnds end x.rate
unfolding texts_or
typed_rate end offset value name rate None x le e = absurd cc
typed_rate end offset value name rate (Some metric_type) x le e = subst (RateEnds end) (ap texts_or e) (at rate)
  where
    at : (rate : Option (List ℕ)) → RateEnds end (rate_text (offset + length name) rate)
    at None = tt
    at (Some text) = le

texts_within : (end : ℕ) (part : PartAt) → EndsBy end part → Within end (texts_of part)
unfolding texts_of
texts_within end part le = cut (first_part 124 part.1).0 (first_part 124 part.1).1 refl refl
  where
    cut : (front : List ℕ) (rest : Option (List ℕ)) → (first_part 124 part.1).0 ≡ front
        → (first_part 124 part.1).1 ≡ rest
        → Within end (texts_from part.0 (part.0 + length part.1) front rest)
    cut front None e f = fault_within end kinds.BadType (part.0 + length part.1) le
    cut front (Some rest) e f =
        typed_within end (part.0 + length front + 1) front (first_part 124 rest).0 (first_part 124 rest).1
        (type_of (first_part 124 rest).0)
        (omega (arith, cut_len 124 part.1 front rest e f))

texts_rate : (end : ℕ) (part : PartAt) (x : Texts) → EndsBy end part → texts_of part ≡ Ok x → RateEnds end x.rate
unfolding texts_of
texts_rate end part x le is = cut (first_part 124 part.1).0 (first_part 124 part.1).1 refl refl is
  where
    cut : (front : List ℕ) (rest : Option (List ℕ)) → (first_part 124 part.1).0 ≡ front
        → (first_part 124 part.1).1 ≡ rest
        → texts_from part.0 (part.0 + length part.1) front rest ≡ Ok x → RateEnds end x.rate
    cut front None e f is = absurd cc
    cut front (Some rest) e f is =
        typed_rate end (part.0 + length front + 1) front (first_part 124 rest).0 (first_part 124 rest).1
        (type_of (first_part 124 rest).0) x
        (omega (arith, cut_len 124 part.1 front rest e f, front_len 124 rest)) is

placed_within : {A : Type 0} (end offset : ℕ) (r : Result A StatsdKind) → offset ≤ end → Within end (placed_at offset r)
placed_within end offset (Ok x) le = ok_within end x
placed_within end offset (Err kind) le = fault_within end kind offset le

rate_from_within : (end offset bar_offset : ℕ) (negative : Bool) (r : Result ℤ NumFault) → offset ≤ end
    → bar_offset ≤ end → Within end (rate_from offset bar_offset negative r)
rate_from_within end offset bar_offset negative (Ok rate) le bar_le =
    test_within end (is_positive rate) (Ok (Some rate)) (fault kinds.BadRate bar_offset) (ok_within end (Some rate))
    (fault_within end kinds.BadRate bar_offset bar_le)
rate_from_within end offset bar_offset negative (Err numbers.NotANumber) le bar_le =
    fault_within end kinds.BadRate bar_offset bar_le
rate_from_within end offset bar_offset negative (Err numbers.NumberRange) le bar_le =
    test_within end negative (fault kinds.BadRate bar_offset) (fault kinds.NumberRange offset)
    (fault_within end kinds.BadRate bar_offset bar_le) (fault_within end kinds.NumberRange offset le)

rate_within : (end offset : ℕ) (rate : Option PartAt) → offset ≤ end → RateEnds end rate
    → Within end (rate_of offset rate)
unfolding rate_of
rate_within end offset None le h = ok_within end None
rate_within end offset (Some rate) le h =
    test_within end _ (rate_from offset rate.0 _ (read_as (drop 1 rate.1))) (fault kinds.BadRate rate.0)
    (rate_from_within end offset rate.0 _ (read_as (drop 1 rate.1)) le h) (fault_within end kinds.BadRate rate.0 h)

part_within : (end : ℕ) (part : PartAt) → EndsBy end part → Within end (part_of part)
unfolding part_of
part_within end part le =
    next_within end (texts_of part) _ (texts_within end part le)
    (λ texts e. next_within end (placed_at part.0 (value_of texts.metric_type texts.value)) _
    (placed_within end part.0 (value_of texts.metric_type texts.value) (omega arith))
    (λ value f. next_within end (rate_of part.0 texts.rate) _
    (rate_within end part.0 texts.rate (omega arith) (texts_rate end part texts le e))
    (λ rate g. next_within end (placed_at part.0 (counted texts.metric_type value rate)) _
    (placed_within end part.0 (counted texts.metric_type value rate) (omega arith))
    (λ result h. ok_within end _))))

-- ---- the sections

pub marker_le : (bs : List ℕ) → marker_len bs ≤ length bs
unfolding marker_len
marker_le [] = omega arith
marker_le (b ∷ []) = omega arith
marker_le (b ∷ c ∷ bs) =
    elim (b == 124 && c == 35) as (λ t. cond t 0 (1 + marker_len (c ∷ bs)) ≤ length (b ∷ c ∷ bs))
    [ true ↦ omega arith | false ↦ (let le = marker_le (c ∷ bs) in omega arith) ]

-- where the sections end
record Ends (end : ℕ) (line : Sections) : Type 0 where
  head : length line.head ≤ end
  parts : EndsBy end line.parts
  tags : 0 < length line.tags.1 → EndsBy end line.tags

sections_or : Sections → Result Sections StatsdFault → Sections
sections_or other (Ok x) = x
sections_or other (Err f) = other

sections_end : (piece : List ℕ) (line : Sections) → sections piece ≡ Ok line → Ends (length piece) line
unfolding sections sections_or
sections_end piece line is = cut (first_part 58 piece).0 (first_part 58 piece).1 refl refl is
  where
    cut : (front : List ℕ) (rest : Option (List ℕ)) → (first_part 58 piece).0 ≡ front → (first_part 58 piece).1 ≡ rest
        → sections_of (length piece) front rest ≡ Ok line → Ends (length piece) line
    cut front None e f is = absurd cc
    cut front (Some rest) e f is =
        let size = cut_len 58 piece front rest e f in
        let le = marker_le rest in
        subst (Ends (length piece)) (ap (sections_or line) is) (record {
          head = omega arith;
          parts = omega (arith, length-take-le (marker_len rest) rest le);
          tags = λ some. omega (arith, length-drop (marker_len rest + 2) rest);
        })

sections_within : (piece : List ℕ) → Within (length piece) (sections piece)
unfolding sections
sections_within piece = cut (first_part 58 piece).0 (first_part 58 piece).1
  where
    cut : (front : List ℕ) (rest : Option (List ℕ)) → Within (length piece) (sections_of (length piece) front rest)
    cut front None = fault_within (length piece) kinds.NoColon (length piece) (omega arith)
    cut front (Some rest) = ok_within (length piece) _

later_within : (end : ℕ) (tags : PartAt) → (0 < length tags.1 → EndsBy end tags) → Within end (later_tags tags)
unfolding later_tags parts_of each
later_within end (offset, []) h = ok_within end []
later_within end (offset, b ∷ bs) h =
    each_within end later_tag (later_tag_within end) (filter is_filled (parts_of 44 (offset, b ∷ bs)))
    (filled_end end (parts_of 44 (offset, b ∷ bs)) (parts_end 44 end (offset, b ∷ bs) (h (omega arith))))

-- ---- the line

limited_within : (end : ℕ) (metrics : List Content) → Within end (limited metrics)
limited_within end metrics = test_within end _ (fault kinds.TooMany 0) (Ok metrics)
    (fault_within end kinds.TooMany 0 (omega arith)) (ok_within end metrics)

line_within : (piece : List ℕ) (moment : ℤ) → Within (length piece) (line_reading piece moment)
unfolding line_reading
line_within piece moment =
    let end : ℕ = length piece in
    next_within end (sections piece) _ (sections_within piece)
    (λ line e. let ends = sections_end piece line e in
    next_within end (head_of line.head) _ (head_within end line.head ends.head)
    (λ head f. next_within end (later_tags line.tags) _ (later_within end line.tags ends.tags)
    (λ later g. next_within end (each part_of (parts_of 58 line.parts)) _
    (each_within end part_of (part_within end) (parts_of 58 line.parts) (parts_end 58 end line.parts ends.parts))
    (λ said h. limited_within end (map (content_of head.0 (head.1 ++ later) moment) said)))))

text_within : (piece : List ℕ) (moment : ℤ) → Within (length piece) (text_reading piece moment)
unfolding text_reading
text_within piece moment = test_within (length piece) (is_blank piece) (Ok []) (line_reading piece moment)
    (ok_within (length piece) []) (line_within piece moment)

reading_within : (piece : List ℕ) (moment : ℤ) → Within (length piece) (reading piece moment)
unfolding reading
reading_within piece moment =
    test_within (length piece) (is_utf8 piece) (text_reading piece moment) (fault kinds.NotUtf8 (utf8_valid_len piece))
    (text_within piece moment)
    (fault_within (length piece) kinds.NotUtf8 (utf8_valid_len piece) (utf8_valid_len_le piece))

pub fault_is_within : (piece : List ℕ) (moment : ℤ) (f : StatsdFault) → reading piece moment ≡ Err f
    → f.offset ≤ length piece
fault_is_within piece moment f e = (reading_within piece moment).at f e
