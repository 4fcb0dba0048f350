-- Parts as they are written.
use Rattle.std.proofs.Common.{◌≡◌, ℕ, suc, ◌+◌, ◌<◌, true, false, cond, List, [], ◌∷◌, ◌++◌, length, map, Result, Ok}
use Rattle.std.proofs.Common.{Option, Some, None, refl, sym, ap, subst, ◌∙◌, arith}
use Rattle.std.specs.Prelude.{◌==◌, ◌||◌}
use Rattle.std.specs.List.{AllByRecursion, join_with_byte, slice_split, onto_first}
use Rattle.std.proofs.lemmas.Bool.{ne_eqb, or_parts}
use Rattle.std.proofs.lemmas.List.Splits.{join_with_byte-slice_split}
use Rattle.text_parts.specs.Grammar.{HasNone}
use Rattle.text_parts.specs.Pairs.{pair_text}
use Rattle.text_parts.specs.Split.{PartAt, is_byte, first_part, placed, parts_of, each, AllLack, behind_first}
use Rattle.text_parts.proofs.Splits.{first_is_cut, cut_is_first, joined_are_split, parts_none}
use Rattle.metric.specs.Draft.{Tag}
use Rattle.format_words.specs.declared.fault.ShapeFault.{ShapeFault}
use Rattle.format_words.specs.Segments.{segment, segments_of, valued, pair, pairs_of, AreFilled}
use Rattle.format_words.specs.Grammar.{AreSegments, segments_text, IsPair}
use Rattle.text_parts.proofs.Founds.{bind_ok, same_ok, some_of}
use Rattle.format_words.proofs.Filled.{test_ok}

-- ---- parts one by one

pub each_read : {A : Type 0} (read : PartAt → Result A ShapeFault) (spell : A → List ℕ) (P : A → Type 0)
    → ((offset : ℕ) (x : A) → P x → read (offset, spell x) ≡ Ok x)
    → (offset : ℕ) (xs : List A) → AllByRecursion P xs → each read (placed offset (map spell xs)) ≡ Ok xs
unfolding each
each_read read spell P h offset [] all = refl
each_read read spell P h offset (x ∷ xs) all = rw (
  h offset x all.0,
  each_read read spell P h (offset + length (spell x) + 1) xs all.1,
) refl

pub each_written : {A : Type 0} (read : PartAt → Result A ShapeFault) (spell : A → List ℕ) (P : A → Type 0)
    → ((offset : ℕ) (text : List ℕ) (x : A) → read (offset, text) ≡ Ok x → (text ≡ spell x) × P x)
    → (offset : ℕ) (texts : List (List ℕ)) (xs : List A) → each read (placed offset texts) ≡ Ok xs
    → (texts ≡ map spell xs) × AllByRecursion P xs
unfolding each
each_written {A = A} read spell P h offset [] xs e = subst (λ (ys : List A). ([] ≡ map spell ys) × AllByRecursion P ys)
    (same_ok {F = ShapeFault} [] xs e) (refl, tt)
each_written {A = A} read spell P h offset (text ∷ texts) xs e =
    let one = bind_ok (read (offset, text)) _ xs e in
    let others = bind_ok (each read (placed (offset + length text + 1) texts)) _ xs one.2 in
    let first = h offset text one.0 one.1 in
    let rest = each_written read spell P h (offset + length text + 1) texts others.0 others.1 in
    subst (λ (ys : List A). (text ∷ texts ≡ map spell ys) × AllByRecursion P ys)
    (same_ok {F = ShapeFault} (one.0 ∷ others.0) xs others.2)
    (rw (← first.0, ← rest.0) refl, (first.1, rest.1))

as_it_is : List ℕ → List ℕ
as_it_is text = text

map_same : (xs : List (List ℕ)) → map as_it_is xs ≡ xs
unfolding as_it_is
map_same [] = refl
map_same (x ∷ xs) = ap (λ (ys : List (List ℕ)). x ∷ ys) (map_same xs)

-- ---- segments

segment_read : (offset : ℕ) (text : List ℕ) → 0 < length text → segment (offset, as_it_is text) ≡ Ok text
unfolding segment as_it_is
segment_read offset text some = let test : (length text == 0) ≡ false =
    ne_eqb (length text) 0 (λ e. absurd (omega arith)) in rw test refl

segment_written : (offset : ℕ) (text x : List ℕ) → segment (offset, text) ≡ Ok x → (text ≡ as_it_is x) × (0 < length x)
unfolding segment as_it_is
segment_written offset text x e =
    let test = test_ok (length text == 0) (Ok text) x e in
    let same : text ≡ x = same_ok {F = ShapeFault} text x test.1 in
    (same, subst (λ (t : List ℕ). 0 < length t) same (some_of text test.0))

segments_read_at : (texts : List (List ℕ)) → 0 < length texts → AreFilled texts → AllLack 46 texts
    → segments_of (join_with_byte 46 texts) ≡ Ok texts
unfolding parts_of
segments_read_at [] some filled dots = absurd (omega arith)
segments_read_at (first ∷ others) some filled dots =
    rw (joined_are_split 46 first others dots)
    (subst (λ (ts : List (List ℕ)). each segment (placed 0 ts) ≡ Ok (first ∷ others)) (map_same (first ∷ others))
    (each_read segment as_it_is (λ (t : List ℕ). 0 < length t) segment_read 0 (first ∷ others) filled))

pub segments_read : (texts : List (List ℕ)) → AreSegments texts → segments_of (segments_text texts) ≡ Ok texts
segments_read texts are = segments_read_at texts are.some are.filled are.dots

pub split_some : (c : ℕ) (text : List ℕ) → 0 < length (slice_split (is_byte c) text)
split_some c [] = omega arith
split_some c (b ∷ bs) = elim (b == c) as (λ t. 0 < length (cond t ([] ∷ slice_split (is_byte c) bs)
    (onto_first b (slice_split (is_byte c) bs)))) [
      | true ↦ omega arith
      | false ↦ onto_some b (slice_split (is_byte c) bs)
    ]
  where
    onto_some : (b : ℕ) (texts : List (List ℕ)) → 0 < length (onto_first b texts)
    onto_some b [] = omega arith
    onto_some b (t ∷ texts) = omega arith

pub segments_written : (text : List ℕ) (xs : List (List ℕ)) → segments_of text ≡ Ok xs
    → (text ≡ segments_text xs) × AreSegments xs
unfolding parts_of
segments_written text xs e =
    let read = each_written segment as_it_is (λ (t : List ℕ). 0 < length t) segment_written 0
    (slice_split (is_byte 46) text) xs e in
    let same : slice_split (is_byte 46) text ≡ xs = read.0 ∙ map_same xs in (
      sym (join_with_byte-slice_split 46 text) ∙ ap (join_with_byte 46) same,
      record {
        some = subst (λ (ts : List (List ℕ)). 0 < length ts) same (split_some 46 text);
        filled = read.1;
        dots = subst (AllLack 46) same (parts_none (is_byte 46) text);
      },
    )

-- ---- pairs

pair_read : (offset : ℕ) (tag : Tag) → IsPair tag → pair (offset, pair_text tag) ≡ Ok tag
unfolding pair
pair_read offset tag is =
    let key : (length tag.0 == 0) ≡ false = ne_eqb (length tag.0) 0 (λ e. absurd (omega (arith, is.key_filled))) in
    let value : (length tag.1 == 0) ≡ false = ne_eqb (length tag.1) 0 (λ e. absurd (omega (arith, is.value_filled))) in
    rw ((first_is_cut 61 tag.0 tag.1 is.key).1, key, value) refl

pair_written : (offset : ℕ) (text : List ℕ) (tag : Tag) → pair (offset, text) ≡ Ok tag
    → (text ≡ pair_text tag) × IsPair tag
unfolding pair
pair_written offset text tag e = at (first_part 61 text).0 (first_part 61 text).1 (cut_is_first 61 text).0
    (cut_is_first 61 text).1 e
  where
    at : (key : List ℕ) (value : Option (List ℕ)) → text ≡ key ++ behind_first 61 value → HasNone (is_byte 61) key
        → valued key value ≡ Ok tag → (text ≡ pair_text tag) × IsPair tag
    at key None is none e = absurd cc
    at key (Some value) is none e =
        let test = test_ok (length key == 0 || length value == 0) (Ok (key, value)) tag e in
        let both = or_parts (length key == 0) (length value == 0) test.0 in
        subst (λ (t : Tag). (text ≡ pair_text t) × IsPair t) (same_ok {F = ShapeFault} (key, value) tag test.1)
        (is, record { key_filled = some_of key both.0; key = none; value_filled = some_of value both.1 })

pub pairs_read : (c : ℕ) (tag : Tag) (tags : List Tag) → AllByRecursion IsPair (tag ∷ tags)
    → AllLack c (map pair_text (tag ∷ tags))
    → pairs_of c (Some (join_with_byte c (map pair_text (tag ∷ tags)))) ≡ Ok (tag ∷ tags)
unfolding parts_of
pairs_read c tag tags are lack = rw (joined_are_split c (pair_text tag) (map pair_text tags) lack)
    (each_read pair pair_text IsPair pair_read 0 (tag ∷ tags) are)

-- pairs as they are written: there is at least one
pub record ArePairs (c : ℕ) (text : List ℕ) (tags : List Tag) : Type 0 where
  pub some : 0 < length tags
  pub is : text ≡ join_with_byte c (map pair_text tags)
  pub pairs : AllByRecursion IsPair tags
  pub lack : AllLack c (map pair_text tags)

map_length : {A B : Type 0} (f : A → B) (xs : List A) → length (map f xs) ≡ length xs
map_length f [] = refl
map_length f (x ∷ xs) = ap (λ (n : ℕ). suc n) (map_length f xs)

pub pairs_written : (c : ℕ) (text : List ℕ) (tags : List Tag) → pairs_of c (Some text) ≡ Ok tags → ArePairs c text tags
unfolding parts_of
pairs_written c text tags e =
    let read = each_written pair pair_text IsPair pair_written 0 (slice_split (is_byte c) text) tags e in record {
      some = omega (arith, split_some c text, ap length read.0, map_length pair_text tags);
      is = sym (join_with_byte-slice_split c text) ∙ ap (join_with_byte c) read.0;
      pairs = read.1;
      lack = subst (AllLack c) read.0 (parts_none (is_byte c) text);
    }
