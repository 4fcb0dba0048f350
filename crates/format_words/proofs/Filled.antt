-- What is read has no empty text.
use Rattle.std.proofs.Common.{◌≡◌, ℕ, suc, ◌+◌, ◌<◌, Bool, true, false, cond, List, [], ◌∷◌, length, Result, Ok, Err}
use Rattle.std.proofs.Common.{Option, Some, None, refl, ap, subst, arith}
use Rattle.std.specs.Prelude.{◌==◌, ◌||◌, codes}
use Rattle.std.specs.List.{AllByRecursion, list_any, slice_split, onto_first}
use Rattle.std.specs.Str.{bytes_eq}
use Rattle.std.proofs.lemmas.Bool.{or_parts}
use Rattle.text_parts.proofs.Founds.{bind_ok, same_ok, some_of}
use Rattle.text_parts.specs.Split.{PartAt, is_byte, first_part, placed, parts_of, each}
use Rattle.metric.specs.Draft.{Tag}
use Rattle.format_words.specs.declared.fault.ShapeFault.{ShapeFault}
use Rattle.format_words.specs.declared.fault.ShapeFault.TheVariants.{Malformed}
use Rattle.format_words.specs.declared.template.TemplatePart.{TemplatePart}
use Rattle.format_words.specs.declared.template.TemplatePart.TheVariants as parts
use Rattle.format_words.specs.Segments.{segment, valued, pair, pairs_of, AreKeyed}
use Rattle.format_words.specs.Template.{tag_part, template_part, each_part, template_parts, has_early_star, IsNamed}

-- ---- chains

-- a test that had to fail
pub test_ok : {A : Type 0} (t : Bool) (r : Result A ShapeFault) (y : A) → cond t (Err Malformed) r ≡ Ok y
    → (t ≡ false) × (r ≡ Ok y)
test_ok true r y e = absurd cc
test_ok false r y e = (refl, e)

-- what is true of all that a reader gives is true of all that it gives one by one
pub each_all : {A : Type 0} (read : PartAt → Result A ShapeFault) (P : A → Type 0)
    → ((part : PartAt) (x : A) → read part ≡ Ok x → P x)
    → (all : List PartAt) (xs : List A) → each read all ≡ Ok xs → AllByRecursion P xs × (length xs ≡ length all)
unfolding each
each_all {A = A} read P h [] xs e = subst (λ (ys : List A). AllByRecursion P ys × (length ys ≡ 0))
    (same_ok {F = ShapeFault} [] xs e) (tt, refl)
each_all {A = A} read P h (part ∷ all) xs e =
    let one = bind_ok (read part) _ xs e in
    let others = bind_ok (each read all) _ xs one.2 in
    let rest = each_all read P h all others.0 others.1 in
    subst (λ (ys : List A). AllByRecursion P ys × (length ys ≡ suc (length all)))
    (same_ok {F = ShapeFault} (one.0 ∷ others.0) xs others.2)
    ((h part one.0 one.1, rest.0), ap (λ (n : ℕ). suc n) rest.1)

-- ---- segments and pairs

pub segment_some : (part : PartAt) (text : List ℕ) → segment part ≡ Ok text → 0 < length text
unfolding segment
segment_some part text e =
    let test = test_ok (length part.1 == 0) (Ok part.1) text e in
    subst (λ (t : List ℕ). 0 < length t) (same_ok {F = ShapeFault} part.1 text test.1) (some_of part.1 test.0)

pair_some : (part : PartAt) (tag : Tag) → pair part ≡ Ok tag → 0 < length tag.0
unfolding pair
pair_some part tag e = at (first_part 61 part.1).0 (first_part 61 part.1).1 e
  where
    at : (key : List ℕ) (value : Option (List ℕ)) → valued key value ≡ Ok tag → 0 < length tag.0
    at key None e = absurd cc
    at key (Some value) e =
        let test = test_ok (length key == 0 || length value == 0) (Ok (key, value)) tag e in
        subst (λ (t : Tag). 0 < length t.0) (same_ok {F = ShapeFault} (key, value) tag test.1)
        (some_of key (or_parts (length key == 0) (length value == 0) test.0).0)

pub pairs_some : (separator : ℕ) (text : Option (List ℕ)) (tags : List Tag) → pairs_of separator text ≡ Ok tags
    → AreKeyed tags
pairs_some separator None tags e = subst AreKeyed (same_ok {F = ShapeFault} [] tags e) tt
pairs_some separator (Some text) tags e = (each_all pair (λ tag. 0 < length tag.0) pair_some
    (parts_of separator (0, text)) tags e).0

placed_length : (offset : ℕ) (texts : List (List ℕ)) → length (placed offset texts) ≡ length texts
placed_length offset [] = refl
placed_length offset (text ∷ texts) = ap (λ (n : ℕ). suc n) (placed_length (offset + length text + 1) texts)

pub parts_some : (separator offset : ℕ) (text : List ℕ) → 0 < length (parts_of separator (offset, text))
unfolding parts_of
parts_some separator offset text = some (slice_split (is_byte separator) text) (split_some text)
  where
    some : (texts : List (List ℕ)) → 0 < length texts → 0 < length (placed offset texts)
    some texts lt = omega (arith, lt, placed_length offset texts)

    onto_some : (b : ℕ) (texts : List (List ℕ)) → 0 < length (onto_first b texts)
    onto_some b [] = omega arith
    onto_some b (t ∷ texts) = omega arith

    split_some : (text : List ℕ) → 0 < length (slice_split (is_byte separator) text)
    split_some [] = omega arith
    split_some (b ∷ bs) = elim (b == separator) as (λ t. 0 < length
        (cond t ([] ∷ slice_split (is_byte separator) bs) (onto_first b (slice_split (is_byte separator) bs)))) [
          | true ↦ omega arith
          | false ↦ onto_some b (slice_split (is_byte separator) bs)
        ]

-- ---- the parts of a template

named_then : (t : Bool) (part : TemplatePart) (others : Result TemplatePart ShapeFault) (x : TemplatePart)
    → IsNamed part
    → (others ≡ Ok x → IsNamed x) → cond t (Ok part) others ≡ Ok x → IsNamed x
named_then true part others x is h e = subst IsNamed (same_ok {F = ShapeFault} part x e) is
named_then false part others x is h e = h e

tag_named : (text : List ℕ) (x : TemplatePart) → tag_part text ≡ Ok x → IsNamed x
tag_named text x e = elim (length text == 0) as (λ t. (length text == 0) ≡ t
    → cond t (Ok parts.Skipped) (cond (list_any (is_byte 42) text) (Err Malformed) (Ok (parts.Tag text))) ≡ Ok x
    → IsNamed x) [
      | true ↦ λ is e. subst IsNamed (same_ok {F = ShapeFault} parts.Skipped x e) tt
      | false ↦ λ is e.
          let test = test_ok (list_any (is_byte 42) text) (Ok (parts.Tag text)) x e in
          subst IsNamed (same_ok {F = ShapeFault} (parts.Tag text) x test.1) (some_of text is)
    ] refl e

part_named : (part : PartAt) (x : TemplatePart) → template_part part ≡ Ok x → IsNamed x
unfolding template_part
part_named part x e =
    named_then (bytes_eq part.1 (codes "measurement")) parts.Measurement _ x tt
    (named_then (bytes_eq part.1 (codes "measurement*")) parts.AllMeasurement _ x tt
    (named_then (bytes_eq part.1 (codes "field")) parts.Field _ x tt
    (named_then (bytes_eq part.1 (codes "field*")) parts.AllField _ x tt (tag_named part.1 x)))) e

pub parts_named : (text : List ℕ) (all : List TemplatePart) → template_parts text ≡ Ok all → AllByRecursion IsNamed all
unfolding template_parts
parts_named text all e =
    let read = bind_ok (each_part text) _ all e in
    let test = test_ok (has_early_star read.0) (Ok read.0) all read.2 in
    subst (AllByRecursion IsNamed) (same_ok {F = ShapeFault} read.0 all test.1)
    (each_all template_part IsNamed part_named (parts_of 46 (0, text)) read.0 read.1).0
