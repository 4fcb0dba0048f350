-- What a closing gives of a metric.
use Rattle.std.proofs.Common.{◌≡◌, ◌<◌, ℕ, ℤ, ◌+ℤ◌, true, false, List, [], ◌∷◌, ◌++◌, map, drop, reverse, refl, sym, ap}
use Rattle.std.proofs.Common.{◌∙◌, arith, length-append, rules}
use Rattle.std.specs.Prelude.{codes, int_le, nat_eq, FitsSigned}
use Rattle.std.specs.Cmp.Lexicographic.{pointwise}
use Rattle.std.specs.Int.{w64, w128, cast_signed, cast_unsigned, Width}
use Rattle.std.specs.List.{AllByRecursion, IsDistinct}
use Rattle.std.specs.Map.{keys_of}
use Rattle.std.specs.Str.{bytes_eq, IsAscii, IsUtf8}
use Rattle.std.proofs.lemmas.Int.{to_z-of_z}
use Rattle.std.proofs.lemmas.List.{length-map, reverse-append, reverse-reverse}
use Rattle.std.proofs.lemmas.Slice.Eq.{bytes_eq-Decides}
use Rattle.std.proofs.lemmas.Str.{IsUtf8-append, IsUtf8-from_ascii}
use Rattle.std.proofs.lemmas.Str.Ascii.{IsAscii-cons, IsAscii-nil}
use Rattle.metric.specs.Draft.{Field}
use Rattle.metric.specs.Metric.{IsField, IsMetric, IsWord}
use Rattle.metric.specs.declared.metric.Content.{Content}
use Rattle.agg_keep.specs.Final.{final_field}
use Rattle.agg_keep.proofs.KeyLemmas.{not_same}

-- ---- times

abbrev cast : Width → ℤ → ℤ
cast w z = cast_signed w (cast_unsigned w z)

pub over : (timeout moment time : ℤ) → FitsSigned w64 timeout → FitsSigned w64 moment → FitsSigned w64 time
    → int_le (cast w128 (cast w128 (cast w64 time) +ℤ cast w128 (cast w64 timeout))) (cast w128 (cast w64 moment))
    ≡ int_le (time +ℤ timeout) moment
over timeout moment time o m t =
    let o64 : cast w64 timeout ≡ timeout = to_z-of_z w64 timeout o in
    let m64 : cast w64 moment ≡ moment = to_z-of_z w64 moment m in
    let t64 : cast w64 time ≡ time = to_z-of_z w64 time t in
    let o128 : cast w128 timeout ≡ timeout = to_z-of_z w128 timeout (search rules) in
    let m128 : cast w128 moment ≡ moment = to_z-of_z w128 moment (search rules) in
    let t128 : cast w128 time ≡ time = to_z-of_z w128 time (search rules) in
    let s128 : cast w128 (time +ℤ timeout) ≡ time +ℤ timeout = to_z-of_z w128 (time +ℤ timeout) (search rules) in
    rw (o64, m64, t64, o128, m128, t128, s128) refl

-- ---- keys

ascii_of : (bs : List ℕ) → AllByRecursion (λ b. b < 128) bs → IsAscii bs
ascii_of [] h = IsAscii-nil
ascii_of (b ∷ bs) h = IsAscii-cons b bs h.0 (ascii_of bs h.1)

final_utf8 : IsUtf8 (codes "_final")
final_utf8 = IsUtf8-from_ascii (codes "_final") (ascii_of (codes "_final")
    (omega arith, (omega arith, (omega arith, (omega arith, (omega arith, (omega arith, tt)))))))

final_word : (key : List ℕ) → IsWord key → IsWord (key ++ codes "_final")
final_word key k = record {
  filled = omega (arith, k.filled, length-append key (codes "_final"));
  utf8 = IsUtf8-append key (codes "_final") k.utf8 final_utf8;
}

abbrev stem : List ℕ → List ℕ
stem key = reverse (drop 6 (reverse key))

final_stem : (key : List ℕ) → stem (key ++ codes "_final") ≡ key
final_stem key = rw (reverse-append key (codes "_final")) (reverse-reverse key)

no_both : true ≡ false → ⊥
no_both e = absurd cc

true_false : (a b : List ℕ) → bytes_eq a b ≡ false → a ≡ b → ⊥
true_false a b e same = no_both (sym ((bytes_eq-Decides a b).1 same) ∙ e)

apart : (a b : List ℕ) → bytes_eq a b ≡ false → bytes_eq (a ++ codes "_final") (b ++ codes "_final") ≡ false
apart a b e = not_same (bytes_eq (a ++ codes "_final") (b ++ codes "_final")) (λ same. true_false a b e
    (sym (final_stem a) ∙ ap stem ((bytes_eq-Decides (a ++ codes "_final") (b ++ codes "_final")).0 same)
    ∙ final_stem b))

-- ---- fields

fields_final : (fields : List Field) → AllByRecursion IsField fields → AllByRecursion IsField (map final_field fields)
fields_final [] h = tt
fields_final (field ∷ fields) h = ((final_word field.0 h.0.0, h.0.1), fields_final fields h.1)

others_final : (key : List ℕ) (fields : List Field) → AllByRecursion (λ k. bytes_eq key k ≡ false) (keys_of fields)
    → AllByRecursion (λ k. bytes_eq (key ++ codes "_final") k ≡ false) (keys_of (map final_field fields))
others_final key [] h = tt
others_final key (field ∷ fields) h = (apart key field.0 h.0, others_final key fields h.1)

distinct_final : (fields : List Field) → IsDistinct (pointwise nat_eq) (keys_of fields)
    → IsDistinct (pointwise nat_eq) (keys_of (map final_field fields))
unfolding IsDistinct
distinct_final [] h = tt
distinct_final (field ∷ fields) h = (others_final field.0 fields h.0, distinct_final fields h.1)

pub is_final : (m new : Content) → IsMetric m → new.name ≡ m.name → new.tags ≡ m.tags
    → new.fields ≡ map final_field m.fields → new.time ≡ m.time → IsMetric new
is_final m new h name tags fields time = record {
  name = rw name h.name;
  tags = rw tags h.tags;
  sorted = rw tags h.sorted;
  some = rw fields (omega (arith, h.some, length-map m.fields final_field));
  fields = rw fields (fields_final m.fields h.fields);
  distinct = rw fields (distinct_final m.fields h.distinct);
  time = rw time h.time;
}
