-- Paths as they are written.
use Rattle.std.proofs.Common.{◌≡◌, ℕ, ◌++◌, List, [], ◌∷◌, map, Ok, Option, Some, None, refl, sym, ap, subst, ◌∙◌}
use Rattle.std.proofs.Common.{arith}
use Rattle.std.specs.Prelude.{flat_map}
use Rattle.std.specs.List.{AllByRecursion, join_with_byte}
use Rattle.std.proofs.lemmas.List.{append-nil}
use Rattle.text_parts.specs.Chain.{◌>>=◌}
use Rattle.text_parts.specs.Grammar.{HasNone}
use Rattle.text_parts.specs.Pairs.{pair_text}
use Rattle.text_parts.specs.Split.{is_byte, first_part, AllLack, behind_first}
use Rattle.text_parts.proofs.Splits.{first_is_cut, cut_is_first}
use Rattle.text_parts.proofs.Founds.{bind_ok, same_ok}
use Rattle.metric.specs.Draft.{Tag}
use Rattle.format_words.specs.declared.fault.ShapeFault.{ShapeFault}
use Rattle.format_words.specs.Segments.{segments_of, pairs_of}
use Rattle.format_words.specs.Grammar.{AreSegments, segments_text, IsPair}
use Rattle.format_words.proofs.Spelling.{segments_read, segments_written, pairs_read, pairs_written}
use Rattle.graphite_text.specs.Path.{Path, path_of}
use Rattle.graphite_text.specs.Grammar.{tag_text, path_spelling, IsPathText}

joined_tags : (tag : Tag) (tags : List Tag) → flat_map tag_text (tag ∷ tags) ≡ 59 ∷ join_with_byte 59
    (map pair_text (tag ∷ tags))
joined_tags tag [] = append-nil (tag_text tag)
joined_tags tag (next ∷ tags) = ap (λ (t : List ℕ). tag_text tag ++ t) (joined_tags next tags)

path_with : (bucket : List ℕ) (segments : List (List ℕ)) (tags : List Tag) → segments_of bucket ≡ Ok segments
    → HasNone (is_byte 59) bucket → AllByRecursion IsPair tags
    → AllLack 59 (map pair_text tags) → path_of (bucket ++ flat_map tag_text tags) ≡ Ok
    (record { segments = segments; tags = tags })
unfolding path_of
path_with bucket segments [] s none pairs lack = rw (append-nil bucket, (first_is_cut 59 bucket [] none).0, s) refl
path_with bucket segments (tag ∷ tags) s none pairs lack =
    rw (
      joined_tags tag tags,
      (first_is_cut 59 bucket (join_with_byte 59 (map pair_text (tag ∷ tags))) none).1,
      s,
      pairs_read 59 tag tags pairs lack,
    ) refl

pub path_read : (path : Path) → IsPathText path → path_of (path_spelling path) ≡ Ok path
path_read path is = path_with (segments_text path.segments) path.segments path.tags
    (segments_read path.segments is.segments) is.bucket is.pairs is.semicolons

pub path_written : (text : List ℕ) (path : Path) → path_of text ≡ Ok path
    → (text ≡ path_spelling path) × IsPathText path
unfolding path_of
path_written text path e =
    at (first_part 59 text).0 (first_part 59 text).1 (cut_is_first 59 text).0 (cut_is_first 59 text).1 e
  where
    with_tags : (bucket : List ℕ) (rest : Option (List ℕ)) (segments : List (List ℕ)) (tags : List Tag)
        → text ≡ bucket ++ behind_first 59 rest → HasNone (is_byte 59) bucket
        → (bucket ≡ segments_text segments) × AreSegments segments → pairs_of 59 rest ≡ Ok tags
        → (text ≡ path_spelling (record { segments = segments; tags = tags }))
        × IsPathText (record { segments = segments; tags = tags })
    with_tags bucket None segments tags is none read e =
        subst (λ (ts : List Tag). (text ≡ path_spelling (record { segments = segments; tags = ts }))
        × IsPathText (record { segments = segments; tags = ts })) (same_ok {F = ShapeFault} [] tags e) (
          is ∙ ap (λ (t : List ℕ). t ++ []) read.0,
          record {
            segments = read.1;
            bucket = subst (HasNone (is_byte 59)) read.0 none;
            pairs = tt;
            semicolons = tt;
          },
        )
    with_tags bucket (Some rest) segments [] is none read e = let are = pairs_written 59 rest [] e in
        absurd (omega (arith, are.some))
    with_tags bucket (Some rest) segments (tag ∷ tags) is none read e =
        let are = pairs_written 59 rest (tag ∷ tags) e in (
          is ∙ rw (read.0, are.is) (ap (λ (t : List ℕ). segments_text segments ++ t) (sym (joined_tags tag tags))),
          record {
            segments = read.1;
            bucket = subst (HasNone (is_byte 59)) read.0 none;
            pairs = are.pairs;
            semicolons = are.lack;
          },
        )

    at : (bucket : List ℕ) (rest : Option (List ℕ)) → text ≡ bucket ++ behind_first 59 rest
        → HasNone (is_byte 59) bucket
        → (segments_of bucket >>= λ segments. pairs_of 59 rest >>= λ tags. Ok
        (record { segments = segments; tags = tags })) ≡ Ok path
        → (text ≡ path_spelling path) × IsPathText path
    at bucket rest is none e =
        let segments = bind_ok (segments_of bucket) _ path e in
        let tags = bind_ok (pairs_of 59 rest) _ path segments.2 in
        subst (λ (p : Path). (text ≡ path_spelling p) × IsPathText p)
        (same_ok {F = ShapeFault} (record { segments = segments.0; tags = tags.0 }) path tags.2)
        (with_tags bucket rest segments.0 tags.0 is none (segments_written bucket segments.0 segments.1) tags.1)
