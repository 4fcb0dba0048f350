-- A path that is read has no empty text.
use Rattle.std.proofs.Common.{◌≡◌, ℕ, ◌<◌, List, length, Ok, subst, arith}
use Rattle.text_parts.proofs.Founds.{bind_ok, same_ok}
use Rattle.text_parts.specs.Split.{first_part, parts_of}
use Rattle.format_words.specs.declared.fault.ShapeFault.{ShapeFault}
use Rattle.format_words.specs.Segments.{segment, segments_of, pairs_of}
use Rattle.format_words.proofs.Filled.{each_all, segment_some, pairs_some, parts_some}
use Rattle.graphite_text.specs.Path.{Path, path_of, IsPath}

pub path_some : (text : List ℕ) (path : Path) → path_of text ≡ Ok path → IsPath path
unfolding path_of
path_some text path e =
    let segments = bind_ok (segments_of (first_part 59 text).0) _ path e in
    let tags = bind_ok (pairs_of 59 (first_part 59 text).1) _ path segments.2 in
    let all = each_all segment (λ (t : List ℕ). 0 < length t) segment_some (parts_of 46 (0, (first_part 59 text).0))
    segments.0 segments.1 in
    subst IsPath (same_ok {F = ShapeFault} (record { segments = segments.0; tags = tags.0 }) path tags.2)
    (record {
      some = omega (arith, all.1, parts_some 46 0 (first_part 59 text).0);
      filled = all.0;
      keyed = pairs_some 59 (first_part 59 text).1 tags.0 tags.1;
    })
