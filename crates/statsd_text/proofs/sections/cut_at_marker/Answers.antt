use Rattle.std.proofs.Common.{◌≡◌, ◌<◌, ◌+◌, length, ap, sym, subst, ◌∙◌, arith}
use Rattle.std.specs.Str.{IsCharBoundary}
use Rattle.std.proofs.lemmas.Str.{IsCharBoundary-before_ascii, IsCharBoundary-after_ascii}
use Rattle.statsd_text.specs.Sections.{marker_len}
use Rattle.statsd_text.proofs.Lacking.{marked}
use Rattle.statsd_text.proofs.sections.cut_at_marker.Goals as goal

pub split_at-requires : goal.split_at-requires
split_at-requires c =
    let is = c.marker_len-at.ensures.value ∙ ap marker_len c.as_bytes.ensures.value in
    let lt : marker_len c.args.text.now < length c.args.text.now =
    omega (arith, is, c.marker_len-at.ensures.bound, ap length c.as_bytes.ensures.value, c.if-at-text.false) in
    let m = marked c.args.text.now lt in
    subst (IsCharBoundary c.args.text.now) (sym is) (IsCharBoundary-before_ascii c.args.text.now
    (marker_len c.args.text.now) lt (omega (arith, m.bar)))

pub split_at-requires-2 : goal.split_at-requires-2
split_at-requires-2 c =
    let is = c.marker_len-at.ensures.value ∙ ap marker_len c.as_bytes.ensures.value in
    let lt : marker_len c.args.text.now < length c.args.text.now =
    omega (arith, is, c.marker_len-at.ensures.bound, ap length c.as_bytes.ensures.value, c.if-at-text.false) in
    let m = marked c.args.text.now lt in
    let at : marker_len c.args.text.now + 1 + 1 ≡ c.marker_len-at.result + 2 = omega (arith, is) in
    subst (IsCharBoundary c.args.text.now) at (IsCharBoundary-after_ascii c.args.text.now
    (marker_len c.args.text.now + 1) c.utf8.text m.within (omega (arith, m.hash)))
