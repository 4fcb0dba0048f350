use Rattle.std.proofs.Common.{◌≡◌, ◌++◌, ◌∷◌, [], List, ℕ, ℤ, length, ◌∙◌, w64, arith, rules}
use mir.Val.{to_z, of_z}
use Rattle.std.proofs.lemmas.Int.{to_z-of_z}
use Rattle.fixed_num.specs.Canonical.{canonical_text}
use Rattle.metric.specs.Numbers.{number_text}
use Rattle.openmetrics_text.specs.Writing.{point_of}
use Rattle.openmetrics_text.proofs.PutLemmas.{assembled, line_is, puts_line}
use Rattle.openmetrics_text.proofs.write.put_line.Goals as goal

pub returns : goal.returns
returns c =
    let from : c.len-from.result ≡ length c.args.texts.now.bytes.items = omega (arith, c.len-from.ensures) in
    let to : c.len.result ≡ length c.append_point.new.out.items = omega (arith, c.len.ensures) in
    let same = to_z-of_z w64 c.time-time.result (search rules) in
    let time : ℤ = to_z w64 (of_z w64 c.time-time.result) in
    let number : List ℕ = number_text c.args.field.now.1 in
    let rest : List ℕ = c.args.series.now.labels.now ++ 32 ∷ (number ++ 32 ∷ (canonical_text time ++ 10 ∷ [])) in
    let pushed = rw same at c.in_ok-push.ensures.items in
    let line = line_is c.args.metric.now c.args.field.now c.args.family.now c.args.series.now.labels.now time
    c.requires.family c.requires.labels (same ∙ c.time-time.ensures) in
    puts_line c.args.texts.now _ (point_of c.args.metric.now c.args.field.now) c.args.series.now.extent
    c.args.family.now rest _ c.len-from.result c.len.result c.time-time.result
    c.in_ok-append_point.ensures pushed from to (assembled c.args.family.now c.args.series.now.labels.now number
    (canonical_text time)) line c.requires.family c.time-time.ensures c.requires.series
