use Rattle.std.proofs.Common.{◌≡◌, ℤ, map, ap, subst, ◌∙◌, w64, rules}
use Rattle.std.proofs.lemmas.Int.{to_z-of_z}
use Rattle.std.specs.BTreeMap.{insert_entry}
use Rattle.std.specs.Ordering.{int_cmp}
use Rattle.openmetrics_text.specs.WriteViews.{line_entry}
use Rattle.openmetrics_text.proofs.MapLemmas.{put_line_entry}
use Rattle.openmetrics_text.proofs.families.add_line.Goals as goal

pub returns : goal.returns
returns c =
    subst (λ (t : ℤ). map line_entry c.insert.new.self.entries ≡ map line_entry
    (insert_entry int_cmp c.args.lines.now.entries t c.args.line.text)) (to_z-of_z w64 c.args.line.time (search rules))
    (ap (map line_entry) c.in_ok-insert.ensures.entries)
    ∙ put_line_entry c.args.lines.now.entries c.args.line.time c.args.line.text
