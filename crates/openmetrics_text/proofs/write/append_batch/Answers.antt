use Rattle.std.proofs.Common.{◌++◌, List, ℕ, map, ap, sym, subst, ◌∙◌}
use Rattle.std.specs.List.{All, flat_map}
use Rattle.std.specs.Prelude.{codes}
use Rattle.text_parts.proofs.Adding.{after, fails, extends_after}
use Rattle.openmetrics_text.specs.Groups.{Grouped, by_family, family_group, families_text}
use Rattle.openmetrics_text.specs.Texts.{IsWithin, written_in}
use Rattle.openmetrics_text.specs.Writing.{points_of}
use Rattle.openmetrics_text.specs.declared.texts.Row.{Row}
use Rattle.openmetrics_text.proofs.GatherLemmas.{text_is}
use Rattle.openmetrics_text.proofs.PutLemmas.{all_within, rows_are}
use Rattle.openmetrics_text.proofs.write.append_batch.Goals as goal

pub families_of-requires : goal.families_of-requires
families_of-requires c =
    let texts = c.in_ok-texts.texts in
    subst (λ (bytes : List ℕ). All (IsWithin bytes) c.as_slice-2.result.now) (sym c.as_slice.ensures.value)
    (subst (λ (rows : List Row). All (IsWithin texts.bytes.items) rows) (sym c.as_slice-2.ensures.value)
    (all_within texts.bytes.items texts.rows.items (points_of c.args.batch.now) c.in_ok-texts.ensures))

pub returns-in_err-append_words : goal.returns-in_err-append_words
returns-in_err-append_words c = fails _ _ _ _ c.from_residual-in_err-append_words.ensures.0
    (extends_after c.args.out.now.items c.append_families.new.out.items c.append_words.new.out.items _
    c.in_ok-append_families.ensures c.in_err-append_words.ensures)

pub returns : goal.returns
unfolding families_text
returns c =
    let texts = c.in_ok-texts.texts in
    let points = points_of c.args.batch.now in
    let bytes = c.as_slice.ensures.value in
    let rows = c.as_slice-2.ensures.value in
    let groups =
    c.as_slice-3.ensures ∙ c.in_ok-families.ensures
    ∙ (λ j. by_family (map (written_in (bytes j)) (rows j)))
    ∙ ap by_family (rows_are texts.bytes.items texts.rows.items points c.in_ok-texts.ensures) in
    after _ _ _ _ _ c.in_ok-append_families.ensures c.in_ok-append_words.ensures
    ∙ ap (λ (text : List ℕ). c.args.out.now.items ++ text) (ap (λ (gs : List Grouped). flat_map family_group gs
    ++ codes "# EOF\n") groups ∙ text_is points)
