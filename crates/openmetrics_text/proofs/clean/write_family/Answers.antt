use Rattle.std.proofs.Common.{List, ℕ, map, ◌++◌, ap, ◌∙◌}
use Rattle.openmetrics_text.specs.Names.{ends_name}
use Rattle.openmetrics_text.specs.Writing.{clean_byte, digit_mark, family_words}
use Rattle.openmetrics_text.proofs.NameTexts.{family_is}
use Rattle.openmetrics_text.proofs.clean.write_family.Goals as goal

pub returns : goal.returns
returns c =
    let marked = c.in_ok-append_mark.ensures ∙ ap (λ (text : List ℕ). text ++ digit_mark c.args.name.now)
    c.clear.ensures.items in
    let words = c.in_ok-append_family_words.ensures ∙ ap (λ (text : List ℕ). text
    ++ family_words c.args.name.now c.args.key.now) marked in
    c.clean_family.ensures ∙ ap (map (clean_byte ends_name)) words ∙ family_is c.args.name.now c.args.key.now
