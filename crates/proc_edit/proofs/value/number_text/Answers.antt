use Rattle.std.proofs.Common.{◌∙◌, ◌++◌, List, ℕ, sym, ap, subst}
use Rattle.std.specs.Str.{IsUtf8}
use Rattle.std.proofs.lemmas.Str.{IsUtf8-from_ascii}
use Rattle.fixed_num.proofs.NumberBytes.{ascii_of}
use Rattle.metric.specs.Numbers.{number_text}
use Rattle.metric.proofs.NumberLemmas.{value_number}
use Rattle.proc_edit.proofs.value.number_text.Goals as goal

pub unreachable-requires : goal.unreachable-requires
unreachable-requires c =
    let number = c.args.number.now in
    let written = c.as_slice.ensures.value ∙ c.in_ok-append_number.ensures.ok
    ∙ ap (λ (digits : List ℕ). digits ++ number_text number) c.new-digits.ensures.items in
    let digits = IsUtf8-from_ascii _ (ascii_of _ (value_number number c.shows_value.ensures c.requires).bytes) in
    c.in-Err.ensures.cases.0 (subst IsUtf8 (sym written) digits)
