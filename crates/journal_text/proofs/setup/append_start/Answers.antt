use Rattle.std.proofs.Common.{◌≡◌, ◌++◌, ℕ, List, ap, ◌∙◌, append_assoc}
use Rattle.std.specs.Prelude.{codes}
use Rattle.std.specs.Fmt.{signed_decimal}
use Rattle.journal_text.specs.SetupText.{start_lines}
use Rattle.journal_text.proofs.setup.append_start.Goals as goal

pub returns : goal.returns
unfolding start_lines
returns c =
    c.in_ok-append_words.ensures ∙ ap (λ (text : List ℕ). text ++ codes "\n") c.in_ok-append_signed.ensures
    ∙ append_assoc c.args.out.now.items (codes "journal 1\nstart " ++ signed_decimal c.args.start.now) (codes "\n")
