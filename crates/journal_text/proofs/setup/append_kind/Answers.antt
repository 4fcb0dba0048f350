use Rattle.journal_text.specs.SetupText.{kind_text}
use Rattle.text_parts.proofs.Adding.{after}
use Rattle.journal_text.proofs.setup.append_kind.Goals as goal

pub returns-in_ok-append_letters-in-Basic : goal.returns-in_ok-append_letters-in-Basic
unfolding kind_text
returns-in_ok-append_letters-in-Basic c =
    rw c.in-Basic.is (after c.args.out.now.items c.append_words-in-Basic.new.out.items _ _ _
    c.in_ok-append_words-in-Basic.ensures c.in_ok-append_letters-in-Basic.ensures)
