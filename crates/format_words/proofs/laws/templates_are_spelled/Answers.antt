use Rattle.format_words.proofs.TemplateTexts as texts
use Rattle.format_words.proofs.laws.templates_are_spelled.Goals as goal

pub returns-clause-read : goal.returns-clause-read
returns-clause-read c = texts.spelled_is_template

pub returns-clause-spelled : goal.returns-clause-spelled
returns-clause-spelled c = texts.template_is_spelled
