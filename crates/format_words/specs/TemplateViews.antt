-- The words of a template's text, as the code has them.
use Rattle.std.specs.Prelude.{option_map}
use Rattle.format_words.specs.declared.template_text.TemplateWords as declared
use Rattle.format_words.specs.Template.{TemplateWords}
use Rattle.format_words.specs.Views.{now_of}

abbrev pub words_view : declared.TemplateWords → TemplateWords
words_view words = record {
  filter = option_map now_of words.filter;
  template = now_of words.template;
  tags = option_map now_of words.tags;
}
