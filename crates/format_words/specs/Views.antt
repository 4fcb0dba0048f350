-- What readers returned.
use Rattle.std.specs.Prelude.{◌≡◌, ℕ, List, Vec, map, Result, Ok, Err}
use Rattle.std.specs.Borrow.{Bor}
use Rattle.std.specs.declared.alloc.Global.{Global}
use Rattle.text_parts.specs.declared.split.Placed.{Placed}
use Rattle.text_parts.specs.Split.{PartAt}
use Rattle.metric.specs.Draft.{Tag}
use Rattle.format_words.specs.declared.fault.ShapeFault.{ShapeFault}
use Rattle.format_words.specs.declared.fault.ShapeFault.TheVariants.{Malformed}
use Rattle.format_words.specs.declared.fault.TemplateFault.{TemplateFault}
use Rattle.format_words.specs.declared.fault.TemplateFault.TheVariants as faults
use Rattle.format_words.specs.Template.{Shape}

-- a part, as the code has it
abbrev pub part_at : Placed → PartAt
part_at part = (part.offset, part.text.now)

abbrev pub now_of : Bor (List ℕ) → List ℕ
now_of text = text.now

abbrev pub texts_view : Vec (Bor (List ℕ)) Global → List (List ℕ)
texts_view texts = map now_of texts.items

abbrev pub tag_view : Bor (List ℕ) × Bor (List ℕ) → Tag
tag_view tag = (tag.0.now, tag.1.now)

abbrev pub tags_view : Vec (Bor (List ℕ) × Bor (List ℕ)) Global → List Tag
tags_view tags = map tag_view tags.items

-- the result is the template that the text is; or it is none, or memory ran out
abbrev pub ReadsTemplate : Result Shape TemplateFault → Result Shape ShapeFault → Type 0
ReadsTemplate (Ok shape) reading = reading ≡ Ok shape
ReadsTemplate (Err faults.OutOfMemory) reading = Unit {0}
ReadsTemplate (Err faults.BadTemplate) reading = reading ≡ Err Malformed
