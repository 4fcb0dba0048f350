use Rattle.std.proofs.Common.{◌∙◌}
use Rattle.fixed_num.proofs.Writing.{whole_text}
use Rattle.fixed_num.proofs.text.write_number.Goals as goal

pub returns-clause-text : goal.returns-clause-text
returns-clause-text c =
    whole_text c.args.buffer.now c.write_front-start.new.buffer c.write_fraction-end.new.buffer _ _
    c.write_front-start.result c.write_fraction-end.result c.requires.room
    (c.write_front-start.auto.buffer ∙ c.requires.room)
    c.write_front-start.ensures.bound c.write_fraction-end.ensures.bound.0 c.write_front-start.ensures.text
    c.write_fraction-end.ensures.text
