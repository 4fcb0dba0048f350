use Rattle.std.proofs.Common.{refl}
use Rattle.fixed_num.proofs.ByteTables.{from_table}
use Rattle.graphite_text.specs.declared.write.TheConstants.{NAME_BYTES}
use Rattle.graphite_text.specs.Writing.{name_byte}
use Rattle.graphite_text.proofs.write.clean_name.Goals as goal

pub returns : goal.returns
unfolding name_byte
returns c = c.translate.ensures name_byte (record { at = λ b fits. from_table name_byte NAME_BYTES b fits refl })
