use Rattle.std.proofs.Common.{refl}
use Rattle.fixed_num.proofs.ByteTables.{from_table}
use Rattle.graphite_text.specs.declared.write.TheConstants.{VALUE_BYTES}
use Rattle.graphite_text.specs.Writing.{value_byte}
use Rattle.graphite_text.proofs.write.clean_value.Goals as goal

pub returns : goal.returns
unfolding value_byte
returns c = c.translate.ensures value_byte (record { at = λ b fits. from_table value_byte VALUE_BYTES b fits refl })
