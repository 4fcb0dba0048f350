use Rattle.std.proofs.Common.{refl}
use Rattle.fixed_num.proofs.ByteTables.{from_table}
use Rattle.openmetrics_text.specs.declared.clean.TheConstants.{LABEL_BYTES, NAME_BYTES}
use Rattle.openmetrics_text.specs.Names.{ends_label, ends_name}
use Rattle.openmetrics_text.specs.Writing.{clean_byte}
use Rattle.openmetrics_text.proofs.clean.clean.Goals as goal

pub returns-in-Labels : goal.returns-in-Labels
returns-in-Labels c =
    rw c.in-Labels.is (c.translate.ensures (clean_byte ends_label)
    (record { at = λ b fits. from_table (clean_byte ends_label) LABEL_BYTES b fits refl }))

pub returns-in-Samples : goal.returns-in-Samples
returns-in-Samples c =
    rw c.in-Samples.is (c.translate-in-Samples.ensures (clean_byte ends_name)
    (record { at = λ b fits. from_table (clean_byte ends_name) NAME_BYTES b fits refl }))
