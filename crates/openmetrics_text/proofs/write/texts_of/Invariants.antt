use Rattle.std.proofs.Common.{take}
use Rattle.openmetrics_text.specs.Texts.{AreIn}
use Rattle.openmetrics_text.specs.Writing.{points_of}
use Rattle.openmetrics_text.proofs.write.texts_of.Given as goal

abbrev pub invariant-loop-metric : goal.invariant-loop-metric
invariant-loop-metric l = AreIn l.texts (points_of (take l.metric-index l.batch))
