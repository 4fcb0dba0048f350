-- The text of each metric is one line.
use Rattle.std.specs.Prelude.{◌≡◌, ℕ, ◌==◌, ◌||◌, Bool, List, ◌++◌, codes}
use Rattle.metric.specs.declared.metric.Content.{Content}
use Rattle.metric.specs.Metric.{IsMetric}
use Rattle.text_parts.specs.Bytes.{newline, carriage_return}
use Rattle.text_parts.specs.Grammar.{HasNone}
use Rattle.line_proto.specs.LineText.{line_text}

-- a newline or a carriage return
abbrev pub ends_line : ℕ → Bool
ends_line b = b == newline || b == carriage_return

-- whatever a metric's texts hold, its text is one line and its newline
abbrev pub MetricIsOneLine : Type 0
MetricIsOneLine = (m : Content) → IsMetric m
    → (line : List ℕ) × (line_text m ≡ line ++ codes "\n") × HasNone ends_line line
