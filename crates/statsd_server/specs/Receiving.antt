-- What a receiver of groups has left.
use Rattle.std.specs.Prelude.{◌≡◌, ◌≤◌, ℕ, List, Option, Result, Ok, Err}
use Rattle.std.specs.Option.{option_map}
use Rattle.agent_base.specs.Counts.{Rose}
use Rattle.agent_base.specs.declared.outside.ReadRefused.{ReadRefused}
use Rattle.agent_base.specs.declared.outside.ReadRefused.TheVariants.{Failed, OutOfMemory}
use Rattle.statsd_server.specs.declared.datagrams.Dgram.{Dgram}
use Rattle.statsd_server.specs.declared.receiving.Receiving.{Receiving}
use Rattle.statsd_server.specs.Groups.{Rule}
use Rattle.statsd_server.specs.Stages.{text_by, turns}

abbrev pub rule_of : Receiving → Rule
rule_of r = record { packets = r.packets; quiet_limit = r.quiet_limit }

-- the text that is served of what is left
abbrev pub text_of : Receiving → List Dgram → List ℕ
text_of r left = text_by r.standing.serving.0 (rule_of r) r.stage r.buffer.items left

-- the same where what is left is told
abbrev pub told_text : Receiving → Option (List Dgram) → Option (List ℕ)
told_text r left = option_map (text_of r) left

abbrev pub turns_of : Receiving → ℕ
turns_of r = turns (rule_of r) r.standing.server.packets r.stage

-- the count of failed calls rose where the call failed, else it is as before
abbrev pub CallFails : {T : Type 0} → ℕ → ℕ → Result T ReadRefused → Type 0
CallFails before now (Ok done) = now ≡ before
CallFails before now (Err OutOfMemory) = now ≡ before
CallFails before now (Err Failed) = Rose before now

pub record CallHasCause {T : Type 0} (before now : ℕ) (result : Result T ReadRefused) : Type 0 where
  pub later : before ≤ now
  pub failed : CallFails before now result
