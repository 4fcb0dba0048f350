use Rattle.std.proofs.Common.{◌≡◌, ap}
use Rattle.agent_base.specs.Places.{Rest}
use Rattle.agent_base.specs.Views.{WorldView}
use Rattle.agent_scenarios.proofs.told.TellingWorldWorld.say.Goals as goal

-- what a world tells of its places and clocks, with a report of its own
abbrev reporting : WorldView → Rest → WorldView
reporting parts report = record { ins = parts.ins; outs = parts.outs; clocks = parts.clocks; report = report }

as_before : (old new : WorldView) (report : Rest) → new ≡ old → reporting new report ≡ reporting old report
as_before old new report same = ap (λ (parts : WorldView). reporting parts report) same

pub returns : goal.returns
returns g c = record { same = as_before _ _ _ c.say.ensures.same }
