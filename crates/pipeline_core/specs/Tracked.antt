-- What is kept of tracked groups: what a tracker says after a journal, and which copies each call lets go.
use Rattle.std.specs.Prelude.{ℕ, ◌==◌, not, Bool, true, false, List, [], ◌∷◌, ◌++◌, map, flat_map, count_by, is_some}
use Rattle.std.specs.List.{enumerate_from, filter, list_any}
use Rattle.std.specs.Option.{option_to_list}
use Rattle.std.specs.declared.option.Option.{Option}
use Rattle.std.specs.declared.option.Option.TheVariants.{Some, None}
use Rattle.metric.specs.declared.metric.Content.{Content}
use Rattle.account.specs.Setup.{Setup}
use Rattle.account.specs.Origins.{origin_at, group_inputs, groups}
use Rattle.account.specs.declared.entry.Entry.{Entry}
use Rattle.account.specs.declared.entry.Verdict.{Verdict}
use Rattle.account.specs.declared.entry.Verdict.TheVariants as verdicts
use Rattle.out_lane.specs.Lane.{LaneState, flying, failed_out, pushed_out}
use Rattle.track_groups.specs.Settling.{Copy}
use Rattle.track_groups.specs.Tracker.{TrackerState, after_hold}
use Rattle.track_groups.specs.declared.group.LiveGroup.{LiveGroup}
use Rattle.pipeline_core.specs.Fates.{is_dropped}
use Rattle.pipeline_core.specs.Groups.{copies, count_of_fate, is_live}
use Rattle.pipeline_core.specs.Offers.{offers}
use Rattle.pipeline_core.specs.declared.output.Offer.{Offer}

-- a group of an input as a tracker has it: its copies, and whether an item of it is dropped anywhere
abbrev pub group_after : Setup → List Entry → ℕ × ℕ → LiveGroup
group_after setup es group = record {
  number = group.0;
  copies = copies setup es group.0;
  input = group.1;
  rejected = not (count_of_fate is_dropped setup es group.0 == 0);
}

-- the most groups of an input that may be live at once, 0 where it isn't tracked
abbrev pub most_live : Option ℕ → ℕ
most_live None = 0
most_live (Some most) = most

-- whether an input of a set-up is tracked
abbrev pub is_tracking : Setup → Bool
is_tracking setup = list_any is_some setup.inputs

-- what a tracker says after a journal: exactly the live groups, by rising number
unfoldable pub tracker_after : Setup → List Entry → TrackerState
tracker_after setup es = record {
  limits = map most_live setup.inputs;
  started = groups es;
  live =
      map (group_after setup es)
      (filter (λ (group : ℕ × ℕ). is_live setup es group.0) (enumerate_from 0 (group_inputs es)));
}

-- the group of an item that is offered to an output
abbrev pub mark_of : List Entry → Offer → Option ℕ
mark_of es offer = (origin_at es offer.item).group

-- the groups of all that is offered to an output, in order
abbrev pub marks : ℕ → List Entry → List (Option ℕ)
marks output es = map (mark_of es) (offers output es)

-- the copies of items of these groups, all of them dropped or none
abbrev pub copy_of : Bool → Option ℕ → List Copy
copy_of dropped None = []
copy_of dropped (Some group) = record { group = group; dropped = dropped } ∷ []

abbrev pub copies_in : Bool → List (Option ℕ) → List Copy
copies_in dropped groups = flat_map (copy_of dropped) groups

-- the copies that a view pushes out at an output, whose items have these groups
abbrev pub gone_for : Option Content → LaneState (Option ℕ) → List Copy
gone_for None marked = []
gone_for (Some view) marked = copies_in true (option_to_list (pushed_out marked))

-- the copies that views push out, output by output
unfoldable pub pushed_copies : List (Option Content) → List (LaneState (Option ℕ)) → List Copy
pushed_copies [] all = []
pushed_copies (view ∷ views) [] = []
pushed_copies (view ∷ views) (marked ∷ all) = gone_for view marked ++ pushed_copies views all

-- the copies that a routed item pushes out
abbrev pub routed_copies : Verdict → List (Option Content) → List (LaneState (Option ℕ)) → List Copy
routed_copies verdicts.Passes outs all = pushed_copies outs all
routed_copies _ outs all = []

-- the items that leave an output as its batch is accepted, or fails
abbrev pub leaving : Bool → LaneState (Option ℕ) → List (Option ℕ)
leaving true marked = flying marked
leaving false marked = failed_out marked

-- the copies that a batch lets go that was accepted, or failed
abbrev pub done_copies : Bool → LaneState (Option ℕ) → List Copy
done_copies ok marked = copies_in (not ok) (leaving ok marked)

-- a group holds so many copies more
abbrev pub hold_more : TrackerState → Option ℕ → ℕ → TrackerState
hold_more state None more = state
hold_more state (Some group) more = after_hold state group more

-- and so does that of an item that is routed, where it is offered to outputs
abbrev pub held_routed : TrackerState → Option ℕ → Verdict → List (Option Content) → TrackerState
held_routed state group verdicts.Passes outs = hold_more state group (count_by is_some outs)
held_routed state group _ outs = state
