-- The groups of tracked inputs: when they settle, and what is told of them then.
use Rattle.std.specs.Prelude.{ℕ, ◌+◌, ◌==◌, ◌&&◌, ◌||◌, nat_le, not, Bool, List, [], ◌∷◌, ◌++◌, map, count_by}
use Rattle.std.specs.List.{enumerate_from, filter, sum_by}
use Rattle.std.specs.declared.option.Option.{Option}
use Rattle.std.specs.declared.option.Option.TheVariants.{Some, None}
use Rattle.account.specs.Setup.{Setup}
use Rattle.account.specs.Origins.{origin_at, is_of_group, unrouted, group_inputs, groups}
use Rattle.account.specs.declared.entry.Entry.{Entry}
use Rattle.account.specs.declared.entry.Report.{Report}
use Rattle.pipeline_core.specs.Fates.{Fate, ItemFate, item_fates, is_buffered, is_dropped}

-- whether an item of a group has a fate that passes a test
abbrev pub is_of_fate : (Fate → Bool) → List Entry → ℕ → ItemFate → Bool
is_of_fate test es group x = test x.fate && is_of_group group (origin_at es x.item)

-- over all outputs, how many items of a group have such a fate there
abbrev pub count_of_fate : (Fate → Bool) → Setup → List Entry → ℕ → ℕ
count_of_fate test setup es group =
    sum_by (λ (output : ℕ × (ℕ × ℕ)). count_by (is_of_fate test es group) (item_fates output.1.1 output.0 es))
    (enumerate_from 0 setup.outputs)

-- the copies of a group: its items that are raw or in hand, and at each output those that are buffered
abbrev pub copies : Setup → List Entry → ℕ → ℕ
copies setup es group = count_by (is_of_group group) (unrouted es) + count_of_fate is_buffered setup es group

-- whether a group has copies: then it is live
abbrev pub is_live : Setup → List Entry → ℕ → Bool
is_live setup es group = not (copies setup es group == 0)

-- how many groups of an input are live
abbrev pub live_count : Setup → List Entry → ℕ → ℕ
live_count setup es input =
    count_by (λ (group : ℕ × ℕ). group.1 == input && is_live setup es group.0)
    (enumerate_from 0 (group_inputs es))

-- whether a group settles at an entry: it has no copy behind it, and was live, or wasn't there, before it
abbrev pub settles : Setup → List Entry → Entry → ℕ → Bool
settles setup es e group =
    not (is_live setup (es ++ e ∷ []) group) && (nat_le (groups es) group || is_live setup es group)

-- what is told of a group of an input: whether none of its items is dropped anywhere
abbrev pub report_of : Setup → List Entry → ℕ × ℕ → Report
report_of setup es group = record {
  group = group.0;
  input = group.1;
  delivered = count_of_fate is_dropped setup es group.0 == 0;
}

-- the reports of an entry: the groups that settle at it, by rising number
unfoldable pub reports_at : Setup → List Entry → Entry → List Report
reports_at setup es e =
    map (report_of setup (es ++ e ∷ []))
    (filter (λ (group : ℕ × ℕ). settles setup es e group.0) (enumerate_from 0 (group_inputs (es ++ e ∷ []))))

-- the group of an input's next pieces: the next number, where the input is tracked
abbrev pub next_group : Option ℕ → List Entry → Option ℕ
next_group None es = None
next_group (Some most) es = Some (groups es)
