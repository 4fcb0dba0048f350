use Rattle.std.proofs.Common.{◌≡◌, ◌<◌, ◌+◌, ◌^◌, ◌==◌, ◌∙◌, ℤ, ap, arith, false, refl, subst, sym, true, ℕ, []}
use Rattle.std.specs.Prelude.{Option, Some, option_and_then, unwrap_or}
use Rattle.metric.specs.Series.{Series}
use Rattle.metric.specs.declared.metric.Content.{Content}
use Rattle.agg_keep.specs.Spot.{series_of}
use Rattle.statsd_server.specs.declared.part.Part.{Part}
use Rattle.statsd_server.specs.declared.summary.Summary.{Summary}
use Rattle.statsd_server.specs.Kept.{level_for, said_by, summary_held, LevelPlace, MemberPlace}
use Rattle.statsd_server.specs.Marked.{marked_cmp}
use Rattle.statsd_server.specs.Member.{member_cmp, member_named}
use Rattle.statsd_server.specs.Parts.{change_of, level_with, summary_of}
use Rattle.statsd_server.specs.Table.{place_by, value_at}
use Rattle.statsd_server.specs.TallyView.{memory_of}
use Rattle.statsd_server.proofs.KeepLemmas.{counts_is, left_out, place_same, placed_stays, with_part_counts}
use Rattle.statsd_server.proofs.tally.Tally.add.Goals.{After-behind}
use Rattle.statsd_server.proofs.tally.Tally.add.Goals as goal

module _ (c : After-behind) (part : Content) (is : said_by part ≡ c.args.placed.part) where
  series_is : series_of part ≡ c.args.placed.part.series
  series_is = ap (λ (p : Part). p.series) is

  change_is : c.args.placed.part.change ≡ change_of part
  change_is = ap (λ (p : Part). p.change) (sym is)

  sum_placed : place_by marked_cmp c.args.self.now.sums (series_of part) ≡ Some c.args.placed.sum
  sum_placed = ap (place_by marked_cmp c.args.self.now.sums) series_is ∙ c.requires.placed.sum

  -- what was held
  summary_here : c.or_empty-summary.result ≡ summary_held c.args.self.now.sums (series_of part)
  summary_here =
      c.or_empty-summary.ensures ∙ ap (λ (held : Option Summary). unwrap_or held (summary_of [])) (c.at.ensures
      ∙ sym (ap (λ (found : Option ℕ). option_and_then (value_at c.args.self.now.sums.values) found) sum_placed))

  level_placed : LevelPlace c.args.self.now.levels (series_of part) c.args.placed.part.change c.args.placed.level
  level_placed =
      subst (λ (s : Series). LevelPlace c.args.self.now.levels s c.args.placed.part.change c.args.placed.level)
      (sym series_is) c.requires.placed.level

  member_placed : MemberPlace c.args.self.now.members (member_named (series_of part) (change_of part))
      c.args.placed.member
  member_placed =
      subst (λ (p : Part). MemberPlace c.args.self.now.members (member_named p.series p.change) c.args.placed.member)
      (sym is) c.requires.placed.member

  level_here : c.level_for-before.result
      ≡ level_for c.args.self.now.levels (series_of part) c.args.placed.part.change
  level_here = c.level_for-before.ensures (series_of part) level_placed

pub returns-in-Some-clause-keeps : goal.returns-in-Some-clause-keeps
returns-in-Some-clause-keeps c = λ past now part is keeps.
    let b = (goal.at.returns-in-Some-clause-keeps c).After-behind in
    let change = c.args.placed.part.change in
    let s = series_of part in
    let old = memory_of c.args.self.now in
    let few : c.args.self.now.counted + 1 < 2 ^ 64 = omega arith in
    with_part_counts past now part old _ keeps few
    (counts_is past now old part change c.or_empty-summary.result c.level_for-before.result true keeps
    (change_is b part is) (summary_here b part is) (level_here b part is) c.in-Some.ensures.counts)
    (record {
      change = change;
      member = member_named s (change_of part);
      first = record { series = c.args.placed.part.series; sum = c.args.placed.sum };
      summary = c.or_empty-summary.result;
      more = c.with.result;
      amount = c.amount.result;
      fresh = c.is_new-fresh.result;
      is_first = c.or_empty-summary.result.count == 0;
      change_is = change_is b part is;
      member_is = refl;
      series_is = sym (series_is b part is);
      place_is = sum_placed b part is;
      summary_is = summary_here b part is;
      amount_is = c.amount.ensures;
      fresh_is = c.is_new-fresh.ensures _ (member_placed b part is);
      first_is = refl;
      more_is = c.with.ensures;
      places = c.put.ensures.places;
      sums = c.put.ensures.held s (sum_placed b part is);
      levels = c.put_level.ensures.held s (level_placed b part is)
          (c.in-Some.ensures.level ∙ ap (λ (x : ℤ). level_with x change) (level_here b part is));
      members = c.put_member.ensures.named _ (member_placed b part is);
      order = c.put_first.ensures.items;
      counted = refl;
    })

pub returns-in-Some-clause-stays : goal.returns-in-Some-clause-stays
returns-in-Some-clause-stays c =
    placed_stays (memory_of c.args.self.now) _
    (λ q at is. place_same marked_cmp c.args.self.now.sums c.put.new.self c.put.ensures.places q ∙ is)
    (λ q at is. place_same marked_cmp c.args.self.now.levels c.put_level.new.levels c.put_level.ensures.places q ∙ is)
    (λ m at is. place_same member_cmp c.args.self.now.members c.put_member.new.members c.put_member.ensures.places m
    ∙ is)

pub returns-in-None-clause-keeps : goal.returns-in-None-clause-keeps
returns-in-None-clause-keeps c = λ past now part is keeps.
    let b = (goal.at.returns-in-None-clause-keeps c).After-behind in
    let old = memory_of c.args.self.now in
    left_out past now part old _
    (counts_is past now old part c.args.placed.part.change c.or_empty-summary.result c.level_for-before.result false
    keeps (change_is b part is) (summary_here b part is) (level_here b part is) c.in-None.ensures.counts)
    (record {
      sums = keeps.sums;
      levels = keeps.levels;
      members = keeps.members;
      ordered = keeps.ordered;
      placed = keeps.placed;
      counted = keeps.counted;
    })
