use Rattle.std.proofs.Common.{◌≡◌, [], ◌∷◌, ◌++◌, ap, ◌∙◌, sym, rules}
use Rattle.turnstile_scenarios.proofs.JobLemmas.{split_more, all_more}
use Rattle.turnstile_scenarios.proofs.jobs.split_each.Goals as goal

pub loop-work-preserved : goal.loop-work-preserved
loop-work-preserved g c =
    let i = c.loop-work.invariant in
    let s = c.split-pass.ensures.split in
    record {
      same_table = search rules;
      number = ap (λ v. v.number) s.2 ∙ i.number;
      none_joined = ap (λ v. v.joined) s.2 ∙ i.none_joined;
      split = split_more (λ job. job.pass.view.number) _ _ _ _ _ c.in_ok-push.ensures.items i.split
          (ap (λ v. v.split) s.2 ∙ ap (λ n. c.loop-work.first.view.split ++ n ∷ []) (sym (ap (λ v. v.number) s.3)));
      same_tables = all_more
          (λ job. job.pass.table ≡ c.args.stile.now.table) _ _ _ c.in_ok-push.ensures.items i.same_tables
          (search rules);
      left = search rules;
    }
