use Rattle.std.proofs.Common.{◌≡◌, ap, ◌∙◌, rules}
use Rattle.turnstile_scenarios.proofs.JobLemmas.{joined_first, all_rest}
use Rattle.turnstile_scenarios.proofs.jobs.join_each.Goals as goal

pub loop-job-preserved : goal.loop-job-preserved
loop-job-preserved g c =
    let i = c.loop-job.invariant in
    let cut = c.in-Some.ensures.steps.0 in
    record {
      same_table = search rules;
      number = ap (λ v. v.number) c.join.ensures.joined ∙ i.number;
      split = joined_first
          (λ job. job.pass.view.number) _ _ _ _ _ cut i.split (ap (λ v. v.split) c.join.ensures.joined);
      same_tables = all_rest (λ job. job.pass.table ≡ c.args.stile.now.table) _ _ _ cut i.same_tables;
    }
