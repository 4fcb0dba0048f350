use Rattle.std.proofs.Common.{◌≡◌, ℕ, ◌<◌, length, slice_index_or, rules}
use Rattle.turnstile_scenarios.proofs.JobLemmas.{same_numbers}
use Rattle.turnstile_scenarios.proofs.jobs.run_each.Goals as goal

pub returns-clause-numbers : goal.returns-clause-numbers
returns-clause-numbers g c =
    let as_many : length c.in_ok-ended.ended.items ≡ length c.args.jobs.items = search rules in
    let each : (k : ℕ) (d : _) → k < length c.args.jobs.items
    → (slice_index_or c.in_ok-ended.ended.items k d).pass.view.number
    ≡ (slice_index_or c.args.jobs.items k d).pass.view.number = search rules in
    same_numbers (λ job. job.pass.view.number) _ _ as_many each
