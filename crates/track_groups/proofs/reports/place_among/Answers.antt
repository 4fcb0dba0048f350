use Rattle.std.proofs.Common.{rules, ltb}
use Rattle.std.proofs.lemmas.List.Sorted.{IsPartitionPoint-from_clause, IsPartitionedBy-ltb}
use Rattle.account.specs.declared.entry.Report.{Report}
use Rattle.track_groups.proofs.SettlingLemmas.{place_found}
use Rattle.track_groups.proofs.reports.place_among.Goals as goal

pub returns-clause-place : goal.returns-clause-place
returns-clause-place c rises =
    place_found c.args.number c.args.reports.now c.partition_point.result c.partition_point.ensures.bound
    (IsPartitionPoint-from_clause (λ (report : Report). ltb report.group c.args.number) c.args.reports.now
    c.partition_point.result c.partition_point.ensures.partitioned
    (IsPartitionedBy-ltb (λ (report : Report). report.group) c.args.reports.now c.args.number rises)
    (λ a r f called. search rules))
