use Rattle.std.proofs.Common.{◌≡◌, ◌<◌, subst, rules}
use Rattle.std.specs.declared.option.Option.TheVariants.{Some, None}
use Rattle.std.proofs.lemmas.Int.{to_z-of_z}
use mir.Syntax.{w64}
use mir.Val.{of_z, to_z}
use Rattle.agent_base.specs.Moments.{Gives}
use Rattle.formats.specs.Groups.{ReadsGroup}
use Rattle.formats.specs.declared.reading.Group.{Group}
use Rattle.agent_workers.specs.Inputs.{InPart, gathered_of, in_of, rule_of}
use Rattle.formats.specs.Reader.{InRule}
use Rattle.agent_workers.proofs.HeardLemmas.{read_to, held_own}
use Rattle.agent_workers.proofs.GatherSteps.{went_read, went_clocked}
use Rattle.agent_workers.proofs.input.read_on.Goals as goal

pub returns-clause-reads : goal.returns-clause-reads
returns-clause-reads g c = λ core ins b at start now w.
    let moment = to_z w64 (of_z w64 c.now-moment.result) in
    let same : moment ≡ c.now-moment.result = to_z-of_z w64 c.now-moment.result (search rules) in
    let gives : Gives (g.C.Clock.told c.args.job.now.clock).moments (g.C.Clock.told c.args.job.now.clock).next
    (g.C.Clock.told c.now-moment.new.self).next moment = rw same c.now-moment.ensures.gives in
    let reads = subst (λ (rule : InRule). ReadsGroup rule moment c.in_ok-group.group c.in_ok-group.state
    c.args.job.now.pieces c.read_group.new.pieces (g.S.Source.told c.args.job.now.source).bytes
    (g.S.Source.told c.read_group.new.source).bytes) c.new-rule.ensures.rule c.in_ok-group.ensures.reads in
    let none = subst (λ (group : Group). group.pieces ≡ 0 → c.gathered_of.result ≡ None) c.add.ensures.same
    c.gathered_of.ensures.none in
    let some = subst (λ (group : Group). 0 < group.pieces → c.gathered_of.result ≡ Some
    (gathered_of c.args.job.now.input moment group)) c.add.ensures.same c.gathered_of.ensures.some in
    let old : InPart = in_of g.S.Source.told g.C.Clock.told c.args.job.now in
    let read : InPart = read_to old c.in_ok-group.state c.read_group.new.pieces
    (g.S.Source.told c.read_group.new.source).bytes (g.S.Source.told c.read_group.new.source).faults
    (g.C.Clock.told c.now-moment.new.self).next c.gathered_of.result in
    let went =
    went_clocked start core now ins old.input read (g.C.Clock.told c.now-moment.new.self).moments
    c.now-moment.ensures.list
    (went_read start core now ins old c.read_group.new.pieces c.in_ok-group.state moment c.in_ok-group.group
    (g.S.Source.told c.read_group.new.source).bytes (g.S.Source.told c.read_group.new.source).faults
    (g.C.Clock.told c.now-moment.new.self).next c.gathered_of.result
    b at c.requires.reading c.requires.free c.requires.readable.some reads gives c.read_group.ensures.faults
    c.read_group.ensures.counted c.in_ok-group.ensures.limit c.in_ok-group.ensures.below c.in_ok-group.ensures.failed
    c.in_ok-group.ensures.one c.in_ok-group.ensures.line
    none some w) in
    rw c.read_state-job.ensures went

pub returns-clause-own : goal.returns-clause-own
returns-clause-own g c =
    let moment = to_z w64 (of_z w64 c.now-moment.result) in
    let reads = subst (λ (rule : InRule). ReadsGroup rule moment c.in_ok-group.group c.in_ok-group.state
    c.args.job.now.pieces c.read_group.new.pieces (g.S.Source.told c.args.job.now.source).bytes
    (g.S.Source.told c.read_group.new.source).bytes) c.new-rule.ensures.rule c.in_ok-group.ensures.reads in
    let none = subst (λ (group : Group). group.pieces ≡ 0 → c.gathered_of.result ≡ None) c.add.ensures.same
    c.gathered_of.ensures.none in
    let some = subst (λ (group : Group). 0 < group.pieces → c.gathered_of.result ≡ Some
    (gathered_of c.args.job.now.input moment group)) c.add.ensures.same c.gathered_of.ensures.some in
    held_own (rule_of c.args.job.now) c.args.job.now.input moment c.in_ok-group.group c.in_ok-group.state
    c.args.job.now.pieces c.read_group.new.pieces (g.S.Source.told c.args.job.now.source).bytes
    (g.S.Source.told c.read_group.new.source).bytes c.gathered_of.result reads none some
