use Rattle.std.proofs.Common.{arith, inl, inr, rules, subst}
use Rattle.agent_run.specs.Command.{IsCommand, pipe_config}
use Rattle.agent_run.proofs.HeadlineLemmas.{completes}
use Rattle.agent_run.proofs.GeneratingLemmas.{names_none}
use Rattle.agent_run.proofs.top.agent.Goals as goal

pub returns-in-Some-Pipe-clause-complete : goal.returns-in-Some-Pipe-clause-complete
returns-in-Some-Pipe-clause-complete g c = λ command nothing limit config.
    completes (pipe_config c.in-Some-Pipe.pipe.input.now c.in-Some-Pipe.pipe.output.now c.in-Some-Pipe.pipe.batch
    c.in-Some-Pipe.pipe.limit) (g.W.World.view c.args.world.now) (g.W.World.view c.run_pipe.new.world) c.run_pipe.result
    (omega arith)
    c.run_pipe.ensures.open c.run_pipe.ensures.ends nothing limit

pub returns-in-Some-Check-clause-faulty : goal.returns-in-Some-Check-clause-faulty
returns-in-Some-Check-clause-faulty g c = record {
  only = λ config. (
    c.in-Some-Check.place.now,
    inl (subst (IsCommand c.args.words.now) c.in-Some-Check.field-0-is
        c.in-Some-Check.ensures),
  );
  always = search rules;
}

pub returns-in-Some-Check-clause-open : goal.returns-in-Some-Check-clause-open
returns-in-Some-Check-clause-open g c = λ unopened. inl (
  c.in-Some-Check.place.now,
  inl (subst (IsCommand c.args.words.now) c.in-Some-Check.field-0-is c.in-Some-Check.ensures),
)

pub returns-in-Some-Run-clause-faulty : goal.returns-in-Some-Run-clause-faulty
returns-in-Some-Run-clause-faulty g c = record {
  only = λ config. (
    c.in-Some-Run.place.now,
    inr (inl (subst (IsCommand c.args.words.now) c.in-Some-Run.field-0-is
        c.in-Some-Run.ensures)),
  );
  always = search rules;
}

pub returns-in-Some-Run-clause-open : goal.returns-in-Some-Run-clause-open
returns-in-Some-Run-clause-open g c = λ unopened. inl (
  c.in-Some-Run.place.now,
  inr (inl (subst (IsCommand c.args.words.now) c.in-Some-Run.field-0-is c.in-Some-Run.ensures)),
)

pub returns-in-Some-Gen-clause-faulty : goal.returns-in-Some-Gen-clause-faulty
returns-in-Some-Gen-clause-faulty g c = record {
  only = λ config. (
    c.in-Some-Gen.wanted.place.now,
    inr (inr (
      c.in-Some-Gen.wanted.lines,
      subst (IsCommand c.args.words.now) c.in-Some-Gen.field-0-is
          c.in-Some-Gen.ensures,
    )),
  );
  always = search rules;
}

pub returns-in-Some-Gen-clause-open : goal.returns-in-Some-Gen-clause-open
returns-in-Some-Gen-clause-open g c = λ unopened. inl (
  c.in-Some-Gen.wanted.place.now,
  inr (inr (
    c.in-Some-Gen.wanted.lines,
    subst (IsCommand c.args.words.now) c.in-Some-Gen.field-0-is
        c.in-Some-Gen.ensures,
  )),
)

pub returns-in-None-clause-runs : goal.returns-in-None-clause-runs
returns-in-None-clause-runs g c = record {
  run = λ place e. absurd (c.in-None.ensures.no_config.no_run place e);
  gen = λ lines place e. absurd (c.in-None.ensures.no_config.no_gen lines place e);
}

pub returns-in-None-clause-faulty : goal.returns-in-None-clause-faulty
returns-in-None-clause-faulty g c = record {
  only = search rules;
  always = λ place bytes names told faulty n. absurd
      (names_none c.args.words.now place c.in-None.ensures.no_config names);
}
