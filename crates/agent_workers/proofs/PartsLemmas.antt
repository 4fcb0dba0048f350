-- The parts of a run, with other jobs.
use Rattle.std.proofs.Common.{◌≡◌, ◌∙◌, List, length, refl, sym, ap}
use Rattle.account.specs.Setup.{Setup}
use Rattle.agent_base.specs.Carried.{Carried, Timed}
use Rattle.pipeline_core.specs.CoreState.{CoreState}
use Rattle.agent_workers.specs.Inputs.{ins_of}
use Rattle.agent_workers.specs.Item.{IsSameProc, ProcPart}
use Rattle.agent_workers.specs.Output.{outs_of}
use Rattle.agent_workers.specs.RunState.{state_of, IsProcFit}
use Rattle.agent_workers.specs.declared.input.InJob.{InJob}
use Rattle.agent_workers.specs.declared.output.OutJob.{OutJob}
use Rattle.agent_workers.specs.declared.parts.Parts.{Parts}

-- what a run consists of, by other lists of its jobs
pub state_by : {S K C : Type 0} (told : S → Carried) (put : K → Carried) (timed : C → Timed) (core : CoreState)
    (parts : Parts S K C) (inputs : List (InJob S C)) (outputs : List (OutJob K C)) → parts.inputs.items ≡ inputs
    → parts.outputs.items ≡ outputs →
    state_of told put timed core parts ≡ record (state_of told put timed core parts)
    { ins = ins_of told timed inputs; outs = outs_of put outputs }
state_by told put timed core parts inputs outputs a b = rw (a, b) refl

-- steps, aggregators and outputs that are the same at each of two steps
pub same_proc : (old mid new : ProcPart) → IsSameProc old mid → IsSameProc mid new → IsSameProc old new
same_proc old mid new h k = record
    { steps = k.steps ∙ h.steps; skip = k.skip ∙ h.skip; aggs = k.aggs ∙ h.aggs; outs = k.outs ∙ h.outs }

pub proc_itself : (proc : ProcPart) → IsSameProc proc proc
proc_itself proc = record { steps = refl; skip = refl; aggs = refl; outs = refl }

-- what routes the items fits the core still
pub proc_fits : (core next : CoreState) (proc new_proc : ProcPart) → IsProcFit core proc → next.setup ≡ core.setup
    → IsSameProc proc new_proc → IsProcFit next new_proc
proc_fits core next proc new_proc fit setup same = record {
  aggs = ap length same.aggs ∙ fit.aggs ∙ ap (λ (s : Setup). length s.aggs) (sym setup);
  outs = ap length same.outs ∙ fit.outs ∙ ap (λ (s : Setup). length s.outputs) (sym setup);
}
