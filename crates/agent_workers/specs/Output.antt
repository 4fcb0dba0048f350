-- What a run puts to its outputs.
use Rattle.std.specs.Prelude.{◌≡◌, ◌<◌, ◌⊎◌, ◌+◌, ◌-◌, ◌^◌, ℕ, min, Bool, true, false, List, ◌∷◌, ◌++◌, ⊤, map, length}
use Rattle.std.specs.Prelude.{replicate, slice_index_or}
use Rattle.std.specs.declared.option.Option.{Option}
use Rattle.std.specs.declared.option.Option.TheVariants.{Some, None}
use Rattle.agent_base.specs.Carried.{Carried}
use Rattle.format_words.specs.declared.format.OutFormat.{OutFormat}
use Rattle.format_words.specs.declared.format.OutFormat.TheVariants.{Influx}
use Rattle.agent_workers.specs.declared.output.OutJob.{OutJob}

-- known bytes grow by some of which a fact holds
abbrev pub AppendsSo : Option (List ℕ) → Option (List ℕ) → (List ℕ → Type 0) → Type 0
AppendsSo None new P = ⊤
AppendsSo (Some xs) None P = ⊥
AppendsSo (Some xs) (Some ys) P = (bytes : List ℕ) × (ys ≡ xs ++ bytes) × P bytes

-- an output of a run: its number, its format, the bytes that it holds, its count of failed puts, how many of its
-- last batches failed, and how many of those since items were routed, or the run was stopped
pub record OutPart : Type 0 where
  pub output : ℕ
  pub format : OutFormat
  pub held : Option (List ℕ)
  pub put_faults : ℕ
  pub failed : ℕ
  pub failed_since : ℕ

-- the part of an output, given what its sink tells
abbrev pub out_of : {K C : Type 0} → (K → Carried) → OutJob K C → OutPart
out_of told job = record {
  output = job.output;
  format = job.format;
  held = (told job.sink).bytes;
  put_faults = (told job.sink).faults;
  failed = job.failed;
  failed_since = job.failed_since;
}

-- the parts of the outputs, in order
abbrev pub outs_of : {K C : Type 0} → (K → Carried) → List (OutJob K C) → List OutPart
outs_of told jobs = map (out_of told) jobs

-- an output of which nothing is told
abbrev pub no_out : OutPart
no_out = record { output = 0; format = Influx; held = None; put_faults = 0; failed = 0; failed_since = 0 }

-- the part at an index
abbrev pub out_at : List OutPart → ℕ → OutPart
out_at outs output = slice_index_or outs output no_out

-- there are so many outputs, and the number of each is its index
pub record AreOutputs (count : ℕ) (outs : List OutPart) : Type 0 where
  pub count_is : length outs ≡ count
  pub numbered : (output : ℕ) → output < count → (out_at outs output).output ≡ output

-- no batch failed since the last item was routed, or the run was stopped
abbrev pub anew : OutPart → OutPart
anew out = record out { failed_since = 0 }

abbrev pub AreAnew : List OutPart → Type 0
AreAnew outs = (output : ℕ) → output < length outs → (out_at outs output).failed_since ≡ 0

-- a batch was put, or its put failed: what the sink carries then, and how many of the last batches failed,
-- which stands still at its highest number
abbrev pub after_put : Bool → Carried → OutPart → OutPart
after_put false sink out = record out { held = sink.bytes; put_faults = sink.faults; failed = 0; failed_since = 0 }
after_put true sink out = record out {
  held = sink.bytes;
  put_faults = sink.faults;
  failed = min (out.failed + 1) (2 ^ 32 - 1);
  failed_since = min (out.failed_since + 1) (2 ^ 32 - 1);
}

-- no batch failed yet
pub record IsUnfailed (out : OutPart) : Type 0 where
  pub failed : out.failed ≡ 0
  pub failed_since : out.failed_since ≡ 0

abbrev pub AreUnfailed : List OutPart → Type 0
AreUnfailed outs = (output : ℕ) → output < length outs → IsUnfailed (out_at outs output)

-- exactly so many of the last batches failed
abbrev pub IsFailedRow : ℕ → List Bool → Type 0
IsFailedRow count all = (all ≡ replicate count false)
    ⊎ ((front : List Bool) × (all ≡ front ++ true ∷ replicate count false))

-- so many of them, as far as they are counted: up to 4,294,967,295
pub record FailedLast (n : ℕ) (all : List Bool) : Type 0 where
  pub count : ℕ
  pub row : IsFailedRow count all
  pub counted : n ≡ min count 4294967295
