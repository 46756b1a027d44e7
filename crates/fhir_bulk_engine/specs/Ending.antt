-- How a run ends.
use Rattle.std.specs.Prelude.{◌≡◌, Bool, true, false, IsTrue, nat_lt, if◌then◌else◌, Option, None, Some, Result, Ok, Err}
use Rattle.fhir_answers.specs.declared.reply.Status.{Status}
use Rattle.fhir_answers.specs.declared.reply.Status.TheVariants.{Yes, No, Open, Fault, Unwritten, NoMemory}
use Rattle.fhir_bulk.specs.declared.tally.Tally.{Tally}
use Rattle.fhir_engine.specs.declared.refusal.Refusal.{Refusal}
use Rattle.fhir_engine.specs.declared.refusal.Refusal.TheVariants as refusals

-- The worst of what was told: that a resource violates the profile, that memory was refused, that something is no resource or can't be read,
-- and that it is open how a resource stands.
abbrev pub tally_status : Tally → Status
tally_status t =
    if nat_lt 0 t.violates then No else
    (if nat_lt 0 t.no_memory then NoMemory else (if nat_lt 0 t.faults then Fault else (if nat_lt 0 t.opens then Open else Yes)))

-- the status where nothing could be asked, memory ran out before an input was opened, or the output failed
abbrev pub is_refused : Status → Bool
is_refused Fault = true
is_refused Unwritten = true
is_refused NoMemory = true
is_refused _ = false

-- The status is the worst of what was told; or nothing was asked, or not all.
abbrev pub Ends : Status → Option Tally → Type 0
Ends status None = IsTrue (is_refused status)
Ends status (Some tally) = status ≡ tally_status tally

-- Where nothing was asked the output is as it was: so it is unless the run was gone through, or the output failed.
abbrev pub IsUntouched : {W : Type 0} → Result Tally Refusal → W → W → Type 0
IsUntouched (Ok tally) old new = Unit {0}
IsUntouched (Err (refusals.Fault text)) old new = new ≡ old
IsUntouched (Err refusals.Unwritten) old new = Unit {0}
IsUntouched (Err refusals.NoMemory) old new = new ≡ old
