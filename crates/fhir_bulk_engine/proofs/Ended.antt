-- How a run has ended.
use Rattle.std.proofs.Common.{◌≡◌, ◌⊎◌, Err, IsTrue, refl, inl, inr}
use Rattle.fhir_answers.specs.declared.reply.Status.TheVariants.{Unwritten}
use Rattle.fhir_engine.specs.declared.refusal.Refusal.{Refusal}
use Rattle.fhir_engine.specs.declared.refusal.Refusal.TheVariants as refusals
use Rattle.fhir_engine.specs.Refusing.{refusal_status}
use Rattle.fhir_bulk_engine.specs.Ending.{is_refused, IsUntouched}

pub refused : (refusal : Refusal) → IsTrue (is_refused (refusal_status refusal))
refused (refusals.Fault text) = refl
refused refusals.Unwritten = refl
refused refusals.NoMemory = refl

pub quiet : {W : Type 0} (refusal : Refusal) (old new : W) → IsUntouched (Err refusal) old new
    → (refusal_status refusal ≡ Unwritten) ⊎ (new ≡ old)
quiet (refusals.Fault text) old new so = inr so
quiet refusals.Unwritten old new so = inl refl
quiet refusals.NoMemory old new so = inr so
