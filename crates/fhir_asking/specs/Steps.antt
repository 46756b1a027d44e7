-- What contracts see of a step.
use Rattle.std.specs.Prelude.{string_bytes}
use Rattle.fhir_asking.specs.Asking.{Answer, wants, found}
use Rattle.fhir_asking.specs.declared.questions.Step.{Step}
use Rattle.fhir_asking.specs.declared.questions.Step.TheVariants.{Found, Wants}

-- the answer that the step found, or that the name's answer is wanted
abbrev pub step_seen : {A : Type 0} → Step A → Answer A
step_seen (Found thing) = found thing
step_seen (Wants name) = wants (string_bytes name)
