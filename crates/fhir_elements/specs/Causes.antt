-- What is to blame for a definition that can't be used, and which reason that is a case of.
use Rattle.std.specs.Prelude.{ℕ, Bool, Option, None, Some, true, IsTrue, nat_lt, if◌then◌else◌}
use Rattle.std.specs.Option.{option_map, option_map_or}
use Rattle.fhir_elements.specs.declared.reason.Reason.{Reason}
use Rattle.fhir_elements.specs.declared.reason.Reason.TheVariants as reasons
use Rattle.fhir_elements.specs.declared.cause.Cause.{Cause}
use Rattle.fhir_elements.specs.declared.cause.Cause.TheVariants as causes
use Rattle.fhir_elements.specs.declared.cause.Blame.{Blame}

abbrev pub reason_of : Cause → Reason
reason_of causes.BlankInUrl = reasons.WrongField
reason_of causes.NoObject = reasons.WrongField
reason_of (causes.MissingField name) = reasons.WrongField
reason_of (causes.WrongField name) = reasons.WrongField
reason_of (causes.TwoForms stem) = reasons.WrongField
reason_of causes.NoType = reasons.WrongField
reason_of (causes.WrongBound stem) = reasons.WrongField
reason_of causes.UnknownPrimitive = reasons.WrongField
reason_of causes.MinOverMax = reasons.MinOverMax
reason_of (causes.RepeatedType entry) = reasons.RepeatedType
reason_of causes.MissingId = reasons.WrongId
reason_of causes.UnreadableId = reasons.WrongId
reason_of causes.RepeatedId = reasons.WrongId
reason_of (causes.MissingType entry) = reasons.UnusableType
reason_of (causes.UnusableType entry definition origin) = reasons.UnusableType
reason_of causes.MissingParent = reasons.NoTree
reason_of causes.NoRoot = reasons.NoTree
reason_of causes.SecondRoot = reasons.NoTree
reason_of (causes.RepeatedProperty child) = reasons.NoTree
reason_of causes.MissingContent = reasons.MissingContent
reason_of (causes.UnusableContent definition origin) = reasons.MissingContent
reason_of (causes.ContentOfProfile definition) = reasons.MissingContent
reason_of causes.BaseCycle = reasons.BaseCycle
reason_of causes.NoDiscriminator = reasons.UnsupportedSlicing
reason_of (causes.UntoldDiscriminator place) = reasons.UnsupportedSlicing
reason_of causes.NoSnapshot = reasons.NoSnapshot
reason_of causes.SecondType = reasons.SecondType

-- the reason that is told of a definition where something is to blame
abbrev pub blamed_reason : Option Blame → Option Reason
blamed_reason blame = option_map (λ b. reason_of b.cause) blame

-- no reason where a test holds, and else one
abbrev pub reason_unless : Bool → Reason → Option Reason
reason_unless holds reason = if holds then None else Some reason

-- the element that is to blame, if it is one, is among so many
abbrev pub is_blame_among : ℕ → Option Blame → Type 0
is_blame_among count blame = IsTrue (option_map_or (λ b. option_map_or (λ place. nat_lt place count) b.element true) blame true)
