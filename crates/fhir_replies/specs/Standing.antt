-- How the resource that bytes are stands with a profile.
use Rattle.std.specs.Prelude.{◌≡◌, ◌↔◌, List, true, false, Result, Ok, Err, IsTrue, IsSome}
use Rattle.std.specs.List.{AllByRecursion}
use Rattle.fhir_json.specs.Tree.{Text, Tree}
use Rattle.fhir_json.specs.Bytes.{is_empty}
use Rattle.fhir_json.specs.Grammar.{Reads}
use Rattle.fhir_schema.specs.Schemas.{SchemaValue, root}
use Rattle.fhir_facets.specs.Unread.{as_given}
use Rattle.fhir_conformance.specs.Conformance.{Interpretation, Conforms, constant, as_read}
use Rattle.fhir_validator.specs.declared.fault.Fault.{Fault}
use Rattle.fhir_validator.specs.declared.fault.Fault.TheVariants.{NoMemory}
use Rattle.fhir_validator.specs.declared.verdict.Verdict.{Verdict}
use Rattle.fhir_validator.specs.declared.verdict.Verdict.TheVariants.{Conforms as Conforming, Violates, Open}
use Rattle.fhir_validator.specs.declared.verdict.Vouched.{Vouched}
use Rattle.fhir_validator.specs.declared.verdict.Vouched.TheVariants as vouched
use Rattle.fhir_validator.specs.Needed.{ConstraintsHold, ConstraintsHoldAsGiven}
use Rattle.fhir_validator.specs.Verdicts.{AreGiven, IsHeld, Means, IsExplained, IsVouchedFor}

-- it conforms, whatever unread rules mean, and its constraints are true
abbrev pub AlwaysConforms : SchemaValue → Text → Text → Type 0
AlwaysConforms s profile bytes =
    (t : Tree) × Reads bytes t × ((meaning : Interpretation) → Conforms s meaning profile t) × ConstraintsHold s profile t

-- it doesn't, whatever they mean
abbrev pub NeverConforms : SchemaValue → Text → Text → Type 0
NeverConforms s profile bytes = (t : Tree) × Reads bytes t × ((meaning : Interpretation) → ¬ Conforms s meaning profile t)

-- a tree stands so: it conforms, with constraints that are true, or it doesn't, whatever unread rules mean; or it doesn't where no unread rule holds, and can't
-- fail to where each holds
abbrev pub StandsSo : SchemaValue → Text → Tree → Verdict → Type 0
StandsSo s profile t Conforming = ((meaning : Interpretation) → Conforms s meaning profile t) × ConstraintsHold s profile t
StandsSo s profile t (Violates issues) = (meaning : Interpretation) → ¬ Conforms s meaning profile t
StandsSo s profile t (Open sites) = (¬ Conforms s (constant false) profile t) × (¬ ¬ Conforms s (constant true) profile t)

-- The bytes are a tree that stands as the verdict says, which lists what it should, and the profile can be used; or there is nothing
-- to judge, or nothing to judge it by, as the fault says.
abbrev pub Stands : SchemaValue → Text → Text → Result Verdict Fault → Type 0
Stands s profile bytes (Ok verdict) =
    (t : Tree) × Reads bytes t × StandsSo s profile t verdict × IsExplained s profile t verdict × IsSome (root s profile)
Stands s profile bytes (Err fault) = Means s profile bytes fault × (fault ≡ NoMemory → ⊥)

-- ---- where a user vouches for unread rules by their texts

-- it conforms by each meaning by which the given rules hold, and its constraints are true, or given
abbrev pub ConformsAsGiven : SchemaValue → List Text → Text → Text → Type 0
ConformsAsGiven s texts profile bytes =
    (t : Tree) × Reads bytes t × ((meaning : Interpretation) → AreGiven texts meaning → Conforms s meaning profile t)
    × ConstraintsHoldAsGiven s texts profile t

-- A tree stands so: it conforms by each meaning by which the listed rules hold, and so by each by which the given ones do; none is listed
-- exactly where it conforms with no unread rule holding; and its constraints are true, or given. Or it doesn't, whatever unread rules
-- mean; or it doesn't where the given ones alone hold, and can't fail to where each holds.
abbrev pub StandsSoAsGiven : SchemaValue → List Text → Text → Tree → Vouched → Type 0
StandsSoAsGiven s texts profile t (vouched.Conforms relied) =
    ((meaning : Interpretation) → AllByRecursion (IsHeld meaning) relied.items → Conforms s meaning profile t)
    × ((meaning : Interpretation) → AreGiven texts meaning → Conforms s meaning profile t)
    × (IsTrue (is_empty relied.items) ↔ Conforms s (constant false) profile t)
    × ConstraintsHoldAsGiven s texts profile t
StandsSoAsGiven s texts profile t (vouched.Violates issues) = (meaning : Interpretation) → ¬ Conforms s meaning profile t
StandsSoAsGiven s texts profile t (vouched.Open sites) =
    (¬ Conforms s (as_read texts as_given) profile t) × (¬ ¬ Conforms s (constant true) profile t)

-- the same of bytes
abbrev pub StandsAsGiven : SchemaValue → List Text → Text → Text → Result Vouched Fault → Type 0
StandsAsGiven s texts profile bytes (Ok verdict) =
    (t : Tree) × Reads bytes t × StandsSoAsGiven s texts profile t verdict × IsVouchedFor s texts profile t verdict × IsSome (root s profile)
StandsAsGiven s texts profile bytes (Err fault) = Means s profile bytes fault × (fault ≡ NoMemory → ⊥)
