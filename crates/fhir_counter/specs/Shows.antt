-- What a counterexample shows: that a profile doesn't narrow another.
use Rattle.std.specs.Prelude.{ℕ, List, Bool, Option, None, Some, nat_le}
use Rattle.std.specs.List.{list_all}
use Rattle.fhir_json.specs.Bytes.{space}
use Rattle.fhir_json.specs.Tree.{Text, Tree}
use Rattle.fhir_json.specs.Grammar.{Reads}
use Rattle.fhir_schema.specs.Schemas.{SchemaValue}
use Rattle.fhir_conformance.specs.Conformance.{Interpretation, Conforms}
use Rattle.fhir_validator.specs.Verdicts.{AreGiven}
use Rattle.fhir_validator.specs.Needed.{ConstraintsHold, ConstraintsHoldAsGiven}

-- a resource conforms, whatever unread rules mean, and its constraints are true
abbrev pub AlwaysConforms : SchemaValue → Text → Tree → Type 0
AlwaysConforms s profile t = ((meaning : Interpretation) → Conforms s meaning profile t) × ConstraintsHold s profile t

-- it conforms by each meaning by which the given rules hold, and its constraints are true, or given
abbrev pub ConformsAsGiven : SchemaValue → List Text → Text → Tree → Type 0
ConformsAsGiven s texts profile t =
    ((meaning : Interpretation) → AreGiven texts meaning → Conforms s meaning profile t) × ConstraintsHoldAsGiven s texts profile t

-- it doesn't conform, whatever unread rules mean
abbrev pub NeverConforms : SchemaValue → Text → Tree → Type 0
NeverConforms s profile t = (meaning : Interpretation) → ¬ Conforms s meaning profile t

-- the bytes are a resource that conforms to the derived profile and not to the base
abbrev pub Shows : SchemaValue → Text → Text → Text → Type 0
Shows s derived base bytes = (t : Tree) × Reads bytes t × AlwaysConforms s derived t × NeverConforms s base t

-- the same where a user vouches for unread rules by their texts
abbrev pub ShowsAsGiven : SchemaValue → List Text → Text → Text → Text → Type 0
ShowsAsGiven s texts derived base bytes = (t : Tree) × Reads bytes t × ConformsAsGiven s texts derived t × NeverConforms s base t

-- the same, where a user may vouch for unread rules
abbrev pub ShowsBy : Option (List Text) → SchemaValue → Text → Text → Text → Type 0
ShowsBy None s derived base bytes = Shows s derived base bytes
ShowsBy (Some texts) s derived base bytes = ShowsAsGiven s texts derived base bytes

-- a byte of no character below U+0020, which JSON has escaped in its texts (RFC 8259, 7)
abbrev pub is_text_byte : ℕ → Bool
is_text_byte b = nat_le space b

-- a text stands on one line
abbrev pub is_on_line : Text → Bool
is_on_line text = list_all is_text_byte text
