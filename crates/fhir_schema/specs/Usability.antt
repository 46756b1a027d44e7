-- What it is that a definition can't be used.
use Rattle.std.specs.Prelude.{◌≡◌, ℕ, List, None, Some, is_some, IsTrue}
use Rattle.std.specs.List.{slice_get}
use Rattle.fhir_elements.specs.declared.reason.Reason.{Reason}
use Rattle.fhir_elements.specs.Tests.{first_of, all_hold}
use Rattle.fhir_definition.specs.Definition.{Definition}
use Rattle.fhir_schema.specs.Settling.{Reasons, reason_at, tests, no_reasons, rounds}

-- each definition that can't be used has the reason of the first test that it fails by what some number of rounds have found,
-- among which it isn't
abbrev pub AllApply : List Definition → Reasons → Type 0
AllApply ds reasons =
    (d : Definition) (reason : Reason) → slice_get ds d.place ≡ Some d → reason_at reasons d.place ≡ Some reason
    → (n : ℕ) × (reason_at (rounds ds n (no_reasons ds)) d.place ≡ None) × (first_of (tests ds (rounds ds n (no_reasons ds)) d) ≡ Some reason)

-- a definition that can be used fails no test
abbrev pub IsClosed : List Definition → Reasons → Type 0
IsClosed ds reasons =
    (d : Definition) → slice_get ds d.place ≡ Some d → reason_at reasons d.place ≡ None → IsTrue (all_hold (tests ds reasons d))

-- what the first says can't be used, the second says too
abbrev pub IsWithin : Reasons → Reasons → Type 0
IsWithin reasons other = (place : ℕ) → IsTrue (is_some (reason_at reasons place)) → IsTrue (is_some (reason_at other place))
