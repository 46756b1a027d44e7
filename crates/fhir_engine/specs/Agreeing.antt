-- What a verdict on a resource is, as far as it says that the resource conforms.
use Rattle.std.specs.Prelude.{false, IsTrue, ◌↔◌}
use Rattle.fhir_json.specs.Tree.{Text, Tree}
use Rattle.fhir_schema.specs.Schemas.{SchemaValue}
use Rattle.fhir_conformance.specs.Conformance.{constant, Conforms}
use Rattle.fhir_validator.specs.declared.verdict.Verdict.{Verdict}
use Rattle.fhir_validator.specs.Verdicts.{is_conforming}

-- it says that the resource conforms exactly where it does though each unread rule fails
abbrev pub IsVerdict : SchemaValue → Text → Tree → Verdict → Type 0
IsVerdict s profile t verdict = IsTrue (is_conforming verdict) ↔ Conforms s (constant false) profile t
