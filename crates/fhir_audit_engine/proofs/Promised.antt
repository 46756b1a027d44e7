-- What status 0 of an audit promises.
use Rattle.std.proofs.Common.{◌≡◌, List, Option, IsTrue, subst}
use Rattle.fhir_json.specs.Tree.{Text}
use Rattle.fhir_package.specs.Surveying.{Surveyed}
use Rattle.fhir_schema.specs.Schemas.{SchemaValue}
use Rattle.fhir_audit.specs.Auditing.{AuditedValue, IsAudit, are_narrowing, AllNarrow}

-- by the schema and the survey that the audit was given
pub narrowing : (prefixes : List Text) (given : Option (List Text)) (s s' : SchemaValue) (v v' : Surveyed) (told : List AuditedValue) → s' ≡ s → v' ≡ v
    → (IsAudit prefixes given s' v' told → IsTrue (are_narrowing told) → AllNarrow prefixes s' v'.definitions)
    → IsAudit prefixes given s' v' told → IsTrue (are_narrowing told) → AllNarrow prefixes s v.definitions
narrowing prefixes given s s' v v' told same_schema same_survey law audit all =
    subst (λ (x : SchemaValue). AllNarrow prefixes x v.definitions) same_schema
    (subst (λ (x : Surveyed). AllNarrow prefixes s' x.definitions) same_survey (law audit all))
