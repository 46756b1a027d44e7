-- A counterexample refutes that what conforms to the derived profile conforms to its base.
use Rattle.std.proofs.Common.{true, false, Bool, Option, None, Some, List, refl}
use Rattle.fhir_json.specs.Tree.{Text}
use Rattle.fhir_schema.specs.Schemas.{SchemaValue}
use Rattle.fhir_conformance.specs.Conformance.{constant, IsFairEverywhere}
use Rattle.fhir_cert_check.specs.Inclusion.{Includes}
use Rattle.fhir_counter.specs.Shows.{Shows, ShowsAsGiven, ShowsBy}

-- the meanings by which each unread rule holds, or none does, are fair
abbrev pub AreFair : Type 0
AreFair = (s : SchemaValue) (b : Bool) → IsFairEverywhere s (constant b)

module _ (fair : AreFair) (s : SchemaValue) (derived base bytes : Text) where
  pub refuted : Shows s derived base bytes → Includes s derived base → ⊥
  refuted h includes = h.3 (constant false) (includes (constant false) (fair s false) h.0 (h.2.0 (constant false)))

  pub refuted_as_given : (texts : List Text) → ShowsAsGiven s texts derived base bytes → Includes s derived base → ⊥
  refuted_as_given texts h includes =
      h.3 (constant true) (includes (constant true) (fair s true) h.0 (h.2.0 (constant true) (λ u outermost place given. refl)))

  pub refuted_by : (texts : Option (List Text)) → ShowsBy texts s derived base bytes → Includes s derived base → ⊥
  refuted_by None h includes = refuted h includes
  refuted_by (Some texts) h includes = refuted_as_given texts h includes
