use Rattle.std.proofs.Common.{◌≡◌, [], ◌∷◌, drop, map}
use Rattle.std.specs.List.{flat_map}
use Rattle.fhir_elements.specs.Tests.{first_of}
use Rattle.fhir_schema.specs.Schemas.{slices}
use Rattle.fhir_cert_check.specs.Rules.{empty_slice_rule}
use Rattle.fhir_cert_check.proofs.slices.empty_slices_failing.Given as goal

abbrev pub invariant-loop-base : goal.invariant-loop-base
invariant-loop-base l =
    first_of (flat_map (λ b. empty_slice_rule l.schema l.name l.m b ∷ []) (drop l.base-index l.base-items))
    ≡ first_of (map (empty_slice_rule l.schema l.name l.m) (slices l.schema l.m))
