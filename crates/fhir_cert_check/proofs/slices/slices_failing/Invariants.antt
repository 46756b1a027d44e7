use Rattle.std.proofs.Common.{◌≡◌, drop}
use Rattle.std.specs.List.{flat_map}
use Rattle.fhir_elements.specs.Tests.{first_of}
use Rattle.fhir_schema.specs.Schemas.{slices}
use Rattle.fhir_cert_check.specs.PairSet.{has_pair}
use Rattle.fhir_cert_check.specs.Rules.{slice_rules}
use Rattle.fhir_cert_check.proofs.slices.slices_failing.Given as goal

abbrev pub invariant-loop-base : goal.invariant-loop-base
invariant-loop-base l =
    first_of (flat_map (slice_rules (has_pair l.pairs) l.schema l.name l.n l.m) (drop l.base-index l.base-items))
    ≡ first_of (flat_map (slice_rules (has_pair l.pairs) l.schema l.name l.n l.m) (slices l.schema l.m))
