use Rattle.std.proofs.Common.{◌≡◌, ◌&&◌, drop}
use Rattle.std.specs.List.{list_all}
use Rattle.fhir_json.specs.Bytes.{is_empty}
use Rattle.fhir_schema.specs.Versions.{can_be_used}
use Rattle.fhir_certificate.specs.Flaws.{any_of_format}
use Rattle.fhir_certificate.proofs.flaw.FlawList.take_definitions.Given as goal

abbrev pub invariant-loop-definition : goal.invariant-loop-definition
invariant-loop-definition l =
    (any_of_format l.self.found.items ≡ any_of_format l.fn.self.found.items)
    × ((is_empty l.self.found.items && list_all (λ d. can_be_used l.schema d.url.now) (drop l.definition-index l.stated))
    ≡ (is_empty l.fn.self.found.items && list_all (λ d. can_be_used l.schema d.url.now) l.stated))
