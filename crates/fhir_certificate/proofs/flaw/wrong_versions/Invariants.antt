use Rattle.std.proofs.Common.{◌≡◌, ◌&&◌, true, map, drop}
use Rattle.std.specs.List.{list_all}
use Rattle.fhir_json.specs.Bytes.{is_empty}
use Rattle.fhir_certificate.specs.Judging.{has_version}
use Rattle.fhir_certificate.specs.Flaws.{are_of_versions}
use Rattle.fhir_certificate.specs.Views.{stated_seen}
use Rattle.fhir_certificate.proofs.flaw.wrong_versions.Given as goal

abbrev pub invariant-loop-definition : goal.invariant-loop-definition
invariant-loop-definition l =
    (are_of_versions l.flaws.items ≡ true)
    × ((is_empty l.flaws.items && list_all (has_version l.schema) (map stated_seen (drop l.definition-index l.stated)))
    ≡ list_all (has_version l.schema) (map stated_seen l.stated))
