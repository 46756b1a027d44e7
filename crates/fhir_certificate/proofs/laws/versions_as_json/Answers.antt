use Rattle.fhir_certificate.proofs.VersionTexts.{IsJson, version_means}
use Rattle.fhir_certificate.proofs.laws.versions_as_json.Goals as goal

pub returns : goal.returns
returns c =
    let json : IsJson = record { sound = c.sound_trees.ensures; agrees = c.reading_agrees.ensures } in
    λ text. version_means json text
