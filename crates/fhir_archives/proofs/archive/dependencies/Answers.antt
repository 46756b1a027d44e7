use Rattle.std.proofs.Common.{map, [], Option, sym, ap, ◌∙◌}
use Rattle.std.specs.Option.{option_map_or}
use Rattle.fhir_json.specs.Tree.{Tree, properties_of}
use Rattle.fhir_json.specs.Fields.{members_in}
use Rattle.fhir_json.specs.Views.{tree_seen}
use Rattle.fhir_archives.specs.Archives.{dependency}
use Rattle.fhir_archives.proofs.Steps.{members_seen}
use Rattle.fhir_archives.proofs.archive.dependencies.Goals as goal

pub returns-in-Some : goal.returns-in-Some
returns-in-Some c =
    members_seen c.members.result.now
    ∙ ap (λ ms. map dependency (properties_of ms)) c.members.ensures
    ∙ ap (λ (f : Option Tree). map dependency (option_map_or (λ d. properties_of (members_in d)) f [])) (ap tree_seen (sym c.in-Some.is) ∙ c.field.ensures)
