-- The lines on what elements ask for that can never hold.
use Rattle.std.specs.Prelude.{ℕ, suc, List, [], ◌∷◌, ◌++◌, map, get_or, None, Some, if◌then◌else◌}
use Rattle.std.specs.Map.{keys_of}
use Rattle.fhir_json.specs.Tree.{Text}
use Rattle.fhir_package.specs.Surveying.{Surveyed}
use Rattle.fhir_package.specs.declared.kind.Kind.TheVariants.{StructureDefinition}
use Rattle.fhir_nodes.specs.declared.node.NodeRef.{NodeRef}
use Rattle.fhir_schema.specs.Schemas.{SchemaValue, url_at, id_of_node}
use Rattle.fhir_contradictions.specs.declared.contradiction.Contradiction.{Contradiction}
use Rattle.fhir_contradictions.specs.Listing.{contradictions}
use Rattle.fhir_contradictions.specs.Texts.{text_of}
use Rattle.fhir_findings.specs.Selecting.{SelectionValue, is_selected}
use Rattle.fhir_lines.specs.Lines.{LineValue, file_line}

-- that of an element, whose definition stands in the file
abbrev pub contradiction_line : SchemaValue → Text → NodeRef × Contradiction → LineValue
contradiction_line s file c =
    record (file_line file None (text_of c.1)) { url = Some (url_at s c.0.definition); id = Some (id_of_node s c.0) }

module _ (selection : SelectionValue) (s : SchemaValue) (survey : Surveyed) where
  -- those of the definition of a url at a place, if it is reported on
  abbrev pub lines_at : ℕ → Text → List LineValue
  lines_at place url =
      if is_selected selection survey.definitions StructureDefinition url
      then map (contradiction_line s (get_or survey.sources.structure_definitions place [])) (contradictions s place) else []

  -- those of urls of which the first has that place
  abbrev pub lines_from : ℕ → List Text → List LineValue
  lines_from place [] = []
  lines_from place (url ∷ urls) = lines_at place url ++ lines_from (suc place) urls

  abbrev pub contradiction_lines : List LineValue
  contradiction_lines = lines_from 0 (keys_of survey.definitions.structure_definitions)
