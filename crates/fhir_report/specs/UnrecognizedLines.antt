-- The lines on members of definitions that R4 doesn't have.
use Rattle.std.specs.Prelude.{ℕ, suc, List, [], ◌∷◌, ◌++◌, map, get_or, None, Some, if◌then◌else◌, codes}
use Rattle.fhir_json.specs.Tree.{Text, Tree}
use Rattle.fhir_package.specs.declared.kind.Kind.{Kind}
use Rattle.fhir_package.specs.declared.kind.Kind.TheVariants.{StructureDefinition, ValueSet, CodeSystem}
use Rattle.fhir_package.specs.Definitions.{of_kind}
use Rattle.fhir_package.specs.Surveying.{Surveyed, sources_of}
use Rattle.fhir_findings.specs.Selecting.{SelectionValue, is_selected}
use Rattle.fhir_unrecognized.specs.Objects.{object_text}
use Rattle.fhir_unrecognized.specs.Unrecognized.{UnrecognizedMember, unrecognized_in}
use Rattle.fhir_lines.specs.Lines.{LineValue, file_line}

abbrev pub unrecognized_text : UnrecognizedMember → Text
unrecognized_text u = codes "`" ++ u.name ++ codes "` is no member of " ++ object_text u.object ++ codes " in R4, and isn't read"

-- that of a member of the definition of a url, which stands in the file
abbrev pub unrecognized_line : Text → Text → UnrecognizedMember → LineValue
unrecognized_line file url u = record (file_line file None (unrecognized_text u)) { url = Some url; id = u.id }

module _ (selection : SelectionValue) (survey : Surveyed) where
  -- those of the definition of a kind at a place, if it is reported on
  abbrev pub lines_at : Kind → ℕ → Text × Tree → List LineValue
  lines_at kind place d =
      if is_selected selection survey.definitions kind d.0
      then map (unrecognized_line (get_or (sources_of kind survey.sources) place []) d.0) (unrecognized_in d.1) else []

  -- those of definitions of which the first has that place
  abbrev pub lines_from : Kind → ℕ → List (Text × Tree) → List LineValue
  lines_from kind place [] = []
  lines_from kind place (d ∷ ds) = lines_at kind place d ++ lines_from kind (suc place) ds

  abbrev pub lines_of_kind : Kind → List LineValue
  lines_of_kind kind = lines_from kind 0 (of_kind kind survey.definitions)

  abbrev pub unrecognized_lines : List LineValue
  unrecognized_lines = lines_of_kind StructureDefinition ++ lines_of_kind ValueSet ++ lines_of_kind CodeSystem
