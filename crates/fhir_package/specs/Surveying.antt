-- What is wrong with the files of a folder, in their order, and the package of all that is right: the reading goes on behind each
-- fault. Of two different definitions of one kind and url the first is kept.
use Rattle.std.specs.Prelude.{ℕ, ◌-◌, List, [], ◌∷◌, ◌++◌, length, find, slice_get, Bool, true, false, Option, None, Some, Result, Ok, Err, if◌then◌else◌, get_or}
use Rattle.std.specs.Option.{option_map, option_or}
use Rattle.fhir_json.specs.Tree.{Text, Tree}
use Rattle.fhir_json.specs.declared.position.Position.{Position}
use Rattle.fhir_json.specs.declared.refusal.Expected.{Expected}
use Rattle.fhir_json.specs.declared.refusal.Refusal.{Refusal as JsonRefusal}
use Rattle.fhir_json.specs.Position.{position_at}
use Rattle.fhir_json.specs.Reading.{placed_reading}
use Rattle.fhir_matching.specs.Equality.{equal}
use Rattle.fhir_package.specs.declared.kind.Kind.{Kind}
use Rattle.fhir_package.specs.declared.kind.Kind.TheVariants.{StructureDefinition, ValueSet, CodeSystem}
use Rattle.fhir_package.specs.Definitions.{Definitions, no_definitions, at_url, place_in}
use Rattle.fhir_package.specs.ReadFiles.{ReadFiles}
use Rattle.fhir_package.specs.Packing.{Refusal, not_json as not_text, clash as two_of, Definition, definitions_in, with_definition}

-- what is wrong with a file
pub data FileFault : Type 0 where
  -- the device didn't give the file of that name
  unreadable : Text → FileFault
  -- the file of that name is no text of JSON: what was expected, and where
  not_json : Text → Expected → Position → FileFault
  -- of that kind and url are two different definitions, in the file of the first name and, before it, in that of the second
  clash : Kind → Text → Text → Text → FileFault

-- of each kind the file of each definition, in the order of the definitions
pub record Sources : Type 0 where
  pub structure_definitions : List Text
  pub value_sets : List Text
  pub code_systems : List Text

abbrev pub no_sources : Sources
no_sources = record { structure_definitions = []; value_sets = []; code_systems = [] }

abbrev pub sources_of : Kind → Sources → List Text
sources_of StructureDefinition s = s.structure_definitions
sources_of ValueSet s = s.value_sets
sources_of CodeSystem s = s.code_systems

abbrev pub with_sources : Kind → List Text → Sources → Sources
with_sources StructureDefinition files s = record s { structure_definitions = files }
with_sources ValueSet files s = record s { value_sets = files }
with_sources CodeSystem files s = record s { code_systems = files }

pub record Surveyed : Type 0 where
  pub definitions : Definitions
  pub sources : Sources
  pub faults : List FileFault

abbrev pub nothing_surveyed : Surveyed
nothing_surveyed = record { definitions = no_definitions; sources = no_sources; faults = [] }

abbrev pub file_at : List Text → Option ℕ → Text
file_at files None = []
file_at files (Some place) = get_or files place []

-- the file of the definition of a kind at a url
abbrev pub source_of : Kind → Text → Surveyed → Text
source_of kind url s = file_at (sources_of kind s.sources) (place_in kind url s.definitions)

abbrev pub with_fault : FileFault → Surveyed → Surveyed
with_fault fault s = record s { faults = s.faults ++ fault ∷ [] }

-- a definition that is new, in a file
abbrev pub with_new : Text → Definition → Surveyed → Surveyed
with_new file d s =
    record s { definitions = with_definition d s.definitions; sources = with_sources d.kind (sources_of d.kind s.sources ++ file ∷ []) s.sources }

-- a definition of a file, where this one is at its kind and url
abbrev pub compared : Option Tree → Text → Definition → Surveyed → Surveyed
compared None file d s = with_new file d s
compared (Some t) file d s = if equal t d.tree then s else with_fault (clash d.kind d.url file (source_of d.kind d.url s)) s

abbrev pub put : Text → Definition → Surveyed → Surveyed
put file d s = compared (at_url d.kind d.url s.definitions) file d s

abbrev pub put_each : Text → List Definition → Surveyed → Surveyed
put_each file [] s = s
put_each file (d ∷ ds) s = put_each file ds (put file d s)

-- the place in the bytes of a file where they are refused
abbrev pub position_in : Text → JsonRefusal → Position
position_in bytes refusal = position_at bytes (length bytes - refusal.left)

-- the definitions of a file with these bytes, or why it has none
abbrev pub survey_tree : Text → Text → Result Tree JsonRefusal → Surveyed → Surveyed
survey_tree file bytes (Ok t) s = put_each file (definitions_in t) s
survey_tree file bytes (Err refusal) s = with_fault (not_json file refusal.expected (position_in bytes refusal)) s

-- the definitions of a file, or why it has none
abbrev pub survey_file : Text → Option Text → Surveyed → Surveyed
survey_file file None s = with_fault (unreadable file) s
survey_file file (Some bytes) s = survey_tree file bytes (placed_reading bytes) s

abbrev pub survey_each : ReadFiles → Surveyed → Surveyed
survey_each [] s = s
survey_each (f ∷ fs) s = survey_each fs (survey_file f.0 f.1 s)

abbrev pub survey : ReadFiles → Surveyed
survey files = survey_each files nothing_surveyed

-- ---- what a survey says of the package

abbrev pub is_unreadable : FileFault → Bool
is_unreadable (unreadable file) = true
is_unreadable (not_json file expected position) = false
is_unreadable (clash kind url file first) = false

-- the first fault by which files are no package: of the device, or else the first of all
abbrev pub refusal : Surveyed → Option FileFault
refusal s = option_or (find is_unreadable s.faults) (slice_get s.faults 0)

-- why files are no package, by a fault of theirs; one of the device doesn't say it
abbrev pub refusal_of : FileFault → Option Refusal
refusal_of (unreadable file) = None
refusal_of (not_json file expected position) = Some (not_text file)
refusal_of (clash kind url file first) = Some (two_of url)

-- The package of files of which nothing is wrong, or else why they are none; neither where the device didn't give each.
abbrev pub told_by : Option FileFault → Definitions → Option (Result Definitions Refusal)
told_by None p = Some (Ok p)
told_by (Some fault) p = option_map Err (refusal_of fault)

abbrev pub packed_by : Surveyed → Option (Result Definitions Refusal)
packed_by s = told_by (refusal s) s.definitions
