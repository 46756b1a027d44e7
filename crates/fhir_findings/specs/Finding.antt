-- What is found in a package: what is wrong with its files, and its definitions that can't be used.
use Rattle.std.specs.Prelude.{ℕ, suc, List, [], ◌∷◌, ◌++◌, filter, get_or, Bool, true, false, ◌||◌}
use Rattle.std.specs.Option.{option_map_or}
use Rattle.std.specs.List.{flat_map}
use Rattle.std.specs.Map.{keys_of}
use Rattle.fhir_json.specs.Tree.{Text}
use Rattle.fhir_elements.specs.declared.reason.Reason.{Reason}
use Rattle.fhir_package.specs.declared.kind.Kind.TheVariants.{StructureDefinition}
use Rattle.fhir_package.specs.Surveying.{FileFault, unreadable, not_json, clash, Surveyed}
use Rattle.fhir_package.specs.SurveyView.{fault_seen}
use Rattle.fhir_schema.specs.Schemas.{SchemaValue, unusable}
use Rattle.fhir_findings.specs.Selecting.{SelectionValue, is_selected}
use Rattle.fhir_findings.specs.declared.finding.Finding.{Finding}
use Rattle.fhir_findings.specs.declared.finding.Finding.TheVariants.{File, Unusable as UnusableOne}

-- of a definition that can't be used its file, its url and the reason
abbrev pub UnusableValue : Type 0
UnusableValue = Text × Text × Reason

-- the definition of that file at a url, if it can't be used
abbrev pub unusable_at : SchemaValue → Text → Text → List UnusableValue
unusable_at s file url = option_map_or (λ reason. (file, url, reason) ∷ []) (unusable s url) []

-- those at urls of which the first has that place, where these are the files of all
abbrev pub unusable_from : SchemaValue → List Text → ℕ → List Text → List UnusableValue
unusable_from s files place [] = []
unusable_from s files place (url ∷ urls) = unusable_at s (get_or files place []) url ++ unusable_from s files (suc place) urls

-- all definitions of a package that can't be used, in its order
abbrev pub all_unusable : SchemaValue → Surveyed → List UnusableValue
all_unusable s survey = unusable_from s survey.sources.structure_definitions 0 (keys_of survey.definitions.structure_definitions)

-- those of them that are reported on
abbrev pub selected_unusable : SelectionValue → SchemaValue → Surveyed → List UnusableValue
selected_unusable selection s survey = filter (λ u. is_selected selection survey.definitions StructureDefinition u.1) (all_unusable s survey)

-- ---- files

abbrev pub fault_file : FileFault → Text
fault_file (unreadable file) = file
fault_file (not_json file expected position) = file
fault_file (clash kind url file first) = file

-- the file that something is found in
abbrev pub file_of : Finding → Text
file_of (File fault) = fault_file (fault_seen fault.now)
file_of (UnusableOne u) = u.file.now

-- ---- what findings tell

abbrev pub fault_told : Finding → List FileFault
fault_told (File fault) = fault_seen fault.now ∷ []
fault_told (UnusableOne u) = []

abbrev pub faults_told : List Finding → List FileFault
faults_told fs = flat_map fault_told fs

abbrev pub unusable_told : Finding → List UnusableValue
unusable_told (File fault) = []
unusable_told (UnusableOne u) = (u.file.now, u.url.now, u.reason) ∷ []

abbrev pub all_told : List Finding → List UnusableValue
all_told fs = flat_map unusable_told fs

abbrev pub is_filled : {A : Type 0} → List A → Bool
is_filled [] = false
is_filled (x ∷ xs) = true

-- something is wrong with a file, or a definition can't be used
abbrev pub has_faults : List Finding → Bool
has_faults fs = is_filled (faults_told fs) || is_filled (all_told fs)
