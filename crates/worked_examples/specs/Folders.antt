-- Folders of small files: value sets of one url, and a code system of the same.
use Rattle.std.specs.Prelude.{List, [], ◌∷◌, ◌++◌, codes}
use Rattle.fhir_json.specs.Tree.{Text, Tree, string, object, no_members, member}
use Rattle.fhir_package.specs.Definitions.{Definitions}
use Rattle.fhir_package.specs.Folder.{Files}
use Rattle.fhir_package.specs.Packing.{json_files}
use Rattle.fhir_package.specs.ReadFiles.{given}
use Rattle.fhir_package.specs.Surveying.{FileFault, Surveyed, survey}

abbrev pub survey_of : Files → Surveyed
survey_of folder = survey (given (json_files folder))

-- what is told of the folder's files
abbrev pub faults_in : Files → List FileFault
faults_in folder = (survey_of folder).faults

-- the package of all that is right
abbrev pub right_in : Files → Definitions
right_in folder = (survey_of folder).definitions

-- ---- files

abbrev pub plain : Text
plain = codes "{\"resourceType\":\"ValueSet\",\"url\":\"urn:a\"}"

-- the same tree but for the order of its members
abbrev pub turned : Text
turned = codes "{ \"url\": \"urn:a\", \"resourceType\": \"ValueSet\" }"

abbrev pub titled : Text
titled = codes "{\"resourceType\":\"ValueSet\",\"url\":\"urn:a\",\"title\":\"A\"}"

abbrev pub named : Text
named = codes "{\"resourceType\":\"ValueSet\",\"url\":\"urn:a\",\"name\":\"A\"}"

abbrev pub code_system : Text
code_system = codes "{\"resourceType\":\"CodeSystem\",\"url\":\"urn:a\"}"

abbrev pub bundle : Text → Text → Text
bundle a b = codes "{\"resourceType\":\"Bundle\",\"entry\":[{\"resource\":" ++ a ++ codes "},{\"resource\":" ++ b ++ codes "}]}"

-- ---- packages

abbrev pub of_type : Text → Tree
of_type name = object (member (codes "resourceType") (string name) (member (codes "url") (string (codes "urn:a")) no_members))

-- that of the plain value set alone
abbrev pub with_plain : Definitions
with_plain = record { structure_definitions = []; value_sets = (codes "urn:a", of_type (codes "ValueSet")) ∷ []; code_systems = [] }

-- and of the code system
abbrev pub with_both : Definitions
with_both = record with_plain { code_systems = (codes "urn:a", of_type (codes "CodeSystem")) ∷ [] }
