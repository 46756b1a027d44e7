-- Small definitions that commands put in and take out.
use Rattle.std.specs.Prelude.{List, [], ◌∷◌, codes}
use Rattle.fhir_json.specs.Tree.{Text, Tree, string, number, object, members_of, Property}
use Rattle.fhir_package.specs.Definitions.{Definitions}

abbrev pub fields : List Property → Tree
fields ps = object (members_of ps)

abbrev pub of_type : Text → Text → Text → Tree
of_type kind url name = fields ((codes "resourceType", string kind) ∷ (codes "url", string url) ∷ (codes "name", string name) ∷ [])

abbrev pub set : Text → Text → Tree
set url name = of_type (codes "ValueSet") url name

abbrev pub system : Text → Text → Tree
system url name = of_type (codes "CodeSystem") url name

-- no definition: without a url, of another type, and not sound
abbrev pub nameless : Tree
nameless = fields ((codes "resourceType", string (codes "ValueSet")) ∷ [])

abbrev pub patient : Tree
patient = of_type (codes "Patient") (codes "u") (codes "p")

abbrev pub unsound : Tree
unsound = fields ((codes "resourceType", string (codes "ValueSet")) ∷ (codes "url", string (codes "u")) ∷ (codes "version", number (codes "1.")) ∷ [])

-- two value sets, and a code system of the first one's url
abbrev pub held : Definitions
held = record {
  structure_definitions = [];
  value_sets = (codes "u", set (codes "u") (codes "old")) ∷ (codes "v", set (codes "v") (codes "old")) ∷ [];
  code_systems = (codes "u", system (codes "u") (codes "old")) ∷ [];
}
