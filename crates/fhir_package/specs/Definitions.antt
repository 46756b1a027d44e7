-- A package without where it lies in memory: for each kind of definition (FHIR R4, StructureDefinition, ValueSet,
-- CodeSystem) the trees under their urls, in the order in which they were put in.
use Rattle.std.specs.Prelude.{ℕ, List, [], Option}
use Rattle.std.specs.List.{position_from}
use Rattle.std.specs.Map.{lookup, keys_of}
use Rattle.std.specs.Str.{bytes_eq}
use Rattle.fhir_json.specs.Tree.{Text, Tree}
use Rattle.fhir_package.specs.declared.kind.Kind.{Kind}
use Rattle.fhir_package.specs.declared.kind.Kind.TheVariants.{StructureDefinition, ValueSet, CodeSystem}

-- trees under their urls, each url once
abbrev pub ByUrl : Type 0
ByUrl = List (Text × Tree)

pub record Definitions : Type 0 where
  pub structure_definitions : ByUrl
  pub value_sets : ByUrl
  pub code_systems : ByUrl

abbrev pub no_definitions : Definitions
no_definitions = record { structure_definitions = []; value_sets = []; code_systems = [] }

abbrev pub of_kind : Kind → Definitions → ByUrl
of_kind StructureDefinition p = p.structure_definitions
of_kind ValueSet p = p.value_sets
of_kind CodeSystem p = p.code_systems

abbrev pub with_kind : Kind → ByUrl → Definitions → Definitions
with_kind StructureDefinition es p = record p { structure_definitions = es }
with_kind ValueSet es p = record p { value_sets = es }
with_kind CodeSystem es p = record p { code_systems = es }

-- the tree of a kind under a url
abbrev pub at_url : Kind → Text → Definitions → Option Tree
at_url kind url p = lookup (bytes_eq url) (of_kind kind p)

-- its place among the trees of the kind
abbrev pub place_in : Kind → Text → Definitions → Option ℕ
place_in kind url p = position_from (bytes_eq url) 0 (keys_of (of_kind kind p))
