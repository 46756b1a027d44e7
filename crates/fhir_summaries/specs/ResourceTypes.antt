-- Which definitions are of types of resources.
use Rattle.std.specs.Prelude.{List, map, Bool}
use Rattle.fhir_definition.specs.Definition.{Definition}
use Rattle.fhir_nodes.specs.Types.{names_resource}

-- of each definition, whether the type that it defines or constrains is of resources
abbrev pub of_resources : List Definition → List Bool
of_resources ds = map (λ d. names_resource ds d.type) ds
