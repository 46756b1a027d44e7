-- Chains of bases, by any number of steps (FHIR R4, StructureDefinition, baseDefinition).
use Rattle.std.specs.Prelude.{◌≡◌, ℕ, List, Option, None, Some}
use Rattle.fhir_json.specs.Tree.{Text}
use Rattle.fhir_definition.specs.Definition.{Definition}
use Rattle.fhir_nodes.specs.Types.{type_place}
use Rattle.fhir_schema.specs.Chains.{base_after}

-- some number of steps leads to no base
abbrev pub Ends : List Definition → Option ℕ → Type 0
Ends ds place = (n : ℕ) × (base_after ds n place ≡ None)

-- some number of steps leads from a definition to another
abbrev pub Reaches : List Definition → ℕ → ℕ → Type 0
Reaches ds start goal = (n : ℕ) × (base_after ds n (Some start) ≡ Some goal)

-- the same of the definitions of two types, in a chain that ends
pub record Leads (ds : List Definition) (from code : Text) : Type 0 where
  pub start : ℕ
  pub goal : ℕ
  pub of_from : type_place ds from ≡ Some start
  pub of_code : type_place ds code ≡ Some goal
  pub ends : Ends ds (Some start)
  pub reaches : Reaches ds start goal
