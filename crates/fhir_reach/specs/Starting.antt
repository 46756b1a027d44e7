-- The keys with which the validation of a resource begins: the profile, and the types of which something may stand in the resource.
use Rattle.std.specs.Prelude.{List, [], ◌∷◌, ◌++◌, if◌then◌else◌, codes}
use Rattle.std.specs.Option.{option_map_or}
use Rattle.std.specs.Str.{bytes_eq}
use Rattle.fhir_json.specs.Tree.{Text, Tree, null, boolean, number, string, array, object, Items, no_items, item, Members, no_members, member}
use Rattle.fhir_json.specs.Fields.{as_text}
use Rattle.fhir_names.specs.Targets.{relative_target}
use Rattle.fhir_reach.specs.Keys.{KeyValue, of_url, of_code, with_keys}

-- the type that a relative reference names
abbrev pub target_keys : Text → List KeyValue
target_keys text = option_map_or (λ target. of_code target.0 ∷ []) (relative_target text) []

-- the type that a `resourceType` names
abbrev pub resource_keys : Text → Tree → List KeyValue
resource_keys name t = if bytes_eq name (codes "resourceType") then option_map_or (λ code. of_code code ∷ []) (as_text t) [] else []

abbrev mutual
  -- the types that are named anywhere in a tree
  pub tree_keys : Tree → List KeyValue
  tree_keys null = []
  tree_keys (boolean b) = []
  tree_keys (number n) = []
  tree_keys (string s) = target_keys s
  tree_keys (array ts) = items_keys ts
  tree_keys (object ms) = members_keys ms

  pub items_keys : Items → List KeyValue
  items_keys no_items = []
  items_keys (item t ts) = tree_keys t ++ items_keys ts

  pub members_keys : Members → List KeyValue
  members_keys no_members = []
  members_keys (member name t ms) = resource_keys name t ++ (tree_keys t ++ members_keys ms)

-- the profile and those types, each once
abbrev pub starts_of : Text → Tree → List KeyValue
starts_of profile t = with_keys (of_url profile ∷ []) (tree_keys t)
