-- Heads of definitions by their derivation.
use Rattle.std.specs.Prelude.{Bool, Option, None, Some, codes}
use Rattle.fhir_json.specs.Tree.{Tree, string, object, Members, no_members, member}
use Rattle.fhir_definition.specs.Head.{has_right_derivation, is_type_definition}

abbrev pub derived_by : Option Tree → Members
derived_by None = no_members
derived_by (Some t) = member (codes "derivation") t no_members

abbrev pub head_of : Option Tree → Tree
head_of derivation = object (member (codes "kind") (string (codes "resource")) (derived_by derivation))

abbrev pub is_type_by : Option Tree → Bool
is_type_by derivation = is_type_definition (head_of derivation)

abbrev pub is_right_by : Option Tree → Bool
is_right_by derivation = has_right_derivation (head_of derivation)
