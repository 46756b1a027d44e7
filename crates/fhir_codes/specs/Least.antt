-- Sets of value sets that have each one of which all that it names is in them.
use Rattle.std.specs.Prelude.{◌≡◌, ◌++◌, Bool, false, ◌&&◌, Some, IsTrue, codes}
use Rattle.std.specs.Option.{option_map_or}
use Rattle.std.specs.List.{list_all}
use Rattle.fhir_json.specs.Tree.{Text, Tree}
use Rattle.fhir_json.specs.Fields.{field}
use Rattle.fhir_package.specs.declared.kind.Kind.TheVariants.{ValueSet}
use Rattle.fhir_package.specs.Definitions.{Definitions}
use Rattle.fhir_package.specs.Canonical.{named_by}
use Rattle.fhir_codes.specs.ValueSets.{is_compose, is_plain_include, includes, excludes, named}

-- nothing in a value set is unread by itself
abbrev pub is_plain : Definitions → Tree → Bool
is_plain p t = option_map_or is_compose (field (codes "compose") t) false && list_all (is_plain_include p) (includes t ++ excludes t)

-- the test holds of each value set that is plain and of which it holds of all that it names
abbrev pub IsClosed : Definitions → (Text → Bool) → Type 0
IsClosed p other =
    (canonical : Text) (t : Tree) → named_by ValueSet canonical p ≡ Some t
    → IsTrue (is_plain p t) → IsTrue (list_all other (named t)) → IsTrue (other canonical)
