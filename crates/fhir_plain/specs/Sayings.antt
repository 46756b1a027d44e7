-- What the constraints of a package say in words (FHIR R4, ElementDefinition, constraint.human).
use Rattle.std.specs.Prelude.{List, [], ◌∷◌, ◌++◌, Bool, true, false, ◌&&◌, Option, None, Some, codes, if◌then◌else◌}
use Rattle.std.specs.List.{flat_map}
use Rattle.std.specs.Option.{option_map_or, option_or}
use Rattle.std.specs.Str.{bytes_eq}
use Rattle.fhir_json.specs.Tree.{Text, Tree}
use Rattle.fhir_json.specs.Fields.{field, text_in, text_at, items_in}
use Rattle.fhir_package.specs.Definitions.{Definitions}

-- ---- the constraints of a package

-- the elements of a part of a definition
abbrev pub elements_in : Text → Tree → List Tree
elements_in part t = option_map_or (items_in (codes "element")) (field part t) []

-- the constraints of an element
abbrev pub constraints_of : Tree → List Tree
constraints_of element = items_in (codes "constraint") element

-- those of a definition: in its snapshot, and then in its differential
abbrev pub constraints_in : Tree → List Tree
constraints_in t = flat_map constraints_of (elements_in (codes "snapshot") t) ++ flat_map constraints_of (elements_in (codes "differential") t)

-- those of its definitions, in order
abbrev pub all_constraints : Definitions → List Tree
all_constraints p = flat_map (λ e. constraints_in e.1) p.structure_definitions

-- ---- what one says

abbrev pub are_same : Option Text → Option Text → Bool
are_same None None = true
are_same None (Some y) = false
are_same (Some x) None = false
are_same (Some x) (Some y) = bytes_eq x y

-- a constraint has this key, and this expression or none
abbrev pub is_of : Text → Option Text → Tree → Bool
is_of key expression t = bytes_eq key (text_at (codes "key") t) && are_same expression (text_in (codes "expression") t)

-- its words, if it is that one
abbrev pub said_by : Text → Option Text → Tree → Option Text
said_by key expression t = if is_of key expression t then text_in (codes "human") t else None

-- those of the first that has words
abbrev pub first_said : Text → Option Text → List Tree → Option Text
first_said key expression [] = None
first_said key expression (t ∷ ts) = option_or (said_by key expression t) (first_said key expression ts)

-- what the first constraint of a package says that has this key, this expression or none, and a text `human`
abbrev pub saying_of : Definitions → Text → Option Text → Option Text
saying_of p key expression = first_said key expression (all_constraints p)
