-- What constraints say in words (FHIR R4, ElementDefinition, constraint.human).
use Rattle.std.specs.Prelude.{List, [], ◌∷◌, ◌++◌, map, Bool, true, false, ◌&&◌, Option, None, Some, codes, if◌then◌else◌}
use Rattle.std.specs.List.{flat_map}
use Rattle.std.specs.Option.{option_and_then, option_map_or, option_or}
use Rattle.std.specs.Str.{bytes_eq}
use Rattle.fhir_json.specs.Tree.{Text, Tree}
use Rattle.fhir_json.specs.Fields.{field, text_in, text_at, items_in}
use Rattle.fhir_package.specs.Definitions.{Definitions}
use Rattle.fhir_facets.specs.Unread.{Unread, range, target, profile, binding, expression, constraint}
use Rattle.fhir_findings.specs.Carrying.{Carried, rule, base, Carrier}

-- ---- the constraints of a package

-- the elements of a part of a definition
abbrev pub elements_in : Text → Tree → List Tree
elements_in part t = option_map_or (items_in (codes "element")) (field part t) []

-- what a constraint says: its key, its expression, and the same in words
pub record Wording : Type 0 where
  pub key : Text
  pub expression : Option Text
  pub human : Option Text

abbrev pub wording_of : Tree → Wording
wording_of t = record { key = text_at (codes "key") t; expression = text_in (codes "expression") t; human = text_in (codes "human") t }

abbrev pub wordings_in : Tree → List Wording
wordings_in element = map wording_of (items_in (codes "constraint") element)

-- those of a definition: of its snapshot, and then of its differential
abbrev pub wordings_of : Text × Tree → List Wording
wordings_of e =
    flat_map wordings_in (elements_in (codes "snapshot") e.1) ++ flat_map wordings_in (elements_in (codes "differential") e.1)

-- those of its definitions, in order
abbrev pub all_wordings : Definitions → List Wording
all_wordings p = flat_map wordings_of p.structure_definitions

-- ---- what one says

abbrev pub are_same : Option Text → Option Text → Bool
are_same None None = true
are_same None (Some y) = false
are_same (Some x) None = false
are_same (Some x) (Some y) = bytes_eq x y

-- it has this key, and this expression or none
abbrev pub is_of : Text → Option Text → Wording → Bool
is_of key written w = bytes_eq key w.key && are_same written w.expression

-- the words, if it is that one
abbrev pub said_of : Text → Option Text → Wording → Option Text
said_of key written w = if is_of key written w then w.human else None

abbrev pub first_said : (Wording → Option Text) → List Wording → Option Text
first_said said [] = None
first_said said (w ∷ ws) = option_or (said w) (first_said said ws)

-- the words of the first constraint of a package that has this key, this expression or none, and a text `human`
abbrev pub sentence_of : Definitions → Text → Option Text → Option Text
sentence_of p key written = first_said (said_of key written) (all_wordings p)

-- ---- the constraint that is carried

-- the key and the expression of an unread rule that is a constraint
abbrev pub named_by_rule : Option Text → Unread → Option (Text × Option Text)
named_by_rule key (range property value) = None
named_by_rule key (target canonical) = None
named_by_rule key (profile canonical) = None
named_by_rule key (binding canonical) = None
named_by_rule None (expression text) = None
named_by_rule (Some key) (expression text) = Some (key, Some text)
named_by_rule key (constraint own) = Some (own, None)

abbrev pub named_by : Option Text → Carried → Option (Text × Option Text)
named_by key (rule u) = named_by_rule key u
named_by key (base canonical) = None

abbrev pub constraint_named : Carrier → Option (Text × Option Text)
constraint_named c = named_by c.key c.carried

-- what it says in words; nothing where no constraint is carried
abbrev pub sentence_for : Definitions → Carrier → Option Text
sentence_for p c = option_and_then (λ n. sentence_of p n.0 n.1) (constraint_named c)
