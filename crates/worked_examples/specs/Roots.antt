-- Pairs of nodes of small packages.
use Rattle.std.specs.Prelude.{ℕ, [], ◌∷◌, Bool, true, false, Option, codes}
use Rattle.fhir_json.specs.Tree.{Text, Tree, number, string, Items, no_items, Members, no_members, member}
use Rattle.fhir_json.specs.Tree.{item as one_more}
use Rattle.fhir_nodes.specs.declared.node.NodeRef.{NodeRef}
use Rattle.fhir_schema.specs.Schemas.{SchemaValue}
use Rattle.fhir_instance.specs.TypingExample.{element, definition, with_snapshot}
use Rattle.fhir_certificate.specs.declared.pair.Pair.{Pair}
use Rattle.fhir_cert_check.specs.Rule.{RuleName}
use Rattle.fhir_cert_check.specs.Rules.{roots_answer, failing_rule}
use Rattle.fhir_cert_check.specs.Asked.{item_pair, kids_pair}
use Rattle.worked_examples.specs.Schemas.{schema_with, many, code_type, coded, with_elements, types}

abbrev pub node : ℕ → ℕ → NodeRef
node definition element = record { definition = definition; element = element }

-- the roots of two of the types, by their places
abbrev pub root_answers : ℕ → ℕ → Bool
root_answers own base = roots_answer types (node own 0) (node base 0)

-- ---- a type, and a profile on it, whose elements ask for more and for less

abbrev pub long : Tree → Members → Members
long most more = member (codes "maxLength") most more

abbrev pub fixed_a : Members → Members
fixed_a more = member (codes "fixedCode") (string (codes "a")) more

abbrev pub elements : Members → Members → Members → Items
elements b c d =
    one_more (many (codes "A.b") b) (one_more (many (codes "A.c") c) (one_more (many (codes "A.d") d) no_items))

abbrev pub profile : Items → Tree
profile es =
    definition (codes "resource") (codes "A") (member (codes "derivation") (string (codes "constraint"))
    (with_snapshot (one_more (many (codes "A") no_members) es)))

abbrev pub profiled : SchemaValue
profiled = schema_with
    ((codes "urn:code", code_type)
    ∷ (codes "urn:A", with_elements (elements (fixed_a (long (number (codes "5")) coded)) (long (number (codes "5")) coded) (long (number (codes "5")) coded)))
    ∷ (codes "urn:P", profile (elements (long (number (codes "7")) coded) (long (number (codes "7")) coded) (long (number (codes "3")) coded)))
    ∷ [])

-- the first rule that fails of the profile's element at a place and the type's
abbrev pub failing_at : ℕ → Option RuleName
failing_at place = failing_rule (λ p. true) profiled (item_pair (node 2 place) (node 1 place))

-- ---- children of a type, which has one, that may be there once, and of a profile on it

abbrev pub child : Text → Text → Items
child min max = one_more (element (codes "A.b") min max coded) no_items

-- the first rule that fails of the children of their roots, where these pairs are there
abbrev pub failing_child : (Pair → Bool) → Items → Option RuleName
failing_child pairs es =
    failing_rule pairs
    (schema_with ((codes "urn:code", code_type) ∷ (codes "urn:A", with_elements (child (codes "0") (codes "1"))) ∷ (codes "urn:P", profile es) ∷ []))
    (kids_pair (node 1 0) (node 2 0))

abbrev pub all_pairs : Pair → Bool
all_pairs p = true

abbrev pub no_pairs : Pair → Bool
no_pairs p = false
