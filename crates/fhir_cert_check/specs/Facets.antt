-- The rules of a pair of items that are about its elements (used by private contracts alone).
use Rattle.std.specs.Prelude.{List, [], ◌∷◌, Bool}
use Rattle.fhir_elements.specs.Element.{Element}
use Rattle.fhir_nodes.specs.declared.node.NodeRef.{NodeRef}
use Rattle.fhir_schema.specs.Schemas.{SchemaValue}
use Rattle.fhir_cert_check.specs.Rule.{RuleName, fixed, pattern, range, length_limit, binding}
use Rattle.fhir_cert_check.specs.Rules.{fixed_answers, pattern_answers, range_answers, length_answers, binding_answers, elements_answer}

abbrev pub element_rules : SchemaValue → Element → Element → List (Bool × RuleName)
element_rules s e f =
    (fixed_answers e f, fixed)
    ∷ (pattern_answers e f, pattern)
    ∷ (range_answers e f, range)
    ∷ (length_answers e f, length_limit)
    ∷ (binding_answers s e f, binding)
    ∷ []

abbrev pub facet_rules : SchemaValue → NodeRef → NodeRef → List (Bool × RuleName)
facet_rules s n m =
    (elements_answer fixed_answers s n m, fixed)
    ∷ (elements_answer pattern_answers s n m, pattern)
    ∷ (elements_answer range_answers s n m, range)
    ∷ (elements_answer length_answers s n m, length_limit)
    ∷ (elements_answer (binding_answers s) s n m, binding)
    ∷ []
