-- What differs, as a table of a page.
use Rattle.std.specs.Prelude.{◌==◌, ◌&&◌, ℕ, List, [], ◌∷◌, map, Bool, true, false, Option, None, Some, codes}
use Rattle.std.specs.Str.{bytes_eq}
use Rattle.fhir_json.specs.Tree.{Text}
use Rattle.fhir_nodes.specs.declared.node.NodeRef.{NodeRef}
use Rattle.fhir_markup.specs.Markup.{AttributeValue, fixed, counted, place, labelled_by, Node, Nodes, words, element, none, also, with_child}
use Rattle.fhir_markup.specs.declared.names.Tag.TheVariants.{H4, Table, Thead, Tbody, Tr, Th, Td}
use Rattle.fhir_markup.specs.declared.names.AttributeName.TheVariants.{Class, Scope, Colspan}
use Rattle.fhir_markup.specs.declared.names.Part.TheVariants.{Differences}
use Rattle.fhir_page_frame.specs.Frame.{classed, saying, region}
use Rattle.fhir_element_changes.specs.Changes.{ChangeValue, ChangedValue}
use Rattle.fhir_element_changes.specs.declared.element_words.Aspect.{Aspect}
use Rattle.fhir_element_changes.specs.declared.element_words.Aspect.TheVariants as aspects
use Rattle.fhir_element_changes.specs.declared.tables.Failing.{Failing}

-- the name of an aspect
abbrev pub aspect_word : Aspect → Text
aspect_word aspects.Slice = codes "slice"
aspect_word aspects.Cardinality = codes "cardinality"
aspect_word aspects.Types = codes "types"
aspect_word aspects.Fixed = codes "fixed"
aspect_word aspects.Pattern = codes "pattern"
aspect_word aspects.Binding = codes "binding"
aspect_word aspects.Bounds = codes "bounds"
aspect_word aspects.Length = codes "length"
aspect_word aspects.Slicing = codes "slicing"
aspect_word aspects.Constraints = codes "constraints"

-- ---- what fails

abbrev pub same_node : NodeRef → NodeRef → Bool
same_node one other = (one.definition == other.definition) && (one.element == other.element)

-- the element fails by the aspect
abbrev pub is_at : Failing → NodeRef → Aspect → Bool
is_at f node aspect = same_node f.node node && bytes_eq (aspect_word f.aspect) (aspect_word aspect)

abbrev pub fails_at : Option Failing → NodeRef → Aspect → Bool
fails_at None node aspect = false
fails_at (Some f) node aspect = is_at f node aspect

-- ---- rows

abbrev pub heading_cell : (scope text : Text) → Node
heading_cell scope text = element Th (fixed Scope scope ∷ []) (also (words text) none)

abbrev pub head : Node
head =
    element Thead []
    (also
    (element Tr []
    (also (heading_cell (codes "col") (codes "What"))
    (also (heading_cell (codes "col") (codes "Base")) (also (heading_cell (codes "col") (codes "Profile")) none))))
    none)

-- the element's id, over all columns
abbrev pub id_row : Text → Node
id_row id =
    element Tr []
    (also (element Th (fixed Scope (codes "rowgroup") ∷ fixed Class (codes "id") ∷ counted Colspan 3 ∷ []) (also (words id) none)) none)

abbrev pub row_class : (fails : Bool) → List AttributeValue
row_class true = classed (codes "fails")
row_class false = []

abbrev pub failing_words : (fails : Bool) → Nodes
failing_words true = also (words (codes " (fails)")) none
failing_words false = none

abbrev pub aspect_cell : (fails : Bool) → Aspect → Node
aspect_cell fails aspect = element Th (fixed Scope (codes "row") ∷ []) (also (words (aspect_word aspect)) (failing_words fails))

-- by what the element differs, what the base's says, and what it says
abbrev pub change_row : (fails : Bool) → ChangeValue → Node
change_row fails c =
    element Tr (row_class fails)
    (also (aspect_cell fails c.aspect) (also (saying Td (classed (codes "old")) c.base) (also (saying Td [] c.derived) none)))

abbrev pub rows : Option Failing → NodeRef → List ChangeValue → List Node
rows failing node cs = map (λ c. change_row (fails_at failing node c.aspect) c) cs

-- ---- the table

-- an element with pieces put into it, one behind the other
abbrev pub with_nodes : Node → List Node → Node
with_nodes n [] = n
with_nodes n (m ∷ ms) = with_nodes (with_child n m) ms

-- the rows of an element, below its id
abbrev pub group : Option Failing → ChangedValue → Node
group failing c = with_nodes (element Tbody [] (also (id_row c.id) none)) (rows failing c.node c.changes)

abbrev pub table : Option Failing → List ChangedValue → Node
table failing cs = with_nodes (element Table [] (also head none)) (map (group failing) cs)

abbrev pub heading : ℕ → Node
heading number = element H4 (place Differences number ∷ []) (also (words (codes "What differs from its base")) none)

abbrev pub table_region : ℕ → Option Failing → List ChangedValue → Node
table_region number failing cs = region (labelled_by Differences number) (also (table failing cs) none)

-- with a heading and a table of what differs
abbrev pub with_table : ℕ → Option Failing → List ChangedValue → Node → Node
with_table number failing cs n = with_child (with_child n (heading number)) (table_region number failing cs)
