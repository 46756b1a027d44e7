-- A patient with two given names, and what expressions give there.
use Rattle.std.specs.Prelude.{List, [], ◌∷◌, map, Bool, true, false, Some, Ok, codes}
use Rattle.fhir_json.specs.Tree.{Text, Tree, string, boolean, object, no_members}
use Rattle.fhir_json.specs.Tree.{number as number_text}
use Rattle.fhir_schema.specs.Schemas.{schema_with}
use Rattle.fhir_instance.specs.Items.{Item, item, Kids, no_kids, kid}
use Rattle.fhir_fp_syntax.specs.Expression.{Expression, nothing, boolean, this, context, name, child, call, filtered, binary}
use Rattle.fhir_fp_syntax.specs.Expression as expressions
use Rattle.fhir_fp_syntax.specs.declared.expr.Operator.{Operator}
use Rattle.fhir_fp_syntax.specs.declared.expr.Operator.TheVariants.{Greater, Or}
use Rattle.fhir_fp_syntax.specs.declared.expr.Function.TheVariants.{Count, Children, HasValue}
use Rattle.fhir_fp_values.specs.Values.{node, truth}
use Rattle.fhir_fp_eval.specs.Worlds.{World}
use Rattle.fhir_fp_eval.specs.Meaning.{Found, den}

-- ---- items

-- an item with a value
abbrev pub leaf : Text → Tree → Item
leaf type json = item type (Some json) no_kids

-- an item of a type with parts
abbrev pub whole : Text → Kids → Item
whole type kids = item type (Some (object no_members)) kids

abbrev pub patient : Item
patient =
    whole (codes "Patient")
    (kid (codes "id") (leaf (codes "id") (string (codes "p")))
    (kid (codes "name") (whole (codes "HumanName")
    (kid (codes "given") (leaf (codes "string") (string (codes "A")))
    (kid (codes "given") (leaf (codes "string") (string (codes "B")))
    no_kids)))
    (kid (codes "multipleBirth[x]") (leaf (codes "integer") (number_text (codes "1")))
    no_kids)))

-- a period of which one end is known
abbrev pub period : Text → Text → Item
period end date = whole (codes "Period") (kid end (leaf (codes "dateTime") (string date)) no_kids)

-- so much of a unit
abbrev pub quantity : Text → Text → Item
quantity value unit =
    whole (codes "Quantity")
    (kid (codes "value") (leaf (codes "decimal") (number_text value))
    (kid (codes "unit") (leaf (codes "string") (string unit))
    no_kids))

-- the same in a unit by its code
abbrev pub coded_quantity : Text → Text → Item
coded_quantity value code =
    whole (codes "Quantity")
    (kid (codes "value") (leaf (codes "decimal") (number_text value))
    (kid (codes "code") (leaf (codes "code") (string code))
    no_kids))

-- an element with a part of each of these two names
abbrev pub two_parts : Text → Text → Text → Text → Item
two_parts first a second b =
    whole (codes "Element")
    (kid first (leaf (codes "string") (string a))
    (kid second (leaf (codes "string") (string b))
    no_kids))

-- the name A twice
abbrev pub twice : Kids
twice =
    kid (codes "item") (leaf (codes "string") (string (codes "A")))
    (kid (codes "item") (leaf (codes "string") (string (codes "A")))
    no_kids)

-- ---- worlds

-- no types, and the context is this
abbrev pub around : Item → World
around x = record { schema = schema_with [] []; resource = patient; context = x }

-- what an expression gives at the patient
abbrev pub given_by : Expression → Found
given_by e = den (around patient) e (node patient)

-- what an operator gives of the first item and of the second
abbrev pub between : Operator → Item → Item → Found
between op x y = den (around y) (binary op this context) (node x)

-- ---- results

abbrev pub none : Found
none = Ok []

abbrev pub is : Bool → Found
is b = Ok (truth b ∷ [])

-- ---- truths of three values

-- `true`, `false` and `{}`
abbrev pub truths : List Expression
truths = boolean true ∷ boolean false ∷ nothing ∷ []

-- each with each: in rows by the left
abbrev pub row : Operator → Expression → List Found
row op a = map (λ b. given_by (binary op a b)) truths

abbrev pub table : Operator → List (List Found)
table op = map (row op) truths

-- ---- expressions

-- `name.given`
abbrev pub given_names : Expression
given_names = child (name (codes "name")) (codes "given")

abbrev pub digits : Text → Expression
digits s = expressions.number s

abbrev pub quoted : Text → Expression
quoted s = expressions.text s

-- `hasValue() or (children().count() > id.count())` (FHIR R4, Element, ele-1)
abbrev pub has_content : Expression
has_content =
    binary Or (call HasValue this)
    (binary Greater (call Count (call Children this)) (call Count (name (codes "id"))))
