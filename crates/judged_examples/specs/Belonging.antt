-- A profile whose elements have slices, one told by the value of a choice, and one by the codes of several codings; and items, to see
-- which belong to the slices.
use Rattle.std.specs.Prelude.{List, [], ◌∷◌, Bool, false, None, codes}
use Rattle.std.specs.Option.{option_map_or}
use Rattle.fhir_json.specs.Tree.{Text, Tree, string, no_items, no_members, Members, member}
use Rattle.fhir_json.specs.Tree.{item as one_more}
use Rattle.fhir_schema.specs.Schemas.{SchemaValue, schema_of, node, criteria}
use Rattle.fhir_instance.specs.Items.{Item, item, Kids, no_kids, kid}
use Rattle.fhir_instance.specs.TypingExample.{definition, of_type, with_snapshot}
use Rattle.fhir_slicing.specs.Belonging.{belongs}
use Rattle.fhir_slicing.specs.Parcels.{bare_type, many, sliced_by, of_code}

-- ---- the definitions

abbrev pub fixed_to_red : Members
fixed_to_red = member (codes "fixedCode") (string (codes "red")) (of_type (codes "code"))

-- of a case, findings are sliced by their `value[x]`, and tags by the codes of their codings
abbrev pub case_profile : Tree
case_profile =
    definition (codes "resource") (codes "Case")
    (member (codes "derivation") (string (codes "constraint"))
    (member (codes "baseDefinition") (string (codes "urn:Case")) (with_snapshot
    (one_more (many (codes "Case") no_members)
    (one_more (many (codes "Case.finding") (sliced_by (codes "value") (codes "value") (of_type (codes "Finding"))))
    (one_more (many (codes "Case.finding:red") (of_type (codes "Finding")))
    (one_more (many (codes "Case.finding:red.value[x]") fixed_to_red)
    (one_more (many (codes "Case.tag") (sliced_by (codes "value") (codes "coding.code") (of_type (codes "CodeableConcept"))))
    (one_more (many (codes "Case.tag:red") (of_type (codes "CodeableConcept")))
    (one_more (many (codes "Case.tag:red.coding") (of_type (codes "Coding")))
    (one_more (many (codes "Case.tag:red.coding.code") fixed_to_red)
    no_items)))))))))))

abbrev pub cases : SchemaValue
cases = schema_of (record {
  structure_definitions =
      (codes "urn:code", bare_type (codes "primitive-type") (codes "code"))
      ∷ (codes "urn:Finding", bare_type (codes "complex-type") (codes "Finding"))
      ∷ (codes "urn:Coding", bare_type (codes "complex-type") (codes "Coding"))
      ∷ (codes "urn:CodeableConcept", bare_type (codes "complex-type") (codes "CodeableConcept"))
      ∷ (codes "urn:Case", bare_type (codes "resource") (codes "Case"))
      ∷ (codes "urn:cases", case_profile)
      ∷ [];
  value_sets = [];
  code_systems = [];
})

-- ---- items

-- with a value, which is a code
abbrev pub finding : Text → Item
finding code = item (codes "Finding") None (kid (codes "value[x]") (of_code code) no_kids)

abbrev pub coding : Text → Item
coding code = item (codes "Coding") None (kid (codes "code") (of_code code) no_kids)

abbrev pub codings : List Text → Kids
codings [] = no_kids
codings (code ∷ cs) = kid (codes "coding") (coding code) (codings cs)

-- with a coding for each of these codes
abbrev pub tag : List Text → Item
tag cs = item (codes "CodeableConcept") None (codings cs)

-- ---- what they belong to, by the ids of the profile's elements

abbrev pub is_of : Text → Item → Bool
is_of id x = option_map_or (λ n. belongs cases (criteria cases n) x) (node cases (codes "urn:cases") id) false
