-- A package with a profile whose elements have slices, each told from others in another way; and items: which belong to which.
use Rattle.std.specs.Prelude.{[], ◌∷◌, Bool, false, Some, None, codes}
use Rattle.std.specs.Option.{option_map_or}
use Rattle.fhir_json.specs.Tree.{Text, Tree, string, array, object, no_items, Members, no_members, member}
use Rattle.fhir_json.specs.Tree.{item as one_more}
use Rattle.fhir_package.specs.Definitions.{Definitions}
use Rattle.fhir_schema.specs.Schemas.{SchemaValue, schema_of, node, criteria}
use Rattle.fhir_instance.specs.Items.{Item, item, Kids, no_kids, kid}
use Rattle.fhir_instance.specs.TypingExample.{element, definition, of_type, of_types, with_snapshot}
use Rattle.fhir_slicing.specs.Belonging.{belongs, is_sliced}
use Rattle.fhir_slicing.specs.SameCriteria.{same_criteria}

-- ---- the definitions

-- a type without children, or a resource
abbrev pub bare_type : Text → Text → Tree
bare_type kind code = definition kind code (with_snapshot (one_more (element code (codes "0") (codes "*") no_members) no_items))

-- any number of items
abbrev pub many : Text → Members → Tree
many id more = element id (codes "0") (codes "*") more

-- sliced by a discriminator
abbrev pub sliced_by : Text → Text → Members → Members
sliced_by by path more =
    member (codes "slicing") (object
    (member (codes "discriminator") (array (one_more (object
    (member (codes "type") (string by) (member (codes "path") (string path) no_members))) no_items)) no_members)) more

-- by whether there is something in each of two
abbrev pub sliced_by_both : Text → Text → Members → Members
sliced_by_both path other more =
    member (codes "slicing") (object
    (member (codes "discriminator") (array
    (one_more (object (member (codes "type") (string (codes "exists")) (member (codes "path") (string path) no_members)))
    (one_more (object (member (codes "type") (string (codes "exists")) (member (codes "path") (string other) no_members)))
    no_items))) no_members)) more

-- extensions of that profile
abbrev pub of_profile : Text → Members
of_profile canonical =
    member (codes "type") (array (one_more (object
    (member (codes "code") (string (codes "Extension"))
    (member (codes "profile") (array (one_more (string canonical) no_items)) no_members))) no_items)) no_members

abbrev pub name_with : Members → Tree
name_with more = object (member (codes "given") (array (one_more (string (codes "a")) no_items)) more)

-- Of a parcel, labels are sliced by their values, senders by a pattern, stamps by whether they have a date, contents by their
-- types and extensions by their url; of the last two the element needn't say so. Tints are sliced as labels are, but by a pattern;
-- papers by their type, which may rest on that of the slice; and marks by both a date and a place.
abbrev pub parcel_profile : Tree
parcel_profile =
    definition (codes "resource") (codes "Parcel")
    (member (codes "derivation") (string (codes "constraint"))
    (member (codes "baseDefinition") (string (codes "urn:Parcel")) (with_snapshot
    (one_more (many (codes "Parcel") no_members)
    (one_more (many (codes "Parcel.label") (sliced_by (codes "value") (codes "$this") (of_type (codes "code"))))
    (one_more (many (codes "Parcel.label:red") (member (codes "fixedCode") (string (codes "red")) (of_type (codes "code"))))
    (one_more (many (codes "Parcel.sender") (sliced_by (codes "pattern") (codes "$this") (of_type (codes "Name"))))
    (one_more (many (codes "Parcel.sender:a") (member (codes "patternName") (name_with no_members) (of_type (codes "Name"))))
    (one_more (many (codes "Parcel.stamp") (sliced_by (codes "exists") (codes "date") (of_type (codes "Stamp"))))
    (one_more (many (codes "Parcel.stamp:dated") (of_type (codes "Stamp")))
    (one_more (element (codes "Parcel.stamp:dated.date") (codes "1") (codes "1") (of_type (codes "code")))
    (one_more (many (codes "Parcel.stamp:undated") (of_type (codes "Stamp")))
    (one_more (element (codes "Parcel.stamp:undated.date") (codes "0") (codes "0") (of_type (codes "code")))
    (one_more (many (codes "Parcel.content[x]") (of_types (codes "code") (codes "Name")))
    (one_more (many (codes "Parcel.content[x]:contentCode") (of_type (codes "code")))
    (one_more (many (codes "Parcel.extension") (of_type (codes "Extension")))
    (one_more (many (codes "Parcel.extension:colour") (of_profile (codes "urn:colour|1")))
    (one_more (many (codes "Parcel.tint") (sliced_by (codes "pattern") (codes "$this") (of_type (codes "code"))))
    (one_more (many (codes "Parcel.tint:red") (member (codes "fixedCode") (string (codes "red")) (of_type (codes "code"))))
    (one_more (many (codes "Parcel.paper") (sliced_by (codes "type") (codes "$this") (of_type (codes "Paper"))))
    (one_more (many (codes "Parcel.paper:papers") (of_type (codes "Paper")))
    (one_more (many (codes "Parcel.mark") (sliced_by_both (codes "date") (codes "place") (of_type (codes "Stamp"))))
    (one_more (many (codes "Parcel.mark:whole") (of_type (codes "Stamp")))
    (one_more (element (codes "Parcel.mark:whole.date") (codes "1") (codes "1") (of_type (codes "code")))
    (one_more (element (codes "Parcel.mark:whole.place") (codes "1") (codes "1") (of_type (codes "code")))
    no_items)))))))))))))))))))))))))

-- a resource that rests on another
abbrev pub letter_type : Tree
letter_type =
    definition (codes "resource") (codes "Letter") (member (codes "baseDefinition") (string (codes "urn:Paper"))
    (with_snapshot (one_more (element (codes "Letter") (codes "0") (codes "*") no_members) no_items)))

abbrev pub definitions : Definitions
definitions = record {
  structure_definitions =
      (codes "urn:code", bare_type (codes "primitive-type") (codes "code"))
      ∷ (codes "urn:Name", bare_type (codes "complex-type") (codes "Name"))
      ∷ (codes "urn:Stamp", bare_type (codes "complex-type") (codes "Stamp"))
      ∷ (codes "urn:Extension", bare_type (codes "complex-type") (codes "Extension"))
      ∷ (codes "urn:Parcel", bare_type (codes "resource") (codes "Parcel"))
      ∷ (codes "urn:Paper", bare_type (codes "resource") (codes "Paper"))
      ∷ (codes "urn:Letter", letter_type)
      ∷ (codes "urn:parcels", parcel_profile)
      ∷ [];
  value_sets = [];
  code_systems = [];
}

abbrev pub parcels : SchemaValue
parcels = schema_of definitions

-- ---- items

abbrev pub of_code : Text → Item
of_code code = item (codes "code") (Some (string code)) no_kids

-- of the given name `a`, with more
abbrev pub named : Members → Item
named more = item (codes "Name") (Some (name_with more)) no_kids

abbrev pub title : Members
title = member (codes "title") (string (codes "t")) no_members

-- without a given name
abbrev pub nameless : Item
nameless = item (codes "Name") (Some (object title)) no_kids

abbrev pub stamp : Kids → Item
stamp kids = item (codes "Stamp") None kids

abbrev pub dated : Item
dated = stamp (kid (codes "date") (of_code (codes "d")) no_kids)

abbrev pub dated_at_place : Item
dated_at_place = stamp (kid (codes "date") (of_code (codes "d")) (kid (codes "place") (of_code (codes "p")) no_kids))

abbrev pub of_bare_type : Text → Item
of_bare_type type = item type None no_kids

abbrev pub undated : Item
undated = stamp no_kids

abbrev pub extension : Text → Item
extension url = item (codes "Extension") None (kid (codes "url") (of_code url) no_kids)

-- ---- what they belong to, by the ids of the profile's elements

abbrev pub is_of : Text → Item → Bool
is_of id x = option_map_or (λ n. belongs parcels (criteria parcels n) x) (node parcels (codes "urn:parcels") id) false

abbrev pub is_in_a_slice : Text → Item → Bool
is_in_a_slice id x = option_map_or (λ n. is_sliced parcels n x) (node parcels (codes "urn:parcels") id) false

abbrev pub are_told_alike : Text → Text → Bool
are_told_alike id other =
    option_map_or (λ n. option_map_or (same_criteria parcels n) (node parcels (codes "urn:parcels") other) false) (node parcels (codes "urn:parcels") id) false
