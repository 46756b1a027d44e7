-- The members of a definition that R4 doesn't have.
use Rattle.std.specs.Prelude.{List, [], ◌∷◌, ◌++◌, Option, None, if◌then◌else◌, codes}
use Rattle.std.specs.Option.{option_map_or, option_and_then}
use Rattle.fhir_json.specs.Tree.{Text, Tree, array, object, Items, no_items, item, Members, no_members, member}
use Rattle.fhir_json.specs.Fields.{text_in}
use Rattle.fhir_unrecognized.specs.declared.object.Object.{Object}
use Rattle.fhir_unrecognized.specs.Objects.{is_element, part_of, resource_of}
use Rattle.fhir_unrecognized.specs.Members.{is_known}

-- such a member: the id of the element that it stands in, if it stands in one; its name; and the object that it stands in
pub record UnrecognizedMember : Type 0 where
  pub id : Option Text
  pub name : Text
  pub object : Object

-- the element in which the members of an object stand
abbrev pub id_within : Object → Option Text → Tree → Option Text
id_within o id t = if is_element o then text_in (codes "id") t else id

-- a member, if the object doesn't have it in R4
abbrev pub unless_known : Object → Option Text → Text → List UnrecognizedMember
unless_known o id name = if is_known o name then [] else record { id = id; name = name; object = o } ∷ []

abbrev mutual
  -- those in the members of an object, and in the parts that stand there
  pub in_members : Object → Option Text → Members → List UnrecognizedMember
  in_members o id no_members = []
  in_members o id (member name t ms) = unless_known o id name ++ (in_part (part_of o name) id t ++ in_members o id ms)

  -- those in a part, which is an object or an array of objects
  pub in_part : Option Object → Option Text → Tree → List UnrecognizedMember
  in_part part id (object ms) = option_map_or (λ o. in_members o (id_within o id (object ms)) ms) part []
  in_part part id (array ts) = option_map_or (λ o. in_objects o id ts) part []
  in_part part id _ = []

  pub in_objects : Object → Option Text → Items → List UnrecognizedMember
  in_objects o id no_items = []
  in_objects o id (item t ts) = in_object o id t ++ in_objects o id ts

  pub in_object : Object → Option Text → Tree → List UnrecognizedMember
  in_object o id (object ms) = in_members o (id_within o id (object ms)) ms
  in_object o id _ = []

-- those in a StructureDefinition, a ValueSet or a CodeSystem; of another resource none
abbrev pub unrecognized_in : Tree → List UnrecognizedMember
unrecognized_in t = in_part (option_and_then resource_of (text_in (codes "resourceType") t)) None t
