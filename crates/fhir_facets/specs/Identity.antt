-- When two trees are one, member by member in their order: then they are written alike.
use Rattle.std.specs.Prelude.{Bool, true, false, ◌&&◌}
use Rattle.std.specs.Str.{bytes_eq}
use Rattle.fhir_json.specs.Tree.{Tree, null, boolean, number, string, array, object, Items, no_items, item, Members, no_members, member}
use Rattle.fhir_matching.specs.Equality.{is_null, is_flag, is_number_text, is_text}

abbrev mutual
  pub identical : Tree → Tree → Bool
  identical null u = is_null u
  identical (boolean b) u = is_flag b u
  identical (number n) u = is_number_text n u
  identical (string s) u = is_text s u
  identical (array ts) (array us) = items_identical ts us
  identical (array ts) _ = false
  identical (object ms) (object ns) = members_identical ms ns
  identical (object ms) _ = false

  pub items_identical : Items → Items → Bool
  items_identical no_items no_items = true
  items_identical no_items (item u us) = false
  items_identical (item t ts) no_items = false
  items_identical (item t ts) (item u us) = identical t u && items_identical ts us

  pub members_identical : Members → Members → Bool
  members_identical no_members no_members = true
  members_identical no_members (member name u ns) = false
  members_identical (member name t ms) no_members = false
  members_identical (member name t ms) (member other u ns) = bytes_eq name other && identical t u && members_identical ms ns
