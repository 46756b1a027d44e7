-- When two JSON values are equal: objects by their names in any order, arrays in order, and numbers by their texts, so
-- that 0.010 is not 0.01.
use Rattle.std.specs.Prelude.{List, [], ◌∷◌, Bool, true, false, ◌&&◌, ◌||◌}
use Rattle.std.specs.Str.{bytes_eq}
use Rattle.fhir_json.specs.Tree.{Text, Tree, null, boolean, number, string, array, object, Items, no_items, item, Members, no_members, member, names}
use Rattle.fhir_json.specs.Sound.{is_among}

abbrev pub same_flag : Bool → Bool → Bool
same_flag true b = b
same_flag false true = false
same_flag false false = true

abbrev pub is_null : Tree → Bool
is_null null = true
is_null _ = false

abbrev pub is_flag : Bool → Tree → Bool
is_flag a (boolean b) = same_flag a b
is_flag a _ = false

abbrev pub is_number_text : Text → Tree → Bool
is_number_text n (number m) = bytes_eq n m
is_number_text n _ = false

abbrev pub is_text : Text → Tree → Bool
is_text s (string t) = bytes_eq s t
is_text s _ = false

-- some member has the name and passes the test
abbrev pub has_passing : Text → (Tree → Bool) → Members → Bool
has_passing name p no_members = false
has_passing name p (member n t ms) = (bytes_eq name n && p t) || has_passing name p ms

-- each of the first names is among the second
abbrev pub are_among : List Text → List Text → Bool
are_among [] ys = true
are_among (x ∷ xs) ys = is_among x ys && are_among xs ys

-- Of objects, each member of the first has its equal in the second, which has no further name.
abbrev mutual
  pub equal : Tree → Tree → Bool
  equal null u = is_null u
  equal (boolean b) u = is_flag b u
  equal (number n) u = is_number_text n u
  equal (string s) u = is_text s u
  equal (array ts) (array us) = items_equal ts us
  equal (array ts) _ = false
  equal (object ms) (object ns) = members_within ms ns && are_among (names ns) (names ms)
  equal (object ms) _ = false

  -- item by item, and as many of them
  pub items_equal : Items → Items → Bool
  items_equal no_items no_items = true
  items_equal no_items (item u us) = false
  items_equal (item t ts) no_items = false
  items_equal (item t ts) (item u us) = equal t u && items_equal ts us

  -- each member of the first has its equal among the second
  pub members_within : Members → Members → Bool
  members_within no_members ns = true
  members_within (member name t ms) ns = has_passing name (equal t) ns && members_within ms ns
