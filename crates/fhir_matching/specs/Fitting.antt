-- When a JSON value fits a pattern (FHIR R4, ElementDefinition, pattern[x]): scalars are equal, numbers by their
-- texts; each property of the pattern is there in the value and fits; for each item of the pattern some item of the
-- value fits it, in any order, and one item may serve several.
use Rattle.std.specs.Prelude.{Bool, true, false, ◌&&◌, ◌||◌}
use Rattle.fhir_json.specs.Tree.{Tree, null, boolean, number, string, array, object, Items, no_items, item, Members, no_members, member}
use Rattle.fhir_matching.specs.Equality.{is_null, is_flag, is_number_text, is_text, has_passing}

-- some item passes the test
abbrev pub some_passing : (Tree → Bool) → Items → Bool
some_passing p no_items = false
some_passing p (item t ts) = p t || some_passing p ts

-- A pattern, and then the value that is tested against it. An object may have further members.
abbrev mutual
  pub pattern_test : Tree → Tree → Bool
  pattern_test null v = is_null v
  pattern_test (boolean b) v = is_flag b v
  pattern_test (number n) v = is_number_text n v
  pattern_test (string s) v = is_text s v
  pattern_test (array ps) (array ts) = each_fitted ps ts
  pattern_test (array ps) _ = false
  pattern_test (object ps) (object ms) = has_fitting ps ms
  pattern_test (object ps) _ = false

  -- each item of the pattern has an item that fits it
  pub each_fitted : Items → Items → Bool
  each_fitted no_items ts = true
  each_fitted (item p ps) ts = some_passing (pattern_test p) ts && each_fitted ps ts

  -- each member of the pattern has one of its name that fits it
  pub has_fitting : Members → Members → Bool
  has_fitting no_members ms = true
  has_fitting (member name p ps) ms = has_passing name (pattern_test p) ms && has_fitting ps ms

-- a value fits a pattern
abbrev pub fits : Tree → Tree → Bool
fits value pattern = pattern_test pattern value
