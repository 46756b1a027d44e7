-- Unread rules: what a definition asks for and this program doesn't judge, each by what it says.
use Rattle.std.specs.Prelude.{ℕ, List, ◌++◌, Bool, true, false, codes}
use Rattle.std.specs.List.{list_any}
use Rattle.std.specs.Option.{option_map_or}
use Rattle.std.specs.Str.{bytes_eq}
use Rattle.fhir_json.specs.Tree.{Text, Tree}
use Rattle.fhir_json.specs.Compact.{compact}
use Rattle.fhir_elements.specs.Constraint.{Constraint}

pub data Unread : Type 0 where
  -- a bound of a type that isn't compared: its property, as `minValueQuantity`, and its value
  range : (property : List ℕ) → Tree → Unread
  -- a target profile that isn't there, or can't be used
  target : (canonical : List ℕ) → Unread
  -- a profile of a type that isn't there, or can't be used
  profile : (canonical : List ℕ) → Unread
  -- a required binding to a value set that can't be read, or of an item that isn't looked up in one
  binding : (canonical : List ℕ) → Unread
  -- a constraint whose expression can't be read, by its text; and one without an expression, by its key
  expression : (text : List ℕ) → Unread
  constraint : (key : List ℕ) → Unread

-- that a constraint is, where its expression can't be read
abbrev pub unread_constraint : Constraint → Unread
unread_constraint c = option_map_or expression c.expression (constraint c.key)

-- as a message says it
abbrev pub unread_text : Unread → Text
unread_text (range property value) = codes "range " ++ property ++ codes " " ++ compact value
unread_text (target canonical) = codes "target " ++ canonical
unread_text (profile canonical) = codes "profile " ++ canonical
unread_text (binding canonical) = codes "binding " ++ canonical
unread_text (expression text) = codes "expression " ++ text
unread_text (constraint key) = codes "constraint " ++ key

-- What the unread rules mean of one item: whether each holds. Any test may be meant.
abbrev pub Meaning : Type 0
Meaning = Unread → Bool

-- ---- readings, where a user vouches for rules by their texts

-- its text is one of them
abbrev pub is_given : List Text → Unread → Bool
is_given texts rule = list_any (bytes_eq (unread_text rule)) texts

-- what unread rules are taken to mean: that none holds; that those hold whose texts are given, and no other; that each holds
pub data Reading : Type 0 where
  strict as_given lenient : Reading

abbrev pub meaning_of : List Text → Reading → Meaning
meaning_of texts strict rule = false
meaning_of texts as_given rule = is_given texts rule
meaning_of texts lenient rule = true
