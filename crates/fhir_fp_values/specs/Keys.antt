-- Keys: texts that equal values have in common (used by private contracts alone).
use Rattle.std.specs.Prelude.{ℕ, Bool, true, false, List, [], ◌∷◌, ◌++◌, length, decimal, codes, Option, None, Some, if◌then◌else◌}
use Rattle.std.specs.Cmp.Lexicographic.{slice_cmp}
use Rattle.std.specs.Ordering.{is_lt, nat_cmp}
use Rattle.fhir_json.specs.Tree.{Text}
use Rattle.fhir_decimal.specs.Value.{Value}
use Rattle.fhir_number_keys.specs.Keys.{key_of as number_key}
use Rattle.fhir_prims.specs.Order.{Fields}
use Rattle.fhir_instance.specs.Items.{Item, item, Kids, no_kids, kid}
use Rattle.fhir_fp_values.specs.Values.{Plain, node, SystemValue, boolean_of, number_of, string_of, moment_of, time_of, item_value, system_value}

-- a text behind its length, so that nothing that follows is taken for a part of it
abbrev pub measured : Text → Text
measured s = decimal (length s) ++ (codes ":" ++ s)

abbrev pub truth_key : Bool → Text
truth_key true = codes "t"
truth_key false = codes "f"

-- a field that is given, or the mark of one that isn't
abbrev pub field_key : Option ℕ → Text
field_key (Some n) = codes ":" ++ decimal n
field_key None = codes "."

abbrev pub second_key : Option Value → Text
second_key (Some v) = codes ":" ++ number_key v
second_key None = codes "."

abbrev pub date_key : Fields → Text
date_key m = field_key m.year ++ (field_key m.month ++ field_key m.day)

abbrev pub clock_key : Fields → Text
clock_key m = field_key m.hour ++ (field_key m.minute ++ second_key m.second)

abbrev pub moment_key : Fields → Text
moment_key m = date_key m ++ clock_key m

-- what says the same has one key
abbrev pub said_key : SystemValue → Text
said_key (boolean_of b) = truth_key b
said_key (number_of v) = codes "n" ++ (number_key v ++ codes ";")
said_key (string_of s) = codes "s" ++ measured s
said_key (moment_of m) = codes "m" ++ (moment_key m ++ codes ";")
said_key (time_of m) = codes "h" ++ (moment_key m ++ codes ";")

-- where nothing is said, the key of the parts
abbrev pub key_said : Option SystemValue → Text → Text
key_said (Some a) parts = said_key a
key_said None parts = parts

-- ---- items

-- a child's name and its key
abbrev pub Keyed : Type 0
Keyed = Text × Text

-- one child more, before those whose names aren't less
abbrev pub put_in : Keyed → List Keyed → List Keyed
put_in k [] = k ∷ []
put_in k (l ∷ ls) = if is_lt (slice_cmp nat_cmp l.0 k.0) then l ∷ put_in k ls else k ∷ (l ∷ ls)

-- in the order of their names; those of one name stay in their order
abbrev pub in_order : List Keyed → List Keyed
in_order [] = []
in_order (k ∷ ks) = put_in k (in_order ks)

-- each name and its key, one behind the other
abbrev pub written : List Keyed → Text
written [] = []
written (k ∷ ks) = measured k.0 ++ (k.1 ++ written ks)

-- the key of an item that says nothing: of its type, and of its children by their names
abbrev pub parts_key : Text → List Keyed → Text
parts_key type ks = codes "i" ++ (measured type ++ (written (in_order ks) ++ codes ";"))

abbrev mutual
  pub item_key : Item → Text
  item_key (item type json ks) = key_said (item_value (item type json ks)) (parts_key type (keyed_kids ks))

  pub keyed_kids : Kids → List Keyed
  keyed_kids no_kids = []
  keyed_kids (kid n x ks) = (n, item_key x) ∷ keyed_kids ks

-- ---- values

abbrev pub node_key : Plain → Text
node_key (node x) = item_key x
node_key _ = []

unfoldable pub key_of : Plain → Text
key_of x = key_said (system_value x) (node_key x)
