-- When two values are equal: yes, no, or undecided (FHIRPath N1, section 6.1), and truths of three values (section 6.5).
use Rattle.std.specs.Prelude.{Bool, true, false, not, List, [], ◌∷◌, ◌++◌, map, Option, Some, None, if◌then◌else◌}
use Rattle.std.specs.Option.{option_map}
use Rattle.std.specs.List.{list_any}
use Rattle.std.specs.Str.{bytes_eq}
use Rattle.std.specs.Ordering.{is_eq}
use Rattle.fhir_json.specs.Tree.{Text}
use Rattle.fhir_decimal.specs.Value.{is_same_value}
use Rattle.fhir_prims.specs.Order.{moment_order}
use Rattle.fhir_instance.specs.Items.{Item, item, Kids, no_kids, kid, type_of, kids_of}
use Rattle.fhir_fp_values.specs.Values.{Plain, node, SystemValue, boolean_of, number_of, string_of, moment_of, time_of, item_value, system_value}

-- a truth, or undecided
abbrev pub Kleene : Type 0
Kleene = Option Bool

abbrev pub kleene_and : Kleene → Kleene → Kleene
kleene_and (Some false) q = Some false
kleene_and (Some true) q = q
kleene_and None (Some false) = Some false
kleene_and None (Some true) = None
kleene_and None None = None

abbrev pub kleene_or : Kleene → Kleene → Kleene
kleene_or (Some true) q = Some true
kleene_or (Some false) q = q
kleene_or None (Some true) = Some true
kleene_or None (Some false) = None
kleene_or None None = None

abbrev pub kleene_not : Kleene → Kleene
kleene_not (Some b) = Some (not b)
kleene_not None = None

abbrev pub kleene_xor : Kleene → Kleene → Kleene
kleene_xor (Some a) (Some b) = Some (if a then not b else b)
kleene_xor (Some a) None = None
kleene_xor None q = None

abbrev pub kleene_implies : Kleene → Kleene → Kleene
kleene_implies p q = kleene_or (kleene_not p) q

abbrev pub is_yes : Kleene → Bool
is_yes (Some b) = b
is_yes None = false

-- ---- what values say

abbrev pub same_truth : Bool → Bool → Bool
same_truth true b = b
same_truth false b = not b

-- Numbers are equal by value, and moments as far as their order decides. What differs in kind is not equal.
abbrev pub same_system_value : SystemValue → SystemValue → Kleene
same_system_value (boolean_of a) (boolean_of b) = Some (same_truth a b)
same_system_value (number_of a) (number_of b) = Some (is_same_value a b)
same_system_value (string_of a) (string_of b) = Some (bytes_eq a b)
same_system_value (moment_of a) (moment_of b) = option_map is_eq (moment_order a b)
same_system_value (time_of a) (time_of b) = option_map is_eq (moment_order a b)
same_system_value _ _ = Some false

-- where neither says anything, this other answer
abbrev pub same_said : Option SystemValue → Option SystemValue → Kleene → Kleene
same_said (Some a) (Some b) otherwise = same_system_value a b
same_said (Some a) None otherwise = Some false
same_said None (Some b) otherwise = Some false
same_said None None otherwise = otherwise

-- ---- items

abbrev pub if_same : Text → Text → Kleene → Kleene
if_same a b otherwise = if bytes_eq a b then otherwise else Some false

-- all of them
abbrev pub kleene_all : List Kleene → Kleene
kleene_all [] = Some true
kleene_all (p ∷ ps) = kleene_and p (kleene_all ps)

-- a child of the one item: its name, and whether an item is equal to it
pub record Side : Type 0 where
  pub name : Text
  pub equals : Item → Kleene

abbrev pub sides_named : Text → List Side → List (Item → Kleene)
sides_named n [] = []
sides_named n (s ∷ ss) = if bytes_eq n s.name then s.equals ∷ sides_named n ss else sides_named n ss

abbrev pub items_named : Text → Kids → List Item
items_named n no_kids = []
items_named n (kid m y ls) = if bytes_eq n m then y ∷ items_named n ls else items_named n ls

abbrev pub names_of : Kids → List Text
names_of no_kids = []
names_of (kid m y ls) = m ∷ names_of ls

-- they are as many, and each is equal to its fellow
abbrev pub in_turn : List (Item → Kleene) → List Item → Kleene
in_turn [] [] = Some true
in_turn [] (y ∷ ys) = Some false
in_turn (equals ∷ es) [] = Some false
in_turn (equals ∷ es) (y ∷ ys) = kleene_and (equals y) (in_turn es ys)

-- the children of each name are equal in turn
abbrev pub by_name : List Side → Kids → Kleene
by_name ss ls = kleene_all (map (λ n. in_turn (sides_named n ss) (items_named n ls)) (map (λ s. s.name) ss ++ names_of ls))

-- Items are equal by what they say, and where they say nothing if they are of one type, with equal children of each name.
abbrev mutual
  pub equal : Item → Item → Kleene
  equal (item a v ks) y = same_said (item_value (item a v ks)) (item_value y) (if_same a (type_of y) (by_name (sides_of ks) (kids_of y)))

  pub sides_of : Kids → List Side
  sides_of no_kids = []
  sides_of (kid n x ks) = record { name = n; equals = equal x } ∷ sides_of ks

-- ---- values and lists of them

abbrev pub same_node : Plain → Plain → Kleene
same_node (node x) (node y) = equal x y
same_node _ _ = Some false

-- values are equal by what they say, and items that say nothing by their parts
unfoldable pub alike : Plain → Plain → Kleene
alike x y = same_said (system_value x) (system_value y) (same_node x y)

unfoldable pub pairs : List Plain → List Plain → Kleene
pairs [] [] = Some true
pairs [] (y ∷ ys) = Some false
pairs (x ∷ xs) [] = Some false
pairs (x ∷ xs) (y ∷ ys) = kleene_and (alike x y) (pairs xs ys)

abbrev pub equality : List Plain → List Plain → Kleene
equality [] ws = None
equality (v ∷ vs) [] = None
equality (v ∷ vs) (w ∷ ws) = pairs (v ∷ vs) (w ∷ ws)

abbrev pub has : List Plain → Plain → Bool
has seen x = list_any (λ y. is_yes (alike y x)) seen
