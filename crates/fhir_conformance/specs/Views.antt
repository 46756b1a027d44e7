-- What contracts see of asks, of rules, of an index of children, and of what was judged.
use Rattle.std.specs.Prelude.{◌≡◌, ℕ, List, [], map, Vec}
use Rattle.std.specs.declared.alloc.Global.{Global}
use Rattle.std.specs.Borrow.{Bor}
use Rattle.std.specs.Option.{option_map_or}
use Rattle.std.specs.Map.{lookup}
use Rattle.std.specs.BTreeMap.{BTreeMap, get_by}
use Rattle.std.specs.Cmp.Lexicographic.{slice_cmp}
use Rattle.std.specs.Ordering.{nat_cmp}
use Rattle.std.specs.Str.{bytes_eq}
use Rattle.fhir_json.specs.Tree.{Text}
use Rattle.fhir_instance.specs.Items.{Item}
use Rattle.fhir_conformance.specs.Asks.{ElementRuleName, root_type, fixed, pattern, range, length_limit, binding, too_few, too_many, too_few_in, too_many_in, apart, in_a_slice, in_order, in_the_rest, constraint}
use Rattle.fhir_conformance.specs.Asks.{own, types, profile, root, child, places_of}
use Rattle.fhir_conformance.specs.Asks.{Ask as Asked}
use Rattle.fhir_conformance.specs.declared.ask.Ask.{Ask}
use Rattle.fhir_conformance.specs.declared.ask.Ask.TheVariants.{Own, Types, Profile, Root, Child}
use Rattle.fhir_conformance.specs.declared.ask.ElementRule.{ElementRule}
use Rattle.fhir_conformance.specs.declared.ask.ElementRule.TheVariants as rules

abbrev pub rule_name : ElementRule → ElementRuleName
rule_name rules.RootType = root_type
rule_name rules.Fixed = fixed
rule_name rules.Pattern = pattern
rule_name rules.Range = range
rule_name rules.Length = length_limit
rule_name rules.Binding = binding
rule_name (rules.TooFew name) = too_few name.now
rule_name (rules.TooMany name) = too_many name.now
rule_name (rules.TooFewIn name) = too_few_in name.now
rule_name (rules.TooManyIn name) = too_many_in name.now
rule_name (rules.Apart position) = apart position
rule_name (rules.InASlice position) = in_a_slice position
rule_name (rules.InOrder earlier position) = in_order earlier position
rule_name (rules.InTheRest position) = in_the_rest position
rule_name (rules.Constraint position) = constraint position

abbrev pub ask_seen : Ask → Asked
ask_seen (Own rule n) = own (rule_name rule) n
ask_seen (Types n) = types n
ask_seen (Profile n) = profile n
ask_seen (Root n) = root n
ask_seen (Child i n) = child i n

abbrev pub asks_seen : List Ask → List Asked
asks_seen asks = map ask_seen asks

-- ---- an index of children

-- the positions under a name
abbrev pub places_at : Text → BTreeMap (Bor Text) (Vec ℕ Global) → List ℕ
places_at name places = option_map_or (λ ps. ps.items) (get_by (λ key. slice_cmp nat_cmp name key.now) places) []

-- names, each with the positions of the children that have it
abbrev pub Places : Type 0
Places = List (Text × List ℕ)

abbrev pub places_by_name : List (Bor Text × Vec ℕ Global) → Places
places_by_name es = map (λ e. (e.0.now, e.1.items)) es

abbrev pub places_in : Places → Text → List ℕ
places_in places name = option_map_or (λ ps. ps) (lookup (bytes_eq name) places) []

-- it has the positions of an item's children under each name
abbrev pub IsIndexOf : Item → Places → Type 0
IsIndexOf x places = (name : Text) → places_in places name ≡ places_of name x
