-- What contracts see of unread rules, views, bounds, bindings and answers.
use Rattle.std.specs.Prelude.{◌≡◌, List, [], ◌∷◌, ◌++◌, Bool, true, false, Option, None, Some, if◌then◌else◌}
use Rattle.std.specs.declared.cmp.Ordering.{Ordering}
use Rattle.std.specs.List.{Contains, flat_map}
use Rattle.std.specs.Option.{option_copied, option_map_or}
use Rattle.std.specs.Ordering.{is_le, is_ge}
use Rattle.fhir_json.specs.Tree.{Text}
use Rattle.fhir_json.specs.Views.{tree_seen, property_of, property_seen}
use Rattle.fhir_elements.specs.TypeEntry.{TypeEntry}
use Rattle.fhir_schema.specs.Schemas.{SchemaValue}
use Rattle.fhir_facets.specs.declared.unread.Unread.{Unread as UnreadRule}
use Rattle.fhir_facets.specs.declared.unread.Unread.TheVariants.{Range as UnreadRange, Target as UnreadTarget, Profile as UnreadProfile, Binding as UnreadBinding, Expression as UnreadExpression, Constraint as UnreadConstraint}
use Rattle.fhir_facets.specs.declared.view.View.{View}
use Rattle.fhir_facets.specs.declared.holding.Holding.{Holding}
use Rattle.fhir_facets.specs.declared.holding.Holding.TheVariants.{Holds, Fails, Given as AsGiven, Unread as Undecided}
use Rattle.fhir_facets.specs.declared.bounds.Side.{Side}
use Rattle.fhir_facets.specs.declared.bounds.Side.TheVariants.{Least, Most}
use Rattle.fhir_facets.specs.declared.ranges.Range.{Range as RangeOf}
use Rattle.fhir_facets.specs.declared.bindings.Binding.{Binding as BindingOf}
use Rattle.fhir_facets.specs.Unread.{Unread, Reading, strict, as_given, lenient, is_given, unread_text, range, target, profile, binding, expression, constraint}
use Rattle.fhir_facets.specs.Seen.{Seen}
use Rattle.fhir_facets.specs.Ranges.{Range}
use Rattle.fhir_facets.specs.Targets.{has_targets}
use Rattle.fhir_facets.specs.Bindings.{Binding}
use Rattle.fhir_facets.specs.Carried.{bound_unread, target_unread}

abbrev pub unread_seen : UnreadRule → Unread
unread_seen (UnreadRange p) = range (property_of p.now).0 (property_of p.now).1
unread_seen (UnreadTarget canonical) = target canonical.now
unread_seen (UnreadProfile canonical) = profile canonical.now
unread_seen (UnreadBinding canonical) = binding canonical.now
unread_seen (UnreadExpression text) = expression text.now
unread_seen (UnreadConstraint key) = constraint key.now

-- as a message prints it; how the value of a bound is printed, no contract says
abbrev pub printed : UnreadRule → Option Text
printed (UnreadRange bound) = None
printed (UnreadTarget canonical) = Some (unread_text (target canonical.now))
printed (UnreadProfile canonical) = Some (unread_text (profile canonical.now))
printed (UnreadBinding canonical) = Some (unread_text (binding canonical.now))
printed (UnreadExpression text) = Some (unread_text (expression text.now))
printed (UnreadConstraint key) = Some (unread_text (constraint key.now))

-- the one that there is, if there is one
abbrev pub rules_in : Option UnreadRule → List Unread
rules_in None = []
rules_in (Some u) = unread_seen u ∷ []

abbrev pub view_seen : View → Seen
view_seen v = record { type = v.code.now; json = tree_seen v.json; has_kids = v.has_kids }

-- whether an answer is that the facet holds, where each unread rule holds or none does
abbrev pub holding_under : Bool → Holding → Bool
holding_under b Holds = true
holding_under b Fails = false
holding_under b (AsGiven u) = b
holding_under b (Undecided u) = b

-- the same of a reading
abbrev pub holding_at : Reading → Holding → Bool
holding_at reading Holds = true
holding_at reading Fails = false
holding_at strict (AsGiven u) = false
holding_at as_given (AsGiven u) = true
holding_at lenient (AsGiven u) = true
holding_at strict (Undecided u) = false
holding_at as_given (Undecided u) = false
holding_at lenient (Undecided u) = true

-- the rule that it hangs on is given, where it holds as given, and isn't, where it is undecided
abbrev pub IsVouched : List Text → Holding → Type 0
IsVouched texts Holds = Unit {0}
IsVouched texts Fails = Unit {0}
IsVouched texts (AsGiven u) = is_given texts (unread_seen u) ≡ true
IsVouched texts (Undecided u) = is_given texts (unread_seen u) ≡ false

-- an unread rule in an answer is among these
abbrev pub IsCarried : List Unread → Holding → Type 0
IsCarried rules Holds = Unit {0}
IsCarried rules Fails = Unit {0}
IsCarried rules (AsGiven u) = Contains rules (unread_seen u)
IsCarried rules (Undecided u) = Contains rules (unread_seen u)

-- ---- bounds

-- on the lower side a value is no less, and on the upper side no greater
abbrev pub side_test : Side → Ordering → Bool
side_test Least = is_ge
side_test Most = is_le

abbrev pub range_seen : RangeOf → Range
range_seen r = record { least = property_seen r.least; most = property_seen r.most }

-- the unread rules that bounds are
abbrev pub range_rules : Range → List Unread
range_rules r = option_map_or bound_unread r.least [] ++ option_map_or bound_unread r.most []

-- those that the targets of a type entry are
abbrev pub target_rules : SchemaValue → TypeEntry → List Unread
target_rules s e = if has_targets e then flat_map (target_unread s) e.targets else []

-- ---- a binding

abbrev pub binding_seen : BindingOf → Binding
binding_seen b = record { canonical = b.canonical.now; concepts = option_copied b.concepts }
