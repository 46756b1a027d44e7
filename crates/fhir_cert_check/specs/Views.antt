-- Rules and answers as contracts see them.
use Rattle.std.specs.Prelude.{Bool, true, false, Option, None, Some, option_map}
use Rattle.fhir_certificate.specs.declared.pair.Pair.{Pair}
use Rattle.fhir_cert_check.specs.declared.rule.Rule.{Rule}
use Rattle.fhir_cert_check.specs.declared.rule.Rule.TheVariants.{Root, TypeCode, Fixed, Pattern, Range, Length, Binding, Constraint, Children, Slot, Cardinality, Entry, Closed, Ordered, End, Slice, Criteria, Bounds}
use Rattle.fhir_cert_check.specs.declared.answer.Answer.{Answer}
use Rattle.fhir_cert_check.specs.declared.answer.Answer.TheVariants.{Yes, No}
use Rattle.fhir_cert_check.specs.Rule.{RuleName, root, type, fixed, pattern, range, length_limit, binding, constraint, children, slot, cardinality, entry, closed, ordered, at_end, slice, criteria, bounds}

abbrev pub rule_name : Rule → RuleName
rule_name Root = root
rule_name TypeCode = type
rule_name Fixed = fixed
rule_name Pattern = pattern
rule_name Range = range
rule_name Length = length_limit
rule_name Binding = binding
rule_name (Constraint key) = constraint key.now
rule_name Children = children
rule_name (Slot name) = slot name.now
rule_name (Cardinality name) = cardinality name.now
rule_name (Entry name) = entry name.now
rule_name (Closed name) = closed name.now
rule_name (Ordered name) = ordered name.now
rule_name (End name) = at_end name.now
rule_name (Slice name of_slice) = slice name.now of_slice.now
rule_name (Criteria name of_slice) = criteria name.now of_slice.now
rule_name (Bounds name of_slice) = bounds name.now of_slice.now

abbrev pub is_yes : Answer → Bool
is_yes Yes = true
is_yes (No pair rule) = false

-- nothing is wrong, or that pair fails that rule
abbrev pub wrong_in : Answer → Option (Pair × RuleName)
wrong_in Yes = None
wrong_in (No pair rule) = Some (pair, rule_name rule)

-- a pair that was found, with the rule that it fails
abbrev pub failing_seen : Option (Pair × Rule) → Option (Pair × RuleName)
failing_seen failing_rule = option_map (λ f. (f.0, rule_name f.1)) failing_rule

abbrev pub rule_seen : Option Rule → Option RuleName
rule_seen rule = option_map rule_name rule
