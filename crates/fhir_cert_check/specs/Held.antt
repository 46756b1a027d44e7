-- The constraints of a node that must hold, as the checker keeps them (used by private contracts alone).
use Rattle.std.specs.Prelude.{◌≡◌, Bool, ◌&&◌, ◌||◌, false, List, [], ◌∷◌, is_some, is_none, if◌then◌else◌}
use Rattle.std.specs.List.{list_any}
use Rattle.std.specs.Option.{option_map_or}
use Rattle.std.specs.Str.{bytes_eq}
use Rattle.fhir_json.specs.Tree.{Text}
use Rattle.fhir_elements.specs.Constraint.{Constraint, must_hold}
use Rattle.fhir_names.specs.Places.{place_of}
use Rattle.fhir_nodes.specs.Expressions.{expression_of}
use Rattle.fhir_entail.specs.Entailment.{entails}
use Rattle.fhir_entail.specs.Known.{Knows}
use Rattle.fhir_cert_check.specs.declared.held.Held.{Held}
use Rattle.fhir_cert_check.specs.Rule.{RuleName, constraint}
use Rattle.fhir_cert_check.specs.Rules.{held_expressions}

-- whether a text is that of an expression, or the key of a constraint without one
abbrev pub has_text : Held → Text → Bool
has_text h text = is_some (place_of h.texts text)

abbrev pub has_key : Held → Text → Bool
has_key h key = is_some (place_of h.keys key)

-- a constraint that must hold has that text, or that key and no text
abbrev pub is_text_of : Text → Constraint → Bool
is_text_of text c = must_hold c && option_map_or (bytes_eq text) c.expression false

abbrev pub is_key_of : Text → Constraint → Bool
is_key_of key c = must_hold c && (is_none c.expression && bytes_eq key c.key)

-- What is kept is what is so of these constraints.
pub record Holds (h : Held) (own : List Constraint) : Type 0 where
  pub known : Knows h.known (held_expressions own)
  pub texts : (text : Text) → has_text h text ≡ list_any (is_text_of text) own
  pub keys : (key : Text) → has_key h key ≡ list_any (is_key_of key) own

-- whether they answer a constraint of the base: by its text; else by what they entail, where it is read
abbrev pub answered_by : Held → List Constraint → Constraint → Bool
answered_by h own base =
    option_map_or (λ text. has_text h text || option_map_or (entails (held_expressions own)) (expression_of base) false) base.expression
    (has_key h base.key)

abbrev pub rule_by : Held → List Constraint → Constraint → List (Bool × RuleName)
rule_by h own base = if must_hold base then (answered_by h own base, constraint base.key) ∷ [] else []
