-- Roots of definitions that can be used.
use Rattle.std.proofs.Common.{◌≡◌, ℕ, Bool, true, false, cond, not, Option, None, Some, is_none, option_map, IsTrue, refl, ap, subst}
use Rattle.std.specs.Option.{option_map_or, option_and_then}
use Rattle.std.proofs.lemmas.Bool.{and_parts, not-true}
use Rattle.std.proofs.lemmas.Option.{none-some, same_Some}
use Rattle.fhir_json.specs.Tree.{Text}
use Rattle.fhir_elements.specs.declared.reason.Reason.{Reason}
use Rattle.fhir_definition.specs.Definition.{Definition}
use Rattle.fhir_nodes.specs.declared.node.NodeRef.{NodeRef}
use Rattle.fhir_nodes.specs.Types.{is_resource, type_of_code}
use Rattle.fhir_nodes.specs.Urls.{url_place}
use Rattle.fhir_schema.specs.Settling.{reason_at}
use Rattle.fhir_schema.specs.Schemas.{SchemaValue, unusable, is_usable, root_element, root_in, root, type_root, is_concrete, resource_root}

abbrev node_of : ℕ → ℕ → NodeRef
node_of place element = record { definition = place; element = element }

usable_in : (s : SchemaValue) (place : ℕ) (n : NodeRef) → root_in s place ≡ Some n → IsTrue (is_usable s n.definition)
usable_in s place n = by (is_usable s place) (root_element s place) refl
  where
    by : (b : Bool) (o : Option ℕ) → is_usable s place ≡ b → cond b (option_map (node_of place) o) None ≡ Some n → IsTrue (is_usable s n.definition)
    by false o usable is = absurd (none-some n is)
    by true None usable is = absurd (none-some n is)
    by true (Some k) usable is = subst (λ (m : NodeRef). IsTrue (is_usable s m.definition)) (same_Some (node_of place k) n is) usable

-- the same of the place that was found, if one was
pub usable_at : (s : SchemaValue) (o : Option ℕ) (n : NodeRef) → option_and_then (root_in s) o ≡ Some n → IsTrue (is_usable s n.definition)
usable_at s None n is = absurd (none-some n is)
usable_at s (Some place) n is = usable_in s place n is

pub no_root : (s : SchemaValue) (url : Text) (reason : Reason) → unusable s url ≡ Some reason → root s url ≡ None
no_root s url reason = by (url_place s.definitions url)
  where
    by : (o : Option ℕ) → option_and_then (reason_at s.reasons) o ≡ Some reason → option_and_then (root_in s) o ≡ None
    by None is = refl
    by (Some place) is = ap (λ (r : Option Reason). cond (is_none r) (option_map (node_of place) (root_element s place)) None) is

pub concrete : (s : SchemaValue) (code : Text) (n : NodeRef) → resource_root s code ≡ Some n
    → (d : Definition) × (type_of_code s.definitions code ≡ Some d) × IsTrue (is_resource d) × (d.abstract ≡ false) × (type_root s code ≡ Some n)
concrete s code n = by (type_of_code s.definitions code) refl
  where
    within : (d : Definition) → type_of_code s.definitions code ≡ Some d → (b : Bool) → is_concrete d ≡ b → cond b (type_root s code) None ≡ Some n
        → (d : Definition) × (type_of_code s.definitions code ≡ Some d) × IsTrue (is_resource d) × (d.abstract ≡ false) × (type_root s code ≡ Some n)
    within d found true holds is =
        let parts = and_parts (is_resource d) (not d.abstract) holds in
        (d, found, parts.0, not-true d.abstract parts.1, is)
    within d found false holds is = absurd (none-some n is)

    by : (o : Option Definition) → type_of_code s.definitions code ≡ o → cond (option_map_or is_concrete o false) (type_root s code) None ≡ Some n
        → (d : Definition) × (type_of_code s.definitions code ≡ Some d) × IsTrue (is_resource d) × (d.abstract ≡ false) × (type_root s code ≡ Some n)
    by None found is = absurd (none-some n is)
    by (Some d) found is = within d found (is_concrete d) refl is
