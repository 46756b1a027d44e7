-- A root that is found is a root.
use Rattle.std.proofs.Common.{◌≡◌, ℕ, Bool, true, false, Option, Some, None, cond, refl, ap, ◌∙◌, subst, IsTrue, eq-eqb}
use Rattle.std.specs.Option.{option_map, option_and_then}
use Rattle.std.proofs.lemmas.Option.{none-some, same_Some}
use Rattle.fhir_nodes.specs.declared.node.NodeRef.{NodeRef}
use Rattle.fhir_definition.specs.Snapshot.{is_at}
use Rattle.fhir_schema.specs.Schemas.{SchemaValue, is_usable, root_element, root_in, is_root_node}

module _ (s : SchemaValue) (n : NodeRef) where
  root_at : (place : ℕ) → root_in s place ≡ Some n → IsTrue (is_root_node s n)
  root_at place = go (is_usable s place) (root_element s place) refl
    where
      go : (b : Bool) (o : Option ℕ) → root_element s place ≡ o → cond b (option_map (λ e. record { definition = place; element = e }) o) None ≡ Some n
          → IsTrue (is_root_node s n)
      go false o is e = absurd (none-some n e)
      go true None is e = absurd (none-some n e)
      go true (Some k) is e =
          subst (λ m. IsTrue (is_root_node s m)) (same_Some _ _ e) (ap (is_at k) is ∙ eq-eqb k k refl)

  pub found : (o : Option ℕ) → option_and_then (root_in s) o ≡ Some n → IsTrue (is_root_node s n)
  found None e = absurd (none-some n e)
  found (Some place) e = root_at place e
