use Rattle.std.proofs.Common.{◌≡◌, List, IsTrue, refl, sym, ◌∙◌}
use Rattle.std.specs.List.{Contains}
use Rattle.fhir_json.specs.Tree.{Text}
use Rattle.fhir_nodes.specs.declared.node.NodeRef.{NodeRef}
use Rattle.fhir_instance.specs.Items.{Item, Place}
use Rattle.fhir_facets.specs.Unread.{Unread, as_given, is_given}
use Rattle.fhir_conformance.specs.Conformance.{as_read, meaning_at, outermost, is_resource_item, resource_at, conforms}
use Rattle.fhir_conformance.specs.Meeting.{Met, first, at_item, at_profile, at_child, unread_at}
use Rattle.fhir_conformance.proofs.Hanging.{all_contained}
use Rattle.fhir_conformance.proofs.Stepping.{conforms_step}
use Rattle.fhir_conformance.proofs.Agreeing.{same_bool, own_nearest}
use Rattle.fhir_conformance.proofs.laws.given_texts.Goals as goal

pub returns-clause-more : goal.returns-clause-more
returns-clause-more c s texts others along profile t =
    c.positive.ensures.resources s (as_read texts as_given) (as_read others as_given) (λ u o p. along u) profile t

pub returns-clause-others : goal.returns-clause-others
returns-clause-others c s x n texts others alike =
    same_bool (conforms s (as_read texts as_given) (outermost x) x n) (conforms s (as_read others as_given) (outermost x) x n)
    (go texts others alike) (go others texts (λ place r y m met u has. sym (alike place r y m met u has)))
  where
    go : (one two : List Text)
        → ((place : Place) (r y : Item) (m : NodeRef) → Met s x n place r y m → (u : Unread) → Contains (unread_at s y m) u → is_given one u ≡ is_given two u)
        → IsTrue (conforms s (as_read one as_given) (outermost x) x n) → IsTrue (conforms s (as_read two as_given) (outermost x) x n)
    go one two same =
        conforms_step s (c.roots_are_roots.ensures.of_type s) (c.roots_are_roots.ensures.of_canonical s) (as_read one as_given) (as_read two as_given)
        (λ a y m. Met s x n a.place (resource_at s a y) y m)
        (λ a y m met. all_contained (λ u. IsTrue (meaning_at (as_read one as_given) a u) → IsTrue (meaning_at (as_read two as_given) a u)) (unread_at s y m)
        (λ u has h. sym (same a.place (resource_at s a y) y m met u has) ∙ h))
        (λ a y m r met has. at_item met has)
        (λ a y m r met has. at_profile met has)
        (λ a y m k i z met has is. at_child i met has is refl refl)
        (outermost x) x n (first refl (own_nearest (is_resource_item s x) x) refl refl)
