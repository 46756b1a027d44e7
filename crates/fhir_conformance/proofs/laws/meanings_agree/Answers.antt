use Rattle.std.proofs.Common.{IsTrue, refl, sym, subst}
use Rattle.fhir_conformance.specs.Conformance.{Interpretation, meaning_at, outermost, is_resource_item, resource_at, conforms}
use Rattle.fhir_conformance.specs.Meeting.{Met, first, at_item, at_profile, at_child}
use Rattle.fhir_conformance.proofs.Agreeing.{same_bool, own_nearest}
use Rattle.fhir_conformance.proofs.Carrying.{AreCarried}
use Rattle.fhir_conformance.proofs.Stepping.{conforms_step}
use Rattle.fhir_conformance.proofs.laws.meanings_agree.Goals as goal

pub returns : goal.returns
returns c s x n none one other = same_bool (conforms s one (outermost x) x n) (conforms s other (outermost x) x n) (go one other) (go other one)
  where
    go : (M M' : Interpretation) → IsTrue (conforms s M (outermost x) x n) → IsTrue (conforms s M' (outermost x) x n)
    go M M' =
        conforms_step s (c.roots_are_roots.ensures.of_type s) (c.roots_are_roots.ensures.of_canonical s) M M' (λ a y m. Met s x n a.place (resource_at s a y) y m)
        (λ a y m met. subst (AreCarried (meaning_at M a) (meaning_at M' a)) (sym (none a.place (resource_at s a y) y m met)) tt)
        (λ a y m r met has. at_item met has)
        (λ a y m r met has. at_profile met has)
        (λ a y m k i z met has is. at_child i met has is refl refl)
        (outermost x) x n (first refl (own_nearest (is_resource_item s x) x) refl refl)
