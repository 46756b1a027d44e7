use Rattle.std.proofs.Common.{IsTrue}
use Rattle.fhir_facets.specs.Unread.{Unread}
use Rattle.fhir_conformance.specs.Conformance.{meaning_at, outermost}
use Rattle.fhir_conformance.specs.Meeting.{unread_at}
use Rattle.fhir_conformance.proofs.Lists.{all_of_each}
use Rattle.fhir_conformance.proofs.Stepping.{conforms_step}
use Rattle.fhir_conformance.proofs.laws.positive.Goals as goal

pub returns-clause-items : goal.returns-clause-items
returns-clause-items c s less more along a x n =
    conforms_step s (c.roots_are_roots.ensures.of_type s) (c.roots_are_roots.ensures.of_canonical s) less more (λ a x n. Unit {0})
    (λ a x n reach. all_of_each (λ (u : Unread). IsTrue (meaning_at less a u) → IsTrue (meaning_at more a u)) (λ u. along u a.outermost a.place) (unread_at s x n))
    (λ a x n r reach has. tt)
    (λ a x n r reach has. tt)
    (λ a x n k i y reach has is. tt)
    a x n tt

pub returns-clause-resources : goal.returns-clause-resources
returns-clause-resources c s less more along profile t conforms = record {
  node = conforms.node;
  itself = conforms.itself;
  usable = conforms.usable;
  typed = conforms.typed;
  holds = returns-clause-items c s less more along (outermost conforms.itself) conforms.itself conforms.node conforms.holds;
}
