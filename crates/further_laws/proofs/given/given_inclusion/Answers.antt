use Rattle.fhir_facets.specs.Unread.{as_given, binding}
use Rattle.fhir_conformance.specs.Conformance.{as_read}
use Rattle.further_laws.proofs.given.given_inclusion.Goals as goal

pub returns-clause-includes : goal.returns-clause-includes
returns-clause-includes c s derived base texts includes fair t conforms = includes (as_read texts as_given) (λ outermost place. fair) t conforms

pub returns-clause-fair : goal.returns-clause-fair
returns-clause-fair c s texts = (
  λ fair own base within has. (c.given_rules.ensures texts (binding base)).0 (fair own base within ((c.given_rules.ensures texts (binding own)).1 has)),
  λ each own base within given. (c.given_rules.ensures texts (binding base)).1 (each own base within ((c.given_rules.ensures texts (binding own)).0 given)),
)

pub returns-clause-nothing : goal.returns-clause-nothing
returns-clause-nothing c s profile t = (λ h. h, λ h. h)
