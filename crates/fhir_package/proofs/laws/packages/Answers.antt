use Rattle.fhir_package.proofs.Files.{all_lem, only_lem, distinct_lem, clashes_lem}
use Rattle.fhir_package.proofs.laws.packages.Goals as goal

pub returns-clause-all : goal.returns-clause-all
returns-clause-all c = all_lem c.reading_agrees.ensures c.equivalence.ensures.reflexive

pub returns-clause-only : goal.returns-clause-only
returns-clause-only c = only_lem c.reading_agrees.ensures c.equivalence.ensures.reflexive

pub returns-clause-distinct : goal.returns-clause-distinct
returns-clause-distinct c = distinct_lem c.reading_agrees.ensures c.equivalence.ensures.reflexive

pub returns-clause-clashes : goal.returns-clause-clashes
returns-clause-clashes c = clashes_lem c.reading_agrees.ensures c.equivalence.ensures.reflexive
