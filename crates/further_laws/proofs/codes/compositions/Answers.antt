use Rattle.further_laws.proofs.Sets.{of_parts, of_one_system}
use Rattle.further_laws.proofs.codes.compositions.Goals as goal

pub returns-clause-parts : goal.returns-clause-parts
returns-clause-parts c = λ p known t x. of_parts p known t x c.algebra.ensures.union_of

pub returns-clause-of_system : goal.returns-clause-of_system
returns-clause-of_system c = λ p known t x. of_one_system p known t x c.algebra.ensures.common c.algebra.ensures.of_system
