use Rattle.std.proofs.Common.{sym, ◌∙◌}
use Rattle.fhir_decimal.proofs.Steps.{some_is}
use Rattle.fhir_decimal.proofs.Texts.{parts_taken, parts_again}
use Rattle.fhir_decimal.proofs.laws.grammar.Goals as goal

pub returns-clause-found : goal.returns-clause-found
returns-clause-found c = parts_taken

pub returns-clause-only : goal.returns-clause-only
returns-clause-only c = parts_again

pub returns-clause-one : goal.returns-clause-one
returns-clause-one c = λ bs p q h k. some_is p q (sym (parts_again bs p h) ∙ parts_again bs q k)
