use Rattle.fhir_conformance.proofs.judging.judge_expression.Goals as goal

pub returns-clause-carried : goal.returns-clause-carried
returns-clause-carried c = λ must. c.of.ensures.carried _

pub returns-clause-vouched : goal.returns-clause-vouched
returns-clause-vouched c = c.of.ensures.vouched _
