use Rattle.fhir_prims.proofs.Decimals.{by_grammar}
use Rattle.fhir_prims.proofs.laws.decimal_numbers.Goals as goal

pub returns : goal.returns
returns c s = by_grammar s (c.grammar.ensures.found s) (c.grammar.ensures.only s)
