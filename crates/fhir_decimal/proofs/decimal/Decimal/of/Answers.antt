use Rattle.fhir_decimal.specs.Views.{parts_seen}
use Rattle.fhir_decimal.proofs.Texts.{read_right}
use Rattle.fhir_decimal.proofs.decimal.Decimal.of.Goals as goal

pub returns-clause-grammar : goal.returns-clause-grammar
returns-clause-grammar c = read_right parts_seen c.args.text.now c.parts_of.result c.parts_of.ensures
