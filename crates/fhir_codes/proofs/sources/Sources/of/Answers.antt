use Rattle.fhir_codes.proofs.Tabling.{no_numbers_filled}
use Rattle.fhir_codes.proofs.sources.Sources.of.Goals as goal

pub returns-clause-filled : goal.returns-clause-filled
returns-clause-filled c =
    no_numbers_filled c.args.from.now c.new.result.items c.in_ok-numbers.numbers.items c.in_ok-numbers.ensures.count c.in_ok-numbers.ensures.none
