use Rattle.std.proofs.Common.{ap}
use Rattle.std.specs.BTreeMap.{is_at}
use Rattle.std.specs.List.{list_any}
use Rattle.fhir_validator.specs.contracts.pair.ItemPairOrd.TheImpl.{cmp-value}
use Rattle.fhir_validator.proofs.listing.Listing.new.Goals as goal

pub returns-clause-marks : goal.returns-clause-marks
returns-clause-marks c = λ p. ap (list_any (is_at (cmp-value.it p))) c.new.ensures.empty
