use Rattle.fhir_plain.proofs.Keeping.{all-kept}
use Rattle.fhir_plain.proofs.sayings.Sayings.of.Goals as goal

pub returns : goal.returns
returns c = all-kept c.in_ok-maps.maps c.args.package.now c.in_ok-maps.ensures
