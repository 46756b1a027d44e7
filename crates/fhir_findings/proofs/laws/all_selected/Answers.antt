use Rattle.fhir_findings.specs.Finding.{all_unusable}
use Rattle.fhir_findings.proofs.Listed.{all_kept}
use Rattle.fhir_findings.proofs.laws.all_selected.Goals as goal

pub returns : goal.returns
returns c = λ s survey. all_kept (all_unusable s survey)
