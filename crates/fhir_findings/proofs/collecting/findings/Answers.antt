use Rattle.std.proofs.Common.{List, ◌++◌, drop, map, sym, ap, ◌∙◌}
use Rattle.std.proofs.lemmas.List.{drop-map, take_rest}
use Rattle.fhir_package.specs.declared.survey.FileFault.{FileFault}
use Rattle.fhir_package.specs.Surveying.{FileFault as Fault}
use Rattle.fhir_package.specs.SurveyView.{fault_seen}
use Rattle.fhir_findings.specs.Finding.{faults_told}
use Rattle.fhir_findings.proofs.collecting.findings.Goals as goal

pub returns-clause-faults : goal.returns-clause-faults
returns-clause-faults c =
    c.in_ok-push_faults.ensures.faults
    ∙ ap (λ (fs : List FileFault). faults_told c.loop-place.found.items ++ map fault_seen fs) (take_rest c.faults-faults.result.now c.loop-place.told)
    ∙ ap (λ (fs : List Fault). faults_told c.loop-place.found.items ++ fs)
    (sym (drop-map fault_seen c.loop-place.told c.faults-faults.result.now) ∙ ap (drop c.loop-place.told) c.faults-faults.ensures)
    ∙ c.loop-place.invariant.1
