use Rattle.std.proofs.Common.{List, ◌++◌, drop, sym, ap, ◌∙◌}
use Rattle.std.proofs.lemmas.List.{drop-map}
use Rattle.std.proofs.lemmas.List.Folds.{drop_split}
use Rattle.std.specs.List.{slice_range}
use Rattle.fhir_package.specs.Surveying.{FileFault as Fault}
use Rattle.fhir_package.specs.SurveyView.{fault_seen}
use Rattle.fhir_findings.specs.Finding.{faults_told}
use Rattle.fhir_findings.proofs.Listed.{passed}
use Rattle.fhir_findings.proofs.collecting.push_before.Goals as goal

pub returns-clause-faults : goal.returns-clause-faults
returns-clause-faults c =
    ap (λ (fs : List Fault). faults_told c.push_faults.new.into.items ++ fs) (drop-map fault_seen c.place_behind-end.result c.args.faults.now)
    ∙ passed fault_seen (faults_told c.args.into.now.items) (faults_told c.push_faults.new.into.items) (drop c.args.from c.args.faults.now)
    (slice_range c.args.faults.now c.args.from c.place_behind-end.result) (drop c.place_behind-end.result c.args.faults.now)
    c.in_ok-push_faults.ensures.faults (drop_split c.args.faults.now c.args.from c.place_behind-end.result c.place_behind-end.ensures.least)
    ∙ ap (λ (fs : List Fault). faults_told c.args.into.now.items ++ fs) (sym (drop-map fault_seen c.args.from c.args.faults.now))
