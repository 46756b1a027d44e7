use Rattle.std.proofs.Common.{◌≡◌, drop}
use Rattle.fhir_package.specs.FilesView.{folder_files}
use Rattle.fhir_package.specs.Surveying.{survey_each}
use Rattle.fhir_package.proofs.survey.Survey.take_each.Given as goal

abbrev pub invariant-loop-file : goal.invariant-loop-file
invariant-loop-file g l = survey_each (folder_files l.files) l.fn.self ≡ survey_each (folder_files (drop l.file-index l.files)) l.self
