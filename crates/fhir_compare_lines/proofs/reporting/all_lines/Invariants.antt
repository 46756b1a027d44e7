use Rattle.std.proofs.Common.{map, string_bytes}
use Rattle.fhir_compare.specs.Views.{said_of}
use Rattle.fhir_lines.proofs.OnEach.{SoFar}
use Rattle.fhir_compare_lines.specs.Report.{IsTold}
use Rattle.fhir_compare_lines.proofs.reporting.all_lines.Given as goal

abbrev pub invariant-loop-one : goal.invariant-loop-one
invariant-loop-one l =
    SoFar (IsTold l.format l.sources.old.survey.now.definitions l.sources.new.survey.now.definitions) said_of l.compared l.one-index
    (map string_bytes l.lines.items)
