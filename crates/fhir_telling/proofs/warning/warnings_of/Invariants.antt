use Rattle.std.proofs.Common.{◌≡◌, length, codes, All}
use Rattle.fhir_json.specs.Views.{trees_of}
use Rattle.fhir_replies.specs.Outcomes.{HasSeverity}
use Rattle.fhir_telling.proofs.warning.warnings_of.Given as goal

abbrev pub invariant-loop-url : goal.invariant-loop-url
invariant-loop-url l = (length l.warnings.items ≡ l.url-index) × All (HasSeverity (codes "warning")) (trees_of l.warnings.items)
