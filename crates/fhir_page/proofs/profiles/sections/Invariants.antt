use Rattle.std.proofs.Common.{drop}
use Rattle.fhir_audit.specs.Views.{all_audited}
use Rattle.fhir_markup.specs.Views.{element_node}
use Rattle.fhir_page.proofs.Sections.{SoFar}
use Rattle.fhir_page.proofs.profiles.sections.Given as goal

abbrev pub invariant-loop-number : goal.invariant-loop-number
invariant-loop-number l = SoFar l.number (all_audited (drop l.number l.audited)) (all_audited l.audited) (element_node l.sections)
