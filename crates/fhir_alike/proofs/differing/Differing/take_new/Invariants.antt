use Rattle.std.proofs.Common.{List}
use Rattle.fhir_json.specs.Tree.{Text}
use Rattle.fhir_package.specs.Definitions.{of_kind}
use Rattle.fhir_alike.specs.Differing.{DifferAmong}
use Rattle.fhir_alike.proofs.Differs.{AreTaken}
use Rattle.fhir_alike.proofs.differing.Differing.take_new.Given as goal

abbrev pub invariant-loop-place : goal.invariant-loop-place
invariant-loop-place l =
    (seen : List Text) → DifferAmong l.kind l.old l.new seen l.fn.self.urls → AreTaken l.kind l.old l.new (of_kind l.kind l.new) l.place seen l.self.urls
