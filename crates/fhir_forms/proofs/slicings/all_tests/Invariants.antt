use Rattle.std.proofs.Common.{◌≡◌, map, take}
use Rattle.fhir_forms.specs.Slicings.{discriminators_of}
use Rattle.fhir_forms.specs.CriteriaSeen.{lists_of_tests}
use Rattle.fhir_forms.proofs.slicings.all_tests.Given as goal

abbrev pub invariant-loop-element : goal.invariant-loop-element
invariant-loop-element l = lists_of_tests l.all.items ≡ map discriminators_of (take l.element-index l.elements)
