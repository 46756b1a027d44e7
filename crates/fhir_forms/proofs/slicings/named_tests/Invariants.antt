use Rattle.std.proofs.Common.{◌≡◌, [], map, fold, take}
use Rattle.fhir_names.specs.Places.{Finds}
use Rattle.fhir_forms.specs.Slicings.{key_of, put_new}
use Rattle.fhir_forms.specs.CriteriaSeen.{tests_seen}
use Rattle.fhir_forms.proofs.slicings.named_tests.Given as goal

abbrev pub invariant-loop-place : goal.invariant-loop-place
invariant-loop-place l = record {
  tests : tests_seen l.tests.items ≡ fold put_new [] (take l.place l.discriminators);
  found : Finds l.seen (map key_of (tests_seen l.tests.items));
}
