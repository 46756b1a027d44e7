use Rattle.std.proofs.Common.{◌≡◌, true, take}
use Rattle.std.specs.List.{list_all, flat_map}
use Rattle.fhir_forms.specs.Criteria.{told_criteria, is_told}
use Rattle.fhir_forms.specs.CriteriaSeen.{criteria_seen, tests_seen}
use Rattle.fhir_forms.proofs.criteria.told_criteria.Given as goal

abbrev pub invariant-loop-test : goal.invariant-loop-test
invariant-loop-test l = record {
  criteria : criteria_seen l.criteria.items ≡ flat_map (told_criteria l.slots l.elements l.place) (tests_seen (take l.test-index l.tests));
  all : list_all (is_told l.slots l.elements l.place) (tests_seen (take l.test-index l.tests)) ≡ true;
}
