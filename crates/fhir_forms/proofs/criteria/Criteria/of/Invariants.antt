use Rattle.std.proofs.Common.{◌≡◌, map, take}
use Rattle.fhir_elements.specs.declared.reason.Reason.TheVariants.{UnsupportedSlicing}
use Rattle.fhir_elements.specs.Causes.{blamed_reason, reason_unless}
use Rattle.fhir_definition.specs.Blames.{AreBlamesAmong}
use Rattle.fhir_forms.specs.Criteria.{criteria_of, are_told_apart}
use Rattle.fhir_forms.specs.CriteriaSeen.{all_seen}
use Rattle.fhir_forms.proofs.criteria.Criteria.of.Given as goal

abbrev pub invariant-loop-place : goal.invariant-loop-place
invariant-loop-place l = record {
  criteria : all_seen l.lists.items ≡ map (criteria_of l.table) (take l.place l.table);
  reasons : map blamed_reason l.blames.items
      ≡ map (λ d. reason_unless (are_told_apart l.table d) UnsupportedSlicing) (take l.place l.table);
  elements : AreBlamesAmong l.table l.blames.items;
}
