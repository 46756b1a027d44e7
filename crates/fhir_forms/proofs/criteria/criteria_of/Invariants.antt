use Rattle.std.proofs.Common.{◌≡◌, map, length}
use Rattle.std.specs.List.{list_all, range_with_len}
use Rattle.fhir_elements.specs.declared.reason.Reason.TheVariants.{UnsupportedSlicing}
use Rattle.fhir_elements.specs.Causes.{blamed_reason, reason_unless, is_blame_among}
use Rattle.fhir_forms.specs.Criteria.{criteria_in, is_told_apart}
use Rattle.fhir_forms.specs.CriteriaSeen.{criteria_seen}
use Rattle.fhir_forms.proofs.criteria.criteria_of.Given as goal

abbrev pub invariant-loop-place : goal.invariant-loop-place
invariant-loop-place l = record {
  criteria : map (λ v. criteria_seen v.items) l.lists.items ≡ map (criteria_in l.table l.definition) (range_with_len 0 l.place);
  reason : blamed_reason l.blame ≡ reason_unless (list_all (is_told_apart l.table l.definition) (range_with_len 0 l.place)) UnsupportedSlicing;
  element : is_blame_among (length l.definition.elements) l.blame;
}
