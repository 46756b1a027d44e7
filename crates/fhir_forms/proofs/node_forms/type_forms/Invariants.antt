use Rattle.std.proofs.Common.{◌≡◌, map, take, length}
use Rattle.std.specs.List.{list_all}
use Rattle.fhir_elements.specs.declared.reason.Reason.TheVariants.{NoTree}
use Rattle.fhir_elements.specs.Causes.{blamed_reason, reason_unless, is_blame_among}
use Rattle.fhir_forms.specs.Forms.{are_apart, if_apart, forms_under}
use Rattle.fhir_forms.proofs.node_forms.type_forms.Given as goal

abbrev pub invariant-loop-place : goal.invariant-loop-place
invariant-loop-place l = record {
  forms : l.tables.items ≡ map (λ s. if_apart (forms_under l.table l.definition s)) (take l.place l.slots);
  reason : blamed_reason l.blame
      ≡ reason_unless (list_all (λ s. are_apart (forms_under l.table l.definition s)) (take l.place l.slots)) NoTree;
  element : is_blame_among (length l.slots) l.blame;
}
