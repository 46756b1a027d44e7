use Rattle.std.proofs.Common.{◌≡◌, map, take}
use Rattle.fhir_elements.specs.declared.reason.Reason.TheVariants.{NoTree}
use Rattle.fhir_elements.specs.Causes.{blamed_reason, reason_unless}
use Rattle.fhir_definition.specs.Blames.{AreBlamesAmong}
use Rattle.fhir_forms.specs.Forms.{forms_of, spells_apart}
use Rattle.fhir_forms.proofs.node_forms.NodeForms.of.Given as goal

abbrev pub invariant-loop-place : goal.invariant-loop-place
invariant-loop-place l = record {
  forms : map (λ v. v.items) l.tables.items ≡ map (forms_of l.table) (take l.place l.table);
  reasons : map blamed_reason l.blames.items ≡ map (λ d. reason_unless (spells_apart l.table d) NoTree) (take l.place l.table);
  elements : AreBlamesAmong l.table l.blames.items;
}
