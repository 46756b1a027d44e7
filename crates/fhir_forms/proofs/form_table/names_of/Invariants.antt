use Rattle.std.proofs.Common.{take}
use Rattle.fhir_forms.specs.Forms.{spellings}
use Rattle.fhir_forms.specs.FormTables.{Keeps}
use Rattle.fhir_forms.proofs.form_table.names_of.Given as goal

abbrev pub invariant-loop-place : goal.invariant-loop-place
invariant-loop-place l = Keeps l.names.meanings.items l.names.places (spellings (take l.place l.forms))
