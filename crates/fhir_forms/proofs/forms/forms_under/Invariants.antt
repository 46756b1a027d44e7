use Rattle.std.proofs.Common.{◌≡◌, take}
use Rattle.fhir_forms.specs.Forms.{forms_under}
use Rattle.fhir_forms.proofs.forms.forms_under.Given as goal

abbrev pub invariant-loop-slot : goal.invariant-loop-slot
invariant-loop-slot l = l.forms.items ≡ forms_under l.table l.definition (take l.slot-index l.under)
