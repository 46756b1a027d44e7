use Rattle.std.proofs.Common.{◌≡◌, ◌++◌, map, take}
use Rattle.fhir_forms.specs.Forms.{form_of}
use Rattle.fhir_forms.proofs.forms.push_forms_with.Given as goal

abbrev pub invariant-loop-entry : goal.invariant-loop-entry
invariant-loop-entry l =
    l.forms.items ≡ l.initial.forms.items ++ map (λ entry. form_of l.table l.definition l.slot l.element entry.code) (take l.entry-index l.entry-items)
