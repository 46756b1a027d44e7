use Rattle.std.proofs.Common.{IfOk, length, subst, ap, ◌∙◌}
use Rattle.fhir_elements.specs.Causes.{is_blame_among}
use Rattle.fhir_forms.proofs.Blamed.{slots_each}
use Rattle.fhir_forms.proofs.node_forms.forms_of.Goals as goal

pub returns-then-is_type-clause-element : goal.returns-then-is_type-clause-element
returns-then-is_type-clause-element c =
    subst (λ count. IfOk c.type_forms.result (λ f. is_blame_among count f.blame))
    (ap length c.requires.slots ∙ slots_each c.args.table.now c.args.definition.now) c.type_forms.ensures.element
