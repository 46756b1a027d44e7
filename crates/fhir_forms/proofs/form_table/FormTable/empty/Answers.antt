use Rattle.std.proofs.Common.{sym, subst}
use Rattle.fhir_forms.specs.FormTables.{IsTable}
use Rattle.fhir_forms.proofs.form_table.FormTable.empty.Goals as goal

pub invariant_of-result : goal.invariant_of-result
invariant_of-result c =
    subst (IsTable c.new-2.result.meanings.items c.new-2.result.places) (sym c.new.ensures.items)
    (record { means = c.new-2.ensures.means; finds = c.new-2.ensures.finds; apart = c.new-2.ensures.apart })
