use Rattle.std.proofs.Common.{sym, ap, ◌∙◌}
use Rattle.fhir_certificate.specs.Views.{all_stated}
use Rattle.fhir_certificate.proofs.Naming.{loaded_are}
use Rattle.fhir_certificate.proofs.stated.Definitions.are_loaded.Goals as goal

pub returns-in-Some : goal.returns-in-Some
returns-in-Some c =
    c.are_loaded.ensures
    ∙ loaded_are c.args.schema.now c.args.self.now c.in-Some.stated.items c.deref.result.now (sym c.self.view_is ∙ ap all_stated c.in-Some.is) c.deref.ensures.value
