use Rattle.std.proofs.Common.{◌≡◌, Option, sym, ap, subst}
use Rattle.std.specs.Prelude.{IfOk}
use Rattle.fhir_certificate.specs.declared.fault.CertFault.{CertFault}
use Rattle.fhir_certificate.specs.Flaws.{fault_of_flaws, fault_of_lines}
use Rattle.fhir_certificate.proofs.Judging.{reading_other}
use Rattle.fhir_certificate.proofs.flaw.flaws.Goals as goal

pub returns-in-Err : goal.returns-in-Err
returns-in-Err c =
    subst (λ (o : Option CertFault). IfOk c.utf8_flaws.result (λ flaws. fault_of_flaws flaws.items ≡ o))
    (sym (ap fault_of_lines (reading_other c.args.schema.now c.args.bytes.now c.in-Err.ensures.cases.0))) c.utf8_flaws.ensures
