use Rattle.std.proofs.Common.{◌≡◌, Err, Result, sym, ap, subst, ◌∙◌, rules}
use Rattle.std.specs.Prelude.{IsUtf8}
use Rattle.std.specs.Option.{option_map_or}
use Rattle.fhir_json.specs.Memory.{GivesOr}
use Rattle.fhir_json.specs.Tree.{Text}
use Rattle.fhir_certificate.specs.declared.fault.CertFault.{CertFault}
use Rattle.fhir_certificate.specs.declared.fault.CertFault.TheVariants.{WrongFormat}
use Rattle.fhir_certificate.specs.Certificate.{CertificateValue}
use Rattle.fhir_certificate.specs.Judging.{certificate_or_fault}
use Rattle.fhir_certificate.specs.Faults.{is_no_memory}
use Rattle.fhir_certificate.specs.Reading.{written_of}
use Rattle.fhir_certificate.proofs.Judging.{reading_other, reading_text}
use Rattle.fhir_certificate.proofs.reading.read_exactly.Goals as goal

pub returns-in-Ok : goal.returns-in-Ok
returns-in-Ok c =
    let s = c.args.schema.now in
    let u : IsUtf8 c.args.bytes.now = search rules in
    let text : c.in-Ok.text.now ≡ c.args.bytes.now = search rules in
    let e = reading_text s c.args.bytes.now u ∙ ap (λ (t : Text). option_map_or (certificate_or_fault s) (written_of t) (Err WrongFormat)) (sym text) in
    subst (λ (answer : Result CertificateValue CertFault). GivesOr is_no_memory (λ c. c) c.read_text.result answer) (sym e) c.read_text.ensures

pub returns-in-Err : goal.returns-in-Err
returns-in-Err c = reading_other c.args.schema.now c.args.bytes.now c.in-Err.ensures.cases.0
