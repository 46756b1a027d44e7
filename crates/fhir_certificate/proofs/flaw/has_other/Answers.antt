use Rattle.std.proofs.Common.{◌≡◌, Bool, Result, sym, ap, subst}
use Rattle.std.specs.Prelude.{IfOk}
use Rattle.fhir_json.specs.declared.memory.NoMemory.{NoMemory}
use Rattle.fhir_certificate.specs.Reading.{reading}
use Rattle.fhir_certificate.specs.Flaws.{fault_of_lines, is_other}
use Rattle.fhir_certificate.proofs.Flawed.{other_of}
use Rattle.fhir_certificate.proofs.flaw.has_other.Goals.{in-Ok, in-Err}
use Rattle.fhir_certificate.proofs.flaw.has_other.Goals as goal

pub returns : goal.returns
returns c =
    let s = c.args.schema.now in
    let bytes = c.args.bytes.now in
    let Told : Result Bool NoMemory → Type 0 = λ r. IfOk r (λ has. has ≡ is_other (fault_of_lines (reading s bytes))) in
    elim c.match-read.branch [
      | in-Ok w ↦ subst Told (sym w.result-is) (ap (λ r. is_other (fault_of_lines r)) (sym w.in-Ok.ensures.exact))
      | in-Err w ↦
          subst Told (sym w.result-is)
          (other_of s bytes w.in-Err.fault w.is_other.result w.in-Err.ensures.exact w.is_other.ensures.told w.is_other.ensures.other)
    ]
