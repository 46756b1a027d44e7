use Rattle.std.proofs.Common.{inl, inr}
use Rattle.fhir_json.specs.Reading.{is_no_memory}
use Rattle.fhir_telling.proofs.Owned.{as_ok, not_read}
use Rattle.fhir_telling.proofs.own.told_by_own.Goals as goal

pub returns-in-Ok : goal.returns-in-Ok
returns-in-Ok c = as_ok (λ told so. inl so) c.told_of_resource.result (c.told_of_resource.ensures c.in-Ok.ensures.found)

pub returns-in-Err : goal.returns-in-Err
returns-in-Err c =
    as_ok (λ told so. inr so) c.told_fault.result
    (c.told_fault.ensures (λ e t reads. not_read (is_no_memory c.in-Err.fault) c.in-Err.fault t e (c.in-Err.ensures.only t reads)))
