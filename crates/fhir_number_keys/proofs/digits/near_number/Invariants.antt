use Rattle.std.proofs.Common.{◌≡◌, ◌*◌, take, min}
use Rattle.fhir_decimal.specs.Value.{number_of}
use Rattle.fhir_number_keys.specs.Keys.{far}
use Rattle.fhir_number_keys.proofs.digits.near_number.Given as goal

abbrev pub invariant-loop-byte : goal.invariant-loop-byte
invariant-loop-byte l = l.number ≡ min (number_of (take l.byte-index l.text)) (2 * far)
