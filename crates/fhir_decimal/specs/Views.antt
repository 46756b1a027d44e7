-- A decimal of the program, as its parts.
use Rattle.fhir_decimal.specs.Text.{Parts}
use Rattle.fhir_decimal.specs.declared.decimal.Decimal.{Decimal}

abbrev pub parts_seen : Decimal → Parts
parts_seen d = record { negative = d.negative; whole = d.whole.now; fraction = d.fraction.now; lowers = d.lowers; exponent = d.exponent.now }
