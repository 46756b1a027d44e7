use Rattle.std.proofs.Common.{arith}
use Rattle.fhir_prims.proofs.Bounded.{from_start}
use Rattle.fhir_prims.proofs.numbers.are_digits_to.Goals as goal

pub loop-digit-init : goal.loop-digit-init
loop-digit-init c = (from_start c.args.most c.args.digits.now, omega arith)
