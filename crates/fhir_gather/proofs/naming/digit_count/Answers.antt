use Rattle.fhir_gather.proofs.Digits.{count_fits, counted_on}
use Rattle.fhir_gather.proofs.naming.digit_count.Goals as goal

pub overflow_add-count : goal.overflow_add-count
overflow_add-count c = record { fits = count_fits c.loop-rest.count c.loop-rest.rest c.args.number c.loop-rest.invariant c.loop-rest-test.true c.ranges.number.fits }

pub loop-rest-preserved : goal.loop-rest-preserved
loop-rest-preserved c = counted_on c.loop-rest.count c.loop-rest.rest c.args.number c.loop-rest.invariant c.loop-rest-test.true
