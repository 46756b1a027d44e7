use Rattle.std.proofs.Common.{refl}
use Rattle.fhir_fp_values.specs.Comparing.{order_of}
use Rattle.fhir_fp_eval.proofs.laws.order_of_quantities.Goals as goal

pub returns : goal.returns
unfolding order_of
returns c w x y none nor own other = rw (none, nor, own, other) refl
