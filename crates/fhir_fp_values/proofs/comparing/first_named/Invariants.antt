use Rattle.std.proofs.Common.{◌≡◌, drop}
use Rattle.fhir_instance.specs.Items.{kids_in}
use Rattle.fhir_instance.specs.View.{named_in}
use Rattle.fhir_fp_values.specs.Comparing.{first_named}
use Rattle.fhir_fp_values.proofs.comparing.first_named.Given as goal

abbrev pub invariant-loop-kid : goal.invariant-loop-kid
invariant-loop-kid l = first_named l.name (kids_in (named_in (drop l.kid-index l.kids))) ≡ first_named l.name (kids_in (named_in l.kids))
