-- Judgements of four kinds: what holds whatever unread rules mean, what holds where those do that a user vouches for, what hangs on
-- others, and what doesn't hold whatever they mean.
use Rattle.std.specs.Prelude.{Bool, true, false}
use Rattle.fhir_facets.specs.Unread.{Reading, strict, as_given, lenient}
use Rattle.fhir_validator.specs.declared.judgement.Judgement.{Judgement}
use Rattle.fhir_validator.specs.declared.judgement.Judgement.TheVariants.{Holds, Given, Open, Fails}

-- whether what has the judgement holds by a reading
abbrev pub under : Reading → Judgement → Bool
under reading Holds = true
under strict Given = false
under as_given Given = true
under lenient Given = true
under strict Open = false
under as_given Open = false
under lenient Open = true
under reading Fails = false

abbrev pub same_judgement : Judgement → Judgement → Bool
same_judgement Holds Holds = true
same_judgement Given Given = true
same_judgement Open Open = true
same_judgement Fails Fails = true
same_judgement _ _ = false
