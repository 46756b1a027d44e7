use Rattle.std.proofs.Common.{[], ◌∷◌, Bool, Option, is_some, refl, ap}
use Rattle.std.specs.Prelude.{Ok}
use Rattle.fhir_fp_values.specs.Values.{SystemValue, truth}
use Rattle.fhir_fp_eval.specs.Meaning.{Found, den}
use Rattle.fhirpath_laws.proofs.Onward.{no_value}
use Rattle.fhirpath_laws.proofs.paths.items_with_values.Goals as goal

said : Bool → Found
said b = Ok (truth b ∷ [])

answered : Option SystemValue → Found
answered value = Ok (truth (is_some value) ∷ [])

pub returns-clause-one : goal.returns-clause-one
unfolding den answered
returns-clause-one c w a x y value h e = rw (h) (ap answered e)

pub returns-clause-without : goal.returns-clause-without
unfolding den answered
returns-clause-without c w a x y h e = rw (h) (ap answered e)

pub returns-clause-several : goal.returns-clause-several
unfolding den said
returns-clause-several c w a x v u vs h = rw (h) (ap said (no_value v u vs))

pub returns-clause-nothing : goal.returns-clause-nothing
unfolding den
returns-clause-nothing c w a x h = rw (h) refl
