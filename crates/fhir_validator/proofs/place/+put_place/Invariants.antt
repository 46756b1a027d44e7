use Rattle.fhir_validator.proofs.place.+put_place.Given as goal

abbrev pub decreases-put_place : goal.decreases-put_place
decreases-put_place l = l.number
