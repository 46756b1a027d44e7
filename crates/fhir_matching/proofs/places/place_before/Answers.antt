use Rattle.fhir_matching.proofs.Sides.{naming_found}
use Rattle.fhir_matching.proofs.places.place_before.Goals as goal

pub returns-then-is_named-clause-named : goal.returns-then-is_named-clause-named
returns-then-is_named-clause-named c = naming_found c.args.name.now c.args.members.now _ c.if-is_named.ensures.from
