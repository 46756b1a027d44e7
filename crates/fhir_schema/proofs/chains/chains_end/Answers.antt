use Rattle.std.proofs.Common.{◌≡◌, map, not, is_some, arith}
use Rattle.std.proofs.lemmas.Grind.{common_steps}
use Rattle.fhir_schema.proofs.Stepping.{ended}
use Rattle.fhir_schema.proofs.chains.chains_end.Goals as goal

pub returns : goal.returns
returns c =
    let all : c.loop-place.ends.items ≡ map (λ o. not (is_some o)) c.in_ok-places.places.items = grind (arith, common_steps) in
    ended c.args.table.now c.in_ok-places.places.items c.loop-place.ends.items c.in_ok-places.ensures all
