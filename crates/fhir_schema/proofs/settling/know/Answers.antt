use Rattle.fhir_schema.proofs.Blamed.{known_one}
use Rattle.fhir_schema.proofs.settling.know.Goals as goal

pub returns-then-place-known : goal.returns-then-place-known
returns-then-place-known c =
    known_one c.args.known.now c.args.found.now c.args.place c.blame_at.result c.if-place-known.true c.blame_at.ensures.reason
