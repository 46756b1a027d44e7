use Rattle.fhir_registry.proofs.Right.{shared_ok}
use Rattle.fhir_registry.proofs.schemas.schema_for.Goals as goal

pub returns-in-Some : goal.returns-in-Some
returns-in-Some c =
    shared_ok c.share.result c.args.definitions.now c.args.schemas.now c.args.keys c.in-Some.ensures.0 c.in-Some.kept.now c.same_sets.ensures.restrictions c.requires
    c.in-Some.ensures.1 c.in-Some.ensures.2 c.share.ensures.value c.share.ensures.keys
