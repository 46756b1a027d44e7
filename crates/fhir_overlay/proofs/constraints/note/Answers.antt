use Rattle.fhir_overlay.proofs.Noting.{noted_behind}
use Rattle.fhir_overlay.proofs.constraints.note.Goals as goal

pub returns-clause-noted : goal.returns-clause-noted
returns-clause-noted c =
    noted_behind c.args.noted.now c.insert.new.self c.identity_of.result c.args.constraint.now c.identity_of.ensures c.in_ok-insert.ensures.updates.0
