use Rattle.std.proofs.Common.{◌++◌}
use Rattle.fhir_overlay.proofs.Noting.{put_behind}
use Rattle.fhir_overlay.proofs.constraints.add_new.Goals as goal

pub returns-in_ok-push-clause-noted : goal.returns-in_ok-push-clause-noted
returns-in_ok-push-clause-noted c = λ cs h.
    put_behind c.note.new.noted cs c.args.added.now.items c.push.new.self.items c.args.constraint.now c.in_ok-constraint.constraint
    c.in_ok-constraint.ensures c.in_ok-push.ensures.items (c.in_ok-note.ensures.noted (cs ++ c.args.added.now.items) h)
