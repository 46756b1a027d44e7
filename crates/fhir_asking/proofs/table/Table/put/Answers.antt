use Rattle.fhir_asking.proofs.Maps.{learned, longer}
use Rattle.fhir_asking.proofs.table.Table.put.Goals as goal

pub returns-clause-learns : goal.returns-clause-learns
returns-clause-learns g c =
    rw (← c.self.view_is)
    (learned c.self.inside.answers c.insert.new.self c.args.name c.args.answer c.in_ok-insert.ensures.updates)

pub returns-clause-longer : goal.returns-clause-longer
returns-clause-longer g c =
    let unknown = rw (← c.self.view_is) at c.requires in
    rw (← c.self.view_is)
    (longer c.self.inside.answers c.insert.new.self c.args.name c.in_ok-insert.field-0 unknown c.in_ok-insert.ensures.old c.in_ok-insert.ensures.len)
