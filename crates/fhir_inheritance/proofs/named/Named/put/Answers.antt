use Rattle.std.proofs.Common.{Some, string_bytes}
use Rattle.fhir_inheritance.proofs.Maps.{gets}
use Rattle.fhir_inheritance.proofs.named.Named.put.Goals as goal

pub returns : goal.returns
returns g c =
    rw (← c.self.view_is)
    (gets c.self.inside.things c.insert.new.self (string_bytes c.args.name) (Some c.args.thing) c.in_ok-insert.ensures.updates)
