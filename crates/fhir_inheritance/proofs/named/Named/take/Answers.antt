use Rattle.std.proofs.Common.{None, ap, ◌∙◌}
use Rattle.std.specs.Map.{lookup}
use Rattle.std.specs.Str.{bytes_eq}
use Rattle.fhir_names.proofs.Named.{lookup-named}
use Rattle.fhir_inheritance.proofs.Maps.{gets}
use Rattle.fhir_inheritance.proofs.named.Named.take.Goals as goal

pub returns-clause-taken : goal.returns-clause-taken
returns-clause-taken g c =
    c.remove.ensures.value ∙ lookup-named c.args.name.now c.self.inside.things.entries
    ∙ ap (lookup (bytes_eq c.args.name.now)) c.self.view_is

pub returns-clause-gone : goal.returns-clause-gone
returns-clause-gone g c =
    rw (← c.self.view_is)
    (gets c.self.inside.things c.remove.new.self c.args.name.now None c.remove.ensures.updates)
