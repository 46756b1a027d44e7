use Rattle.std.proofs.Common.{ap, ◌∙◌}
use Rattle.std.specs.Map.{lookup}
use Rattle.std.specs.Str.{bytes_eq}
use Rattle.fhir_names.proofs.Named.{lookup-named}
use Rattle.fhir_inheritance.proofs.named.Named.get.Goals as goal

pub returns : goal.returns
returns g c =
    c.get.ensures.value ∙ lookup-named c.args.name.now c.self.inside.things.entries
    ∙ ap (lookup (bytes_eq c.args.name.now)) c.self.view_is
