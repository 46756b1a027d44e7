use Rattle.std.proofs.Common.{ap, ◌∙◌}
use Rattle.fhir_names.specs.Places.{place_of}
use Rattle.fhir_names.proofs.Named.{lookup-named}
use Rattle.fhir_names.proofs.index.Index.get.Goals as goal

pub returns : goal.returns
returns c =
    c.copied.ensures ∙ c.get.ensures.value ∙ lookup-named c.args.name.now c.self.inside.places.entries
    ∙ ap (λ p. place_of p c.args.name.now) c.self.view_is
