use Rattle.std.proofs.Common.{◌≡◌, length, [], ap, sym, ◌∙◌, subst}
use Rattle.std.specs.Option.{option_map_or}
use Rattle.fhir_elements.specs.Causes.{is_blame_among}
use Rattle.fhir_nodes.specs.Contents.{elements_in}
use Rattle.fhir_nodes.specs.Urls.{url_place}
use Rattle.fhir_schema.specs.Blaming.{blame_at}
use Rattle.fhir_schema.proofs.Blamed.{among_at}
use Rattle.fhir_schema.proofs.schema.Schema.blame.Goals as goal

pub returns-in-Some-clause-element : goal.returns-in-Some-clause-element
returns-in-Some-clause-element c =
    let same : c.self.inside.table ≡ c.args.self.now.definitions = ap (λ s. s.definitions) c.self.view_is in
    subst (λ ds. is_blame_among (length (option_map_or (elements_in ds) (url_place ds c.args.url.now) [])) c.blame_at.result) same
    (among_at c.self.inside.table c.self.inside.judged.blames.items c.args.url.now c.in-Some.place c.blame_at.result c.self.invariant.8 c.are_placed.ensures
    (sym c.url_place.ensures ∙ c.in-Some.is) (c.blame_at.ensures.blame ∙ ap (λ l. blame_at l c.in-Some.place) c.deref.ensures.value))
