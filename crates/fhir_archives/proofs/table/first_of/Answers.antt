use Rattle.std.proofs.Common.{map, Some, None, sym, ◌∙◌}
use Rattle.fhir_names.specs.FirstPlaces.{item_at_place}
use Rattle.fhir_archives.specs.Views.{named_seen}
use Rattle.fhir_archives.proofs.table.first_of.Goals as goal

pub returns-in-Some : goal.returns-in-Some
returns-in-Some c =
    c.named_at.ensures
    ∙ item_at_place (λ n. n.name) c.args.names.now (map named_seen c.args.all.now) c.args.name.now (Some c.in-Some.place) c.requires (sym c.in-Some.is ∙ c.get.ensures)

pub returns-in-None : goal.returns-in-None
returns-in-None c =
    item_at_place (λ n. n.name) c.args.names.now (map named_seen c.args.all.now) c.args.name.now None c.requires (sym c.in-None.is ∙ c.get.ensures)
