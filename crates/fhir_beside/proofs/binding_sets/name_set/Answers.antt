use Rattle.std.proofs.Common.{Some, set, ap, sym, ◌∙◌}
use Rattle.std.specs.Option.{option_map_or}
use Rattle.std.proofs.lemmas.List.{map-set}
use Rattle.fhir_json.specs.Views.{text_seen}
use Rattle.fhir_beside.specs.Naming.{names_seen}
use Rattle.fhir_beside.proofs.binding_sets.name_set.Goals as goal

pub returns-then-place-len : goal.returns-then-place-len
returns-then-place-len c =
    map-set text_seen c.args.names.now.items c.in-Some.place (Some c.args.canonical)
    ∙ ap
    (λ o. option_map_or (λ place. set (names_seen c.args.names.now.items) place (Some c.args.canonical.now)) o (names_seen c.args.names.now.items))
    (sym c.in-Some.is ∙ c.place_named.ensures)
