use Rattle.std.proofs.Common.{◌∙◌, ap, sym, subst}
use Rattle.std.specs.Map.{keys_of}
use Rattle.std.proofs.lemmas.Map.Made.{keys_of-map_values}
use Rattle.fhir_names.specs.Places.{Finds}
use Rattle.fhir_package.specs.Definitions.{Definitions}
use Rattle.fhir_codes.specs.Expanding.{expansion_of}
use Rattle.fhir_codes.proofs.value_sets.ValueSets.of.Goals as goal

pub invariant_of-result : goal.invariant_of-result
invariant_of-result c =
    let p = c.args.from.now in
    subst (Finds c.into_places-urls.result)
    (ap (λ (d : Definitions). keys_of d.value_sets) (c.expand_all.ensures.definitions ∙ c.in_ok-sources.ensures.of)
    ∙ sym (keys_of-map_values (expansion_of p) p.value_sets)
    ∙ ap keys_of (sym c.in_ok-entries.ensures))
    c.into_places-urls.ensures
