use Rattle.fhir_schema.specs.Schemas.{schema_of}
use Rattle.fhir_contradictions.proofs.Paths.{end_found}
use Rattle.fhir_contradictions.proofs.Values.{none_with_value}
use Rattle.fhir_contradictions.proofs.laws.slice_values.Goals as goal

pub returns : goal.returns
returns c p meaning around x by n slice typed =
    none_with_value (schema_of p) (c.roots_are_roots.ensures.of_canonical (schema_of p)) meaning around by x
    (λ found b names place q any leads holds. end_found p (c.least_closed.ensures.placed p) (c.names_apart.ensures.children p) (c.usable_nodes.ensures.below p) meaning
    (c.typed_items.ensures.below p meaning) (c.conforming_children.ensures.element (schema_of p) meaning)
    found b names place x by q any leads typed holds) n slice
