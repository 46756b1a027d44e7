use Rattle.std.proofs.Common.{◌≡◌, true, sym, subst, List}
use Rattle.fhir_schema.specs.Schemas.{SchemaValue}
use Rattle.fhir_reach.specs.Keys.{KeyValue, same_keys}
use Rattle.fhir_reach.specs.Reach.{restrict}
use Rattle.fhir_registry.specs.Sound.{IsSchemaOf}
use Rattle.fhir_registry.proofs.schemas.build.Goals as goal

pub returns : goal.returns
returns c = record {
  same = subst (λ (keys : List KeyValue). same_keys keys c.args.keys ≡ true) (sym c.in_ok-new-2.ensures) (c.same_sets.ensures.itself c.args.keys);
  schema = subst (λ (s : SchemaValue). IsSchemaOf (restrict c.args.definitions.now c.args.keys) s) (sym c.in_ok-new.ensures) c.in_ok-schema.ensures;
}
