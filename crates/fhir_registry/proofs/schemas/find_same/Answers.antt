use Rattle.std.proofs.Common.{◌≡◌, ◌∷◌, Contains, List, Vec, Global, sym, ap, subst, ◌∙◌, rules}
use Rattle.lru.proofs.Splits.{Contains-head, Contains-tail}
use Rattle.fhir_reach.specs.declared.key.Key.{Key}
use Rattle.fhir_reach.specs.Keys.{KeyValue, same_keys}
use Rattle.fhir_schema.specs.Schemas.{SchemaValue}
use Rattle.fhir_registry.specs.declared.kept.Kept.{Kept}
use Rattle.fhir_registry.proofs.schemas.find_same.Goals as goal

pub returns-then-has_same : goal.returns-then-has_same
returns-then-has_same c =
    let e : Vec Key Global × Kept SchemaValue = (c.in-Some.field-0-0.now, c.in-Some.kept.now) in
    let step : c.loop-kept.kept-iterator ≡ e ∷ c.next.new.self = search rules in (
      c.in-Some.field-0-0.now,
      c.loop-kept.invariant.2 e (subst (λ (l : List (Vec Key Global × Kept SchemaValue)). Contains l e) (sym step) (Contains-head e c.next.new.self)),
      ap (λ (keys : List KeyValue). same_keys keys c.args.keys.now) (sym c.get.ensures) ∙ sym c.has_same.ensures ∙ c.if-has_same.true,
    )

pub loop-kept-preserved : goal.loop-kept-preserved
loop-kept-preserved c =
    let e : Vec Key Global × Kept SchemaValue = (c.in-Some.field-0-0.now, c.in-Some.kept.now) in
    let step : c.loop-kept.kept-iterator ≡ e ∷ c.next.new.self = search rules in (
      tt,
      tt,
      λ x there. c.loop-kept.invariant.2 x (subst (λ (l : List (Vec Key Global × Kept SchemaValue)). Contains l x) (sym step) (Contains-tail e c.next.new.self x there)),
    )
