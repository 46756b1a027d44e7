use Rattle.std.proofs.Common.{◌≡◌, ◌∙◌, ap, subst, List, Vec, Global}
use Rattle.fhir_package.specs.Definitions.{Definitions}
use Rattle.fhir_reach.specs.declared.key.Key.{Key}
use Rattle.fhir_reach.specs.Keys.{KeyValue, keys_seen}
use Rattle.fhir_reach.specs.Search.{reached}
use Rattle.fhir_schema.specs.Schemas.{SchemaValue}
use Rattle.fhir_registry.specs.declared.kept.Kept.{Kept}
use Rattle.fhir_registry.specs.Sound.{IsRightFor, IsRightSchema}
use Rattle.fhir_registry.proofs.Equal.{starts_eq}
use Rattle.fhir_registry.proofs.Right.{all_put, same_schema, put_first}
use Rattle.fhir_registry.proofs.schemas.keep_new.Goals as goal

-- what is kept is right for the keys that were asked for
module _ (p : Definitions) where
  right_for : (start : Vec Key Global) (given : List Key) (keys : List KeyValue) (kept : Kept SchemaValue) → given ≡ start.items → keys ≡ reached p (keys_seen given)
      → IsRightFor p keys kept → IsRightFor p (reached p (keys_seen start.items)) kept
  right_for start given keys kept same reach right = subst (λ (l : List KeyValue). IsRightFor p l kept) (reach ∙ ap (λ (l : List Key). reached p (keys_seen l)) same) right

pub returns-clause-first : goal.returns-clause-first
returns-clause-first c =
    let p = c.args.definitions.now in
    let good = right_for p c.args.start c.deref.result.now c.in_ok-keys.keys c.in_ok-kept.kept c.deref.ensures.value c.in_ok-keys.ensures.in_order c.in_ok-kept.ensures in
    put_first (λ e. IsRightFor p (reached p (keys_seen c.args.start.items)) e.1) starts_eq c.args.start c.in_ok-kept.kept c.args.schemas.now c.put.new.self c.in_ok-put.ensures.entries (λ k. good)

pub returns-clause-right : goal.returns-clause-right
returns-clause-right c =
    let p = c.args.definitions.now in
    let good = right_for p c.args.start c.deref.result.now c.in_ok-keys.keys c.in_ok-kept.kept c.deref.ensures.value c.in_ok-keys.ensures.in_order c.in_ok-kept.ensures in
    all_put (IsRightSchema p) starts_eq (same_schema p) c.args.start c.in_ok-kept.kept c.args.schemas.now c.put.new.self c.in_ok-put.ensures.entries good c.requires
