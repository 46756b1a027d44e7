use Rattle.std.proofs.Common.{List, [], ◌∷◌, refl}
use Rattle.fhir_reach.specs.declared.key.Key.{Key}
use Rattle.fhir_reach.specs.Keys.{key_seen, keys_seen}
use Rattle.fhir_reach.proofs.Adding.{next}
use Rattle.fhir_reach.proofs.key_set.add_keys.Goals as goal

pub loop-key-preserved : goal.loop-key-preserved
loop-key-preserved c =
    next (λ (xs : List Key). keys_seen xs) (λ (x : Key). key_seen x ∷ []) (λ x xs. refl) c.args.keys.now c.loop-key.key-index c.key-item.result
    c.loop-key.found c.add.new.self _ c.loop-key-test.true c.key-item.is c.in_ok-add.ensures c.loop-key.invariant
