use Rattle.std.proofs.Common.{◌≡◌, ap, ap₂, sym, List, Bool, ◌&&◌, ◌∙◌}
use Rattle.std.specs.List.{list_all}
use Rattle.fhir_reach.specs.declared.key.Key.{Key}
use Rattle.fhir_reach.specs.Keys.{KeyValue, key_seen, keys_seen, has_key}
use Rattle.fhir_reach.proofs.Keys.{all_seen}
use Rattle.fhir_reach.proofs.key_set.KeySet.has_same.Goals as goal

-- what was asked of each key, of the keys as they are seen
asked : (keys others : List KeyValue) (those items : List Key) (told : Bool) → told ≡ list_all (λ (key : Key). has_key keys (key_seen key)) those → those ≡ items
    → keys_seen items ≡ others → told ≡ list_all (has_key keys) others
asked keys others those items told is same seen =
    is ∙ all_seen (has_key keys) those ∙ ap (λ (l : List Key). list_all (has_key keys) (keys_seen l)) same ∙ ap (list_all (has_key keys)) seen

pub returns-then-has_all : goal.returns-then-has_all
returns-then-has_all c =
    let first = asked c.args.self.now c.args.other.now _ c.other.inside.keys.items c.has_all.result c.has_all.ensures c.deref.ensures.value c.other.view_is in
    let second = asked c.args.other.now c.args.self.now _ c.self.inside.keys.items c.has_all-then-has_all.result c.has_all-then-has_all.ensures c.deref-then-has_all.ensures.value c.self.view_is in
    second ∙ ap (λ (b : Bool). b && list_all (has_key c.args.other.now) c.args.self.now) (sym c.if-has_all.true ∙ first)

pub returns-else-has_all : goal.returns-else-has_all
returns-else-has_all c =
    let first = asked c.args.self.now c.args.other.now _ c.other.inside.keys.items c.has_all.result c.has_all.ensures c.deref.ensures.value c.other.view_is in
    c.if-has_all.false ∙ ap (λ (b : Bool). b && list_all (has_key c.args.other.now) c.args.self.now) (sym c.if-has_all.false ∙ first)
