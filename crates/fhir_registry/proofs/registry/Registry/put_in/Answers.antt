use Rattle.std.proofs.Common.{subst, map, List}
use Rattle.fhir_package.specs.Packing.{Definition}
use Rattle.fhir_package.specs.Changing.{put_each}
use Rattle.fhir_reach.specs.Reach.{all_put_keys}
use Rattle.fhir_registry.specs.Keeping.{RegistryValue, ForgetsAll}
use Rattle.fhir_registry.specs.Sound.{Retains, entry_seen}
use Rattle.fhir_registry.proofs.Right.{moved_sound, left_sound, either_sound}
use Rattle.fhir_registry.proofs.Seen.{forgets_seen, on_ok}
use Rattle.fhir_registry.proofs.registry.Registry.put_in.Goals as goal

pub invariant_of-self-2 : goal.invariant_of-self-2
invariant_of-self-2 c =
    let was = c.self.inside in
    let p = was.definitions in
    let ds = c.args.definitions.items in
    let changed = all_put_keys ds p in
    let laws = c.changes_elsewhere.ensures in
    let schemas = subst (λ (l : List Definition). Retains (all_put_keys l p) was.schemas c.forget_put.new.schemas) c.deref.ensures.value c.in_ok-forget_put.ensures.schemas in
    let replies = subst (λ (l : List Definition). Retains (all_put_keys l p) was.replies c.forget_put.new.replies) c.deref.ensures.value c.in_ok-forget_put.ensures.replies in
    either_sound c.put_all.result was.given p (put_each ds p) c.put_all.new.self c.forget_put.new.schemas c.forget_put.new.replies c.put_all.ensures.put c.put_all.ensures.unchanged
    (moved_sound c.same_sets.ensures.tests p (put_each ds p) changed (λ keys none. laws.all_put_same ds p keys none) (λ start none. laws.all_put_reach ds p start none)
    was.given was.schemas c.forget_put.new.schemas was.replies c.forget_put.new.replies schemas replies c.self.invariant)
    (left_sound was.given p changed was.schemas c.forget_put.new.schemas was.replies c.forget_put.new.replies schemas replies c.self.invariant)

pub returns-clause-forgets : goal.returns-clause-forgets
returns-clause-forgets c =
    let was = c.self.inside in
    let ds = c.args.definitions.items in
    let replies = subst (λ (l : List Definition). Retains (all_put_keys l was.definitions) was.replies c.forget_put.new.replies) c.deref.ensures.value c.in_ok-forget_put.ensures.replies in
    on_ok c.put_all.result
    (subst (λ (v : RegistryValue). ForgetsAll v.definitions (all_put_keys ds v.definitions) v.replies (map entry_seen c.forget_put.new.replies.entries)) c.self.view_is
    (forgets_seen c.same_sets.ensures.tests was.given was.definitions (all_put_keys ds was.definitions) was.replies c.forget_put.new.replies replies c.self.invariant.right_replies))
