use Rattle.std.proofs.Common.{sym, subst, map}
use Rattle.fhir_package.specs.Definitions.{Definitions}
use Rattle.fhir_package.specs.Changing.{without}
use Rattle.fhir_reach.specs.Reach.{removed_keys}
use Rattle.fhir_registry.specs.Keeping.{RegistryValue, ForgetsAll}
use Rattle.fhir_registry.specs.Sound.{IsSound, entry_seen}
use Rattle.fhir_registry.proofs.Right.{moved_sound}
use Rattle.fhir_registry.proofs.Seen.{forgets_seen}
use Rattle.fhir_registry.proofs.registry.Registry.take_out.Goals as goal

pub invariant_of-self : goal.invariant_of-self
invariant_of-self c =
    let was = c.self.inside in
    let p = was.definitions in
    let url = c.args.url.now in
    let laws = c.changes_elsewhere.ensures in
    subst (λ (d : Definitions). IsSound was.given d c.forget_removed.new.schemas c.forget_removed.new.replies) (sym c.remove.ensures.gone)
    (moved_sound c.same_sets.ensures.tests p (without url p) (removed_keys url p) (λ keys none. laws.removed_same url p keys none) (λ start none. laws.removed_reach url p start none)
    was.given was.schemas c.forget_removed.new.schemas was.replies c.forget_removed.new.replies c.forget_removed.ensures.schemas c.forget_removed.ensures.replies c.self.invariant)

pub returns-clause-forgets : goal.returns-clause-forgets
returns-clause-forgets c =
    let was = c.self.inside in
    subst (λ (v : RegistryValue). ForgetsAll v.definitions (removed_keys c.args.url.now v.definitions) v.replies (map entry_seen c.forget_removed.new.replies.entries)) c.self.view_is
    (forgets_seen c.same_sets.ensures.tests was.given was.definitions (removed_keys c.args.url.now was.definitions) was.replies c.forget_removed.new.replies
    c.forget_removed.ensures.replies c.self.invariant.right_replies)
