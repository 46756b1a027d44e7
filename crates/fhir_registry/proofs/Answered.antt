-- Commands whose replies may want memory to be written change nothing.
use Rattle.std.proofs.Common.{◌≡◌, List, Option, None, Some, true, refl, ap}
use Rattle.fhir_package.specs.Definitions.{Definitions}
use Rattle.fhir_commands.specs.Commands.{CommandValue, put, remove, validate, derive}
use Rattle.fhir_commands.specs.Replies.{ReplyValue, is_short}
use Rattle.fhir_json.specs.Tree.{Text}
use Rattle.fhir_registry.specs.Session.{after, IsReplyBy}

pub unchanged : (texts : Option (List Text)) (p : Definitions) (c : CommandValue) (r : ReplyValue) → IsReplyBy texts p c r → (is_short r ≡ true → ⊥) → after c p ≡ p
unchanged None p (put ts) r is long = absurd (long (ap is_short is))
unchanged (Some texts) p (put ts) r is long = absurd (long (ap is_short is))
unchanged None p (remove url) r is long = absurd (long (ap is_short is))
unchanged (Some texts) p (remove url) r is long = absurd (long (ap is_short is))
unchanged texts p (validate profile bytes) r is long = refl
unchanged texts p (derive derived base) r is long = refl
