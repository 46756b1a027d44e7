use Rattle.std.proofs.Common.{subst, List}
use Rattle.std.specs.Prelude.{option_copied}
use Rattle.fhir_reach.specs.Keys.{KeyValue}
use Rattle.fhir_registry.specs.Sound.{IsFirst}
use Rattle.fhir_registry.proofs.Computed.{replied}
use Rattle.fhir_registry.proofs.asking.compute.Goals as goal

pub returns-clause-told : goal.returns-clause-told
returns-clause-told c =
    let p = c.args.definitions.now in
    replied c.answer_first.result (option_copied c.args.given) p c.args.question c.hold.new.schemas c.args.replies.now c.answer_first.new.replies
    (subst (λ (keys : List KeyValue). IsFirst p keys c.hold.new.schemas) c.in_ok-start.ensures c.in_ok-hold.ensures.first) c.answer_first.ensures.answered
