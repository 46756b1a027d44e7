use Rattle.std.proofs.Common.{◌≡◌, ap, sym, subst, ◌∙◌, is_some, IfSome, false}
use Rattle.std.specs.Prelude.{string_bytes}
use Rattle.fhir_json.specs.Views.{trees_of}
use Rattle.fhir_commands.specs.Commands.{CommandValue, command_seen}
use Rattle.fhir_commands.specs.Replies.{refuses}
use Rattle.fhir_registry.specs.Session.{IsReplyBy}
use Rattle.fhir_registry.specs.Keeping.{RegistryValue, reply_kept}
use Rattle.fhir_registry.proofs.Seen.{none_kept_put, none_kept_remove, holds_seen, kept_is}
use Rattle.fhir_registry.proofs.registry.Registry.kept.Goals as goal

pub returns-in-Ask-clause-told : goal.returns-in-Ask-clause-told
returns-in-Ask-clause-told c =
    holds_seen c.in-Ask.question c.self.inside.replies.entries _ _ c.contains.result c.equal_questions.ensures c.contains.ensures (ap (λ (v : RegistryValue). v.replies) c.self.view_is)
    (ap command_seen (sym c.in-Ask.is))

pub returns-in-Ask-clause-right : goal.returns-in-Ask-clause-right
returns-in-Ask-clause-right c =
    let asked = command_seen c.args.command.now in
    subst (λ (v : RegistryValue). IfSome (reply_kept asked v.replies) (λ r. IsReplyBy v.texts v.definitions asked r × (refuses r ≡ false))) c.self.view_is
    (kept_is c.self.inside.given c.self.inside.definitions asked c.self.inside.replies c.self.invariant.right_replies)

pub returns-in-Put-clause-told : goal.returns-in-Put-clause-told
returns-in-Put-clause-told c =
    sym (ap is_some (ap (λ (d : CommandValue). reply_kept d c.args.self.now.replies) (ap command_seen c.in-Put.is) ∙ none_kept_put (trees_of c.in-Put.field-0.items) c.args.self.now.replies))

pub returns-in-Put-clause-right : goal.returns-in-Put-clause-right
returns-in-Put-clause-right c =
    let asked = command_seen c.args.command.now in
    subst (λ (v : RegistryValue). IfSome (reply_kept asked v.replies) (λ r. IsReplyBy v.texts v.definitions asked r × (refuses r ≡ false))) c.self.view_is
    (kept_is c.self.inside.given c.self.inside.definitions asked c.self.inside.replies c.self.invariant.right_replies)

pub returns-in-Remove-clause-told : goal.returns-in-Remove-clause-told
returns-in-Remove-clause-told c =
    sym (ap is_some (ap (λ (d : CommandValue). reply_kept d c.args.self.now.replies) (ap command_seen c.in-Remove.is) ∙ none_kept_remove (string_bytes c.in-Remove.field-0) c.args.self.now.replies))

pub returns-in-Remove-clause-right : goal.returns-in-Remove-clause-right
returns-in-Remove-clause-right c =
    let asked = command_seen c.args.command.now in
    subst (λ (v : RegistryValue). IfSome (reply_kept asked v.replies) (λ r. IsReplyBy v.texts v.definitions asked r × (refuses r ≡ false))) c.self.view_is
    (kept_is c.self.inside.given c.self.inside.definitions asked c.self.inside.replies c.self.invariant.right_replies)
