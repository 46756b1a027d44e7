use Rattle.std.proofs.Common.{◌∙◌, ap, sym, subst}
use Rattle.std.specs.Prelude.{string_bytes}
use Rattle.fhir_json.specs.Tree.{Text}
use Rattle.fhir_json.specs.Views.{trees_of}
use Rattle.fhir_commands.specs.Commands.{CommandValue, remove, command_seen}
use Rattle.fhir_commands.specs.Replies as replies
use Rattle.fhir_registry.specs.Keeping.{reply_kept, Forgets, Keeps}
use Rattle.fhir_registry.proofs.Seen.{none_kept_put, none_kept_remove, if_none}
use Rattle.fhir_registry.proofs.registry.Registry.apply.Goals as goal

pub returns-in_ok-put-in-Put-clause-held : goal.returns-in_ok-put-in-Put-clause-held
returns-in_ok-put-in-Put-clause-held c =
    if_none _ _ (ap (λ (d : CommandValue). reply_kept d c.args.self.now.replies) (ap command_seen c.in-Put.is) ∙ none_kept_put (trees_of c.in-Put.trees.items) c.args.self.now.replies)

pub returns-in-Remove-clause-held : goal.returns-in-Remove-clause-held
returns-in-Remove-clause-held c =
    if_none _ _ (ap (λ (d : CommandValue). reply_kept d c.args.self.now.replies) (ap command_seen c.in-Remove.is) ∙ none_kept_remove (string_bytes c.in-Remove.url) c.args.self.now.replies)

pub returns-in-Remove-clause-keeps : goal.returns-in-Remove-clause-keeps
returns-in-Remove-clause-keeps c =
    let p = c.args.self.now.definitions in
    let old = c.args.self.now.replies in
    let new = c.remove.new.self.replies in
    subst (λ (d : CommandValue). Keeps p d (replies.remove c.remove.result) old new) (sym (ap command_seen c.in-Remove.is))
    (subst (λ (url : Text). Forgets p (remove url) old new) c.as_str.ensures.value c.remove.ensures.forgets)
