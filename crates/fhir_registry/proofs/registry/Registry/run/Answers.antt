use Rattle.std.proofs.Common.{◌≡◌, ◌∷◌, ◌++◌, [], List, Option, map, refl, sym, ap, subst, ◌∙◌, rules}
use Rattle.std.proofs.lemmas.List.{map-append, nil_from_length}
use Rattle.fhir_json.specs.Tree.{Text}
use Rattle.fhir_commands.specs.Commands.{command_seen}
use Rattle.fhir_commands.specs.Replies.{reply_seen}
use Rattle.fhir_registry.specs.Session.{IsReplyBy}
use Rattle.fhir_registry.proofs.Replied.{begins, goes_on, all_replied, all_carried, some_carried, on_err}
use Rattle.fhir_registry.proofs.registry.Registry.run.Goals as goal

pub loop-command-init : goal.loop-command-init
loop-command-init c = (
  refl,
  begins c.args.self.now.texts c.args.self.now.definitions _ _ _ (ap (map reply_seen) c.new-replies.ensures.items)
      (ap (map command_seen) c.into_iter-command-iterator.ensures.into_iter_gives.0),
)

pub returns-in_err-reply-clause-partly : goal.returns-in_err-reply-clause-partly
returns-in_err-reply-clause-partly c =
    on_err c.from_residual.result (some_carried c.args.self.now.texts c.args.self.now.definitions c.loop-command.self.definitions c.apply.new.self.definitions _ _ _
    c.loop-command.invariant.1 c.in_err-reply.ensures.unchanged)

pub returns-in_err-reply-clause-texts : goal.returns-in_err-reply-clause-texts
returns-in_err-reply-clause-texts c = c.apply.ensures.texts ∙ c.loop-command.invariant.0

pub loop-command-preserved : goal.loop-command-preserved
loop-command-preserved c =
    let step : c.loop-command.command-iterator.rest.items ≡ c.in-Some.command ∷ c.next.new.self.rest.items = search rules in
    let grown : map reply_seen c.push.new.self.items ≡ map reply_seen c.loop-command.replies.items ++ reply_seen c.in_ok-reply.reply ∷ [] =
    ap (map reply_seen) c.in_ok-push.ensures.items ∙ map-append reply_seen c.loop-command.replies.items (c.in_ok-reply.reply ∷ []) in
    let told = subst (λ (texts : Option (List Text)). IsReplyBy texts c.loop-command.self.definitions (command_seen c.in-Some.command) (reply_seen c.in_ok-reply.reply))
    c.loop-command.invariant.0 c.in_ok-reply.ensures.told in (
      c.apply.ensures.texts ∙ c.loop-command.invariant.0,
      goes_on c.args.self.now.texts c.args.self.now.definitions c.loop-command.self.definitions c.apply.new.self.definitions _ _ _ _ _ (command_seen c.in-Some.command)
          (reply_seen c.in_ok-reply.reply) c.loop-command.invariant.1 (ap (map command_seen) step) grown c.in_ok-reply.ensures.after told,
    )

pub returns-in_err-push-clause-partly : goal.returns-in_err-push-clause-partly
returns-in_err-push-clause-partly c =
    let step : c.loop-command.command-iterator.rest.items ≡ c.in-Some.command ∷ c.next.new.self.rest.items = search rules in
    let told = subst (λ (texts : Option (List Text)). IsReplyBy texts c.loop-command.self.definitions (command_seen c.in-Some.command) (reply_seen c.in_ok-reply.reply))
    c.loop-command.invariant.0 c.in_ok-reply.ensures.told in
    let run =
    goes_on c.args.self.now.texts c.args.self.now.definitions c.loop-command.self.definitions c.apply.new.self.definitions _ _ _ _ _ (command_seen c.in-Some.command)
    (reply_seen c.in_ok-reply.reply) c.loop-command.invariant.1 (ap (map command_seen) step) refl c.in_ok-reply.ensures.after told in
    on_err c.from_residual-in_err-push.result (some_carried c.args.self.now.texts c.args.self.now.definitions c.apply.new.self.definitions c.apply.new.self.definitions _ _ _ run refl)

pub returns-in_err-push-clause-texts : goal.returns-in_err-push-clause-texts
returns-in_err-push-clause-texts c = c.apply.ensures.texts ∙ c.loop-command.invariant.0

pub returns-clause-told : goal.returns-clause-told
returns-clause-told c =
    let none : c.loop-command.command-iterator.rest.items ≡ [] =
    nil_from_length c.loop-command.command-iterator.rest.items (sym c.loop-command.command-iterator.rest.ok.0 ∙ c.in-None.ensures.steps.0) in
    all_replied c.args.self.now.texts c.args.self.now.definitions c.loop-command.self.definitions _ _ _ c.loop-command.invariant.1 (ap (map command_seen) none)

pub returns-clause-after : goal.returns-clause-after
returns-clause-after c =
    let none : c.loop-command.command-iterator.rest.items ≡ [] =
    nil_from_length c.loop-command.command-iterator.rest.items (sym c.loop-command.command-iterator.rest.ok.0 ∙ c.in-None.ensures.steps.0) in
    all_carried c.args.self.now.texts c.args.self.now.definitions c.loop-command.self.definitions _ _ _ c.loop-command.invariant.1 (ap (map command_seen) none)
