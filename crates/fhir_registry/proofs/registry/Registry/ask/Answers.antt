use Rattle.std.proofs.Common.{◌≡◌, ◌∙◌, ap, sym, subst, refl, map, Option, IfSome, List, false}
use Rattle.std.specs.Prelude.{IfOk}
use Rattle.std.specs.Option.{option_map}
use Rattle.lru.specs.LruCache.{LruCache}
use Rattle.fhir_json.specs.Tree.{Text}
use Rattle.fhir_commands.specs.Commands.{asks_same, question_seen}
use Rattle.fhir_commands.specs.declared.question.Question.{Question}
use Rattle.fhir_commands.specs.Replies.{ReplyValue, reply_seen, refuses}
use Rattle.fhir_registry.specs.declared.kept.Kept.{Kept}
use Rattle.fhir_registry.specs.Session.{IsReplyBy}
use Rattle.fhir_registry.specs.Keeping.{RegistryValue, reply_kept, KeepsFor}
use Rattle.fhir_registry.specs.Sound.{entry_seen, IsRightReply, AreRightReplies}
use Rattle.fhir_registry.proofs.Right.{all_promoted}
use Rattle.fhir_registry.proofs.Seen.{lookup_seen, kept_is, is_kept, found_seen, unfound, none_of, if_none, if_some, IsComputed, computed_right, computed_cap, computed_keeps}
use Rattle.fhir_registry.proofs.registry.Registry.ask.Goals as goal

pub invariant_of-self-in-Some : goal.invariant_of-self-in-Some
invariant_of-self-in-Some c =
    let was = c.self.inside in
    record {
      right_schemas = c.self.invariant.right_schemas;
      right_replies = all_promoted (IsRightReply was.given was.definitions) (λ q. asks_same (question_seen c.args.question) (question_seen q)) was.replies c.recall.new.replies
          c.in_ok-reply.ensures.promoted c.self.invariant.right_replies;
      schemas_bound = c.self.invariant.schemas_bound;
      replies_bound = ap (λ cache. cache.cap) c.in_ok-reply.ensures.promoted ∙ c.self.invariant.replies_bound;
    }

pub returns-in-Some-clause-told : goal.returns-in-Some-clause-told
returns-in-Some-clause-told c =
    let was = c.self.inside in
    let asked = question_seen c.args.question in
    let kept = is_kept c.args.question (reply_seen c.in-Some.reply) was.replies.entries (sym (ap (option_map reply_seen) c.in-Some.is) ∙ c.in_ok-reply.ensures.found) in
    let told = subst (λ (o : Option ReplyValue). IfSome o (λ r. IsReplyBy was.given was.definitions asked r × (refuses r ≡ false))) kept
    (kept_is was.given was.definitions asked was.replies c.self.invariant.right_replies) in
    subst (λ (v : RegistryValue). IsReplyBy v.texts v.definitions asked (reply_seen c.in-Some.reply)) c.self.view_is told.0

pub returns-in-Some-clause-held : goal.returns-in-Some-clause-held
returns-in-Some-clause-held c =
    let was = c.self.inside in
    let asked = question_seen c.args.question in
    let kept = is_kept c.args.question (reply_seen c.in-Some.reply) was.replies.entries (sym (ap (option_map reply_seen) c.in-Some.is) ∙ c.in_ok-reply.ensures.found) in
    if_some _ _ (reply_seen c.in-Some.reply) (ap (λ (v : RegistryValue). reply_kept asked v.replies) (sym c.self.view_is) ∙ kept) refl

pub returns-in-Some-clause-keeps : goal.returns-in-Some-clause-keeps
returns-in-Some-clause-keeps c =
    let was = c.self.inside in
    let asked = question_seen c.args.question in
    subst (λ (v : RegistryValue). KeepsFor asked (reply_seen c.in-Some.reply) (reply_kept asked v.replies) v.replies (map entry_seen c.recall.new.replies.entries)) c.self.view_is
    (found_seen c.args.question (reply_seen c.in-Some.reply) was.replies c.recall.new.replies c.in_ok-reply.ensures.promoted
    (sym (ap (option_map reply_seen) c.in-Some.is) ∙ c.in_ok-reply.ensures.found))

pub invariant_of-self-2 : goal.invariant_of-self-2
invariant_of-self-2 c =
    let was = c.self.inside in
    let none = none_of _ (sym (ap (option_map reply_seen) c.in_default.is) ∙ c.in_ok-reply.ensures.found) in
    let same = unfound (λ q. asks_same (question_seen c.args.question) (question_seen q)) was.replies c.recall.new.replies c.in_ok-reply.ensures.promoted none in
    let told = subst (λ (texts : Option (List Text)). IfOk c.compute.result (λ reply. IsReplyBy texts was.definitions (question_seen c.args.question) (reply_seen reply)))
    c.as_ref.ensures.value c.compute.ensures.told in
    record {
      right_schemas = c.compute.ensures.right;
      right_replies = computed_right c.compute.result was.given was.definitions c.args.question c.recall.new.replies c.compute.new.replies c.compute.ensures.unchanged told
          c.compute.ensures.kept (subst (AreRightReplies was.given was.definitions) (sym same) c.self.invariant.right_replies);
      schemas_bound = c.compute.ensures.cap ∙ c.self.invariant.schemas_bound;
      replies_bound = computed_cap c.compute.result was.definitions c.args.question c.recall.new.replies c.compute.new.replies c.compute.ensures.unchanged c.compute.ensures.kept
          ∙ ap (λ cache. cache.cap) same ∙ c.self.invariant.replies_bound;
    }

pub returns-clause-held : goal.returns-clause-held
returns-clause-held c =
    let asked = question_seen c.args.question in
    let none = none_of _ (sym (ap (option_map reply_seen) c.in_default.is) ∙ c.in_ok-reply.ensures.found) in
    if_none _ _ (ap (λ (v : RegistryValue). reply_kept asked v.replies) (sym c.self.view_is) ∙ lookup_seen asked c.self.inside.replies.entries ∙ ap (option_map (λ kept. kept.value)) none)

pub returns-clause-keeps : goal.returns-clause-keeps
returns-clause-keeps c =
    let was = c.self.inside in
    let asked = question_seen c.args.question in
    let none = none_of _ (sym (ap (option_map reply_seen) c.in_default.is) ∙ c.in_ok-reply.ensures.found) in
    let same = unfound (λ q. asks_same asked (question_seen q)) was.replies c.recall.new.replies c.in_ok-reply.ensures.promoted none in
    let kept = subst (λ (cache : LruCache Question (Kept ReplyValue)). IsComputed c.compute.result was.definitions c.args.question cache c.compute.new.replies) same c.compute.ensures.kept in
    subst (λ (v : RegistryValue). IfOk c.compute.result (λ r. KeepsFor asked (reply_seen r) (reply_kept asked v.replies) v.replies (map entry_seen c.compute.new.replies.entries))) c.self.view_is
    (computed_keeps c.compute.result was.definitions c.args.question was.replies c.compute.new.replies c.self.invariant.replies_bound none kept)
