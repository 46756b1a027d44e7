use Rattle.std.proofs.Common.{◌∙◌, ap, sym, subst}
use Rattle.std.specs.Option.{option_map}
use Rattle.fhir_commands.specs.Commands.{asks_same, question_seen}
use Rattle.fhir_commands.specs.Replies.{line_seen}
use Rattle.fhir_registry.specs.Session.{IsReplyBy}
use Rattle.fhir_registry.specs.Lines.{WritesReply}
use Rattle.fhir_registry.specs.Keeping.{RegistryValue}
use Rattle.fhir_registry.specs.Sound.{IsRightReply}
use Rattle.fhir_registry.proofs.Right.{all_promoted}
use Rattle.fhir_registry.proofs.Seen.{line_there}
use Rattle.fhir_registry.proofs.registry.Registry.ask_line.Goals as goal

pub invariant_of-self-in-Some : goal.invariant_of-self-in-Some
invariant_of-self-in-Some c =
    let was = c.self.inside in
    record {
      right_schemas = c.self.invariant.right_schemas;
      right_replies = all_promoted (IsRightReply was.given was.definitions) (λ q. asks_same (question_seen c.args.question) (question_seen q)) was.replies c.recall_line.new.replies
          c.in_ok-line.ensures.promoted c.self.invariant.right_replies;
      schemas_bound = c.self.invariant.schemas_bound;
      replies_bound = ap (λ cache. cache.cap) c.in_ok-line.ensures.promoted ∙ c.self.invariant.replies_bound;
    }

pub invariant_of-self-2 : goal.invariant_of-self-2
invariant_of-self-2 c =
    let was = c.self.inside in
    record {
      right_schemas = c.self.invariant.right_schemas;
      right_replies = all_promoted (IsRightReply was.given was.definitions) (λ q. asks_same (question_seen c.args.question) (question_seen q)) was.replies c.recall_line.new.replies
          c.in_ok-line.ensures.promoted c.self.invariant.right_replies;
      schemas_bound = c.self.invariant.schemas_bound;
      replies_bound = ap (λ cache. cache.cap) c.in_ok-line.ensures.promoted ∙ c.self.invariant.replies_bound;
    }

pub returns-in-Some-clause-told : goal.returns-in-Some-clause-told
returns-in-Some-clause-told c =
    let was = c.self.inside in
    let asked = question_seen c.args.question in
    subst (λ (v : RegistryValue). WritesReply (IsReplyBy v.texts v.definitions) asked (line_seen c.in-Some.line)) c.self.view_is
    (line_there was.given was.definitions asked was.replies c.self.invariant.right_replies (line_seen c.in-Some.line)
    (sym (ap (option_map line_seen) c.in-Some.is) ∙ c.in_ok-line.ensures.found))
