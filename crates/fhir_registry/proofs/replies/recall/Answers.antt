use Rattle.std.proofs.Common.{ap, ◌∙◌, Bool, option_map}
use Rattle.std.specs.Map.{lookup}
use Rattle.lru.specs.LruCache.{lru_cache, promoted}
use Rattle.fhir_commands.specs.declared.question.Question.{Question}
use Rattle.fhir_registry.proofs.Equal.{one_test}
use Rattle.fhir_registry.proofs.replies.recall.Goals as goal

pub returns-clause-found : goal.returns-clause-found
returns-clause-found c =
    c.in_ok-found.ensures
    ∙ ap (option_map (λ k. k.value)) (c.peek.ensures ∙ ap (λ (test : Question → Bool). lookup test c.args.replies.now.entries) (one_test c.equal_questions.ensures c.args.question.now))

pub returns-clause-promoted : goal.returns-clause-promoted
returns-clause-promoted c =
    c.promote.ensures.entries
    ∙ ap (λ (test : Question → Bool). lru_cache (promoted test c.args.replies.now.entries) c.args.replies.now.cap) (one_test c.equal_questions.ensures c.args.question.now)
