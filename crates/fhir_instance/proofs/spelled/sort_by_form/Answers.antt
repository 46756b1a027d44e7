use Rattle.std.proofs.Common.{rules}
use Rattle.std.proofs.lemmas.List.Sorted.{answers_always, IsNonDecreasingBy-from_sort_by_key}
use Rattle.std.proofs.lemmas.Result.{IfOk-weaker}
use Rattle.fhir_instance.specs.declared.spelled.Spelled.{Spelled}
use Rattle.fhir_instance.proofs.Ordered.{stable_forms}
use Rattle.fhir_instance.proofs.spelled.sort_by_form.Goals as goal

pub returns-clause-ascends : goal.returns-clause-ascends
returns-clause-ascends c =
    IfOk-weaker c.sort_by_key.result _ _ (λ u sorted. IsNonDecreasingBy-from_sort_by_key (λ (e : Spelled). e.form) _ sorted
    (λ a r q k. search rules)) c.sort_by_key.ensures.sorted

pub returns-clause-stable : goal.returns-clause-stable
returns-clause-stable c =
    stable_forms c.args.all.now.items c.sort_by_key.new.self.items (c.sort_by_key.ensures.stable (λ (e : Spelled). e.form)
    (answers_always _ _ _ (λ f a r g h. search rules)))
