use Rattle.std.proofs.Common.{rules}
use Rattle.std.proofs.lemmas.Cmp.{nat_list_cmp_total}
use Rattle.std.proofs.lemmas.List.Sorted.{answers_always, ranks_by, sum_by-IsPermutation}
use Rattle.std.proofs.lemmas.Result.{IfOk-weaker}
use Rattle.fhir_instance.specs.View.{named_of}
use Rattle.fhir_fp_values.specs.Pairing.{height}
use Rattle.fhir_fp_values.proofs.Sorted.{name_of, precedes, ascends, same_names}
use Rattle.fhir_fp_values.proofs.equality.sort_by_name.Goals as goal

pub returns-clause-ascends : goal.returns-clause-ascends
returns-clause-ascends c =
    IfOk-weaker c.sort_by.result _ _
    (λ u sorted. ascends c.sort_by.new.self.items (sorted precedes (ranks_by nat_list_cmp_total name_of) (answers_always _ _ _ (λ f a r g h. search rules))))
    c.sort_by.ensures.sorted

pub returns-clause-stable : goal.returns-clause-stable
returns-clause-stable c = λ name.
    same_names c.args.kids.now.items c.sort_by.new.self.items
    (c.sort_by.ensures.stable precedes (ranks_by nat_list_cmp_total name_of) (answers_always _ _ _ (λ f a r g h. search rules))) name

pub returns-clause-heights : goal.returns-clause-heights
returns-clause-heights c = sum_by-IsPermutation (λ k. height (named_of k.kid.now).1) _ _ c.sort_by.ensures.permutation
