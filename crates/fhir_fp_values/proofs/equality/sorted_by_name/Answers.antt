use Rattle.std.proofs.Common.{◌∙◌, ◌++◌, List, sym, ap, arith}
use Rattle.std.proofs.lemmas.List.{append-nil, drop_all}
use Rattle.fhir_instance.specs.declared.typed.Kid.{Kid}
use Rattle.fhir_instance.specs.Items.{Named, kids_in}
use Rattle.fhir_instance.specs.View.{named_in}
use Rattle.fhir_fp_values.specs.Pairing.{kids_seen, heights}
use Rattle.fhir_fp_values.proofs.Sorted.{heights_of_seen}
use Rattle.fhir_fp_values.proofs.equality.sorted_by_name.Goals as goal

pub returns-clause-heights : goal.returns-clause-heights
returns-clause-heights c =
    c.sort_by_name.ensures.heights
    ∙ heights_of_seen c.loop-kid.sorted.items
    ∙ ap (λ (ks : List Named). heights (kids_in ks))
    (sym (append-nil (kids_seen c.loop-kid.sorted.items))
    ∙ sym (ap (λ (ks : List Kid). kids_seen c.loop-kid.sorted.items ++ named_in ks) (drop_all c.loop-kid.kid-index c.args.kids.now (omega arith)))
    ∙ c.loop-kid.invariant)
