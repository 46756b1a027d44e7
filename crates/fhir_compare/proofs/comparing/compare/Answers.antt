use Rattle.std.proofs.Common.{◌++◌, List, ap, ◌∙◌}
use Rattle.fhir_compare.specs.Comparing.{Said, all_new}
use Rattle.fhir_compare.specs.Views.{all_owns, all_said}
use Rattle.fhir_compare.proofs.Said.{comparison_of}
use Rattle.fhir_compare.proofs.comparing.compare.Goals as goal

pub returns : goal.returns
returns c =
    let sides = c.args.sides in
    comparison_of sides.old.now sides.new.now sides.mark.now (all_owns c.in_ok-all.all.items) c.in_ok-all.ensures
    c.in_ok-blamed.blamed.new_in_old.items c.in_ok-blamed.blamed.old_in_new.items (rw c.deref.ensures.value at c.in_ok-blamed.ensures.in_old)
    (rw c.deref.ensures.value at c.in_ok-blamed.ensures.in_new) (all_said c.push_new.new.into.items)
    (c.in_ok-push_new.ensures ∙ ap (λ (s : List Said). s ++ all_new sides.old.now sides.new.now sides.mark.now) c.in_ok-said.ensures)
