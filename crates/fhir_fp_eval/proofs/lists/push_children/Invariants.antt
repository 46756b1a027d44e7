use Rattle.std.proofs.Common.{◌≡◌, ◌++◌, map, drop}
use Rattle.fhir_instance.specs.Items.{kids_in}
use Rattle.fhir_instance.specs.View.{named_in}
use Rattle.fhir_fp_values.specs.Values.{node}
use Rattle.fhir_fp_values.specs.Views.{plains_of}
use Rattle.fhir_fp_eval.specs.Meaning.{kids_named}
use Rattle.fhir_fp_eval.proofs.lists.push_children.Given as goal

abbrev pub invariant-loop-kid : goal.invariant-loop-kid
invariant-loop-kid l =
    plains_of l.out.items ++ map node (kids_named l.name (kids_in (named_in (drop l.kid-index l.kid-items))))
    ≡ plains_of l.initial.out.items ++ map node (kids_named l.name (kids_in (named_in l.kid-items)))
