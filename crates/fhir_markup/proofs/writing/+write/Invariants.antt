use Rattle.std.proofs.Common.{◌≡◌, ◌++◌, drop, string_bytes}
use Rattle.fhir_markup.specs.Markup.{html_each}
use Rattle.fhir_markup.specs.Views.{nodes_seen}
use Rattle.fhir_markup.proofs.writing.+write.Given as goal

abbrev pub invariant-push_children-loop-child : goal.invariant-push_children-loop-child
invariant-push_children-loop-child l =
    string_bytes l.into ++ html_each (nodes_seen (drop l.child-index l.child-items))
    ≡ string_bytes l.initial.into ++ html_each (nodes_seen l.child-items)
